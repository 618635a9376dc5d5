-- Worked rows.
use Rattle.std.specs.Prelude.{◌≡◌, refl, codes, List, [], ◌∷◌, true, false, length, Some, None}
use Rattle.plural_expr.specs.Values.{Rule, served_by}
use Rattle.po_text.specs.Texts.{Text}
use Rattle.checks.specs.Source.{Source}
use Rattle.checks.specs.Findings.{is_struck_out, findings}
use Rattle.checks.specs.BracePlaceholders.{brace_placeholders, braces_after}
use Rattle.checks.specs.Directives.{directives, directives_after}

two_of : directives (codes "%d of %%%1$s") ≡ codes "%d" ∷ codes "%1$s" ∷ []
unfolding directives_after
two_of = refl

-- a lone `%`, `%%`, numbers that begin with 0, an unknown conversion
none_of : directives (codes "100% %% %0$s %k %5") ≡ []
unfolding directives_after
none_of = refl

-- what is left after striking members out keeps its order
struck_out : is_struck_out (codes "%d" ∷ codes "%s" ∷ []) (codes "%d" ∷ codes "%u" ∷ codes "%s" ∷ []) ≡ true
unfolding is_struck_out
struck_out = refl

other_order : is_struck_out (codes "%s" ∷ codes "%d" ∷ []) (codes "%d" ∷ codes "%u" ∷ codes "%s" ∷ []) ≡ false
unfolding is_struck_out
other_order = refl

-- a form that serves one number may leave directives out, another may not
left_out : (rule : Rule) → length (served_by rule 0) ≡ 1 → length (served_by rule 1) ≡ 999 →
    findings (record { id = codes "%d file"; plural = Some (codes "%d files"); flags = codes "c-format" ∷ [] }) (codes "one file" ∷ codes "files" ∷ []) rule ≡ record { placeholders = 1 ∷ []; line_ends = [] }
unfolding findings directives_after is_struck_out
left_out rule one many = rw (one, many) refl

-- ---- brace placeholders

name_and_number : brace_placeholders (codes "{name} of {0}") ≡ codes "{name}" ∷ codes "{0}" ∷ []
unfolding braces_after
name_and_number = refl

-- in order, each as often as it stands there
with_repeats : brace_placeholders (codes "{b_2}{10}{b_2}") ≡ codes "{b_2}" ∷ codes "{10}" ∷ codes "{b_2}" ∷ []
unfolding braces_after
with_repeats = refl

inside_a_pair : brace_placeholders (codes "{{{a}}}") ≡ codes "{a}" ∷ []
unfolding braces_after
inside_a_pair = refl

doubled : brace_placeholders (codes "{{name}}") ≡ []
unfolding braces_after
doubled = refl

neither_name_nor_number : brace_placeholders (codes "{01} { b} {}") ≡ []
unfolding braces_after
neither_name_nor_number = refl

-- one that isn't closed, where another begins
not_closed : brace_placeholders (codes "{a{_b}{1a}{a-b}") ≡ codes "{_b}" ∷ []
unfolding braces_after
not_closed = refl

abbrev one_source : Text → List Text → Source
one_source id flags = record { id = id; plural = None; flags = flags }

other_name : (rule : Rule) → findings (one_source (codes "Hi {name}") (codes "python-brace-format" ∷ [])) (codes "Hallo {nam}" ∷ []) rule ≡ record { placeholders = 0 ∷ []; line_ends = [] }
unfolding findings braces_after
other_name rule = refl

-- sets agree in any order and with repeats, and without the flag nothing is checked
same_set : (rule : Rule) → findings (one_source (codes "{a} {b}") (codes "python-brace-format" ∷ [])) (codes "{b} {a} {a}" ∷ []) rule ≡ record { placeholders = []; line_ends = [] }
unfolding findings braces_after
same_set rule = refl

no_flag : (rule : Rule) → findings (one_source (codes "%d {a}") []) (codes "{b}" ∷ []) rule ≡ record { placeholders = []; line_ends = [] }
unfolding findings
no_flag rule = refl

-- under both flags a form is found if either rule finds it, and neither hides the other
abbrev three_forms : List Text
three_forms = codes "%s {name}" ∷ codes "%d {name}" ∷ codes "%d {nam}" ∷ []

both_flags : (rule : Rule) → findings (one_source (codes "%d {name}") (codes "c-format" ∷ codes "python-brace-format" ∷ [])) three_forms rule ≡ record { placeholders = 0 ∷ 2 ∷ []; line_ends = [] }
unfolding findings directives_after braces_after is_struck_out
both_flags rule = refl

first_flag : (rule : Rule) → findings (one_source (codes "%d {name}") (codes "c-format" ∷ [])) three_forms rule ≡ record { placeholders = 0 ∷ []; line_ends = [] }
unfolding findings directives_after is_struck_out
first_flag rule = refl

second_flag : (rule : Rule) → findings (one_source (codes "%d {name}") (codes "python-brace-format" ∷ [])) three_forms rule ≡ record { placeholders = 2 ∷ []; line_ends = [] }
unfolding findings braces_after
second_flag rule = refl

-- a form that serves one number may have a subset, another may not, and none may have more
subset : (rule : Rule) → length (served_by rule 0) ≡ 1 → length (served_by rule 1) ≡ 999 →
    findings (record { id = codes "{n} file"; plural = Some (codes "{n} files"); flags = codes "python-brace-format" ∷ [] }) (codes "one file" ∷ codes "files" ∷ []) rule ≡ record { placeholders = 1 ∷ []; line_ends = [] }
unfolding findings braces_after
subset rule one many = rw (one, many) refl

no_subset : (rule : Rule) → length (served_by rule 0) ≡ 1 →
    findings (record { id = codes "{n} file"; plural = Some (codes "{n} files"); flags = codes "python-brace-format" ∷ [] }) (codes "{n} file {m}" ∷ []) rule ≡ record { placeholders = 0 ∷ []; line_ends = [] }
unfolding findings braces_after
no_subset rule one = rw one refl
