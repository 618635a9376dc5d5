-- What the checks find in a translation: the numbers of the forms that fail, rising.
-- The flags `c-format` and `python-brace-format` are those of the GNU gettext manual, "The Format of PO Files". Like its tool
-- `msgfmt --check`, the checks hold forms against msgid and msgid_plural; what exactly has to agree is this project's own rule,
-- given here.
use Rattle.std.specs.Prelude.{ℕ, List, [], ◌∷◌, ◌++◌, map, filter, Bool, true, not, ◌&&◌, ◌||◌, if◌then◌else◌, nat_eq, Option, Some, None, unwrap_or, is_some, codes}
use Rattle.std.specs.Bool.{beq}
use Rattle.std.specs.List.{starts_with, ends_with, list_any, list_all, enumerate_from}
use Rattle.plural_expr.specs.Values.{Rule, serves_one}
use Rattle.po_text.specs.Texts.{Text, text_eq, texts_eq, is_empty}
use Rattle.units.specs.Units.{has_flag}
use Rattle.checks.specs.declared.source.Findings.{Findings}
use Rattle.checks.specs.declared.format.Format.{Format}
use Rattle.checks.specs.declared.format.Format.TheVariants.{C, Brace}
use Rattle.checks.specs.Source.{Source}
use Rattle.checks.specs.Directives.{is_numbered}
use Rattle.checks.specs.Formats.{flag_of, placeholders_of}

-- ---- placeholders, for the flags `c-format` and `python-brace-format`

-- each member of xs is one of ys
abbrev pub is_subset : List Text → List Text → Bool
is_subset xs ys = list_all (λ x. list_any (λ y. text_eq y x) ys) xs

-- the sets are equal
abbrev pub are_same_set : List Text → List Text → Bool
are_same_set xs ys = is_subset xs ys && is_subset ys xs

abbrev pub are_numbered : List Text → List Text → Bool
are_numbered xs ys = list_all is_numbered xs && list_all is_numbered ys

-- the lists are equal, or every directive of both has a number and the sets are equal
abbrev pub agree : List Text → List Text → Bool
agree xs ys = texts_eq xs ys || (are_numbered xs ys && are_same_set xs ys)

-- what striking members out of a list can leave: the others, in their order
abbrev pub struck_out_of : List Text → List (List Text)
struck_out_of [] = [] ∷ []
struck_out_of (y ∷ ys) = let others = struck_out_of ys in map (λ left. y ∷ left) others ++ others

-- xs is ys with members struck out
unfoldable pub is_struck_out : List Text → List Text → Bool
is_struck_out xs ys = list_any (texts_eq xs) (struck_out_of ys)

-- xs is ys with directives left out: members are struck out or, where all have numbers, it is a subset
abbrev pub leaves_out : List Text → List Text → Bool
leaves_out xs ys = is_struck_out xs ys || (are_numbered xs ys && is_subset xs ys)

-- a form's placeholders agree with the source's or, where some may be left out, are the source's without some; of brace
-- placeholders the sets alone count
abbrev pub are_fitting : Format → Bool → List Text → List Text → Bool
are_fitting C may found wanted = agree found wanted || (may && leaves_out found wanted)
are_fitting Brace may found wanted = are_same_set found wanted || (may && is_subset found wanted)

-- a form that serves exactly one number may leave placeholders out, in a unit with a msgid_plural
abbrev pub may_leave_out : Source → Rule → ℕ → Bool
may_leave_out source rule number = is_some source.plural && serves_one rule number

-- what a form's placeholders are held against, where the source has the format's flag: those of msgid_plural, or of msgid where
-- there is none
abbrev pub wanted_of : Format → Source → Option (List Text)
wanted_of format source = if has_flag source.flags (flag_of format) then Some (placeholders_of format (unwrap_or source.plural source.id)) else None

-- where something is wanted, it has to fit
abbrev pub fit_wanted : Option (List Text) → (List Text → Bool) → Bool
fit_wanted None fits = true
fit_wanted (Some wanted) fits = fits wanted

abbrev pub fit_under : Format → Source → Rule → ℕ × Text → Bool
fit_under format source rule form = fit_wanted (wanted_of format source) (are_fitting format (may_leave_out source rule form.0) (placeholders_of format form.1))

-- a form is found if either rule finds it
abbrev pub placeholders_fit : Source → Rule → ℕ × Text → Bool
placeholders_fit source rule form = fit_under C source rule form && fit_under Brace source rule form

-- ---- line ends

abbrev pub begins_with_LF : Text → Bool
begins_with_LF text = starts_with nat_eq text (codes "\n")

abbrev pub ends_with_LF : Text → Bool
ends_with_LF text = ends_with nat_eq text (codes "\n")

-- the form begins with LF exactly if msgid does, and ends with LF exactly if msgid does
abbrev pub line_ends_fit : Text → Text → Bool
line_ends_fit id form = beq (begins_with_LF form) (begins_with_LF id) && beq (ends_with_LF form) (ends_with_LF id)

-- ---- findings

-- the numbers of the nonempty forms that fail a test, numbered from n
abbrev pub failing_from : (ℕ × Text → Bool) → ℕ → List Text → List ℕ
failing_from fits n forms = map (λ form. form.0) (filter (λ form. not (is_empty form.1) && not (fits form)) (enumerate_from n forms))

abbrev pub unfit_placeholders : Source → List Text → Rule → List ℕ
unfit_placeholders source forms rule = failing_from (placeholders_fit source rule) 0 forms

abbrev pub unfit_line_ends : Source → List Text → List ℕ
unfit_line_ends source forms = failing_from (λ form. line_ends_fit source.id form.1) 0 forms

unfoldable pub findings : Source → List Text → Rule → Findings
findings source forms rule = record {
  placeholders = unfit_placeholders source forms rule;
  line_ends = unfit_line_ends source forms;
}
