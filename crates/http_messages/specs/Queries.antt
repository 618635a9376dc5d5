-- The unit that a query names. The query's pairs are those of a form (URL Standard, "application/x-www-form-urlencoded"), in any order:
-- `lang` and `id` once each, `ctx` where the unit has a context, `domain` where it isn't in the one that is always there, and no others;
-- and the query is UTF-8 once its escapes are read. This project's own rule.
use Rattle.std.specs.Prelude.{ℕ, ◌||◌, List, [], ◌∷◌, map, filter, codes, Option, Some, None, Bool, if◌then◌else◌}
use Rattle.std.specs.List.{list_all}
use Rattle.std.specs.Str.{bytes_eq, is_utf8}
use Rattle.std.specs.Str.Lossy.{utf8_lossy}
use Rattle.form_urlencoded.specs.Form.{raw_pairs, decode}
use Rattle.percent_encoding.specs.Percent.{percent_decode}
use Rattle.po_text.specs.Texts.{Text}
use Rattle.po_text.specs.Strings.{is_string}
use Rattle.units.specs.Limits.{is_name, is_lang}
use Rattle.units.specs.Office.{main}
use Rattle.units.specs.declared.unit.Key.{Key}

abbrev pub Pairs : Type 0
Pairs = List (Text × Text)

-- the text that bytes of a form stand for
abbrev pub text_of : List ℕ → Text
text_of bytes = utf8_lossy (decode bytes)

abbrev pub pairs_of : List ℕ → Pairs
pairs_of query = map (λ pair. (text_of pair.0, text_of pair.1)) (raw_pairs query)

abbrev pub is_known : Text → Bool
is_known name = bytes_eq name (codes "domain") || bytes_eq name (codes "lang") || bytes_eq name (codes "id") || bytes_eq name (codes "ctx")

abbrev pub values_named : Text → Pairs → List Text
values_named name pairs = map (λ pair. pair.1) (filter (λ pair. bytes_eq pair.0 name) pairs)

-- the one value, where it passes
abbrev pub only_one : (Text → Bool) → List Text → Option Text
only_one test [] = None
only_one test (value ∷ []) = if test value then Some value else None
only_one test (value ∷ other ∷ values) = None

-- the one value, where it passes, or another where there is none
abbrev pub one_or : (Text → Bool) → Text → List Text → Option Text
one_or test other [] = Some other
one_or test other (value ∷ []) = if test value then Some value else None
one_or test other (value ∷ next ∷ values) = None

abbrev pub at_most_one : (Text → Bool) → List Text → Option (Option Text)
at_most_one test [] = Some None
at_most_one test (value ∷ []) = if test value then Some (Some value) else None
at_most_one test (value ∷ other ∷ values) = None

-- a unit by its domain, its language and its key
abbrev pub UnitName : Type 0
UnitName = Text × (Text × Key)

abbrev pub unit_with : Option Text → Option Text → Option Text → Option (Option Text) → Option UnitName
unit_with None lang id ctx = None
unit_with (Some domain) None id ctx = None
unit_with (Some domain) (Some lang) None ctx = None
unit_with (Some domain) (Some lang) (Some id) None = None
unit_with (Some domain) (Some lang) (Some id) (Some ctx) = Some (domain, (lang, record { ctx = ctx; id = id }))

abbrev pub unit_in : Pairs → Option UnitName
unit_in pairs =
    if list_all (λ pair. is_known pair.0) pairs
    then unit_with (one_or is_name main (values_named (codes "domain") pairs)) (only_one is_lang (values_named (codes "lang") pairs)) (only_one is_string (values_named (codes "id") pairs))
    (at_most_one is_string (values_named (codes "ctx") pairs))
    else None

abbrev pub unit_of : List ℕ → Option UnitName
unit_of query = if is_utf8 (percent_decode query) then unit_in (pairs_of query) else None
