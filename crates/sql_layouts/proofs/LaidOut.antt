-- Of which layout a schema is, and that it is of one form alone.
use Rattle.std.proofs.Common.{◌≡◌, ℕ, ◌≤◌, length, Bool, true, false, refl, sym, ap, ◌∙◌, arith}
use Rattle.std.specs.Prelude.{◌↔◌}
use Rattle.std.proofs.lemmas.Bool.{false≢true}
use Rattle.sqlite.specs.Schema.{Schema}
use Rattle.sql_schema.specs.Layouts.{Form, for_main, by_domain, Layout, made_new, made_second, made_last, from_first, from_second, schema_of, IsLaidOut}

abbrev IsOf : {form : Form} → Bool → Schema → Layout form → Type 0
IsOf told schema layout = (told ≡ true) ↔ (schema ≡ schema_of layout)

-- what is false of a layout
module _ (schema : Schema) {form : Form} (layout : Layout form) (told : Bool) (tells : IsOf told schema layout) where
  pub is_of : told ≡ true → IsLaidOut form schema
  is_of holds = (layout, tells.0 holds)

  pub is_not_of : told ≡ false → ¬ (schema ≡ schema_of layout)
  is_not_of fails is = false≢true (sym fails ∙ tells.1 is)

-- a schema of no layout is of no form
pub of_none : (schema : Schema) → ¬ (schema ≡ schema_of made_new) → ¬ (schema ≡ schema_of made_second) → ¬ (schema ≡ schema_of made_last) → ¬ (schema ≡ schema_of from_first)
    → ¬ (schema ≡ schema_of from_second) → (form : Form) → ¬ IsLaidOut form schema
of_none schema a b c d e (for_main false) (made_new, is) = a is
of_none schema a b c d e (for_main true) (made_second, is) = b is
of_none schema a b c d e by_domain (made_last, is) = c is
of_none schema a b c d e by_domain (from_first, is) = d is
of_none schema a b c d e by_domain (from_second, is) = e is

-- the number of tables tells the forms apart
abbrev tables_in : Schema → ℕ
tables_in schema = length schema.tables

eight : (layout : Layout (for_main false)) → tables_in (schema_of layout) ≡ 8
eight made_new = refl

ten : (layout : Layout (for_main true)) → tables_in (schema_of layout) ≡ 10
ten made_second = refl

eleven : tables_in (schema_of made_last) ≡ 11
eleven = refl

sixteen : tables_in (schema_of from_first) ≡ 16
sixteen = refl

eighteen : tables_in (schema_of from_second) ≡ 18
eighteen = refl

more : (layout : Layout by_domain) → 11 ≤ tables_in (schema_of layout)
more made_last = omega (arith, eleven)
more from_first = omega (arith, sixteen)
more from_second = omega (arith, eighteen)

fewer : (figures : Bool) (layout : Layout (for_main figures)) → tables_in (schema_of layout) ≤ 10
fewer false layout = omega (arith, eight layout)
fewer true layout = omega (arith, ten layout)

-- tables of two forms that have as many
as_many : (schema : Schema) {f g : Form} (a : Layout f) (b : Layout g) → schema ≡ schema_of a → schema ≡ schema_of b → tables_in (schema_of a) ≡ tables_in (schema_of b)
as_many schema a b is_a is_b = sym (ap tables_in is_a) ∙ ap tables_in is_b

-- a schema is of one form at most
pub one_form : (schema : Schema) (f g : Form) → IsLaidOut f schema → IsLaidOut g schema → f ≡ g
one_form schema (for_main false) (for_main false) a b = refl
one_form schema (for_main true) (for_main true) a b = refl
one_form schema by_domain by_domain a b = refl
one_form schema (for_main false) (for_main true) a b = absurd (omega (arith, as_many schema a.0 b.0 a.1 b.1, eight a.0, ten b.0))
one_form schema (for_main true) (for_main false) a b = absurd (omega (arith, as_many schema a.0 b.0 a.1 b.1, ten a.0, eight b.0))
one_form schema (for_main figures) by_domain a b = absurd (omega (arith, as_many schema a.0 b.0 a.1 b.1, fewer figures a.0, more b.0))
one_form schema by_domain (for_main figures) a b = absurd (omega (arith, as_many schema a.0 b.0 a.1 b.1, more a.0, fewer figures b.0))
