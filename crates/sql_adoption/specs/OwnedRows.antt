-- Of which domains the rows of tables are, tested one row at a time. This project's own words.
use Rattle.std.proofs.Common.{◌≡◌, true, List, [], ◌∷◌, ◌++◌, refl, subst, ◌∙◌}
use Rattle.std.specs.Prelude.{⊤, Result, IfErr}
use Rattle.std.specs.List.{list_all}
use Rattle.std.proofs.lemmas.Bool.{and_from}
use Rattle.std.proofs.lemmas.List.Folds.{list_all-append}
use Rattle.sqlite.specs.Effect.{Database}
use Rattle.sqlite.specs.Order.{Row}
use Rattle.sqlite.specs.State.{State, HasCleanDisk}
use Rattle.sqlite_rules.specs.Lists.{Has}
use Rattle.sql_schema.specs.Keys.{columns}
use Rattle.sql_schema.specs.Layouts.{NamedRows}
use Rattle.sql_schema.specs.Whole.{IsLookUp}
use Rattle.sql_statements.specs.Owners.{owned_name, owned_place}
use Rattle.sql_statements.specs.declared.owners.Owned.{Owned}
use Rattle.sql_adoption.specs.declared.faults.OpenFault.{OpenFault}
use Rattle.sql_adoption.specs.declared.faults.OpenFault.TheVariants.{Foreign, Exists}
use Rattle.sql_adoption.specs.declared.faults.Mismatch.TheVariants.{OtherTables, OtherForm, UnreadRow, OtherFigures, BrokenRules}
use Rattle.sql_adoption.specs.Reading.{is_shown_among}

-- Each row shows the name of one of these domains, which stay.
pub record TakesNamed (domains rows after : List Row) : Type 0 where
  pub same : after ≡ domains
  pub named : list_all (is_shown_among domains) rows ≡ true

pub named_none : (domains : List Row) → TakesNamed domains [] domains
named_none domains = record { same = refl; named = refl }

pub named_more : (a b c xs ys : List Row) → TakesNamed a xs b → TakesNamed b ys c → TakesNamed a (xs ++ ys) c
named_more a b c xs ys one two = record {
  same = two.same ∙ one.same;
  named = list_all-append (is_shown_among a) xs ys ∙ and_from _ _ one.named (subst (λ ds. list_all (is_shown_among ds) ys ≡ true) one.same two.named);
}

-- each row of a table is of one of these domains
abbrev pub AreOwnedAmong : List Row → Owned → NamedRows → Type 0
AreOwnedAmong domains table rows = (row : Row) → Has (rows (owned_name table)) row → is_shown_among domains (columns (owned_place table ∷ []) row) ≡ true

abbrev pub AllOwnedAmong : List Row → NamedRows → Type 0
AllOwnedAmong domains rows = (table : Owned) → AreOwnedAmong domains table rows

-- ---- tests of rows

-- what is true of rows that are refused so, where they stand for values if this holds
abbrev pub RefusesUnless : Type 0 → OpenFault → Type 0
RefusesUnless P (Foreign UnreadRow) = ¬ P
RefusesUnless P (Foreign OtherFigures) = ⊥
RefusesUnless P (Foreign BrokenRules) = ⊥
RefusesUnless P (Foreign OtherForm) = ⊥
RefusesUnless P (Foreign OtherTables) = ⊥
RefusesUnless P Exists = ⊥
RefusesUnless P _ = ⊤

-- A look at rows that tells that this holds of them, or refuses them.
pub record TestsRows {U : Type 0} (P : Database → Type 0) (old new : State) (result : Result U OpenFault) : Type 0 where
  pub found : IsLookUp old new result (λ db _. P db)
  pub refused : IfErr result (λ fault. HasCleanDisk new → RefusesUnless (P old.now) fault)
