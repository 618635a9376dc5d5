-- What a language's units count in a domain is what the rows of its walk count.
use Rattle.std.proofs.Common.{◌≡◌, ◌≤◌, ◌&&◌, ℕ, List, [], ◌∷◌, filter, length, Bool, true, false, not, cond, refl, sym, ap, ◌∙◌, codes, zero-add, arith, inl, inr, ◌+◌}
use Rattle.std.specs.Prelude.{min, sum_by}
use Rattle.std.proofs.lemmas.Bool.{and_parts}
use Rattle.sqlite.specs.Effect.{Database}
use Rattle.sqlite.specs.Order.{Row}
use Rattle.sqlite_rules.specs.Lists.{Has}
use Rattle.sql_laws.proofs.RowMaps.{texts_are_one}
use Rattle.po_text.specs.declared.entry.Entry.{Entry}
use Rattle.po_text.specs.Texts.{Text, text_eq}
use Rattle.units.specs.Limits.{suggestion_limit}
use Rattle.units.specs.Project.{Project, units_of}
use Rattle.units.specs.declared.unit.ShownState.TheVariants.{Untranslated, NeedsEditing, Translated, Approved, ReadOnly}
use Rattle.units.specs.declared.unit.Unit.{Unit}
use Rattle.rule_tests.specs.Bare.{bare}
use Rattle.office_specification.specs.Counting.{none_counted, plus}
use Rattle.office_specification.specs.Tally.{counts_in, shown_in}
use Rattle.office_specification.specs.declared.tally.Tally.{Tally}
use Rattle.sql_schema.specs.Inside.{AreOfficeTablesOf}
use Rattle.sql_schema.specs.Keys.{text_at, has_text}
use Rattle.sql_schema.specs.Layouts.{by_domain, NamedRows, rows_named}
use Rattle.sql_schema.specs.SeenRows.{seen_in, unit_seen}
use Rattle.sql_statements.specs.DomainCleared.{is_on_domain_unit}
use Rattle.sql_statements.specs.SummedVotes.{most_counted}
use Rattle.sql_statements.specs.WalkedRows.{suggestions_on, unit_counted, is_unit_of}
use Rattle.sql_meaning.specs.Meaning.{suggestions_in, unit_of_row, project_of_rows}
use Rattle.sql_meaning.specs.Values.{natural_at}
use Rattle.sql_meaning.proofs.DomainOfficeRows.{domain_rows}
use Rattle.sql_adoption.specs.TookUnits.{row_counts}
use Rattle.sql_adoption.proofs.CountsPermuted.{add_all, added_passing, added_mapped}
use Rattle.sql_adoption.proofs.DomainByWalks.{texts_tested}
use Rattle.sql_adoption.proofs.LanguageCounts.{language_counts}
use Rattle.sql_adoption.proofs.SuggestionRows.{units_once}
use Rattle.sql_adoption.proofs.SuggestionsCounted.{suggestions_counted}

-- what a unit counts, or none where it is obsolete
abbrev of_one : List Entry → Unit → Bool → Tally
of_one template unit obsolete = record {
  approved = shown_in template Approved (cond (not obsolete) (unit ∷ []) []);
  needs_editing = shown_in template NeedsEditing (cond (not obsolete) (unit ∷ []) []);
  obsolete = 0 + cond obsolete 1 0;
  read_only = shown_in template ReadOnly (cond (not obsolete) (unit ∷ []) []);
  suggestions = sum_by (λ u. length u.suggestions) (cond (not obsolete) (unit ∷ []) []);
  translated = shown_in template Translated (cond (not obsolete) (unit ∷ []) []);
  untranslated = shown_in template Untranslated (cond (not obsolete) (unit ∷ []) []);
}

-- a unit counts what it does by itself, and its suggestions
unit_and_suggestions : (template : List Entry) (unit : Unit) (n : ℕ) → length unit.suggestions ≡ n → counts_in template (unit ∷ []) ≡ record (counts_in template (bare unit ∷ [])) { suggestions = cond unit.obsolete 0 n }
unit_and_suggestions template unit n are = by unit.obsolete
  where
    by : (b : Bool) → of_one template unit b ≡ record (of_one template (bare unit) b) { suggestions = cond b 0 n }
    by true = refl
    by false = λ i. record (of_one template (bare unit) false) { suggestions = (zero-add (length unit.suggestions) ∙ are) i }

-- ---- counted alike

alike : {X : Type 0} (f g : X → Tally) (tally : Tally) (xs : List X) → ((x : X) → Has xs x → f x ≡ g x) → add_all f tally xs ≡ add_all g tally xs
alike f g tally [] same = refl
alike f g tally (x ∷ xs) same = ap (λ t. add_all f (plus tally t) xs) (same x (inl refl)) ∙ alike f g (plus tally (g x)) xs (λ y there. same y (inr there))

both_tests : (a b : Bool) (x y : Tally) → ((a && b) ≡ true → x ≡ y) → cond a (cond b x none_counted) none_counted ≡ cond (a && b) y none_counted
both_tests true true x y e = e refl
both_tests true false x y e = refl
both_tests false b x y e = refl

as_told : (n : ℕ) → min most_counted n ≤ suggestion_limit → n ≡ min most_counted n
as_told n few = omega arith

module _ (db : Database) (ready : AreOfficeTablesOf by_domain db) (domain lang : Text) where
  abbrev rows : NamedRows
  rows = rows_named db

  abbrev tables : NamedRows
  tables = seen_in domain rows

  abbrev project : Project
  project = project_of_rows tables

  abbrev units : List Row
  units = rows (codes "d_unit")

  abbrev own_units : List Row
  own_units = filter (has_text 1 domain) units

  abbrev seen_counts : Row → Tally
  seen_counts x = counts_in project.template (unit_of_row tables x ∷ [])

  abbrev walk_counts : Row → Tally
  walk_counts u = row_counts project.template (unit_counted rows u)

  row_so : (u : Row) → is_unit_of domain lang u ≡ true → natural_at 9 (unit_counted rows u) ≤ suggestion_limit → seen_counts (unit_seen u) ≡ walk_counts u
  row_so u passes few = unit_and_suggestions project.template (unit_of_row tables (unit_seen u)) (natural_at 9 (unit_counted rows u)) (long ∙ as_told (suggestions_on rows u) few)
    where
      named : text_at 1 u ≡ domain
      named = texts_are_one (text_at 1 u) domain (and_parts (has_text 1 domain u) (has_text 2 lang u) passes).0

      long : length (suggestions_in tables (text_at 2 u) (text_at 3 u)) ≡ suggestions_on rows u
      long = suggestions_counted db ready domain (text_at 2 u) (text_at 3 u) ∙ ap (λ name. length (filter (is_on_domain_unit name (text_at 2 u) (text_at 3 u)) (rows (codes "d_suggestion")))) (sym named)

  abbrev of_lang : Row → Tally
  of_lang x = cond (text_eq lang (text_at 1 x)) (seen_counts x) none_counted

  pub tally_by_rows : ((u : Row) → Has units u → is_unit_of domain lang u ≡ true → natural_at 9 (unit_counted rows u) ≤ suggestion_limit)
      → counts_in project.template (units_of project lang) ≡ add_all walk_counts none_counted (filter (is_unit_of domain lang) units)
  tally_by_rows few =
      language_counts tables (domain_rows db ready domain) (units_once db ready domain) lang
      ∙ added_passing seen_counts (λ x. text_eq lang (text_at 1 x)) none_counted (tables (codes "unit"))
      ∙ added_mapped of_lang unit_seen none_counted own_units
      ∙ added_passing (λ u. of_lang (unit_seen u)) (has_text 1 domain) none_counted units
      ∙ alike (λ u. cond (has_text 1 domain u) (of_lang (unit_seen u)) none_counted) (λ u. cond (is_unit_of domain lang u) (walk_counts u) none_counted) none_counted units same
      ∙ sym (added_passing walk_counts (is_unit_of domain lang) none_counted units)
    where
      same : (u : Row) → Has units u → cond (has_text 1 domain u) (of_lang (unit_seen u)) none_counted ≡ cond (is_unit_of domain lang u) (walk_counts u) none_counted
      same u there =
          ap (λ b. cond (has_text 1 domain u) (cond b (seen_counts (unit_seen u)) none_counted) none_counted) (texts_tested lang (text_at 2 u))
          ∙ both_tests (has_text 1 domain u) (has_text 2 lang u) (seen_counts (unit_seen u)) (walk_counts u) (λ passes. row_so u passes (few u there passes))
