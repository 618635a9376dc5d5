-- What new tables are filled with, as `main` sees it: the rows of a start. There is no other domain, so the tables stand for the start's office.
use Rattle.std.proofs.Common.{◌≡◌, ◌≢◌, inl, inr, ℕ, [], codes, refl, sym, ap, subst, ◌∙◌}
use Rattle.std.specs.Prelude.{IsTrue}
use Rattle.std.specs.FinMap as maps
use Rattle.sqlite.specs.Order.{Row}
use Rattle.sqlite.specs.Effect.{Database}
use Rattle.sqlite_rules.specs.Lists.{Has}
use Rattle.sqlite_rules.proofs.ListLemmas.{some_from}
use Rattle.sql_laws.specs.RowMaps.{OneEach}
use Rattle.po_text.specs.Texts.{Text}
use Rattle.units.specs.Office.{Office, main}
use Rattle.units.specs.Openings.{opening, demo}
use Rattle.sql_schema.specs.Creation.{HaveNoRows}
use Rattle.sql_schema.specs.Inside.{PutsRow}
use Rattle.sql_schema.specs.Keys.{text_at, first_text, has_text}
use Rattle.sql_schema.specs.Layouts.{NamedRows, rows_named}
use Rattle.sql_schema.specs.SeenRows.{rows_seen, entry_seen, language_seen, unit_seen, suggestion_seen, is_vote_in, vote_seen, seen_in}
use Rattle.sql_schema.proofs.DomainsSeen.{is_text}
use Rattle.sql_schema.proofs.Layouts.{names_differ}
use Rattle.sql_statements.proofs.SeenChanges.{by_seen_name}
use Rattle.sql_meaning.specs.Meaning.{AreNumbered}
use Rattle.sql_meaning.specs.Domains.{meaning_by_domain, is_domain, AreOwned, HoldsOwnDomains, IsMainAlone}
use Rattle.sql_meaning.specs.Beginnings.{MakesMainTables, MakesOpening, MakesDemo}
use Rattle.sql_meaning.specs.BeginningRows.{PutsDemoUnitIn, MakesOpeningIn, MakesDemoIn, MeansOnly}
use Rattle.sql_meaning.proofs.MainRows.{meaning_of_main}
use Rattle.sql_meaning.proofs.Openings.{opens, opens_demo}
use Rattle.sql_meaning.proofs.DomainSteps.{all_unseen, member_seen, policy_seen, language_seen_put, entry_seen_put, unit_seen_put}

-- where there is no row, no domain sees one
none_seen : (domain : Text) (rows : NamedRows) → HaveNoRows rows → HaveNoRows (seen_in domain rows)
none_seen domain rows none =
    by_seen_name (λ name. seen_in domain rows name ≡ [])
    (ap (rows_seen (has_text 1 domain) unit_seen) (none (codes "d_unit")))
    (ap (rows_seen (has_text 2 domain) suggestion_seen) (none (codes "d_suggestion")))
    (ap (rows_seen (is_vote_in domain (rows (codes "d_suggestion"))) vote_seen) (none (codes "d_vote")))
    (ap (rows_seen (has_text 1 domain) entry_seen) (none (codes "d_template")))
    (ap (rows_seen (has_text 1 domain) language_seen) (none (codes "d_language")))
    (none (codes "team"))
    (none (codes "policy"))
    (none (codes "record"))
    (λ name unnamed. unnamed domain rows)

-- the tables that are made, with `main`, show no row
main_shows_none : (old new : Database) → MakesMainTables old new → HaveNoRows (seen_in main (rows_named new))
main_shows_none old new (made, empty, put) =
    subst HaveNoRows (sym (all_unseen main made new (codes "domain") (inl refl) put.others)) (none_seen main (rows_named made) empty)

pub opening_in : (name : Text) (old new : Database) → MakesOpening name old new → MakesOpeningIn name (seen_in main (rows_named old)) (seen_in main (rows_named new))
opening_in name old new (made, tables, (first, member, policy)) =
    (seen_in main (rows_named made), main_shows_none old made tables, (seen_in main (rows_named first), member_seen main member, policy_seen main policy))

pub demo_in : (old new : Database) → MakesDemo old new → MakesDemoIn (seen_in main (rows_named old)) (seen_in main (rows_named new))
demo_in old new (made, tables, (team, (one, root, ann), (closed, policy, (hello, entry, (german, language, (unit, put, tally)))))) =
    let told = unit_seen_put main put (λ id. refl) in
    let same = all_unseen main unit new (codes "d_tally") (inr (inr refl)) tally.others in (
      seen_in main (rows_named made),
      main_shows_none old made tables,
      (
        seen_in main (rows_named team),
        (seen_in main (rows_named one), member_seen main root, member_seen main ann),
        (
          seen_in main (rows_named closed),
          policy_seen main policy,
          (
            seen_in main (rows_named hello),
            entry_seen_put main entry,
            (seen_in main (rows_named german), language_seen_put main language, subst (λ rows. PutsDemoUnitIn (seen_in main (rows_named german)) rows) (sym same) told),
          ),
        ),
      ),
    )

-- ---- `main` alone

-- a table that had no row has the one that is put
put_alone : {K : Type 0} (name : Text) (key : Row → K) (IsRow : Row → Type 0) (old new : Database) (put : PutsRow name key IsRow old new) → rows_named old name ≡ []
    → (x : Row) → Has (rows_named new name) x → x ≡ put.row
put_alone name key IsRow old new it none x there = elim (it.put.only x there) [
  | inl is ↦ is
  | inr was ↦ absurd (subst (λ rows. Has rows x) none was.0)
]

only_row : {K : Type 0} (name : Text) (key : Row → K) (IsRow : Row → Type 0) (old new : Database) → PutsRow name key IsRow old new → rows_named old name ≡ []
    → (x : Row) → Has (rows_named new name) x → IsRow x
only_row name key IsRow old new it none x there = subst IsRow (sym (put_alone name key IsRow old new it none x there)) it.is_row

main_stands : (old new : Database) → MakesMainTables old new → IsMainAlone (rows_named new) × OneEach first_text (rows_named new (codes "domain"))
main_stands old new (made, empty, put) = (
  record {
    there = (put.row, put.put.here);
    only = λ x there. let it = only_row (codes "domain") first_text _ made new put (empty (codes "domain")) x there in ap first_text it.1;
  },
  λ x y in_x in_y same. put_alone (codes "domain") first_text _ made new put (empty (codes "domain")) x in_x ∙ sym (put_alone (codes "domain") first_text _ made new put (empty (codes "domain")) y in_y),
)

pub main_stays : (old new : NamedRows) → new (codes "domain") ≡ old (codes "domain") → IsMainAlone old → IsMainAlone new
main_stays old new same it = record {
  there = (it.there.0, subst (λ rows. Has rows it.there.0) (sym same) it.there.1);
  only = λ x there. it.only x (subst (λ rows. Has rows x) same there);
}

-- what the tables stand for while `main` sees a start's rows and nobody else sees any
means_alone : (office : Office) (old rows : NamedRows) → IsMainAlone rows → OneEach first_text (rows (codes "domain")) → MeansOnly office old (seen_in main rows)
    → (meaning_by_domain rows ≡ record { office = office; book = maps.empty }) × AreNumbered rows
means_alone office old rows alone one means = (meaning_of_main rows one alone.there.0 alone.there.1 alone.only ∙ means.0, means.1)

-- ---- whose the rows are

-- `main` is there
pub main_is_there : (rows : NamedRows) → IsMainAlone rows → IsTrue (is_domain rows main)
main_is_there rows it = some_from (has_text 1 main) (rows (codes "domain")) it.there.0 it.there.1 (is_text 1 main it.there.0 (it.only it.there.0 it.there.1))

module _ (rows : NamedRows) (place : ℕ) (name : Text) where
  -- where each is of `main`, and where there is none
  owned_by_main : IsMainAlone rows → ((x : Row) → Has (rows name) x → text_at place x ≡ main) → AreOwned place name rows
  owned_by_main alone each x there = subst (λ domain. IsTrue (is_domain rows domain)) (sym (each x there)) (main_is_there rows alone)

  none_owned : rows name ≡ [] → AreOwned place name rows
  none_owned none x there = absurd (subst (λ l. Has l x) none there)

-- ---- an opening

module _ (name : Text) (old new : Database) where
  opening_alone : MakesOpening name old new → IsMainAlone (rows_named new) × OneEach first_text (rows_named new (codes "domain"))
  opening_alone (made, tables, (first, member, policy)) =
      let stays = policy.others (codes "domain") (names_differ refl) ∙ member.others (codes "domain") (names_differ refl) in
      let it = main_stands old made tables in
      (main_stays (rows_named made) (rows_named new) stays it.0, subst (OneEach first_text) (sym stays) it.1)

  pub opening_is_main : MakesOpening name old new → IsMainAlone (rows_named new) × HoldsOwnDomains (rows_named new)
  opening_is_main (made, tables, (first, member, policy)) =
      let empty : (t : Text) → t ≢ codes "team" → t ≢ codes "policy" → t ≢ codes "domain" → rows_named new t ≡ [] =
      λ t no_team no_policy no_domain. policy.others t no_policy ∙ member.others t no_team ∙ tables.2.others t no_domain ∙ tables.1 t in (
        (opening_alone (made, tables, (first, member, policy))).0,
        record {
          template = none_owned (rows_named new) 1 (codes "d_template") (empty (codes "d_template") (names_differ refl) (names_differ refl) (names_differ refl));
          languages = none_owned (rows_named new) 1 (codes "d_language") (empty (codes "d_language") (names_differ refl) (names_differ refl) (names_differ refl));
          units = none_owned (rows_named new) 1 (codes "d_unit") (empty (codes "d_unit") (names_differ refl) (names_differ refl) (names_differ refl));
          suggestions = none_owned (rows_named new) 2 (codes "d_suggestion") (empty (codes "d_suggestion") (names_differ refl) (names_differ refl) (names_differ refl));
        },
      )

  pub opening_means : MakesOpening name old new → (meaning_by_domain (rows_named new) ≡ record { office = opening name; book = maps.empty }) × AreNumbered (rows_named new)
  opening_means made =
      let alone = opening_alone made in
      means_alone (opening name) (seen_in main (rows_named old)) (rows_named new) alone.0 alone.1 (opens name (seen_in main (rows_named old)) (seen_in main (rows_named new)) (opening_in name old new made))

-- ---- the demo

module _ (old new : Database) where
  demo_alone : MakesDemo old new → IsMainAlone (rows_named new) × OneEach first_text (rows_named new (codes "domain"))
  demo_alone (made, tables, (team, (one, root, ann), (closed, policy, (hello, entry, (german, language, (unit, put, tally)))))) =
      let stays =
      tally.others (codes "domain") (names_differ refl) ∙ put.others (codes "domain") (names_differ refl) ∙ language.others (codes "domain") (names_differ refl) ∙ entry.others (codes "domain") (names_differ refl)
      ∙ policy.others (codes "domain") (names_differ refl) ∙ ann.others (codes "domain") (names_differ refl) ∙ root.others (codes "domain") (names_differ refl) in
      let it = main_stands old made tables in
      (main_stays (rows_named made) (rows_named new) stays it.0, subst (OneEach first_text) (sym stays) it.1)

  pub demo_is_main : MakesDemo old new → IsMainAlone (rows_named new) × HoldsOwnDomains (rows_named new)
  demo_is_main (made, tables, (team, (one, root, ann), (closed, policy, (hello, entry, (german, language, (unit, put, tally)))))) =
      let alone = (demo_alone (made, tables, (team, (one, root, ann), (closed, policy, (hello, entry, (german, language, (unit, put, tally))))))).0 in
      let empty : (t : Text) → t ≢ codes "team" → t ≢ codes "policy" → t ≢ codes "domain" → rows_named closed t ≡ [] =
      λ t no_team no_policy no_domain. policy.others t no_policy ∙ ann.others t no_team ∙ root.others t no_team ∙ tables.2.others t no_domain ∙ tables.1 t in (
        alone,
        record {
          template = owned_by_main (rows_named new) 1 (codes "d_template") alone (λ x there.
              let still = tally.others (codes "d_template") (names_differ refl) ∙ put.others (codes "d_template") (names_differ refl) ∙ language.others (codes "d_template") (names_differ refl) in
              ap (text_at 1) (only_row (codes "d_template") _ _ closed hello entry (empty (codes "d_template") (names_differ refl) (names_differ refl) (names_differ refl)) x (subst (λ rows. Has rows x) still there)).1);
          languages = owned_by_main (rows_named new) 1 (codes "d_language") alone (λ x there.
              let still = tally.others (codes "d_language") (names_differ refl) ∙ put.others (codes "d_language") (names_differ refl) in
              let none = entry.others (codes "d_language") (names_differ refl) ∙ empty (codes "d_language") (names_differ refl) (names_differ refl) (names_differ refl) in
              ap (text_at 1) (only_row (codes "d_language") _ _ hello german language none x (subst (λ rows. Has rows x) still there)).1);
          units = owned_by_main (rows_named new) 1 (codes "d_unit") alone (λ x there.
              let none =
              language.others (codes "d_unit") (names_differ refl) ∙ entry.others (codes "d_unit") (names_differ refl) ∙ empty (codes "d_unit") (names_differ refl) (names_differ refl) (names_differ refl) in
              ap (text_at 1) (only_row (codes "d_unit") _ _ german unit put none x (subst (λ rows. Has rows x) (tally.others (codes "d_unit") (names_differ refl)) there)).1);
          suggestions = none_owned (rows_named new) 2 (codes "d_suggestion")
              (tally.others (codes "d_suggestion") (names_differ refl) ∙ put.others (codes "d_suggestion") (names_differ refl) ∙ language.others (codes "d_suggestion") (names_differ refl)
              ∙ entry.others (codes "d_suggestion") (names_differ refl) ∙ empty (codes "d_suggestion") (names_differ refl) (names_differ refl) (names_differ refl));
        },
      )

  pub demo_means : MakesDemo old new → (meaning_by_domain (rows_named new) ≡ record { office = demo; book = maps.empty }) × AreNumbered (rows_named new)
  demo_means made =
      let alone = demo_alone made in
      means_alone demo (seen_in main (rows_named old)) (rows_named new) alone.0 alone.1 (opens_demo (seen_in main (rows_named old)) (seen_in main (rows_named new)) (demo_in old new made))
