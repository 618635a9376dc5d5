-- An office's rows by domains stand for values where what each domain that is there sees does: one that isn't sees no row of its own, and team, policy and book
-- are of the whole office.
use Rattle.std.proofs.Common.{◌≡◌, inl, ℕ, List, [], ◌∷◌, Bool, true, false, codes, refl, sym, subst, ◌∙◌}
use Rattle.std.specs.Prelude.{IsTrue, ◌&&◌}
use Rattle.std.specs.List.{list_any}
use Rattle.std.proofs.lemmas.Bool.{and_parts}
use Rattle.sqlite.specs.Order.{Row}
use Rattle.sqlite.specs.Effect.{Database}
use Rattle.sqlite_rules.specs.Lists.{Has}
use Rattle.sqlite_rules.proofs.ListLemmas.{some_has}
use Rattle.sql_laws.proofs.RowMaps.{texts_are_one}
use Rattle.po_text.specs.Texts.{Text}
use Rattle.po_text.specs.Valid.{IsValid}
use Rattle.units.specs.Office.{main, project_in}
use Rattle.units.specs.Projects.{IsProject}
use Rattle.office_specification.specs.OfficeRules.{KeepsRules}
use Rattle.office_specification.proofs.rules.DomainsKept.{any_project}
use Rattle.sql_schema.specs.Inside.{AreOfficeTablesOf}
use Rattle.sql_schema.specs.Keys.{text_at, first_text, has_text}
use Rattle.sql_schema.specs.Layouts.{by_domain, NamedRows, rows_named}
use Rattle.sql_schema.specs.SeenRows.{rows_seen, entry_seen, language_seen, unit_seen, suggestion_seen, is_vote_in, vote_seen, seen_in, AreSameByName}
use Rattle.sql_schema.proofs.DomainsSeen.{is_text}
use Rattle.sql_schema.proofs.SeenRows.{from_seen, to_seen}
use Rattle.sql_meaning.specs.Domains.{project_seen, office_of_rows, meaning_by_domain, is_domain, AreOwned, HoldsOwnDomains, IsMainAlone}
use Rattle.sql_meaning.proofs.DomainChanges.{has_domain_of_rows, project_of_domain}
use Rattle.sql_meaning.proofs.DomainOfficeRows.{one_domain_each}
use Rattle.sql_meaning.proofs.MainBeginnings.{main_is_there}
use Rattle.sql_meaning.proofs.Openings.{no_template}
use Rattle.sql_changes.specs.OnDomains.{OnDomainsWhere}
use Rattle.sql_changes.proofs.DomainWrites.{domain_elsewhere}
use Rattle.sql_decoding.specs.RowTests.{is_domain_row}
use Rattle.sql_adoption.specs.Adoption.{Each, StandForOffice, StandForBook, StandInDomains}
use Rattle.sql_figures.specs.Figures.{HasFigures}
use Rattle.sql_files.specs.Files.{StandForAll, IsOfficeDatabase}

-- ---- a domain that sees no row of its own

abbrev pub HasNoRow : List Row → Type 0
HasNoRow rows = (x : Row) → Has rows x → ⊥

-- No entry, no language, no unit and no suggestion, and so no vote.
pub record SeesNothing (seen : NamedRows) : Type 0 where
  pub entries : HasNoRow (seen (codes "template"))
  pub languages : HasNoRow (seen (codes "language"))
  pub units : HasNoRow (seen (codes "unit"))
  pub suggestions : HasNoRow (seen (codes "suggestion"))

pub nothing_valid : IsValid []
nothing_valid = record { each = tt; unique = tt; header = tt }

is_empty : (rows : List Row) → HasNoRow rows → rows ≡ []
is_empty [] none = refl
is_empty (row ∷ rows) none = absurd (none row (inl refl))

still_none : (old new : List Row) → new ≡ old → HasNoRow old → HasNoRow new
still_none old new same none = subst HasNoRow (sym same) none

-- where none of these tables is written
pub nothing_more : (old new : NamedRows) → new (codes "template") ≡ old (codes "template") → new (codes "language") ≡ old (codes "language") → new (codes "unit") ≡ old (codes "unit")
    → new (codes "suggestion") ≡ old (codes "suggestion") → SeesNothing old → SeesNothing new
nothing_more old new template languages units suggestions none = record {
  entries = still_none _ _ template none.entries;
  languages = still_none _ _ languages none.languages;
  units = still_none _ _ units none.units;
  suggestions = still_none _ _ suggestions none.suggestions;
}

pub nothing_same : (old new : NamedRows) → AreSameByName old new → SeesNothing old → SeesNothing new
nothing_same old new same none = record {
  entries = λ x there. none.entries x ((same (codes "template")).only x there);
  languages = λ x there. none.languages x ((same (codes "language")).only x there);
  units = λ x there. none.units x ((same (codes "unit")).only x there);
  suggestions = λ x there. none.suggestions x ((same (codes "suggestion")).only x there);
}

module _ (rows : NamedRows) where
  -- each row is of a domain that is there, so one that isn't sees none
  pub sees_nothing : HoldsOwnDomains rows → (domain : Text) → is_domain rows domain ≡ false → SeesNothing (seen_in domain rows)
  sees_nothing own domain missing = record {
    entries = unseen 1 entry_seen (codes "d_template") own.template;
    languages = unseen 1 language_seen (codes "d_language") own.languages;
    units = unseen 1 unit_seen (codes "d_unit") own.units;
    suggestions = unseen 2 suggestion_seen (codes "d_suggestion") own.suggestions;
  }
    where
      unseen : (place : ℕ) (seen : Row → Row) (name : List ℕ) → AreOwned place name rows → HasNoRow (rows_seen (has_text place domain) seen (rows name))
      unseen place seen name owned x there =
          let r = from_seen (has_text place domain) seen (rows name) x there in
          let yes : is_domain rows domain ≡ true = subst (λ (t : Text). is_domain rows t ≡ true) (texts_are_one (text_at place r.0) domain r.2) (owned r.0 r.1) in
          let wrong : true ≡ false = sym yes ∙ missing in
          cc

  -- and back
  pub own_domains : ((domain : Text) → is_domain rows domain ≡ false → SeesNothing (seen_in domain rows)) → HoldsOwnDomains rows
  own_domains none = record {
    template = owned 1 entry_seen (codes "d_template") (λ domain missing. (none domain missing).entries);
    languages = owned 1 language_seen (codes "d_language") (λ domain missing. (none domain missing).languages);
    units = owned 1 unit_seen (codes "d_unit") (λ domain missing. (none domain missing).units);
    suggestions = owned 2 suggestion_seen (codes "d_suggestion") (λ domain missing. (none domain missing).suggestions);
  }
    where
      owned : (place : ℕ) (seen : Row → Row) (name : List ℕ) → ((domain : Text) → is_domain rows domain ≡ false → HasNoRow (rows_seen (has_text place domain) seen (rows name))) → AreOwned place name rows
      owned place seen name unseen row there = by (is_domain rows (text_at place row)) refl
        where
          by : (b : Bool) → is_domain rows (text_at place row) ≡ b → IsTrue (is_domain rows (text_at place row))
          by true is = is
          by false missing =
              absurd (unseen (text_at place row) missing (seen row) (to_seen (has_text place (text_at place row)) seen (rows name) row there (is_text place (text_at place row) row refl)))

  -- a vote is seen where its suggestion is
  no_vote : (domain : Text) → SeesNothing (seen_in domain rows) → HasNoRow (seen_in domain rows (codes "vote"))
  no_vote domain none v there =
      let suggestions = rows (codes "d_suggestion") in
      let r = from_seen (is_vote_in domain suggestions) vote_seen (rows (codes "d_vote")) v there in
      let s = some_has (λ s. has_text 1 (first_text r.0) s && has_text 2 domain s) suggestions r.2 in
      let parts = and_parts (has_text 1 (first_text r.0) s.0) (has_text 2 domain s.0) s.2 in
      none.suggestions (suggestion_seen s.0) (to_seen (has_text 2 domain) suggestion_seen suggestions s.0 s.1 parts.1)

  -- team and policy are what any other domain sees
  nothing_stands : (domain other : Text) → SeesNothing (seen_in domain rows) → StandForOffice (seen_in other rows) → StandForOffice (seen_in domain rows)
  nothing_stands domain other none it = record {
    members = it.members;
    policy = it.policy;
    entries = λ row there. absurd (none.entries row there);
    template = subst IsValid (sym (no_template (seen_in domain rows) (is_empty (seen_in domain rows (codes "template")) none.entries))) nothing_valid;
    languages = λ row there. absurd (none.languages row there);
    units = λ row there. absurd (none.units row there);
    suggestions = λ row there. absurd (none.suggestions row there);
    votes = λ row there. absurd (no_vote domain none row there);
  }

  -- the book is of the whole office
  pub book_seen : (domain : Text) → StandForBook rows → StandForBook (seen_in domain rows)
  book_seen domain it = record { records = it.records; contents = it.contents }

  pub whole_book : (domain : Text) → StandForBook (seen_in domain rows) → StandForBook rows
  whole_book domain it = record { records = it.records; contents = it.contents }

  -- ---- all domains

  stand_in_domains : Each (codes "domain") (1 ∷ []) is_domain_row rows → ((domain : Text) → is_domain rows domain ≡ false → SeesNothing (seen_in domain rows))
      → ((domain : Text) → is_domain rows domain ≡ true → StandForOffice (seen_in domain rows)) → is_domain rows main ≡ true → StandInDomains rows
  stand_in_domains names none each has_main = record { names = names; own = own_domains none; each = λ domain. by domain (is_domain rows domain) refl }
    where
      by : (domain : Text) (b : Bool) → is_domain rows domain ≡ b → StandForOffice (seen_in domain rows)
      by domain true there = each domain there
      by domain false missing = nothing_stands domain main (none domain missing) (each main has_main)

-- where `main` alone is there
pub stand_alone : (rows : NamedRows) → IsMainAlone rows → HoldsOwnDomains rows → Each (codes "domain") (1 ∷ []) is_domain_row rows → StandForOffice (seen_in main rows) → StandInDomains rows
stand_alone rows alone own names it =
    stand_in_domains rows names (sees_nothing rows own)
    (λ domain there.
    let r = some_has (has_text 1 domain) (rows (codes "domain")) there in
    subst (λ (d : Text). StandForOffice (seen_in d rows)) (sym (alone.only r.0 r.1) ∙ texts_are_one (first_text r.0) domain r.2) it)
    (main_is_there rows alone)

-- ---- the rules

module _ (db : Database) (ready : AreOfficeTablesOf by_domain db) where
  -- a domain that is there has the project that it sees
  pub project_there : (domain : Text) → is_domain (rows_named db) domain ≡ true → project_in (office_of_rows (rows_named db)) domain ≡ project_seen domain (rows_named db)
  project_there domain there =
      let it = some_has (has_text 1 domain) (rows_named db (codes "domain")) there in
      project_of_domain (rows_named db) (one_domain_each db ready) domain it.0 it.1 (texts_are_one (first_text it.0) domain it.2)

  module _ (rules : KeepsRules (meaning_by_domain (rows_named db))) where
    keeps_project : (domain : Text) → is_domain (rows_named db) domain ≡ true → IsProject (project_seen domain (rows_named db))
    keeps_project domain there = subst IsProject (project_there domain there) (any_project (office_of_rows (rows_named db)) rules.office domain)

    main_there : is_domain (rows_named db) main ≡ true
    main_there = has_domain_of_rows (rows_named db) main ∙ rules.office.has_main

-- ---- a commit

-- a domain sees of an office's database rows that stand for values, whether it is there or not
pub all_seen : (db : Database) → IsOfficeDatabase by_domain db → (domain : Text) → StandForAll (seen_in domain (rows_named db))
all_seen db file domain = record { form = file.rows.form_told; office = file.rows.office.each domain; book = book_seen (rows_named db) domain file.rows.book }

module _ (old new : Database) (ready : AreOfficeTablesOf by_domain new) (rules : KeepsRules (meaning_by_domain (rows_named new))) (figures : HasFigures (rows_named new))
    (file : IsOfficeDatabase by_domain old) where
  -- where each domain that is there sees rows that stand for values, and one that isn't sees none of its own
  pub stand_all : Each (codes "domain") (1 ∷ []) is_domain_row (rows_named new)
      → ((domain : Text) → is_domain (rows_named new) domain ≡ false → SeesNothing (seen_in domain (rows_named new)))
      → ((domain : Text) → is_domain (rows_named new) domain ≡ true → IsProject (project_seen domain (rows_named new)) → StandForAll (seen_in domain (rows_named new))) → IsOfficeDatabase by_domain new
  stand_all names none each =
      let has_main = main_there new ready rules in
      let stands : (domain : Text) → is_domain (rows_named new) domain ≡ true → StandForAll (seen_in domain (rows_named new)) = λ domain there. each domain there (keeps_project new ready rules domain there) in
      let at_main = stands main has_main in
      record {
        ready = ready;
        rows = record {
          form_told = at_main.form;
          office = stand_in_domains (rows_named new) names none (λ domain there. (stands domain there).office) has_main;
          book = whole_book (rows_named new) main at_main.book;
          figures = figures;
          rules = rules;
        };
      }

  -- where no domain comes or goes
  pub stand_still : {Premise : NamedRows → Type 0} {Makes : Text → NamedRows → NamedRows → Type 0} → OnDomainsWhere Premise Makes old new
      → ((domain : Text) → Premise (seen_in domain (rows_named old)))
      → ((domain : Text) → is_domain (rows_named old) domain ≡ false → Makes domain (seen_in domain (rows_named old)) (seen_in domain (rows_named new)) → SeesNothing (seen_in domain (rows_named old))
      → SeesNothing (seen_in domain (rows_named new)))
      → ((domain : Text) → IsProject (project_seen domain (rows_named new)) → Makes domain (seen_in domain (rows_named old)) (seen_in domain (rows_named new)) → StandForAll (seen_in domain (rows_named old))
      → StandForAll (seen_in domain (rows_named new)))
      → IsOfficeDatabase by_domain new
  stand_still it premise none each =
      let made = it.on premise in
      let same : rows_named new (codes "domain") ≡ rows_named old (codes "domain") = made.1 (codes "domain") domain_elsewhere in
      stand_all (λ row there. file.rows.office.names row (subst (λ rows. Has rows row) same there))
      (λ domain missing.
      let was = subst (λ rows. list_any (has_text 1 domain) rows ≡ false) same missing in
      none domain was (made.0 domain) (sees_nothing (rows_named old) file.rows.office.own domain was))
      (λ domain there project. each domain project (made.0 domain) (all_seen old file domain))
