-- What a domain sees stands for values exactly where what its frame sees does, and the rows that walks show.
use Rattle.std.proofs.Common.{◌≡◌, ◌&&◌, [], ◌∷◌, true, false, sym, ap, subst, ◌∙◌, codes, refl}
use Rattle.std.specs.Prelude.{IsSome}
use Rattle.std.specs.FinMap as maps
use Rattle.std.proofs.lemmas.Bool.{and_parts, and_from}
use Rattle.sqlite.specs.Effect.{Database}
use Rattle.sqlite.specs.Order.{Row}
use Rattle.sqlite_rules.specs.Lists.{Has}
use Rattle.sql_laws.proofs.RowMaps.{texts_are_one}
use Rattle.po_text.specs.Texts.{Text}
use Rattle.units.specs.Project.{Project}
use Rattle.sql_schema.specs.Inside.{AreOfficeTablesOf}
use Rattle.sql_schema.specs.Keys.{text_at, has_text, columns}
use Rattle.sql_schema.specs.Layouts.{by_domain, NamedRows, rows_named}
use Rattle.sql_schema.specs.SeenRows.{seen_in, suggestion_seen, unit_seen, is_vote_in, vote_seen}
use Rattle.sql_schema.proofs.DomainsSeen.{is_text}
use Rattle.sql_schema.proofs.SeenRows.{from_seen, to_seen}
use Rattle.sql_meaning.specs.Meaning.{project_of_rows}
use Rattle.sql_decoding.specs.RowTests.{is_suggestion_row, is_unit_row, is_vote_row}
use Rattle.sql_statements.specs.DomainCleared.{is_on_domain_unit}
use Rattle.sql_statements.specs.WalkedRows.{is_unplaced}
use Rattle.sql_statements.specs.WholeOffice.{without_units}
use Rattle.sql_adoption.specs.Adoption.{StandForOffice}
use Rattle.sql_adoption.specs.FramesKept.{StandsDomain}
use Rattle.sql_adoption.proofs.DomainByLanguages.{has_header}
use Rattle.sql_adoption.proofs.SuggestionRows.{on_some_unit}

module _ (db : Database) (ready : AreOfficeTablesOf by_domain db) (domain : Text) where
  abbrev rows : NamedRows
  rows = rows_named db

  abbrev tables : NamedRows
  tables = seen_in domain rows

  abbrev project : Project
  project = project_of_rows tables

  -- the language of the unit which a suggestion is on
  of_lang : (u s : Row) → is_on_domain_unit domain (text_at 2 u) (text_at 3 u) s ≡ true → text_at 2 u ≡ text_at 3 s
  of_lang u s on =
      let parts = and_parts (has_text 2 domain s) (has_text 3 (text_at 2 u) s && has_text 4 (text_at 3 u) s) on in
      sym (texts_are_one (text_at 3 s) (text_at 2 u) (and_parts (has_text 3 (text_at 2 u) s) (has_text 4 (text_at 3 u) s) parts.1).0)

  pub domain_stands : ((u : Row) → Has (rows (codes "d_unit")) u → is_unplaced rows u ≡ false) → StandForOffice (seen_in domain (without_units rows)) → StandsDomain db project domain
      → ((v : Row) → Has (rows (codes "d_vote")) v → is_vote_row (columns (2 ∷ 3 ∷ 1 ∷ []) v) ≡ true) → StandForOffice tables
  domain_stands placed frame each votes = record {
    members = frame.members;
    policy = frame.policy;
    entries = frame.entries;
    template = frame.template;
    languages = frame.languages;
    units = λ x there.
        let u = from_seen (has_text 1 domain) unit_seen (rows (codes "d_unit")) x there in
        ap (λ y. is_unit_row (columns (3 ∷ 4 ∷ 5 ∷ 6 ∷ 7 ∷ 8 ∷ 9 ∷ 1 ∷ 2 ∷ []) y)) u.3
        ∙ (each (text_at 2 u.0) (header u.0 u.1 u.2)).units u.0 u.1 (and_from (has_text 1 domain u.0) (has_text 2 (text_at 2 u.0) u.0) u.2 (is_text 2 (text_at 2 u.0) u.0 refl));
    suggestions = λ x there.
        let s = from_seen (has_text 2 domain) suggestion_seen (rows (codes "d_suggestion")) x there in
        let u = on_some_unit db ready domain s.0 s.1 s.2 in
        let headed = subst (λ l. IsSome (maps.get project.headers l)) (of_lang u.0 s.0 u.3) (header u.0 u.1 u.2) in
        ap (λ y. is_suggestion_row (columns (1 ∷ 4 ∷ 5 ∷ 6 ∷ 2 ∷ 3 ∷ []) y)) s.3
        ∙ (each (text_at 3 s.0) headed).suggestions s.0 s.1 (and_from (has_text 2 domain s.0) (has_text 3 (text_at 3 s.0) s.0) s.2 (is_text 3 (text_at 3 s.0) s.0 refl));
    votes = λ x there.
        let v = from_seen (is_vote_in domain (rows (codes "d_suggestion"))) vote_seen (rows (codes "d_vote")) x there in
        ap (λ y. is_vote_row (columns (2 ∷ 3 ∷ 1 ∷ []) y)) v.3 ∙ votes v.0 v.1;
  }
    where
      header : (u : Row) → Has (rows (codes "d_unit")) u → has_text 1 domain u ≡ true → IsSome (maps.get project.headers (text_at 2 u))
      header u there own = has_header db ready domain u (placed u there) own

  -- and back
  pub stands_domain : StandForOffice tables → StandsDomain db project domain
  stands_domain stand lang headed = record {
    units = λ u there passes.
        let own = (and_parts (has_text 1 domain u) (has_text 2 lang u) passes).0 in
        stand.units (unit_seen u) (to_seen (has_text 1 domain) unit_seen (rows (codes "d_unit")) u there own);
    suggestions = λ s there passes.
        let own = (and_parts (has_text 2 domain s) (has_text 3 lang s) passes).0 in
        stand.suggestions (suggestion_seen s) (to_seen (has_text 2 domain) suggestion_seen (rows (codes "d_suggestion")) s there own);
  }
