-- A suggestion's row, and that of the unit which it is on.
use Rattle.std.proofs.Common.{◌≡◌, ◌&&◌, [], ◌∷◌, filter, true, refl, sym, ap, ◌∙◌, codes}
use Rattle.std.proofs.lemmas.Bool.{and_parts, and_from}
use Rattle.sqlite.specs.Effect.{Database}
use Rattle.sqlite.specs.Order.{Row}
use Rattle.sqlite_rules.specs.Lists.{Has}
use Rattle.sql_laws.specs.ApartRows.{AreOnce}
use Rattle.sql_laws.proofs.RowMaps.{texts_are_one}
use Rattle.po_text.specs.Texts.{Text}
use Rattle.sql_schema.specs.Inside.{AreOfficeTablesOf}
use Rattle.sql_schema.specs.Keys.{text_at, has_text}
use Rattle.sql_schema.specs.Layouts.{by_domain, rows_named}
use Rattle.sql_schema.specs.SeenRows.{seen_in, suggestion_seen, unit_seen}
use Rattle.sql_schema.proofs.DomainRows.{one_d_unit}
use Rattle.sql_schema.proofs.DomainsSeen.{is_text}
use Rattle.sql_schema.proofs.SeenRows.{from_seen, to_seen}
use Rattle.sql_statements.specs.DomainCleared.{is_on_domain_unit}
use Rattle.sql_statements.specs.WalkedRows.{is_unit_under}
use Rattle.sql_statements.proofs.OnePassing.{one_passing}
use Rattle.sql_meaning.proofs.DomainOfficeRows.{domain_rows, once_seen}

module _ (db : Database) (ready : AreOfficeTablesOf by_domain db) (domain : Text) where
  pub units_once : AreOnce (seen_in domain (rows_named db) (codes "unit"))
  units_once =
      once_seen (has_text 1 domain) unit_seen (rows_named db (codes "d_unit")) (ready.tables (codes "d_unit") refl).once
      (λ r s in_r in_s own_r own_s tied. (ready.tables (codes "d_unit") refl).apart r s in_r in_s tied)

  -- a suggestion is on a unit of its domain
  pub on_some_unit : (s : Row) → Has (rows_named db (codes "d_suggestion")) s → has_text 2 domain s ≡ true
      → (u : Row) × Has (rows_named db (codes "d_unit")) u × (has_text 1 domain u ≡ true) × (is_on_domain_unit domain (text_at 2 u) (text_at 3 u) s ≡ true)
  on_some_unit s there own =
      let x = (domain_rows db ready domain).has_unit (suggestion_seen s) (to_seen (has_text 2 domain) suggestion_seen (rows_named db (codes "d_suggestion")) s there own) in
      let u = from_seen (has_text 1 domain) unit_seen (rows_named db (codes "d_unit")) x.0 x.1 in
      let of_lang : text_at 3 s ≡ text_at 2 u.0 = sym (ap (text_at 1) (sym u.3) ∙ x.2) in
      let of_key : text_at 4 s ≡ text_at 3 u.0 = sym (ap (text_at 2) (sym u.3) ∙ x.3) in
      (u.0, u.1, u.2, and_from (has_text 2 domain s) (has_text 3 (text_at 2 u.0) s && has_text 4 (text_at 3 u.0) s) own (and_from (has_text 3 (text_at 2 u.0) s) (has_text 4 (text_at 3 u.0) s) (is_text 3 (text_at 2 u.0) s of_lang) (is_text 4 (text_at 3 u.0) s of_key)))

  -- the one row of a unit under a suggestion is its unit's
  pub unit_under : (u : Row) → Has (rows_named db (codes "d_unit")) u → has_text 1 domain u ≡ true → (s : Row) → is_on_domain_unit domain (text_at 2 u) (text_at 3 u) s ≡ true
      → filter (is_unit_under s) (rows_named db (codes "d_unit")) ≡ u ∷ []
  unit_under u there own s passes =
      one_passing (is_unit_under s) (rows_named db (codes "d_unit")) u (ready.tables (codes "d_unit") refl).once there
      (and_from (has_text 1 (text_at 2 s) u) (has_text 2 (text_at 3 s) u && has_text 3 (text_at 4 s) u) (is_text 1 (text_at 2 s) u named) (and_from (has_text 2 (text_at 3 s) u) (has_text 3 (text_at 4 s) u) (is_text 2 (text_at 3 s) u of_lang) (is_text 3 (text_at 4 s) u of_key)))
      only
    where
      named : text_at 1 u ≡ text_at 2 s
      named = texts_are_one (text_at 1 u) domain own ∙ sym (texts_are_one (text_at 2 s) domain (and_parts (has_text 2 domain s) (has_text 3 (text_at 2 u) s && has_text 4 (text_at 3 u) s) passes).0)

      of_lang : text_at 2 u ≡ text_at 3 s
      of_lang = sym (texts_are_one (text_at 3 s) (text_at 2 u) (and_parts (has_text 3 (text_at 2 u) s) (has_text 4 (text_at 3 u) s) (and_parts (has_text 2 domain s) (has_text 3 (text_at 2 u) s && has_text 4 (text_at 3 u) s) passes).1).0)

      of_key : text_at 3 u ≡ text_at 4 s
      of_key = sym (texts_are_one (text_at 4 s) (text_at 3 u) (and_parts (has_text 3 (text_at 2 u) s) (has_text 4 (text_at 3 u) s) (and_parts (has_text 2 domain s) (has_text 3 (text_at 2 u) s && has_text 4 (text_at 3 u) s) passes).1).1)

      only : (r : Row) → Has (rows_named db (codes "d_unit")) r → is_unit_under s r ≡ true → r ≡ u
      only r in_r under =
          let a = and_parts (has_text 1 (text_at 2 s) r) (has_text 2 (text_at 3 s) r && has_text 3 (text_at 4 s) r) under in
          let b = and_parts (has_text 2 (text_at 3 s) r) (has_text 3 (text_at 4 s) r) a.1 in
          let names : text_at 1 r ≡ text_at 1 u = texts_are_one (text_at 1 r) (text_at 2 s) a.0 ∙ sym named in
          let langs : text_at 2 r ≡ text_at 2 u = texts_are_one (text_at 2 r) (text_at 3 s) b.0 ∙ sym of_lang in
          let keys : text_at 3 r ≡ text_at 3 u = texts_are_one (text_at 3 r) (text_at 4 s) b.1 ∙ sym of_key in
          one_d_unit db ready.schema ready.sound (ready.tables (codes "d_unit") refl) r u in_r there (λ i. names i ∷ langs i ∷ keys i ∷ [])
