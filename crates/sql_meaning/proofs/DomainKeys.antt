-- What the schema says of the rows that a domain sees: what it says of the rows of tables without a column for a domain.
use Rattle.std.proofs.Common.{◌≡◌, ℕ, [], ◌∷◌, ◌&&◌, true, refl, sym, ap, ◌∙◌, codes}
use Rattle.std.proofs.lemmas.Bool.{and_parts}
use Rattle.sqlite.specs.declared.types.Value.TheVariants.{Int}
use Rattle.sqlite.specs.Order.{Row, column}
use Rattle.sqlite.specs.Effect.{Database}
use Rattle.sqlite_rules.specs.Edit.{id_in}
use Rattle.sqlite_rules.specs.Lists.{Has}
use Rattle.sqlite_rules.proofs.ListLemmas.{some_has}
use Rattle.sql_laws.specs.RowMaps.{OneEach}
use Rattle.sql_laws.proofs.RowMaps.{texts_are_one}
use Rattle.po_text.specs.Texts.{Text}
use Rattle.sql_schema.specs.Schema.{d_template_table, d_suggestion_table}
use Rattle.sql_schema.specs.Layouts.{by_domain, rows_named}
use Rattle.sql_schema.specs.Keys.{text_at, key_texts, first_text, first_texts, has_text}
use Rattle.sql_schema.specs.Inside.{AreOfficeTablesOf}
use Rattle.sql_schema.specs.SeenRows.{entry_seen, suggestion_seen, is_vote_in, vote_seen, seen_in}
use Rattle.sql_schema.proofs.Layouts.{d_template_placed, d_suggestion_placed}
use Rattle.sql_schema.proofs.TextKeys.{one_of_key}
use Rattle.sql_schema.proofs.TextLists.{AreTextsAt, texts_of_row}
use Rattle.sql_schema.proofs.DomainRows.{agree_so, one_d_entry, d_entry_texts, d_entry_places, d_entry_place_keyed, one_d_language, one_d_unit, one_d_number, d_suggestion_units, d_suggestion_places, d_suggestion_place_keyed, one_d_vote}
use Rattle.sql_schema.proofs.TableRows.{one_record, one_member}
use Rattle.sql_schema.proofs.SeenRows.{from_seen, to_seen, one_seen}
use Rattle.sql_statements.proofs.SeenChanges.{entry_keys_alike}
use Rattle.sql_schema.proofs.DomainsSeen.{units_alike, languages_alike}
use Rattle.sql_meaning.specs.Values.{integer_of, integer_at}
use Rattle.sql_meaning.specs.RowKeys.{AreKeyedRows}
use Rattle.sql_meaning.proofs.Rowids.{one_rowid}

-- ---- what a domain sees

module _ (db : Database) (ready : AreOfficeTablesOf by_domain db) (domain : Text) where
  of_domain : (place : ℕ) (r s : Row) → has_text place domain r ≡ true → has_text place domain s ≡ true → text_at place r ≡ text_at place s
  of_domain place r s in_r in_s = texts_are_one (text_at place r) domain in_r ∙ sym (texts_are_one (text_at place s) domain in_s)

  same_place : (p : ℕ) (r s : Row) → column r p ≡ Int (id_in (column r p)) → column s p ≡ Int (id_in (column s p)) → integer_of (column r p) ≡ integer_of (column s p) → id_in (column r p) ≡ id_in (column s p)
  same_place p r s of_r of_s e = sym (ap integer_of of_r) ∙ e ∙ ap integer_of of_s

  one_entry : OneEach (integer_at 0) (seen_in domain (rows_named db) (codes "template"))
  one_entry x y in_x in_y e =
      let rows = rows_named db (codes "d_template") in
      let r = from_seen (has_text 1 domain) entry_seen rows x in_x in
      let s = from_seen (has_text 1 domain) entry_seen rows y in_y in
      let place_r = d_entry_places db ready.schema ready.sound r.0 r.1 in
      let place_s = d_entry_places db ready.schema ready.sound s.0 s.1 in
      let places : integer_of (column r.0 2) ≡ integer_of (column s.0 2) = ap (integer_at 0) (sym r.3) ∙ e ∙ ap (integer_at 0) s.3 in
      let names = of_domain 1 r.0 s.0 r.2 s.2 in
      let agreed = agree_so (1 ∷ []) 2 r.0 s.0 _ _ (d_entry_texts.0 db ready.schema ready.sound r.0 r.1, tt) (d_entry_texts.0 db ready.schema ready.sound s.0 s.1, tt) place_r place_s
      (λ i. names i ∷ []) (same_place 2 r.0 s.0 place_r place_s places) in
      let one = one_of_key d_template_table d_template_placed (1 ∷ 2 ∷ []) d_entry_place_keyed db ready.schema ready.sound (ready.tables (codes "d_template") refl) r.0 s.0 r.1 s.1 agreed in
      r.3 ∙ ap entry_seen one ∙ sym s.3

  one_number : OneEach first_text (seen_in domain (rows_named db) (codes "suggestion"))
  one_number x y in_x in_y e =
      let rows = rows_named db (codes "d_suggestion") in
      let r = from_seen (has_text 2 domain) suggestion_seen rows x in_x in
      let s = from_seen (has_text 2 domain) suggestion_seen rows y in_y in
      let number : text_at 1 r.0 ≡ text_at 1 s.0 = ap first_text (sym r.3) ∙ e ∙ ap first_text s.3 in
      r.3 ∙ ap suggestion_seen (one_d_number db ready.schema ready.sound (ready.tables (codes "d_suggestion") refl) r.0 s.0 r.1 s.1 number) ∙ sym s.3

  one_place : (x y : Row) → Has (seen_in domain (rows_named db) (codes "suggestion")) x → Has (seen_in domain (rows_named db) (codes "suggestion")) y → text_at 2 x ≡ text_at 2 y → text_at 3 x ≡ text_at 3 y
      → integer_at 4 x ≡ integer_at 4 y → x ≡ y
  one_place x y in_x in_y lang key place =
      let rows = rows_named db (codes "d_suggestion") in
      let r = from_seen (has_text 2 domain) suggestion_seen rows x in_x in
      let s = from_seen (has_text 2 domain) suggestion_seen rows y in_y in
      let place_r = d_suggestion_places db ready.schema ready.sound r.0 r.1 in
      let place_s = d_suggestion_places db ready.schema ready.sound s.0 s.1 in
      let places : integer_of (column r.0 5) ≡ integer_of (column s.0 5) = ap (integer_at 4) (sym r.3) ∙ place ∙ ap (integer_at 4) s.3 in
      let langs : text_at 3 r.0 ≡ text_at 3 s.0 = ap (text_at 2) (sym r.3) ∙ lang ∙ ap (text_at 2) s.3 in
      let keys : text_at 4 r.0 ≡ text_at 4 s.0 = ap (text_at 3) (sym r.3) ∙ key ∙ ap (text_at 3) s.3 in
      let names = of_domain 2 r.0 s.0 r.2 s.2 in
      let agreed = agree_so (2 ∷ 3 ∷ 4 ∷ []) 5 r.0 s.0 _ _ (texts r.0 r.1) (texts s.0 s.1) place_r place_s (λ i. names i ∷ langs i ∷ keys i ∷ []) (same_place 5 r.0 s.0 place_r place_s places) in
      let one = one_of_key d_suggestion_table d_suggestion_placed (2 ∷ 3 ∷ 4 ∷ 5 ∷ []) d_suggestion_place_keyed db ready.schema ready.sound (ready.tables (codes "d_suggestion") refl) r.0 s.0 r.1 s.1 agreed in
      r.3 ∙ ap suggestion_seen one ∙ sym s.3
    where
      texts : (row : Row) → Has (rows_named db (codes "d_suggestion")) row → AreTextsAt (2 ∷ 3 ∷ 4 ∷ []) row
      texts = texts_of_row by_domain (codes "d_suggestion") (2 ∷ 3 ∷ 4 ∷ []) d_suggestion_units db ready.schema ready.sound

  one_vote : OneEach first_texts (seen_in domain (rows_named db) (codes "vote"))
  one_vote x y in_x in_y e =
      let rows = rows_named db (codes "d_vote") in
      let test = is_vote_in domain (rows_named db (codes "d_suggestion")) in
      let r = from_seen test vote_seen rows x in_x in
      let s = from_seen test vote_seen rows y in_y in
      let same : key_texts (1 ∷ 2 ∷ []) r.0 ≡ key_texts (1 ∷ 2 ∷ []) s.0 = ap first_texts (sym r.3) ∙ e ∙ ap first_texts s.3 in
      r.3 ∙ one_d_vote db ready.schema ready.sound (ready.tables (codes "d_vote") refl) r.0 s.0 r.1 s.1 same ∙ sym s.3

  -- a vote is seen where its suggestion is
  has_suggestion : (v : Row) → Has (seen_in domain (rows_named db) (codes "vote")) v → (s : Row) × Has (seen_in domain (rows_named db) (codes "suggestion")) s × (first_text v ≡ first_text s)
  has_suggestion v there =
      let rows = rows_named db (codes "d_suggestion") in
      let r = from_seen (is_vote_in domain rows) vote_seen (rows_named db (codes "d_vote")) v there in
      let s = some_has (λ s. has_text 1 (first_text r.0) s && has_text 2 domain s) rows r.2 in
      let parts = and_parts (has_text 1 (first_text r.0) s.0) (has_text 2 domain s.0) s.2 in
      (suggestion_seen s.0, to_seen (has_text 2 domain) suggestion_seen rows s.0 s.1 parts.1, ap first_text r.3 ∙ sym (texts_are_one (first_text s.0) (first_text r.0) parts.0))

  pub are_keyed_rows : AreKeyedRows (seen_in domain (rows_named db))
  are_keyed_rows = record {
    one_record = one_record db ready.schema ready.sound (ready.tables (codes "record") refl);
    one_member = one_member db ready.schema ready.sound (ready.tables (codes "team") refl);
    one_policy = one_rowid (rows_named db (codes "policy")) (ready.tables (codes "policy") refl);
    one_entry = one_entry;
    one_key = one_seen (entry_keys_alike domain) (rows_named db (codes "d_template")) (one_d_entry db ready.schema ready.sound (ready.tables (codes "d_template") refl));
    one_language = one_seen (languages_alike domain) (rows_named db (codes "d_language")) (one_d_language db ready.schema ready.sound (ready.tables (codes "d_language") refl));
    one_unit = one_seen (units_alike domain) (rows_named db (codes "d_unit")) (one_d_unit db ready.schema ready.sound (ready.tables (codes "d_unit") refl));
    suggested = record { one_number = one_number; one_place = one_place; one_vote = one_vote; has_suggestion = has_suggestion };
  }
