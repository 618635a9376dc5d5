-- What the query over a domain's template and its units answers.
use Rattle.std.proofs.Common.{◌≡◌, ℕ, List, [], ◌∷◌, ◌++◌, ◌&&◌, map, filter, get_or, codes, Bool, true, false, cond, refl, sym, ap, subst, ◌∙◌}
use Rattle.std.proofs.lemmas.Bool.{and_parts, and_from}
use Rattle.std.proofs.Math.Bool.{and-true}
use Rattle.std.specs.List.Sorted.{IsPermutation}
use Rattle.sqlite.specs.Collation.TheVariants.{Binary}
use Rattle.sqlite.specs.declared.types.Value.TheVariants.{Null, Text}
use Rattle.sqlite.specs.Order.{Row}
use Rattle.sqlite.specs.Term.{Term, col, op2}
use Rattle.sqlite.specs.Listing.{understood}
use Rattle.sqlite.specs.Program.{overlay}
use Rattle.sqlite.specs.Query.{Query, IsAnswer}
use Rattle.sqlite.specs.State.{State, Begins, Shown}
use Rattle.sqlite.proofs.Callers.{IsPlain, reads_as, begins_as}
use Rattle.sqlite_sql.specs.declared.ops.CompareOp.TheVariants as compare
use Rattle.sqlite_sql.specs.declared.ops.BinaryOp.TheVariants as by
use Rattle.sqlite_tied.specs.Compute.{everything}
use Rattle.sqlite_rules.specs.Lists.{Has}
use Rattle.sqlite_rules.proofs.ListLemmas.{has_filtered}
use Rattle.sql_laws.specs.ApartRows.{AreApart}
use Rattle.sql_laws.proofs.Comparisons.{texts_compared}
use Rattle.sql_laws.proofs.RowMaps.{texts_are_one, text_ties_itself}
use Rattle.sql_streams.specs.Joins.{joined_query, pass, show}
use Rattle.sql_streams.proofs.Joins.{joined_permuted, joined_in_order}
use Rattle.sql_schema.specs.Layouts.{by_domain, Layout, made_last, from_first, from_second, schema_of, placed, rows_named}
use Rattle.sql_schema.specs.Schema.{d_template_table, d_unit_table}
use Rattle.sql_schema.specs.Keys.{text_at, has_text, columns}
use Rattle.sql_schema.specs.SeenRows.{entry_seen, unit_seen, seen_in}
use Rattle.sql_schema.specs.Inside.{IsReadyFor}
use Rattle.sql_schema.proofs.Layouts.{d_template_placed, d_unit_placed}
use Rattle.sql_schema.proofs.Queries.{Asks, rows_read, filtered_same}
use Rattle.sql_schema.proofs.DomainRows.{d_entry_texts, d_unit_texts, one_d_unit}
use Rattle.sql_schema.proofs.SeenRows.{from_seen, to_seen}
use Rattle.sql_statements.specs.Queries.{AreUnits, ShowsMessagesIn, by_column, entry_places, unit_places}
use Rattle.sql_statements.proofs.OnePassing.{none_passing, one_passing}
use Rattle.sql_statements.proofs.Seen.{mapped_seen}
use Rattle.sql_statements.proofs.ReadsUnread.{IsAcceptedBy, IsUnreadBy, unread_by}

abbrev pub messages_text : List ℕ
messages_text = codes "SELECT d_template.plural, extracted, refs, flags, d_template.key, place, forms, state, comment, previous FROM d_template JOIN d_unit ON d_unit.domain = d_template.domain AND d_unit.key = d_template.key WHERE d_template.domain = ?1 AND d_unit.lang = ?2 ORDER BY place"

abbrev equal : ℕ → ℕ → ℕ → ℕ → Term
equal a b c d = op2 (by.Compare compare.Eq Binary) (col a b) (col c d)

-- the unit has the entry's domain and key, the entry is the domain's, and the unit the language's
abbrev message_tests : List Term
message_tests = equal 2 1 1 1 ∷ equal 2 3 1 3 ∷ equal 1 1 0 0 ∷ equal 2 2 0 1 ∷ []

abbrev shown_terms : List Term
shown_terms = col 1 4 ∷ col 1 5 ∷ col 1 6 ∷ col 1 7 ∷ col 1 3 ∷ col 1 2 ∷ col 2 5 ∷ col 2 6 ∷ col 2 9 ∷ col 2 10 ∷ []

abbrev messages_query : Layout by_domain → Query
messages_query layout = joined_query (placed layout d_template_table).tree (placed layout d_unit_table).tree message_tests shown_terms (2 ∷ [])

abbrev names : List (List ℕ)
names = codes "plural" ∷ codes "extracted" ∷ codes "refs" ∷ codes "flags" ∷ codes "key" ∷ codes "place" ∷ codes "forms" ∷ codes "state" ∷ codes "comment" ∷ codes "previous" ∷ []

messages_are : (layout : Layout by_domain) → Asks layout messages_text (messages_query layout) names
unfolding understood everything
messages_are made_last = record { command = refl; own_tables = refl; plain = (refl, refl) }
messages_are from_first = record { command = refl; own_tables = refl; plain = (refl, refl) }
messages_are from_second = record { command = refl; own_tables = refl; plain = (refl, refl) }

messages_accepted : (domain lang : List ℕ) → IsAcceptedBy by_domain messages_text (Text domain ∷ Text lang ∷ [])
unfolding understood everything
messages_accepted domain lang made_last = refl
messages_accepted domain lang from_first = refl
messages_accepted domain lang from_second = refl

pub messages_unread : (domain lang : List ℕ) → IsUnreadBy by_domain messages_text (Text domain ∷ Text lang ∷ [])
messages_unread domain lang = unread_by messages_text (Text domain ∷ Text lang ∷ []) _ _ messages_are (messages_accepted domain lang)

third_false : (a b c d : Bool) → c ≡ false → (a && (b && (c && d))) ≡ false
third_false false b c d e = refl
third_false true false c d e = refl
third_false true true c d e = ap (λ x. x && d) e

module _ (domain lang : List ℕ) (s : State) (ready : IsReadyFor by_domain s) where
  abbrev params : Row
  params = Text domain ∷ Text lang ∷ []

  abbrev layout : Layout by_domain
  layout = ready.schema.0

  abbrev entries : List Row
  entries = rows_named s.now (codes "d_template")

  abbrev units : List Row
  units = rows_named s.now (codes "d_unit")

  apart : AreApart units
  apart = ready.tables (codes "d_unit") refl

  entries_read : overlay s.now.trees [] (placed layout d_template_table).tree ≡ entries
  entries_read = rows_read layout d_template_table (d_template_placed layout) s.now ready.schema.1

  units_read : overlay s.now.trees [] (placed layout d_unit_table).tree ≡ units
  units_read = rows_read layout d_unit_table (d_unit_placed layout) s.now ready.schema.1

  passes_is : (row unit : Row) → Has entries row → Has units unit
      → pass params message_tests row unit ≡ (has_text 1 (text_at 1 row) unit && (has_text 3 (text_at 3 row) unit && (has_text 1 domain row && has_text 2 lang unit)))
  passes_is row unit in_row in_unit =
      rw (
        d_unit_texts.0 s.now ready.schema ready.sound unit in_unit,
        d_entry_texts.0 s.now ready.schema ready.sound row in_row,
        d_unit_texts.1.1.0 s.now ready.schema ready.sound unit in_unit,
        d_entry_texts.1.0 s.now ready.schema ready.sound row in_row,
        d_unit_texts.1.0 s.now ready.schema ready.sound unit in_unit,
      ) (rw (texts_compared (text_at 1 unit) (text_at 1 row), texts_compared (text_at 3 unit) (text_at 3 row), texts_compared (text_at 1 row) domain, texts_compared (text_at 2 unit) lang)
      (ap (λ b. has_text 1 (text_at 1 row) unit && (has_text 3 (text_at 3 row) unit && (has_text 1 domain row && b))) (and-true _)))

  -- the unit of an entry of the domain
  abbrev is_its : Row → Row → Bool
  is_its row unit = has_text 1 domain unit && (has_text 3 (text_at 3 row) unit && has_text 2 lang unit)

  abbrev partner : Row → Row
  partner row = get_or (filter (is_its row) units) 0 []

  same_tests : (row : Row) → Has entries row → has_text 1 domain row ≡ true → (unit : Row) → Has units unit → pass params message_tests row unit ≡ is_its row unit
  same_tests row there own unit listed =
      passes_is row unit there listed
      ∙ (λ i. has_text 1 (texts_are_one (text_at 1 row) domain own i) unit && (has_text 3 (text_at 3 row) unit && (own i && has_text 2 lang unit)))

  module _ (unit_of : Row → Row) (are : AreUnits lang (seen_in domain (rows_named s.now)) unit_of) where
    -- the row that is seen as the unit
    record IsUnit (row unit : Row) : Type 0 where
      there : Has units unit
      passes : is_its row unit ≡ true
      seen : unit_seen unit ≡ unit_of (entry_seen row)

    unit_there : (row : Row) → Has entries row → has_text 1 domain row ≡ true → (unit : Row) × IsUnit row unit
    unit_there row there own =
        let listed = to_seen (has_text 1 domain) entry_seen entries row there own in
        let u = from_seen (has_text 1 domain) unit_seen units (unit_of (entry_seen row)) (are.there (entry_seen row) listed) in
        let keyed = are.keyed (entry_seen row) listed in
        let of_lang : text_at 1 (unit_of (entry_seen row)) ≡ lang = cc in
        let of_key : text_at 2 (unit_of (entry_seen row)) ≡ text_at 3 row = cc in
        let lang_is : text_at 2 u.0 ≡ lang = ap (text_at 1) (sym u.3) ∙ of_lang in
        let key_is : text_at 3 u.0 ≡ text_at 3 row = ap (text_at 2) (sym u.3) ∙ of_key in
        let on_lang : has_text 2 lang u.0 ≡ true = rw lang_is (text_ties_itself lang) in
        let on_key : has_text 3 (text_at 3 row) u.0 ≡ true = rw key_is (text_ties_itself (text_at 3 row)) in
        (u.0, record { there = u.1; passes = and_from _ _ u.2 (and_from _ _ on_key on_lang); seen = sym u.3 })

    only_it : (row unit : Row) → IsUnit row unit → (other : Row) → Has units other → is_its row other ≡ true → other ≡ unit
    only_it row unit is other listed passes =
        let mine = and_parts (has_text 1 domain unit) (has_text 3 (text_at 3 row) unit && has_text 2 lang unit) is.passes in
        let more = and_parts (has_text 3 (text_at 3 row) unit) (has_text 2 lang unit) mine.1 in
        let its = and_parts (has_text 1 domain other) (has_text 3 (text_at 3 row) other && has_text 2 lang other) passes in
        let its_more = and_parts (has_text 3 (text_at 3 row) other) (has_text 2 lang other) its.1 in
        let first = texts_are_one (text_at 1 other) domain its.0 ∙ sym (texts_are_one (text_at 1 unit) domain mine.0) in
        let second = texts_are_one (text_at 2 other) lang its_more.1 ∙ sym (texts_are_one (text_at 2 unit) lang more.1) in
        let third = texts_are_one (text_at 3 other) (text_at 3 row) its_more.0 ∙ sym (texts_are_one (text_at 3 unit) (text_at 3 row) more.0) in
        one_d_unit s.now ready.schema ready.sound apart other unit listed is.there (λ i. first i ∷ second i ∷ third i ∷ [])

    one : (row unit : Row) → IsUnit row unit → filter (is_its row) units ≡ unit ∷ []
    one row unit is = one_passing (is_its row) units unit apart.once is.there is.passes (only_it row unit is)

    partner_is : (row : Row) → Has entries row → has_text 1 domain row ≡ true → unit_seen (partner row) ≡ unit_of (entry_seen row)
    partner_is row there own = let u = unit_there row there own in ap (λ l. unit_seen (get_or l 0 [])) (one row u.0 u.1) ∙ u.1.seen

    goes_with : (row : Row) → Has entries row → filter (pass params message_tests row) units ≡ cond (has_text 1 domain row) (partner row ∷ []) []
    goes_with row there = by (has_text 1 domain row) refl
      where
        by : (b : Bool) → has_text 1 domain row ≡ b → filter (pass params message_tests row) units ≡ cond b (partner row ∷ []) []
        by true own =
            let u = unit_there row there own in
            filtered_same (pass params message_tests row) (is_its row) units (same_tests row there own) ∙ one row u.0 u.1 ∙ ap (λ l. get_or l 0 [] ∷ []) (sym (one row u.0 u.1))
        by false other = none_passing (pass params message_tests row) units
            (λ unit listed. passes_is row unit there listed ∙ third_false (has_text 1 (text_at 1 row) unit) (has_text 3 (text_at 3 row) unit) (has_text 1 domain row) (has_text 2 lang unit) other)

    -- an answer of the query shows the messages
    messages_shown : (rows : List Row) → IsAnswer (messages_query layout) (overlay s.now.trees []) params rows → ShowsMessagesIn unit_of (seen_in domain (rows_named s.now)) rows
    messages_shown rows answer =
        let template_tree = (placed layout d_template_table).tree in
        let unit_tree = (placed layout d_unit_table).tree in
        let trees = overlay s.now.trees [] in
        let one_in : (row : Row) → Has (trees template_tree) row → filter (pass params message_tests row) (trees unit_tree) ≡ cond (has_text 1 domain row) (partner row ∷ []) [] =
        λ row there. ap (filter (pass params message_tests row)) units_read ∙ goes_with row (subst (λ l. Has l row) entries_read there) in
        record {
          all = subst (λ l. IsPermutation l rows)
              (ap (λ l. map (λ row. show params shown_terms row (partner row)) (filter (has_text 1 domain) l)) entries_read
              ∙ mapped_seen (λ row. show params shown_terms row (partner row)) (λ row. columns entry_places row ++ columns unit_places (unit_of row)) entry_seen (filter (has_text 1 domain) entries)
              (λ row there. let was = has_filtered (has_text 1 domain) entries row there in ap (λ unit. columns entry_places (entry_seen row) ++ columns unit_places unit) (partner_is row was.0 was.1)))
              (joined_permuted template_tree unit_tree message_tests shown_terms (2 ∷ []) trees params (has_text 1 domain) partner one_in rows answer);
          in_order = joined_in_order template_tree unit_tree message_tests shown_terms (2 ∷ []) trees params (has_text 1 domain) partner one_in rows answer (by_column 5) (λ r t in_r in_t. refl);
        }

    pub messages_all : (rows : List Row) → Shown messages_text params s s rows → ShowsMessagesIn unit_of (seen_in domain (rows_named s.now)) rows
    messages_all rows h = messages_shown rows ((reads_as messages_text params s s (schema_of layout) ready.schema.1 _ (messages_are layout).command (messages_are layout).plain (messages_are layout).own_tables rows h).answer Null)

    pub messages_begun : (rows : List Row) → Begins messages_text params s rows → (tail : List Row) × ShowsMessagesIn unit_of (seen_in domain (rows_named s.now)) (rows ++ tail)
    messages_begun rows h =
        let read = begins_as messages_text params s s (schema_of layout) ready.schema.1 _ (messages_are layout).command (messages_are layout).plain (messages_are layout).own_tables rows h in
        (read.1.0, messages_shown (rows ++ read.1.0) (read.1.1 Null))

pub messages_plain : (s : State) → IsReadyFor by_domain s → IsPlain (understood s.now.schema messages_text)
messages_plain s ready = subst (λ t. IsPlain (understood t messages_text)) (sym ready.schema.1) (messages_are ready.schema.0).plain
