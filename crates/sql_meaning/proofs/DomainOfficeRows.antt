-- The rows that a domain sees are as a schema asks of rows by their names, as those of tables without a column for a domain are.
use Rattle.std.proofs.Common.{◌≡◌, inl, inr, ℤ, pos, List, [], ◌∷◌, codes, map, filter, Bool, true, false, not, cond, refl, sym, ap, subst, ◌∙◌}
use Rattle.std.proofs.lemmas.Bool.{and_parts, false_from_ne_true}
use Rattle.std.specs.declared.cmp.Ordering.TheVariants.{Equal}
use Rattle.std.specs.Ordering.{is_eq, is_ge, is_le, int_cmp}
use Rattle.std.specs.Cmp.{Equal-is, tied_itself}
use Rattle.std.specs.FinMap.{int_cmp-IsAntisymmetric}
use Rattle.sqlite.specs.declared.types.Value.TheVariants.{Int, Text as Words}
use Rattle.sqlite.specs.Order.{Row, column, value_cmp}
use Rattle.sqlite.specs.Tree.{rowid}
use Rattle.sqlite.specs.Effect.{Database}
use Rattle.sqlite.specs.Ops.{binary}
use Rattle.sqlite.specs.Term.{eval}
use Rattle.sqlite_sql.specs.Ops.{is_false}
use Rattle.sqlite_value.specs.Keys.{plain, first_key}
use Rattle.sqlite_value.proofs.OrderLemmas.{value_cmp-Int, value_cmp_total}
use Rattle.sqlite_schema.specs.Rules.{agree}
use Rattle.sqlite_schema.specs.declared.schema.Constraint.TheVariants.{Check}
use Rattle.sqlite_trees.proofs.ListLemmas.{all-map}
use Rattle.sqlite_rules.specs.Lists.{Has}
use Rattle.sqlite_rules.proofs.ListLemmas.{all_has, all_from, has_filtered, some_has}
use Rattle.sql_laws.specs.ApartRows.{AreOnce}
use Rattle.sql_laws.specs.RowMaps.{OneEach}
use Rattle.sql_laws.proofs.Comparisons.{texts_compared}
use Rattle.sql_laws.proofs.RowMaps.{texts_are_one}
use Rattle.po_text.specs.Texts.{Text}
use Rattle.sql_schema.specs.Inside.{AreOfficeTablesOf}
use Rattle.sql_schema.specs.Keys.{text_at, first_text, has_text, row_number}
use Rattle.sql_schema.specs.Layouts.{by_domain, rows_named}
use Rattle.sql_schema.specs.Schema.{is_between, d_unit_table}
use Rattle.sql_schema.specs.SeenRows.{rows_seen, entry_seen, unit_seen, suggestion_seen, seen_in}
use Rattle.sql_schema.proofs.DomainsSeen.{is_text}
use Rattle.sql_schema.proofs.DomainParents.{d_suggestion_on_unit, d_vote_on_suggestion}
use Rattle.sql_schema.proofs.DomainRows.{one_domain_name, one_d_entry_place, d_entry_places, d_unit_texts, d_suggestion_units, d_suggestion_texts, d_suggestion_places, d_vote_texts}
use Rattle.sql_schema.proofs.Layouts.{d_unit_placed}
use Rattle.sql_schema.proofs.TextKeys.{holds_int, passes_rule}
use Rattle.sql_schema.proofs.SeenRows.{from_seen, to_seen}
use Rattle.sql_meaning.specs.RowKeys.{HoldsIntegers, AreTypedRows, AreOfficeRows}
use Rattle.sql_meaning.specs.Values.{integer_at}
use Rattle.sql_meaning.proofs.DomainKeys.{are_keyed_rows}
use Rattle.sql_meaning.proofs.OfficeRows.{whole, second_holds}
use Rattle.sql_meaning.proofs.Rowids.{integer_is}

-- ---- rows that are seen stand once where those behind them do

module _ (test : Row → Bool) (seen : Row → Row) where
  pub once_seen : (rows : List Row) → AreOnce rows
      → ((r s : Row) → Has rows r → Has rows s → test r ≡ true → test s ≡ true → is_eq (value_cmp (rowid (seen r)) (rowid (seen s))) ≡ true → r ≡ s) → AreOnce (rows_seen test seen rows)
  once_seen [] up apart = tt
  once_seen (row ∷ rows) up apart = by (once_seen rows up.1 (λ r s in_r in_s. apart r s (inr in_r) (inr in_s))) (test row) refl
    where
      by : AreOnce (rows_seen test seen rows) → (b : Bool) → test row ≡ b → AreOnce (map seen (cond b (row ∷ filter test rows) (filter test rows)))
      by rest false fails = rest
      by rest true passes = (
        all-map (λ s. is_eq (value_cmp (rowid (seen row)) (rowid s)) ≡ false) seen (filter test rows) (all_from (λ s. is_eq (value_cmp (rowid (seen row)) (rowid (seen s))) ≡ false) (filter test rows) differs),
        rest,
      )
        where
          differs : (s : Row) → Has (filter test rows) s → is_eq (value_cmp (rowid (seen row)) (rowid (seen s))) ≡ false
          differs s there = false_from_ne_true _ (λ tied.
              let f = has_filtered test rows s there in
              let same : row ≡ s = apart row s (inl refl) (inr f.0) passes f.1 tied in
              let differ : is_eq (value_cmp (rowid row) (rowid s)) ≡ false = all_has (λ x. is_eq (value_cmp (rowid row) (rowid x)) ≡ false) rows s up.0 f.0 in
              let itself : value_cmp (rowid row) (rowid s) ≡ Equal = subst (λ x. value_cmp (rowid row) (rowid x) ≡ Equal) same (tied_itself value_cmp_total (rowid row)) in
              cc)

same_int : (m n : ℤ) → is_eq (value_cmp (Int m) (Int n)) ≡ true → m ≡ n
same_int m n tied = int_cmp-IsAntisymmetric m n ((Equal-is _).0 (ap is_eq (sym (value_cmp-Int m n)) ∙ tied))

at_most : (row : Row) (n : ℤ) → column row 6 ≡ Int n → not (is_false (eval (is_between 6 (pos 0) (pos 3)) ([] ∷ row ∷ []))) ≡ true → is_le (int_cmp n (pos 3)) ≡ true
unfolding binary lib.Ieee.is_nan lib.Ieee.lt
at_most row n is h = ap is_le (sym (value_cmp-Int n (pos 3))) ∙ second_holds (is_ge (value_cmp (Int n) (Int (pos 0)))) (is_le (value_cmp (Int n) (Int (pos 3)))) (rw is at h)

-- columns of two rows, as a key compares them
agreed_one : (u s : Row) (a b : Text) → column u 1 ≡ Words a → column s 1 ≡ Words b → agree plain (1 ∷ []) u (1 ∷ []) s ≡ true → a ≡ b
unfolding first_key
agreed_one u s a b u1 s1 agreed =
    let here = rw (u1, s1, texts_compared a b) at agreed in
    texts_are_one a b (and_parts _ _ here).0

agreed_three : (u s : Row) (a b p q x y : Text) → column u 1 ≡ Words a → column s 2 ≡ Words b → column u 2 ≡ Words p → column s 3 ≡ Words q → column u 3 ≡ Words x → column s 4 ≡ Words y
    → agree plain (1 ∷ 2 ∷ 3 ∷ []) u (2 ∷ 3 ∷ 4 ∷ []) s ≡ true → (a ≡ b) × (p ≡ q) × (x ≡ y)
unfolding first_key
agreed_three u s a b p q x y u1 s2 u2 s3 u3 s4 agreed =
    let here = rw (u1, s2, u2, s3, u3, s4, texts_compared a b, texts_compared p q, texts_compared x y) at agreed in
    let parts = and_parts _ _ here in
    let rest = and_parts _ _ parts.1 in
    (texts_are_one a b parts.0, texts_are_one p q rest.0, texts_are_one x y (and_parts _ _ rest.1).0)

module _ (db : Database) (ready : AreOfficeTablesOf by_domain db) where
  -- no two domains have one name
  pub one_domain_each : OneEach first_text (rows_named db (codes "domain"))
  one_domain_each = one_domain_name db ready.schema ready.sound (ready.tables (codes "domain") refl)

  -- a vote is on a suggestion, of whatever domain
  pub on_suggestion : (v : Row) → Has (rows_named db (codes "d_vote")) v → (s : Row) × Has (rows_named db (codes "d_suggestion")) s × (first_text v ≡ first_text s)
  on_suggestion v there =
      let it = some_has (λ parent. agree plain (1 ∷ []) parent (1 ∷ []) v) (rows_named db (codes "d_suggestion")) (d_vote_on_suggestion db ready.schema ready.sound v there) in
      (it.0, it.1, sym (agreed_one it.0 v (first_text it.0) (first_text v) (d_suggestion_texts.0 db ready.schema ready.sound it.0 it.1) (d_vote_texts.0 db ready.schema ready.sound v there) it.2))

  on_unit : (s : Row) → Has (rows_named db (codes "d_suggestion")) s
      → (u : Row) × Has (rows_named db (codes "d_unit")) u × (text_at 1 u ≡ text_at 2 s) × (text_at 2 u ≡ text_at 3 s) × (text_at 3 u ≡ text_at 4 s)
  on_unit s there =
      let it = some_has (λ parent. agree plain (1 ∷ 2 ∷ 3 ∷ []) parent (2 ∷ 3 ∷ 4 ∷ []) s) (rows_named db (codes "d_unit")) (d_suggestion_on_unit db ready.schema ready.sound s there) in
      let same = agreed_three it.0 s _ _ _ _ _ _ (d_unit_texts.0 db ready.schema ready.sound it.0 it.1) (d_suggestion_units.0 db ready.schema ready.sound s there)
      (d_unit_texts.1.0 db ready.schema ready.sound it.0 it.1) (d_suggestion_units.1.0 db ready.schema ready.sound s there)
      (d_unit_texts.1.1.0 db ready.schema ready.sound it.0 it.1) (d_suggestion_units.1.1.0 db ready.schema ready.sound s there) it.2 in
      (it.0, it.1, same.0, same.1, same.2)

  states : (row : Row) → Has (rows_named db (codes "d_unit")) row → column row 6 ≡ Int (integer_at 6 row)
  states row there = whole 6 row (holds_int d_unit_table d_unit_placed 5 (codes "state") refl db ready.schema ready.sound row there refl)

  module _ (domain : Text) where
    has_unit : (s : Row) → Has (seen_in domain (rows_named db) (codes "suggestion")) s
        → (u : Row) × Has (seen_in domain (rows_named db) (codes "unit")) u × (text_at 1 u ≡ text_at 2 s) × (text_at 2 u ≡ text_at 3 s)
    has_unit x there =
        let r = from_seen (has_text 2 domain) suggestion_seen (rows_named db (codes "d_suggestion")) x there in
        let u = on_unit r.0 r.1 in
        let own : text_at 1 u.0 ≡ domain = u.2 ∙ texts_are_one (text_at 2 r.0) domain r.2 in (
          unit_seen u.0,
          to_seen (has_text 1 domain) unit_seen (rows_named db (codes "d_unit")) u.0 u.1 (is_text 1 domain u.0 own),
          u.3 ∙ ap (text_at 2) (sym r.3),
          u.4 ∙ ap (text_at 3) (sym r.3),
        )

    entry_places : HoldsIntegers 0 (seen_in domain (rows_named db) (codes "template"))
    entry_places x there =
        let r = from_seen (has_text 1 domain) entry_seen (rows_named db (codes "d_template")) x there in
        subst (λ y. column y 0 ≡ Int (integer_at 0 y)) (sym r.3) (whole 2 r.0 (d_entry_places db ready.schema ready.sound r.0 r.1))

    -- what a column of the units that are seen holds is what a column of those behind them does
    of_unit : (P : Row → Type 0) → ((row : Row) → Has (rows_named db (codes "d_unit")) row → P (unit_seen row)) → (x : Row) → Has (seen_in domain (rows_named db) (codes "unit")) x → P x
    of_unit P each x there = let r = from_seen (has_text 1 domain) unit_seen (rows_named db (codes "d_unit")) x there in subst P (sym r.3) (each r.0 r.1)

    of_suggestion : (P : Row → Type 0) → ((row : Row) → Has (rows_named db (codes "d_suggestion")) row → P (suggestion_seen row)) → (x : Row) → Has (seen_in domain (rows_named db) (codes "suggestion")) x → P x
    of_suggestion P each x there = let r = from_seen (has_text 2 domain) suggestion_seen (rows_named db (codes "d_suggestion")) x there in subst P (sym r.3) (each r.0 r.1)

    typed : AreTypedRows (seen_in domain (rows_named db))
    typed = record {
      policy_numbers = λ row there. integer_is (row_number row) ((ready.tables (codes "policy") refl).ints row there);
      entry_places = entry_places;
      unit_states = of_unit (λ y. column y 5 ≡ Int (integer_at 5 y)) states;
      unit_revisions = of_unit (λ y. column y 7 ≡ Int (integer_at 7 y)) (λ row there. whole 8 row (holds_int d_unit_table d_unit_placed 7 (codes "revision") refl db ready.schema ready.sound row there refl));
      last_state = of_unit (λ y. is_le (int_cmp (integer_at 5 y) (pos 3)) ≡ true)
          (λ row there. at_most row (integer_at 6 row) (states row there) (and_parts _ _ (passes_rule d_unit_table d_unit_placed Check db ready.schema ready.sound row there)).0);
      suggestion_langs = of_suggestion (λ y. column y 2 ≡ Words (text_at 2 y)) (d_suggestion_units.1.0 db ready.schema ready.sound);
      suggestion_keys = of_suggestion (λ y. column y 3 ≡ Words (text_at 3 y)) (d_suggestion_units.1.1.0 db ready.schema ready.sound);
      suggestion_places = of_suggestion (λ y. column y 4 ≡ Int (integer_at 4 y)) (λ row there. whole 5 row (d_suggestion_places db ready.schema ready.sound row there));
    }

    entries_once : AreOnce (seen_in domain (rows_named db) (codes "template"))
    entries_once = once_seen (has_text 1 domain) entry_seen (rows_named db (codes "d_template")) (ready.tables (codes "d_template") refl).once apart
      where
        apart : (r s : Row) → Has (rows_named db (codes "d_template")) r → Has (rows_named db (codes "d_template")) s → has_text 1 domain r ≡ true → has_text 1 domain s ≡ true
            → is_eq (value_cmp (column r 2) (column s 2)) ≡ true → r ≡ s
        apart r s in_r in_s own_r own_s tied =
            let names : text_at 1 r ≡ text_at 1 s = texts_are_one (text_at 1 r) domain own_r ∙ sym (texts_are_one (text_at 1 s) domain own_s) in
            let of_r = d_entry_places db ready.schema ready.sound r in_r in
            let of_s = d_entry_places db ready.schema ready.sound s in_s in
            let places = same_int _ _ ((λ i. is_eq (value_cmp (sym of_r i) (sym of_s i))) ∙ tied) in
            let place : column r 2 ≡ column s 2 = of_r ∙ ap Int places ∙ sym of_s in
            one_d_entry_place db ready.schema ready.sound (ready.tables (codes "d_template") refl) r s in_r in_s (λ i. (names i, place i))

    suggestions_once : AreOnce (seen_in domain (rows_named db) (codes "suggestion"))
    suggestions_once =
        once_seen (has_text 2 domain) suggestion_seen (rows_named db (codes "d_suggestion")) (ready.tables (codes "d_suggestion") refl).once
        (λ r s in_r in_s own_r own_s tied. (ready.tables (codes "d_suggestion") refl).apart r s in_r in_s tied)

    pub domain_rows : AreOfficeRows (seen_in domain (rows_named db))
    domain_rows = record { keyed = are_keyed_rows db ready domain; typed = typed; has_unit = has_unit; entries_once = entries_once; suggestions_once = suggestions_once }
