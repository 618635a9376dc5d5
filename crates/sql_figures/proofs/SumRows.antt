-- Sums of votes that are what counting gives still are, where a unit's suggestions are taken away, where a suggestion is added with its sum and the votes
-- on it, and where the votes on one change with its sum.
use Rattle.std.proofs.Common.{◌≡◌, ◌≢◌, ℤ, inl, inr, List, [], ◌∷◌, filter, map, Bool, true, false, codes, refl, sym, ap, subst, ◌∙◌}
use Rattle.std.specs.FinMap as maps
use Rattle.std.specs.FinMap.{entries}
use Rattle.sqlite.specs.declared.types.Value.TheVariants.{Int, Text as Words}
use Rattle.sqlite.specs.Order.{Row, column}
use Rattle.sqlite.specs.Effect.{Database}
use Rattle.sqlite_rules.specs.Lists.{Has}
use Rattle.sqlite_rules.proofs.ListLemmas.{has_filtered, has_kept}
use Rattle.sql_laws.specs.RowMaps.{OneEach}
use Rattle.sql_laws.proofs.RemovedRows.{from_mapped, to_mapped}
use Rattle.sql_laws.proofs.RowMaps.{texts_are_one}
use Rattle.po_text.specs.Texts.{Text, text_cmp}
use Rattle.units.specs.Orders.{text_total, text_IsAntisymmetric}
use Rattle.units.specs.Units.{vote_sum}
use Rattle.units.specs.declared.votes.VoteValue.{VoteValue}
use Rattle.sql_schema.specs.Inside.{AreOfficeTablesOf, PutsRow, HoldsValues}
use Rattle.sql_schema.specs.Keys.{text_at, first_text, first_texts, key_texts, has_text}
use Rattle.sql_schema.specs.Layouts.{by_domain, NamedRows, rows_named, SparesOthers}
use Rattle.sql_schema.proofs.DomainRows.{one_d_number, one_d_vote}
use Rattle.sql_schema.proofs.DomainsSeen.{is_text}
use Rattle.sql_schema.proofs.Layouts.{names_differ}
use Rattle.sql_statements.specs.Added.{AddsRow}
use Rattle.sql_statements.specs.DomainCleared.{is_on_domain_unit, IsOfUnit, ClearsDomainUnit}
use Rattle.sql_meaning.specs.Cells.{vote_cells}
use Rattle.sql_meaning.specs.Values.{vote_at}
use Rattle.sql_meaning.specs.Written.{PutsRows}
use Rattle.sql_meaning.proofs.DomainOfficeRows.{on_suggestion}
use Rattle.sql_meaning.proofs.MapEntries.{map_of-entries, map_of-agreeing}
use Rattle.sql_meaning.proofs.RowsInTurn.{ArePut, are_put}
use Rattle.sql_meaning.proofs.UnitValues.{vote_read_back}
use Rattle.sql_figures.proofs.VotesPut.{rows_beside, put_in_turn, voters_apart}
use Rattle.sql_figures.specs.KeptSums.{votes_among, HasSum, HaveSums}

-- ---- the same rows

pub sums_still : (old new : NamedRows) → new (codes "d_suggestion") ≡ old (codes "d_suggestion") → new (codes "d_vote") ≡ old (codes "d_vote") → new (codes "d_vote_sum") ≡ old (codes "d_vote_sum")
    → HaveSums old → HaveSums new
sums_still old new suggestions votes sums have s there =
    subst (λ (rows : List Row). HasSum rows (new (codes "d_vote_sum")) (first_text s)) (sym votes)
    (subst (λ (rows : List Row). HasSum (old (codes "d_vote")) rows (first_text s)) (sym sums) (have s (subst (λ (rows : List Row). Has rows s) suggestions there)))

-- ---- the votes on a suggestion, where those on others change

one_voter : (rows : List Row) (number : Text) → OneEach (key_texts (1 ∷ 2 ∷ [])) rows → OneEach (text_at 2) (filter (has_text 1 number) rows)
one_voter rows number one r s in_r in_s e =
    let of_r = has_filtered (has_text 1 number) rows r in_r in
    let of_s = has_filtered (has_text 1 number) rows s in_s in
    let first = texts_are_one (text_at 1 r) number of_r.1 ∙ sym (texts_are_one (text_at 1 s) number of_s.1) in
    one r s of_r.0 of_s.0 (λ i. first i ∷ e i ∷ [])

votes_same : (old new : List Row) (number : Text) → OneEach (key_texts (1 ∷ 2 ∷ [])) old → ((v : Row) → text_at 1 v ≡ number → Has new v → Has old v) → ((v : Row) → text_at 1 v ≡ number → Has old v → Has new v)
    → votes_among new number ≡ votes_among old number
votes_same old new number one only kept =
    map_of-agreeing text_cmp text_total text_IsAntisymmetric (text_at 2) (vote_at 3) (vote_at 3) (filter (has_text 1 number) old) (filter (has_text 1 number) new) (one_voter old number one)
    (λ v there. let it = has_filtered (has_text 1 number) new v there in has_kept (has_text 1 number) old v (only v (texts_are_one (text_at 1 v) number it.1) it.0) it.1)
    (λ v there. let it = has_filtered (has_text 1 number) old v there in has_kept (has_text 1 number) new v (kept v (texts_are_one (text_at 1 v) number it.1) it.0) it.1)
    (λ v there. refl)

-- ---- a unit's suggestions are taken away

module _ (old new : Database) (domain lang key : Text) (ready : AreOfficeTablesOf by_domain old) (clear : ClearsDomainUnit domain lang key old new) where
  abbrev were : NamedRows
  were = rows_named old

  abbrev are : NamedRows
  are = rows_named new

  -- what is of a suggestion that isn't on the unit isn't of the unit
  not_of_unit : (s : Row) → Has (were (codes "d_suggestion")) s → (is_on_domain_unit domain lang key s ≡ true → ⊥) → (row : Row) → first_text row ≡ first_text s → IsOfUnit were domain lang key row → ⊥
  not_of_unit s there off row same of =
      let one : of.0 ≡ s = one_d_number old ready.schema ready.sound (ready.tables (codes "d_suggestion") refl) of.0 s of.1 there (sym of.3 ∙ same) in
      off (subst (λ (x : Row). is_on_domain_unit domain lang key x ≡ true) one of.2)

  pub sums_cleared : HaveSums were → HaveSums are
  sums_cleared have s there =
      let was = clear.suggestions.only s there in
      let off : is_on_domain_unit domain lang key s ≡ true → ⊥ = λ on. let no = was.1 in cc in
      let it = have s was.0 in
      let votes = votes_same (were (codes "d_vote")) (are (codes "d_vote")) (first_text s) (one_d_vote old ready.schema ready.sound (ready.tables (codes "d_vote") refl))
      (λ v of now. (clear.votes.only v now).0) (λ v of before. clear.votes.kept v before (not_of_unit s was.0 off v of)) in
      (it.0, clear.sums.kept it.0 it.1 (not_of_unit s was.0 off it.0 it.2), it.2, it.3 ∙ ap (λ m. Int (vote_sum m)) (sym votes))

-- ---- a suggestion is added, with its sum and the votes on it

module _ (old mid between new : Database) (number : Text) (votes : maps.FinMap text_cmp VoteValue) (ready : AreOfficeTablesOf by_domain old)
    (added : AddsRow (codes "d_suggestion") first_text (λ row. first_text row ≡ number) old mid)
    (summed : PutsRow (codes "d_vote_sum") first_text (HoldsValues (Words number ∷ Int (vote_sum votes) ∷ [])) mid between)
    (put : PutsRows (codes "d_vote") first_texts (map (vote_cells number) (entries votes)) (rows_named between) (rows_named new)) where
  -- the votes are put among those that there were
  votes_before : rows_named between (codes "d_vote") ≡ rows_named old (codes "d_vote")
  votes_before = summed.others (codes "d_vote") (names_differ refl) ∙ added.puts.others (codes "d_vote") (names_differ refl)

  are_votes : ArePut first_texts (map (vote_cells number) (entries votes)) (rows_named old (codes "d_vote")) (rows_named new (codes "d_vote"))
  are_votes = subst (λ (rows : List Row). ArePut first_texts (map (vote_cells number) (entries votes)) rows (rows_named new (codes "d_vote"))) votes_before
      (are_put first_texts (λ id cells. refl) (map (vote_cells number) (entries votes)) (rows_named between (codes "d_vote")) (rows_named new (codes "d_vote"))
      (voters_apart number votes) (put_in_turn (codes "d_vote") first_texts (map (vote_cells number) (entries votes)) (rows_named between) (rows_named new) put))

  sums_after : rows_named new (codes "d_vote_sum") ≡ rows_named between (codes "d_vote_sum")
  sums_after = rows_beside (codes "d_vote_sum") (codes "d_vote") first_texts (map (vote_cells number) (entries votes)) (rows_named between) (rows_named new) put (names_differ refl)

  suggestions_after : rows_named new (codes "d_suggestion") ≡ rows_named mid (codes "d_suggestion")
  suggestions_after =
      rows_beside (codes "d_suggestion") (codes "d_vote") first_texts (map (vote_cells number) (entries votes)) (rows_named between) (rows_named new) put (names_differ refl)
      ∙ summed.others (codes "d_suggestion") (names_differ refl)

  -- a vote that is put has the number and the voter of its cells
  vote_numbered : (v cells : Row) → Has (map (vote_cells number) (entries votes)) cells → HoldsValues cells v
      → (e : Text × VoteValue) × Has (entries votes) e × (text_at 1 v ≡ number) × (text_at 2 v ≡ e.0) × (vote_at 3 v ≡ e.1)
  vote_numbered v cells at holds =
      let it = from_mapped (vote_cells number) (entries votes) cells at in
      let own : HoldsValues (vote_cells number it.0) v = subst (λ (c : Row). HoldsValues c v) it.2 holds in
      (it.0, it.1, ap (text_at 1) own.1, ap (text_at 2) own.1, vote_read_back number it.0 v own)

  -- ---- on the new suggestion

  -- no vote had its number
  none_before : (v : Row) → Has (rows_named old (codes "d_vote")) v → text_at 1 v ≡ number → ⊥
  none_before v there of =
      let s = on_suggestion old ready v there in
      added.fresh s.0 s.1 (sym s.2 ∙ of ∙ sym added.puts.is_row)

  own_votes : votes_among (rows_named new (codes "d_vote")) number ≡ votes
  own_votes = map_of-entries text_cmp text_total text_IsAntisymmetric (text_at 2) (vote_at 3) (filter (has_text 1 number) (rows_named new (codes "d_vote"))) votes each all
    where
      each : (v : Row) → Has (filter (has_text 1 number) (rows_named new (codes "d_vote"))) v → (e : Text × VoteValue) × Has (entries votes) e × (text_at 2 v ≡ e.0) × (vote_at 3 v ≡ e.1)
      each v there =
          let it = has_filtered (has_text 1 number) (rows_named new (codes "d_vote")) v there in
          elim (are_votes.only v it.0) [
            | inl own ↦ let vote = vote_numbered v own.0 own.1 own.2 in (vote.0, vote.1, vote.3, vote.4)
            | inr before ↦ absurd (none_before v before (texts_are_one (text_at 1 v) number it.1))
          ]

      all : (e : Text × VoteValue) → Has (entries votes) e → (v : Row) × Has (filter (has_text 1 number) (rows_named new (codes "d_vote"))) v × (text_at 2 v ≡ e.0)
      all e at =
          let it = are_votes.here (vote_cells number e) (to_mapped (vote_cells number) (entries votes) e at) in
          (it.0, has_kept (has_text 1 number) (rows_named new (codes "d_vote")) it.0 it.1 (is_text 1 number it.0 (ap (text_at 1) it.2.1)), ap (text_at 2) it.2.1)

  -- ---- on another

  other_votes : (other : Text) → other ≢ number → votes_among (rows_named new (codes "d_vote")) other ≡ votes_among (rows_named old (codes "d_vote")) other
  other_votes other differ =
      votes_same (rows_named old (codes "d_vote")) (rows_named new (codes "d_vote")) other (one_d_vote old ready.schema ready.sound (ready.tables (codes "d_vote") refl)) only kept
    where
      only : (v : Row) → text_at 1 v ≡ other → Has (rows_named new (codes "d_vote")) v → Has (rows_named old (codes "d_vote")) v
      only v of there = elim (are_votes.only v there) [
        | inl own ↦ absurd (differ (sym of ∙ (vote_numbered v own.0 own.1 own.2).2))
        | inr before ↦ before
      ]

      kept : (v : Row) → text_at 1 v ≡ other → Has (rows_named old (codes "d_vote")) v → Has (rows_named new (codes "d_vote")) v
      kept v of there = are_votes.kept v there (λ cells at e.
          let it = from_mapped (vote_cells number) (entries votes) cells at in
          let keys : number ∷ it.0.0 ∷ [] ≡ text_at 1 v ∷ text_at 2 v ∷ [] = sym (ap (λ (c : Row). text_at 0 c ∷ text_at 1 c ∷ []) it.2) ∙ e in
          let same : number ≡ text_at 1 v = cc in
          differ (sym of ∙ sym same))

  -- ---- all of them

  own_sum : HasSum (rows_named new (codes "d_vote")) (rows_named new (codes "d_vote_sum")) number
  own_sum = (
    summed.row,
    subst (λ (rows : List Row). Has rows summed.row) (sym sums_after) summed.put.here,
    ap (text_at 1) summed.is_row.1,
    ap (λ (row : Row). column row 2) summed.is_row.1 ∙ ap (λ m. Int (vote_sum m)) (sym own_votes),
  )

  pub sums_added : HaveSums (rows_named old) → HaveSums (rows_named new)
  sums_added have s there = elim (added.puts.put.only s (subst (λ (rows : List Row). Has rows s) suggestions_after there)) [
    | inl is ↦ subst (HasSum (rows_named new (codes "d_vote")) (rows_named new (codes "d_vote_sum"))) (sym (ap first_text is ∙ added.puts.is_row)) own_sum
    | inr was ↦
        let differ : first_text s ≢ number = λ e. was.1 (e ∙ sym added.puts.is_row) in
        let it = have s was.0 in
        let there_still = subst (λ (rows : List Row). Has rows it.0) (sym (added.puts.others (codes "d_vote_sum") (names_differ refl))) it.1 in
        let kept = summed.put.kept it.0 there_still (λ e. differ (sym it.2 ∙ (e ∙ ap (text_at 1) summed.is_row.1))) in
        (it.0, subst (λ (rows : List Row). Has rows it.0) (sym sums_after) kept, it.2, it.3 ∙ ap (λ m. Int (vote_sum m)) (sym (other_votes (first_text s) differ)))
  ]

-- ---- the votes on one suggestion change, and then its sum is put

module _ (old mid new : Database) (number : Text) (sum : ℤ) (spares : SparesOthers (codes "d_vote") (rows_named old) (rows_named mid))
    (others : (other : Text) → other ≢ number → votes_among (rows_named mid (codes "d_vote")) other ≡ votes_among (rows_named old (codes "d_vote")) other)
    (its : sum ≡ vote_sum (votes_among (rows_named mid (codes "d_vote")) number))
    (summed : PutsRow (codes "d_vote_sum") first_text (HoldsValues (Words number ∷ Int sum ∷ [])) mid new) where
  votes_now : rows_named new (codes "d_vote") ≡ rows_named mid (codes "d_vote")
  votes_now = summed.others (codes "d_vote") (names_differ refl)

  suggestions_still : rows_named new (codes "d_suggestion") ≡ rows_named old (codes "d_suggestion")
  suggestions_still = summed.others (codes "d_suggestion") (names_differ refl) ∙ spares (codes "d_suggestion") (names_differ refl)

  abbrev HasSumNow : Text → Type 0
  HasSumNow = HasSum (rows_named new (codes "d_vote")) (rows_named new (codes "d_vote_sum"))

  sum_put : HasSumNow number
  sum_put = (
    summed.row,
    summed.put.here,
    ap (text_at 1) summed.is_row.1,
    ap (λ (row : Row). column row 2) summed.is_row.1 ∙ ap Int its ∙ ap (λ (votes : List Row). Int (vote_sum (votes_among votes number))) (sym votes_now),
  )

  sum_stays : (other : Text) → other ≢ number → HasSum (rows_named old (codes "d_vote")) (rows_named old (codes "d_vote_sum")) other → HasSumNow other
  sum_stays other differ (row, there, of, is) =
      let still = subst (λ (rows : List Row). Has rows row) (sym (spares (codes "d_vote_sum") (names_differ refl))) there in
      let kept = summed.put.kept row still (λ e. differ (sym of ∙ (e ∙ ap (text_at 1) summed.is_row.1))) in
      (row, kept, of, is ∙ ap (λ m. Int (vote_sum m)) (sym (ap (λ (votes : List Row). votes_among votes other) votes_now ∙ others other differ)))

  pub sums_voted : HaveSums (rows_named old) → HaveSums (rows_named new)
  sums_voted have s there = by (has_text 1 number s) refl
    where
      by : (b : Bool) → has_text 1 number s ≡ b → HasSumNow (first_text s)
      by true e = subst HasSumNow (sym (texts_are_one (first_text s) number e)) sum_put
      by false e = sum_stays (first_text s) (λ is. let tied = is_text 1 number s is in cc) (have s (subst (λ (rows : List Row). Has rows s) suggestions_still there))
