-- What the rows that show suggestions or sums tell of the sums that are kept of votes.
use Rattle.std.proofs.Common.{◌≡◌, ◌⊎◌, ◌≤◌, ◌+◌, ℕ, ℤ, pos, negsuc, zero, suc, List, [], ◌∷◌, map, filter, length, Bool, true, false, not, Some, inl, inr, Result, Ok, Err, IfErr, refl, sym, ap, subst, ◌∙◌, codes, arith}
use Rattle.std.specs.Prelude.{◌-ℤ◌, ◌+ℤ◌, count_by, cond, min}
use Rattle.std.specs.FinMap as maps
use Rattle.std.specs.FinMap.{len-entries}
use Rattle.std.specs.List.{list_all}
use Rattle.std.specs.Result.{IsErrAnd}
use Rattle.std.specs.Cmp.Lexicographic.{nat_list_cmp_total}
use Rattle.std.proofs.lemmas.Bool.{and_parts}
use Rattle.std.proofs.lemmas.List.{length-map}
use Rattle.std.proofs.lemmas.List.Sorted.{IsPermutation-sym}
use Rattle.std.proofs.lemmas.List.Sums.{length-filter, count_by-le-length, sum_by-cons}
use Rattle.sqlite.specs.declared.types.Value.{Value}
use Rattle.sqlite.specs.declared.types.Value.TheVariants.{Null, Int, Real, Text as Words, Blob}
use Rattle.sqlite.specs.Effect.{Database}
use Rattle.sqlite.specs.Order.{Row, column}
use Rattle.sqlite_rules.specs.Lists.{Has}
use Rattle.sqlite_rules.proofs.ListLemmas.{has_filtered, has_kept, test_has, test_from}
use Rattle.sql_laws.proofs.RemovedRows.{from_mapped, to_mapped, has_permuted}
use Rattle.sql_laws.proofs.RowMaps.{texts_are_one}
use Rattle.sql_streams.specs.RowQueries.{first_column}
use Rattle.sql_streams.specs.Walks.{CutShort}
use Rattle.sql_streams.specs.declared.walking.WalkFault.{WalkFault}
use Rattle.sql_streams.specs.declared.walking.WalkFault.TheVariants.{NoRows, NoSink}
use Rattle.po_text.specs.Texts.{Text, text_cmp}
use Rattle.rule_tests.proofs.UnitTests.{Decides-le}
use Rattle.units.specs.Ballots.{is_for}
use Rattle.units.specs.Limits.{vote_limit}
use Rattle.units.specs.Units.{vote_sum}
use Rattle.units.specs.declared.votes.VoteValue.{VoteValue}
use Rattle.sql_schema.specs.Inside.{AreOfficeTablesOf}
use Rattle.sql_schema.specs.Keys.{text_at, first_text, has_text, columns}
use Rattle.sql_schema.specs.Layouts.{by_domain, NamedRows, rows_named}
use Rattle.sql_schema.proofs.DomainsSeen.{is_text}
use Rattle.sql_schema.proofs.Queries.{filtered_same}
use Rattle.sql_statements.specs.SummedVotes.{is_integer, votes_counted, most_counted, summed, sum_counted, ShowsSummed}
use Rattle.sql_meaning.specs.Values.{vote_at}
use Rattle.sql_meaning.proofs.Books.{same_texts}
use Rattle.sql_meaning.proofs.UniqueKeys.{one_voter}
use Rattle.sql_decoding.specs.RowTests.{holds_integer, is_vote, is_vote_row}
use Rattle.sql_decoding.specs.declared.faults.Failure.{Failure}
use Rattle.sql_figures.specs.KeptSums.{votes_among, HasSum, HaveSums}
use Rattle.sql_layouts.specs.RisingRows.{integer_in}
use Rattle.sql_adoption.specs.SumsKept.{has_few_votes, is_kept_sum, HaveFewVotes, HaveToldFew, HaveToldSums, VotesStand}
use Rattle.sql_adoption.specs.Reading.{IsOfWalk}
use Rattle.sql_adoption.specs.declared.faults.OpenFault.{OpenFault}
use Rattle.sql_adoption.specs.declared.faults.OpenFault.TheVariants.{Memory, Disk, Refused}
use Rattle.sql_adoption.proofs.CountedValues.{once_filtered, filtered_both, passing}
use Rattle.sql_adoption.proofs.FigureTests.{integer_is, sum_told}
use Rattle.sql_adoption.proofs.FiguresTold.{keyed_by_domain}

-- ---- a vote's value

-- the value of a vote is 1 or -1
module _ (row : Row) where
  for_told : (v : Value) → column row 3 ≡ v → holds_integer is_vote 1 (columns (2 ∷ 3 ∷ 1 ∷ []) row) ≡ true → is_for (vote_at 3 row) ≡ is_integer (pos 1) (column row 3)
  for_told (Int (pos zero)) e h = absurd (let no = rw e at h in cc)
  for_told (Int (pos (suc zero))) e h = rw e refl
  for_told (Int (pos (suc (suc n)))) e h = absurd (let no = rw e at h in cc)
  for_told (Int (negsuc zero)) e h = rw e refl
  for_told (Int (negsuc (suc n))) e h = absurd (let no = rw e at h in cc)
  for_told Null e h = absurd (let no = rw e at h in cc)
  for_told (Real x) e h = absurd (let no = rw e at h in cc)
  for_told (Words t) e h = absurd (let no = rw e at h in cc)
  for_told (Blob b) e h = absurd (let no = rw e at h in cc)

  against_told : (v : Value) → column row 3 ≡ v → holds_integer is_vote 1 (columns (2 ∷ 3 ∷ 1 ∷ []) row) ≡ true → not (is_for (vote_at 3 row)) ≡ is_integer (negsuc 0) (column row 3)
  against_told (Int (pos zero)) e h = absurd (let no = rw e at h in cc)
  against_told (Int (pos (suc zero))) e h = rw e refl
  against_told (Int (pos (suc (suc n)))) e h = absurd (let no = rw e at h in cc)
  against_told (Int (negsuc zero)) e h = rw e refl
  against_told (Int (negsuc (suc n))) e h = absurd (let no = rw e at h in cc)
  against_told Null e h = absurd (let no = rw e at h in cc)
  against_told (Real x) e h = absurd (let no = rw e at h in cc)
  against_told (Words t) e h = absurd (let no = rw e at h in cc)
  against_told (Blob b) e h = absurd (let no = rw e at h in cc)

-- ---- the first of some sums

first_of : (rows : List Row) (n : ℤ) → first_column 2 rows ≡ Int n → (row : Row) × Has rows row × (column row 2 ≡ Int n)
first_of [] n e = absurd cc
first_of (row ∷ rows) n e = (row, inl refl, e)

first_is : (rows : List Row) (n : ℤ) (row : Row) → Has rows row → ((r : Row) → Has rows r → column r 2 ≡ Int n) → first_column 2 rows ≡ Int n
first_is [] n row there alike = absurd there
first_is (r ∷ rows) n row there alike = alike r (inl refl)

small : (count : ℕ) → count ≤ vote_limit → min most_counted count ≡ count
small count few = omega arith

-- what SQL counts is few in all where the votes are
few_in_all : (f a : ℕ) → min most_counted f + min most_counted a ≤ vote_limit → f + a ≤ vote_limit
few_in_all f a few = omega arith

few_as_counted : (f a : ℕ) → f + a ≤ vote_limit → min most_counted f + min most_counted a ≤ vote_limit
few_as_counted f a few = omega arith

-- a vote is for or against
both_kinds : (ballots : List VoteValue) → count_by is_for ballots + count_by (λ b. not (is_for b)) ballots ≡ length ballots
both_kinds [] = refl
both_kinds (b ∷ ballots) =
    let yes : count_by is_for (b ∷ ballots) ≡ cond (is_for b) 1 0 + count_by is_for ballots = sum_by-cons (λ v. cond (is_for v) 1 0) b ballots in
    let no : count_by (λ v. not (is_for v)) (b ∷ ballots) ≡ cond (not (is_for b)) 1 0 + count_by (λ v. not (is_for v)) ballots = sum_by-cons (λ v. cond (not (is_for v)) 1 0) b ballots in
    (λ i. yes i + no i) ∙ one_kind (is_for b) (count_by is_for ballots) (count_by (λ v. not (is_for v)) ballots) (length ballots) (both_kinds ballots)
  where
    one_kind : (kind : Bool) (m n total : ℕ) → m + n ≡ total → (cond kind 1 0 + m) + (cond (not kind) 1 0 + n) ≡ suc total
    one_kind true m n total e = omega arith
    one_kind false m n total e = omega arith

-- ---- of one suggestion

module _ (db : Database) (ready : AreOfficeTablesOf by_domain db) (votes_stand : VotesStand db) where
  abbrev tables : NamedRows
  tables = rows_named db

  abbrev votes : List Row
  votes = tables (codes "d_vote")

  abbrev sums : List Row
  sums = tables (codes "d_vote_sum")

  module _ (s : Row) (there : Has (tables (codes "d_suggestion")) s) where
    abbrev number : Text
    number = first_text s

    abbrev own : List Row
    own = filter (has_text 1 number) votes

    abbrev ballots : maps.FinMap text_cmp VoteValue
    ballots = votes_among votes number

    stands : (vote : Row) → Has own vote → holds_integer is_vote 1 (columns (2 ∷ 3 ∷ 1 ∷ []) vote) ≡ true
    stands vote listed =
        let it : is_vote_row (columns (2 ∷ 3 ∷ 1 ∷ []) vote) ≡ true = votes_stand vote (has_filtered (has_text 1 number) votes vote listed).0 in
        (and_parts _ _ (and_parts _ _ it).1).1

    -- as many ballots pass a test as rows do whose value is this
    as_many : (test : VoteValue → Bool) (value : ℤ) → ((vote : Row) → Has own vote → test (vote_at 3 vote) ≡ is_integer value (column vote 3))
        → count_by test (maps.values ballots) ≡ votes_counted value number votes
    as_many test value told_so =
        sym (length-filter test (maps.values ballots))
        ∙ passing text_cmp nat_list_cmp_total same_texts (text_at 2) (vote_at 3) test own (once_filtered (has_text 1 number) votes (ready.tables (codes "d_vote") refl).once) (one_voter votes number (keyed_by_domain db ready).one_vote)
        ∙ ap length (filtered_same (λ vote. test (vote_at 3 vote)) (λ vote. is_integer value (column vote 3)) own told_so)
        ∙ sym (filtered_both (has_text 1 number) (λ vote. is_integer value (column vote 3)) votes)

    votes_for : count_by is_for (maps.values ballots) ≡ votes_counted (pos 1) number votes
    votes_for = as_many is_for (pos 1) (λ vote listed. for_told vote (column vote 3) refl (stands vote listed))

    against : count_by (λ b. not (is_for b)) (maps.values ballots) ≡ votes_counted (negsuc 0) number votes
    against = as_many (λ b. not (is_for b)) (negsuc 0) (λ vote listed. against_told vote (column vote 3) refl (stands vote listed))

    -- ---- few

    counted : maps.len ballots ≡ votes_counted (pos 1) number votes + votes_counted (negsuc 0) number votes
    counted =
        len-entries ballots ∙ sym (length-map (maps.entries ballots) (λ e. e.1)) ∙ sym (both_kinds (maps.values ballots)) ∙ (λ i. votes_for i + against i)

    has_few : has_few_votes (summed tables s) ≡ true → maps.len ballots ≤ vote_limit
    has_few e =
        let few = few_in_all (votes_counted (pos 1) number votes) (votes_counted (negsuc 0) number votes)
        ((Decides-le (min most_counted (votes_counted (pos 1) number votes) + min most_counted (votes_counted (negsuc 0) number votes)) vote_limit).0 e) in
        subst (λ n. n ≤ vote_limit) (sym counted) few

    shows_few : maps.len ballots ≤ vote_limit → has_few_votes (summed tables s) ≡ true
    shows_few few =
        (Decides-le (min most_counted (votes_counted (pos 1) number votes) + min most_counted (votes_counted (negsuc 0) number votes)) vote_limit).1
        (few_as_counted (votes_counted (pos 1) number votes) (votes_counted (negsuc 0) number votes) (subst (λ n. n ≤ vote_limit) counted few))

    -- ---- where they are, SQL counts them all

    module _ (all : maps.len ballots ≤ vote_limit) where
      few : (test : VoteValue → Bool) (count : ℕ) → count_by test (maps.values ballots) ≡ count → min most_counted count ≡ count
      few test count is =
          let some = count_by-le-length test (maps.values ballots) in
          let as_long = length-map (maps.entries ballots) (λ e. e.1) in
          let long = len-entries ballots in
          small count (omega arith)

      abbrev shown_sum : ℤ
      shown_sum = (pos 1 +ℤ pos (min most_counted (votes_counted (pos 1) number votes))) -ℤ pos (min most_counted (votes_counted (negsuc 0) number votes))

      sum_is : shown_sum ≡ vote_sum ballots
      sum_is = (λ i.
          pos (1 + (few is_for (votes_counted (pos 1) number votes) votes_for ∙ sym votes_for) i)
          -ℤ pos ((few (λ b. not (is_for b)) (votes_counted (negsuc 0) number votes) against ∙ sym against) i))

      abbrev kept : List Row
      kept = filter (has_text 1 number) sums

      has_sum : is_kept_sum (summed tables s) ≡ true → HasSum votes sums number
      has_sum e =
          let is : first_column 2 kept ≡ Int (vote_sum ballots) = integer_is (first_column 2 kept) shown_sum ((sum_told (integer_in (first_column 2 kept)) shown_sum).0 e) ∙ ap Int sum_is in
          let r = first_of kept (vote_sum ballots) is in
          let listed = has_filtered (has_text 1 number) sums r.0 r.1 in
          (r.0, listed.0, texts_are_one (first_text r.0) number listed.1, r.2)

      shows_sum : HasSum votes sums number → is_kept_sum (summed tables s) ≡ true
      shows_sum (r, listed, named, is) =
          let first : first_column 2 kept ≡ Int (vote_sum ballots) = first_is kept (vote_sum ballots) r (has_kept (has_text 1 number) sums r listed (is_text 1 number r named)) alike in
          (sum_told (integer_in (first_column 2 kept)) shown_sum).1 (ap integer_in first ∙ ap Some (sym sum_is))
        where
          alike : (row : Row) → Has kept row → column row 2 ≡ Int (vote_sum ballots)
          alike row at =
              let of = has_filtered (has_text 1 number) sums row at in
              let same : row ≡ r = (keyed_by_domain db ready).one_sum row r of.0 listed (texts_are_one (first_text row) number of.1 ∙ sym named) in
              ap (λ (x : Row). column x 2) same ∙ is

  -- ---- of all of them

  pub few_are : HaveToldFew tables → HaveFewVotes tables
  few_are have s there = has_few s there (have s there)

  pub few_told : HaveFewVotes tables → HaveToldFew tables
  few_told have s there = shows_few s there (have s there)

  pub sums_are : HaveFewVotes tables → HaveToldSums tables → HaveSums tables
  sums_are few have s there = has_sum s there (few s there) (have s there)

  pub sums_told : HaveFewVotes tables → HaveSums tables → HaveToldSums tables
  sums_told few have s there = shows_sum s there (few s there) (have s there)

-- ---- as the rows of a walk over all sums show them

module _ (db : Database) (rows : List Row) (shows : ShowsSummed db rows) (test : Row → Bool) where
  abbrev all_sums : List Row
  all_sums = rows_named db (codes "d_vote_sum")

  abbrev EachTold : Type 0
  EachTold = (r : Row) → Has all_sums r → test (sum_counted (rows_named db) r) ≡ true

  pub all_told : list_all test rows ≡ true → EachTold
  all_told e r there =
      test_has test rows (sum_counted (rows_named db) r) e
      (has_permuted rows (map (sum_counted (rows_named db)) all_sums) (sum_counted (rows_named db) r) (IsPermutation-sym (map (sum_counted (rows_named db)) all_sums) rows shows.all) (to_mapped (sum_counted (rows_named db)) all_sums r there))

  pub all_shown : EachTold → list_all test rows ≡ true
  all_shown have = test_from test rows (λ row here.
      let was = from_mapped (sum_counted (rows_named db)) all_sums row (has_permuted (map (sum_counted (rows_named db)) all_sums) rows row shows.all here) in
      ap test was.2 ∙ have was.0 was.1)

-- a walk that was cut short by its query; no row is refused
cut_so : {K : Type 0} (Refuses : OpenFault → Type 0) → Refuses Memory → Refuses Disk → Refuses Refused → (Took : K → List Row → K → Type 0) (IsAnswer : List Row → Type 0) (first last : K) (cut : WalkFault Failure) (fault : OpenFault)
    → IsOfWalk cut fault → CutShort Took (λ a row failure b. ⊥) IsAnswer first last cut → Refuses fault
cut_so Refuses one two three Took IsAnswer first last (NoRows error) fault is it = by is.others
  where
    by : (fault ≡ Memory) ⊎ ((fault ≡ Disk) ⊎ (fault ≡ Refused)) → Refuses fault
    by (inl same) = subst Refuses (sym same) one
    by (inr (inl same)) = subst Refuses (sym same) two
    by (inr (inr same)) = subst Refuses (sym same) three
cut_so Refuses one two three Took IsAnswer first last (NoSink failure) fault is it = absurd it.refused

pub walk_cut : {C A K : Type 0} (Refuses : OpenFault → Type 0) → Refuses Memory → Refuses Disk → Refuses Refused → (Took : K → List Row → K → Type 0) (IsAnswer : List Row → Type 0) (first last : K) (r : Result A OpenFault) (cut : WalkFault Failure)
    → IsErrAnd r (IsOfWalk cut) → (C → CutShort Took (λ a row failure b. ⊥) IsAnswer first last cut) → IfErr r (λ fault. C → Refuses fault)
walk_cut Refuses one two three Took IsAnswer first last (Ok x) cut is it = tt
walk_cut Refuses one two three Took IsAnswer first last (Err fault) cut is it = λ clean. cut_so Refuses one two three Took IsAnswer first last cut fault is (it clean)
