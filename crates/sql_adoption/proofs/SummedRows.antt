-- Each suggestion has one sum, and each sum is a suggestion's: what walks tell of sums is so of the suggestions.
use Rattle.std.proofs.Common.{◌≡◌, List, [], ◌∷◌, map, filter, Bool, true, false, pos, negsuc, inl, refl, sym, ap, ◌∙◌, codes}
use Rattle.std.specs.List.{list_all}
use Rattle.sqlite.specs.declared.types.Value.TheVariants.{Text as Words}
use Rattle.sqlite.specs.Effect.{Database}
use Rattle.sqlite.specs.Order.{Row, column}
use Rattle.sqlite_rules.specs.Lists.{Has}
use Rattle.sqlite_rules.proofs.ListLemmas.{has_filtered, has_kept}
use Rattle.sql_laws.proofs.RemovedRows.{from_mapped, to_mapped, has_permuted}
use Rattle.sql_laws.proofs.RowMaps.{texts_are_one}
use Rattle.std.proofs.lemmas.List.Sorted.{IsPermutation-sym}
use Rattle.sql_streams.specs.RowQueries.{first_column}
use Rattle.sql_schema.specs.Inside.{AreOfficeTablesOf}
use Rattle.sql_schema.specs.Keys.{first_text, has_text, columns}
use Rattle.sql_schema.specs.Layouts.{by_domain, NamedRows, rows_named}
use Rattle.sql_schema.proofs.DomainRows.{d_suggestion_texts, d_vote_sum_texts}
use Rattle.sql_schema.proofs.DomainsSeen.{is_text}
use Rattle.sql_statements.specs.SummedVotes.{summed, sum_counted, told, votes_counted}
use Rattle.sql_statements.specs.WalkedRows.{is_empty, is_unsummed, ShowsUnsummed}
use Rattle.sql_figures.specs.KeptSums.{HaveSums}
use Rattle.sql_adoption.specs.SumsKept.{AreSummed, HaveOwnFew, HaveOwnSums, HaveToldFew, HaveToldSums, has_few_votes, is_kept_sum, RefusesOwnSums, RefusesSums}
use Rattle.sql_adoption.specs.declared.faults.OpenFault.{OpenFault}
use Rattle.sql_adoption.specs.declared.faults.OpenFault.TheVariants.{Memory, Disk, Foreign, Exists, Refused}
use Rattle.sql_adoption.specs.declared.faults.Mismatch.TheVariants.{OtherTables, OtherForm, UnreadRow, OtherFigures, BrokenRules}
use Rattle.sql_adoption.proofs.FiguresTold.{keyed_by_domain}
use Rattle.sql_adoption.proofs.SumParents.{d_sum_on_suggestion}

-- ---- lists

some_of : (rows : List Row) → is_empty rows ≡ false → (row : Row) × Has rows row
some_of [] e = absurd (let no : true ≡ false = e in cc)
some_of (row ∷ rows) e = (row, inl refl)

not_empty : (rows : List Row) (row : Row) → Has rows row → is_empty rows ≡ false
not_empty [] row there = absurd there
not_empty (r ∷ rows) row there = refl

first_own : (rows : List Row) (row : Row) → Has rows row → ((r : Row) → Has rows r → r ≡ row) → column row 2 ≡ first_column 2 rows
first_own [] row there only = absurd there
first_own (r ∷ rows) row there only = sym (ap (λ (x : Row). column x 2) (only r (inl refl)))

-- ---- suggestions without a sum, as the rows of a walk show them

no_row : (rows : List Row) (row : Row) → list_all (λ row. false) rows ≡ true → ¬ Has rows row
no_row [] row e there = there
no_row (r ∷ rows) row e there = absurd (let no : false ≡ true = e in cc)

one_row : (rows : List Row) → list_all (λ row. false) rows ≡ false → (row : Row) × Has rows row
one_row [] e = absurd (let no : true ≡ false = e in cc)
one_row (row ∷ rows) e = (row, inl refl)

module _ (db : Database) (rows : List Row) (shows : ShowsUnsummed db rows) where
  abbrev suggestions : List Row
  suggestions = rows_named db (codes "d_suggestion")

  abbrev lone : List Row
  lone = filter (is_unsummed (rows_named db)) suggestions

  abbrev numbers : List Row
  numbers = map (columns (1 ∷ [])) lone

  pub summed_told : list_all (λ row. false) rows ≡ true → AreSummed (rows_named db)
  summed_told e s there = by (is_unsummed (rows_named db) s) refl
    where
      by : (b : Bool) → is_unsummed (rows_named db) s ≡ b → is_unsummed (rows_named db) s ≡ false
      by true is =
          let listed = to_mapped (columns (1 ∷ [])) lone s (has_kept (is_unsummed (rows_named db)) suggestions s there is) in
          absurd (no_row rows (columns (1 ∷ []) s) e (has_permuted rows numbers (columns (1 ∷ []) s) (IsPermutation-sym numbers rows shows) listed))
      by false is = is

  pub one_unsummed : list_all (λ row. false) rows ≡ false → ¬ AreSummed (rows_named db)
  one_unsummed e summed_all =
      let row = one_row rows e in
      let s = from_mapped (columns (1 ∷ [])) lone row.0 (has_permuted numbers rows row.0 shows row.1) in
      let listed = has_filtered (is_unsummed (rows_named db)) suggestions s.0 s.1 in
      absurd (let no : false ≡ true = sym (summed_all s.0 listed.0) ∙ listed.1 in cc)

-- ---- one sum for each suggestion, and one suggestion for each sum

-- where sums are what counting gives, each suggestion has one
pub summed_so : (tables : NamedRows) → HaveSums tables → AreSummed tables
summed_so tables have s there =
    let it = have s there in
    not_empty (filter (has_text 1 (first_text s)) (tables (codes "d_vote_sum"))) it.0 (has_kept (has_text 1 (first_text s)) (tables (codes "d_vote_sum")) it.0 it.1 (is_text 1 (first_text s) it.0 it.2))

module _ (db : Database) (ready : AreOfficeTablesOf by_domain db) where
  abbrev tables : NamedRows
  tables = rows_named db

  abbrev sums : List Row
  sums = tables (codes "d_vote_sum")

  -- a sum beside the votes on its suggestion is what is shown of that
  same_row : (s r : Row) → Has (tables (codes "d_suggestion")) s → Has sums r → first_text r ≡ first_text s → sum_counted tables r ≡ summed tables s
  same_row s r there listed named = (λ i. number i ∷ kept i ∷ told (votes_counted (pos 1) (named i) (tables (codes "d_vote"))) ∷ told (votes_counted (negsuc 0) (named i) (tables (codes "d_vote"))) ∷ [])
    where
      number : column r 1 ≡ column s 1
      number = d_vote_sum_texts.0 db ready.schema ready.sound r listed ∙ ap Words named ∙ sym (d_suggestion_texts.0 db ready.schema ready.sound s there)

      only : (x : Row) → Has (filter (has_text 1 (first_text s)) sums) x → x ≡ r
      only x at =
          let of = has_filtered (has_text 1 (first_text s)) sums x at in
          (keyed_by_domain db ready).one_sum x r of.0 listed (texts_are_one (first_text x) (first_text s) of.1 ∙ sym named)

      kept : column r 2 ≡ first_column 2 (filter (has_text 1 (first_text s)) sums)
      kept = first_own (filter (has_text 1 (first_text s)) sums) r (has_kept (has_text 1 (first_text s)) sums r listed (is_text 1 (first_text s) r named)) only

  module _ (test : Row → Bool) where
    each_told : AreSummed tables → ((r : Row) → Has sums r → test (sum_counted tables r) ≡ true) → (s : Row) → Has (tables (codes "d_suggestion")) s → test (summed tables s) ≡ true
    each_told summed_all own s there =
        let it = some_of (filter (has_text 1 (first_text s)) sums) (summed_all s there) in
        let of = has_filtered (has_text 1 (first_text s)) sums it.0 it.1 in
        ap test (sym (same_row s it.0 there of.0 (texts_are_one (first_text it.0) (first_text s) of.1))) ∙ own it.0 of.0

    each_own : ((s : Row) → Has (tables (codes "d_suggestion")) s → test (summed tables s) ≡ true) → (r : Row) → Has sums r → test (sum_counted tables r) ≡ true
    each_own have r listed =
        let s = d_sum_on_suggestion db ready.schema ready.sound r listed in
        ap test (same_row s.0 r s.1 listed (sym s.2)) ∙ have s.0 s.1

  pub sums_told_so : AreSummed tables → HaveOwnFew tables × HaveOwnSums tables → HaveToldFew tables × HaveToldSums tables
  sums_told_so summed_all own = (each_told has_few_votes summed_all own.0, each_told is_kept_sum summed_all own.1)

  pub own_refused : AreSummed tables → (fault : OpenFault) → RefusesOwnSums tables fault → RefusesSums tables fault
  own_refused summed_all (Foreign BrokenRules) h = λ few. h (each_own has_few_votes few)
  own_refused summed_all (Foreign OtherFigures) h = inl (each_told has_few_votes summed_all h.0, λ have. h.1 (each_own is_kept_sum have))
  own_refused summed_all (Foreign UnreadRow) h = absurd h
  own_refused summed_all (Foreign OtherForm) h = absurd h
  own_refused summed_all (Foreign OtherTables) h = absurd h
  own_refused summed_all Exists h = absurd h
  own_refused summed_all Memory h = tt
  own_refused summed_all Disk h = tt
  own_refused summed_all Refused h = tt
