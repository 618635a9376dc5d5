-- What rows that show figures tell of those of tables.
use Rattle.std.proofs.Common.{◌≡◌, ◌∷◌, inl, inr, ℤ, List, [], map, filter, true, ◌&&◌, Some, None, is_some, codes, refl, sym, ap, subst, ◌∙◌}
use Rattle.std.specs.FinMap as maps
use Rattle.std.proofs.lemmas.Bool.{and_parts, and_from}
use Rattle.sqlite.specs.declared.types.Value.TheVariants.{Int}
use Rattle.sqlite.specs.Order.{Row, column}
use Rattle.sqlite.specs.Effect.{Database}
use Rattle.sqlite_rules.specs.Lists.{Has}
use Rattle.sqlite_rules.proofs.ListLemmas.{test_has, test_from, some_from, has_filtered, has_kept}
use Rattle.sql_laws.specs.RowMaps.{OneEach}
use Rattle.sql_laws.proofs.RowMaps.{texts_are_one}
use Rattle.po_text.specs.Texts.{Text, text_cmp}
use Rattle.units.specs.Office.{Office}
use Rattle.units.specs.Units.{vote_sum}
use Rattle.units.specs.declared.votes.VoteValue.{VoteValue}
use Rattle.office_specification.specs.declared.tally.Tally.{Tally}
use Rattle.sql_schema.specs.Inside.{AreOfficeTablesOf}
use Rattle.sql_schema.specs.Keys.{text_at, first_text, first_texts, has_text, columns}
use Rattle.sql_schema.specs.Layouts.{for_main, by_domain, NamedRows, rows_named}
use Rattle.sql_schema.specs.SeenRows.{is_vote_in, vote_seen}
use Rattle.sql_schema.proofs.DomainRows.{one_d_vote, one_d_sum}
use Rattle.sql_schema.proofs.TableRows.{one_vote, one_sum}
use Rattle.sql_schema.proofs.DomainsSeen.{is_text}
use Rattle.sql_schema.proofs.SeenRows.{to_seen}
use Rattle.sql_meaning.specs.Cells.{tally_cells}
use Rattle.sql_meaning.specs.OfficeShown.{votes_shown}
use Rattle.sql_meaning.specs.Values.{vote_at}
use Rattle.sql_meaning.proofs.DomainOfficeRows.{on_suggestion}
use Rattle.sql_meaning.proofs.ShownVotes.{finds_votes}
use Rattle.sql_meaning.proofs.WholeRows.{kept_listed, fold_mapped}
use Rattle.sql_decoding.specs.RowTests.{holds_text, is_number, is_vote_row, is_suggestion_row}
use Rattle.sql_figures.specs.Figures.{HoldFigures, figures_of_main}
use Rattle.sql_figures.specs.KeptSums.{votes_among, HasSum, HaveSums}
use Rattle.sql_figures.specs.KeptTallies.{Counts, office_counts, IsTallyOf, tally_columns, HoldsTally, AreTalliesOf}
use Rattle.sql_adoption.specs.Adoption.{Each, StandForOffice, StandInDomains}
use Rattle.sql_adoption.specs.FigureRows.{ListsTable, ShowsFigures, AreTalliesShown, ShowFigures, sum_shown, has_shown_sum, have_shown_sums, votes_stand}
use Rattle.sql_adoption.specs.declared.figure_rows.FigureRows.{FigureRows}
use Rattle.sql_adoption.proofs.FigureTests.{sum_told}
use Rattle.sql_adoption.proofs.Stand.{is_listed, was_listed, all_listed}
use Rattle.sql_adoption.proofs.SumsTold.{one_of_rows, some_alike}

-- rows of one key are one row
pub record AreFiguresKeyed (tables : NamedRows) : Type 0 where
  pub one_vote : OneEach first_texts (tables (codes "d_vote"))
  pub one_sum : OneEach first_text (tables (codes "d_vote_sum"))

-- ---- tallies

module _ (tables : NamedRows) (rows : List Row) (shows : ListsTable (codes "d_tally") tally_columns tables rows) where
  abbrev tallies : List Row
  tallies = tables (codes "d_tally")

  abbrev ShowsTallyOf : Counts → Row → Type 0
  ShowsTallyOf counts row =
      (tally : Tally) × (columns (0 ∷ 1 ∷ 2 ∷ 3 ∷ 4 ∷ 5 ∷ 6 ∷ 7 ∷ 8 ∷ []) row ≡ tally_cells (text_at 0 row) (text_at 1 row) tally) × (counts (text_at 0 row) (text_at 1 row) ≡ Some tally)

  pub tallies_are : (counts : Counts) → AreTalliesShown counts rows → AreTalliesOf counts tallies
  tallies_are counts shown = record { counted = counted_so; all = all_so }
    where
      counted_so : (row : Row) → Has tallies row → (tally : Tally) × HoldsTally tally row × (counts (text_at 1 row) (text_at 2 row) ≡ Some tally)
      counted_so row there = shown.counted (columns tally_columns row) (is_listed tables (codes "d_tally") tally_columns rows shows row there)

      all_so : (domain lang : Text) → is_some (counts domain lang) ≡ true → (row : Row) × Has tallies row × IsTallyOf domain lang row
      all_so domain lang some =
          let it = shown.all domain lang some in
          let was = was_listed tables (codes "d_tally") tally_columns rows shows it.0 it.1 in
          (was.0, was.1, (ap (text_at 0) (sym was.2) ∙ it.2, ap (text_at 1) (sym was.2) ∙ it.3))

  pub tallies_shown : (counts : Counts) → AreTalliesOf counts tallies → AreTalliesShown counts rows
  tallies_shown counts are = record {
    counted = λ row here.
        let was = was_listed tables (codes "d_tally") tally_columns rows shows row here in
        let it : ShowsTallyOf counts (columns tally_columns was.0) = are.counted was.0 was.1 in
        subst (ShowsTallyOf counts) (sym was.2) it;
    all = λ domain lang some.
        let it = are.all domain lang some in
        (columns tally_columns it.0, is_listed tables (codes "d_tally") tally_columns rows shows it.0 it.1, it.2.0, it.2.1);
  }

module _ (tables : NamedRows) (keyed : AreFiguresKeyed tables) (rows : FigureRows) (shows : ShowsFigures tables rows) where
  -- ---- sums

  abbrev votes : List Row
  votes = tables (codes "d_vote")

  abbrev sums : List Row
  sums = tables (codes "d_vote_sum")

  -- what a query by the number shows
  abbrev first_two : Row → Row
  first_two = columns (0 ∷ 1 ∷ [])

  votes_are : (number : Text) → votes_among votes number ≡ votes_shown rows.votes.items number
  votes_are number =
      finds_votes (λ name. votes) number (map first_two (filter (has_text 2 number) rows.votes.items)) keyed.one_vote
      (kept_listed (columns (2 ∷ 3 ∷ 1 ∷ [])) first_two (has_text 2 number) votes rows.votes.items shows.votes)
      ∙ fold_mapped (λ (own : maps.FinMap text_cmp VoteValue) shown. maps.insert own (text_at 0 shown) (vote_at 1 shown)) first_two maps.empty (filter (has_text 2 number) rows.votes.items)

  sum_was : (row : Row) → Has rows.sums.items row → (r : Row) × Has sums r × (row ≡ columns (1 ∷ 2 ∷ []) r)
  sum_was = was_listed tables (codes "d_vote_sum") (1 ∷ 2 ∷ []) rows.sums.items shows.sums

  -- the rows of a number
  abbrev of_number : Text → List Row
  of_number number = filter (has_text 0 number) rows.sums.items

  module _ (s : Row) where
    abbrev number : Text
    number = first_text s

    abbrev sum_of_votes : ℤ
    sum_of_votes = vote_sum (votes_shown rows.votes.items number)

    has_sum : has_shown_sum rows (columns (1 ∷ []) s) ≡ true → HasSum votes sums number
    has_sum e = elim (one_of_rows (of_number number) None sum_of_votes ((sum_told (sum_shown rows.sums.items number) sum_of_votes).0 e)) [
      | inl never ↦ absurd (let no : None ≡ Some sum_of_votes = never in cc)
      | inr it ↦
          let here = has_filtered (has_text 0 number) rows.sums.items it.0 it.1 in
          let was = sum_was it.0 here.0 in (
            was.0,
            was.1,
            ap (text_at 0) (sym was.2) ∙ texts_are_one (text_at 0 it.0) number here.1,
            ap (λ (row : Row). column row 1) (sym was.2) ∙ it.2 ∙ ap (λ m. Int (vote_sum m)) (sym (votes_are number)),
          )
    ]

    shows_sum : HasSum votes sums number → has_shown_sum rows (columns (1 ∷ []) s) ≡ true
    shows_sum (r, there, named, is) =
        let here = is_listed tables (codes "d_vote_sum") (1 ∷ 2 ∷ []) rows.sums.items shows.sums r there in
        let own = has_kept (has_text 0 number) rows.sums.items (columns (1 ∷ 2 ∷ []) r) here (is_text 0 number (columns (1 ∷ 2 ∷ []) r) named) in
        (sum_told (sum_shown rows.sums.items number) sum_of_votes).1 (some_alike (of_number number) None sum_of_votes (columns (1 ∷ 2 ∷ []) r) own alike)
      where
        alike : (row : Row) → Has (of_number number) row → column row 1 ≡ Int sum_of_votes
        alike row at =
            let of = has_filtered (has_text 0 number) rows.sums.items row at in
            let was = sum_was row of.0 in
            let text : first_text was.0 ≡ number = ap (text_at 0) (sym was.2) ∙ texts_are_one (text_at 0 row) number of.1 in
            let same : was.0 ≡ r = keyed.one_sum was.0 r was.1 there (text ∙ sym named) in
            ap (λ (x : Row). column x 1) was.2 ∙ ap (λ (x : Row). column x 2) same ∙ is ∙ ap (λ m. Int (vote_sum m)) (votes_are number)

  sums_are : have_shown_sums rows ≡ true → HaveSums tables
  sums_are e s there =
      has_sum s (test_has (has_shown_sum rows) rows.suggestions.items (columns (1 ∷ []) s) e (is_listed tables (codes "d_suggestion") (1 ∷ []) rows.suggestions.items shows.suggestions s there))

  sums_shown : HaveSums tables → have_shown_sums rows ≡ true
  sums_shown have = test_from (has_shown_sum rows) rows.suggestions.items (λ row here.
      let was = was_listed tables (codes "d_suggestion") (1 ∷ []) rows.suggestions.items shows.suggestions row here in
      ap (has_shown_sum rows) was.2 ∙ shows_sum was.0 (have was.0 was.1))

  -- ---- both

  pub figures_told : (office : Office) → ShowFigures (office_counts office) rows → HoldFigures office tables
  figures_told office shown = record { tallies = tallies_are tables rows.tallies.items shows.tallies (office_counts office) shown.tallies; sums = sums_are shown.sums }

  pub figures_shown : (office : Office) → HoldFigures office tables → ShowFigures (office_counts office) rows
  figures_shown office hold = record { tallies = tallies_shown tables rows.tallies.items shows.tallies (office_counts office) hold.tallies; sums = sums_shown hold.sums }

  -- ---- votes and numbers stand for values

  pub they_stand : Each (codes "d_vote") (2 ∷ 3 ∷ 1 ∷ []) is_vote_row tables → Each (codes "d_suggestion") (1 ∷ []) (holds_text is_number 0) tables → votes_stand rows ≡ true
  they_stand votes_do numbers_do = and_from _ _ (all_listed tables (codes "d_vote") (2 ∷ 3 ∷ 1 ∷ []) rows.votes.items shows.votes is_vote_row votes_do)
      (all_listed tables (codes "d_suggestion") (1 ∷ []) rows.suggestions.items shows.suggestions (holds_text is_number 0) numbers_do)

-- ---- those of tables by domains

module _ (db : Database) (ready : AreOfficeTablesOf by_domain db) where
  pub keyed_by_domain : AreFiguresKeyed (rows_named db)
  keyed_by_domain = record {
    one_vote = one_d_vote db ready.schema ready.sound (ready.tables (codes "d_vote") refl);
    one_sum = one_d_sum db ready.schema ready.sound (ready.tables (codes "d_vote_sum") refl);
  }

  pub d_votes_stand : StandInDomains (rows_named db) → Each (codes "d_vote") (2 ∷ 3 ∷ 1 ∷ []) is_vote_row (rows_named db)
  d_votes_stand stand v there =
      let suggestions = rows_named db (codes "d_suggestion") in
      let s = on_suggestion db ready v there in
      let domain : Text = text_at 2 s.0 in
      let passes : is_vote_in domain suggestions v ≡ true =
      some_from (λ s. has_text 1 (first_text v) s && has_text 2 domain s) suggestions s.0 s.1 (and_from _ _ (is_text 1 (first_text v) s.0 (sym s.2)) (is_text 2 domain s.0 refl)) in
      (stand.each domain).votes v (to_seen (is_vote_in domain suggestions) vote_seen (rows_named db (codes "d_vote")) v there passes)

-- ---- those of tables without a column for a domain

module _ (db : Database) (ready : AreOfficeTablesOf (for_main true) db) where
  pub keyed_for_main : AreFiguresKeyed (figures_of_main (rows_named db))
  keyed_for_main = record {
    one_vote = one_vote db ready.schema ready.sound (ready.tables (codes "vote") refl);
    one_sum = one_sum db ready.schema ready.sound (ready.tables (codes "vote_sum") refl);
  }

pub main_numbers_stand : (tables : NamedRows) → StandForOffice tables → Each (codes "suggestion") (1 ∷ []) (holds_text is_number 0) tables
main_numbers_stand tables stand s there =
    let it : is_suggestion_row (columns (1 ∷ 4 ∷ 5 ∷ 6 ∷ 2 ∷ 3 ∷ []) s) ≡ true = stand.suggestions s there in
    (and_parts _ _ (and_parts _ _ it).1).0
