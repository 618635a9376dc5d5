-- What reads of kept figures show, and the tests of what they show. This project's own words.
use Rattle.std.specs.Prelude.{◌≡◌, ◌&&◌, ◌++◌, pos, ℕ, ℤ, List, [], ◌∷◌, map, flat_map, filter, fold, Bool, true, false, Option, Some, None, IsSome, unwrap_or, String, codes}
use Rattle.std.specs.Borrow.{Bor}
use Rattle.std.specs.BTreeMap.{BTreeMap, get_by}
use Rattle.std.specs.List.{list_all, list_any}
use Rattle.std.specs.List.Sorted.{IsPermutation}
use Rattle.std.specs.Ordering.{int_eq}
use Rattle.sqlite.specs.declared.types.Value.{Value}
use Rattle.sqlite.specs.declared.types.Value.TheVariants.{Null, Int, Real, Text as Words, Blob}
use Rattle.sqlite.specs.Effect.{Database}
use Rattle.sqlite.specs.Order.{Row, column}
use Rattle.sqlite_rules.specs.Lists.{Has}
use Rattle.po_text.specs.Texts.{Text, text_eq, text_cmp}
use Rattle.units.specs.Units.{vote_sum}
use Rattle.office_specification.specs.declared.tally.Tally.{Tally}
use Rattle.sql_schema.specs.Keys.{text_at, has_text, columns}
use Rattle.sql_statements.specs.SummedVotes.{is_integer}
use Rattle.sql_statements.specs.Tables.{ShowsTable}
use Rattle.sql_schema.specs.Layouts.{NamedRows, rows_named}
use Rattle.sql_meaning.specs.Cells.{tally_cells}
use Rattle.sql_meaning.specs.OfficeShown.{votes_shown}
use Rattle.sql_decoding.specs.RowTests.{holds_text, is_number, is_vote_row}
use Rattle.sql_decoding.specs.TablesRead.{Votes, votes_of}
use Rattle.sql_figures.specs.Figures.{figures_of_main}
use Rattle.sql_figures.specs.KeptTallies.{Counts, tally_columns}
use Rattle.sql_layouts.specs.RisingRows.{integer_in}
use Rattle.sql_adoption.specs.declared.figure_rows.FigureRows.{FigureRows}
use Rattle.sql_adoption.specs.declared.language_tallies.Counted.{Counted}

-- ---- what is read

-- domain, lang, untranslated, needs_editing, translated, approved, read_only, suggestions, obsolete
abbrev pub ShowsAllTallies : Database → List Row → Type 0
ShowsAllTallies = ShowsTable (codes "d_tally") tally_columns (0 ∷ 1 ∷ [])

-- All rows of the table of this name, each once, by these columns.
abbrev pub ListsTable : List ℕ → List ℕ → NamedRows → List Row → Type 0
ListsTable name places tables rows = IsPermutation (map (columns places) (tables name)) rows

-- the figures, and what their sums are of, in any order
pub record ShowsFigures (tables : NamedRows) (rows : FigureRows) : Type 0 where
  pub tallies : ListsTable (codes "d_tally") tally_columns tables rows.tallies.items
  pub suggestions : ListsTable (codes "d_suggestion") (1 ∷ []) tables rows.suggestions.items
  pub votes : ListsTable (codes "d_vote") (2 ∷ 3 ∷ 1 ∷ []) tables rows.votes.items
  pub sums : ListsTable (codes "d_vote_sum") (1 ∷ 2 ∷ []) tables rows.sums.items

-- those of tables without a column for a domain
abbrev pub ShowsMainFigures : Database → FigureRows → Type 0
ShowsMainFigures db rows = ShowsFigures (figures_of_main (rows_named db)) rows

-- `main`, lang, untranslated, needs_editing, translated, approved, read_only, suggestions, obsolete
abbrev pub ShowsMainTallies : Database → List Row → Type 0
ShowsMainTallies db rows = ListsTable (codes "d_tally") tally_columns (figures_of_main (rows_named db)) rows

-- number
abbrev pub ShowsMainNumbers : Database → List Row → Type 0
ShowsMainNumbers = ShowsTable (codes "suggestion") (1 ∷ []) (0 ∷ [])

-- voter, value, number
abbrev pub ShowsMainVotes : Database → List Row → Type 0
ShowsMainVotes = ShowsTable (codes "vote") (2 ∷ 3 ∷ 1 ∷ []) (2 ∷ 0 ∷ [])

-- number, sum
abbrev pub ShowsMainSums : Database → List Row → Type 0
ShowsMainSums = ShowsTable (codes "vote_sum") (1 ∷ 2 ∷ []) (0 ∷ [])

-- ---- tests of columns

abbrev pub is_words : Text → Value → Bool
is_words text Null = false
is_words text (Int n) = false
is_words text (Real x) = false
is_words text (Words t) = text_eq t text
is_words text (Blob b) = false

-- ---- tallies

abbrev pub shows_counts : Tally → Row → Bool
shows_counts tally row =
    is_integer (pos tally.untranslated) (column row 2) && (is_integer (pos tally.needs_editing) (column row 3) && (is_integer (pos tally.translated) (column row 4)
    && (is_integer (pos tally.approved) (column row 5) && (is_integer (pos tally.read_only) (column row 6) && (is_integer (pos tally.suggestions) (column row 7)
    && is_integer (pos tally.obsolete) (column row 8))))))

-- the row is that of a language of a domain, with what it counts
abbrev pub is_row_of : Counted → Row → Bool
is_row_of counted row = is_words counted.domain.now (column row 0) && (is_words counted.lang.now (column row 1) && shows_counts counted.tally row)

-- each row is that of one of these languages, and each of them has one
abbrev pub are_rows_of : List Counted → List Row → Bool
are_rows_of counted rows = list_all (λ row. list_any (λ c. is_row_of c row) counted) rows && list_all (λ c. list_any (is_row_of c) rows) counted

-- a language of a domain
abbrev pub Place : Type 0
Place = Text × Text

-- these languages of each of these domains
abbrev pub places_of : List Text → List Text → List Place
places_of domains langs = flat_map (λ domain. map (λ lang. (domain, lang)) langs) domains

-- those of these languages that are there, each with what it counts
pub record AreCounted (counts : Counts) (places : List Place) (counted : List Counted) : Type 0 where
  pub only : (c : Counted) → Has counted c → counts c.domain.now c.lang.now ≡ Some c.tally
  pub all : (place : Place) (tally : Tally) → Has places place → counts place.0 place.1 ≡ Some tally → (c : Counted) × Has counted c × (c.domain.now ≡ place.0) × (c.lang.now ≡ place.1)

-- one language more
abbrev pub CountsOneMore : Option Tally → Place → List Counted → List Counted → Type 0
CountsOneMore None place old new = new ≡ old
CountsOneMore (Some tally) place old new = (c : Counted) × (c.domain.now ≡ place.0) × (c.lang.now ≡ place.1) × (c.tally ≡ tally) × (new ≡ old ++ c ∷ [])

-- each row that is shown is of a language that is there and holds its counts, and each language that is there has one
pub record AreTalliesShown (counts : Counts) (rows : List Row) : Type 0 where
  pub counted : (row : Row) → Has rows row
      → (tally : Tally) × (columns (0 ∷ 1 ∷ 2 ∷ 3 ∷ 4 ∷ 5 ∷ 6 ∷ 7 ∷ 8 ∷ []) row ≡ tally_cells (text_at 0 row) (text_at 1 row) tally) × (counts (text_at 0 row) (text_at 1 row) ≡ Some tally)
  pub all : (domain lang : Text) → IsSome (counts domain lang) → (row : Row) × Has rows row × (text_at 0 row ≡ domain) × (text_at 1 row ≡ lang)

-- ---- sums

-- under the texts of their suggestions' numbers; none where the column is no integer
abbrev pub Sums : Type 0
Sums = BTreeMap (Bor Text) (Option ℤ)

abbrev pub sum_in : Sums → Text → Option ℤ
sum_in sums number = unwrap_or (get_by (λ k. text_cmp number k.now) sums) None

-- number, sum: that of the last row of a number
abbrev pub sum_shown : List Row → Text → Option ℤ
sum_shown rows number = fold (λ before row. integer_in (column row 1)) None (filter (has_text 0 number) rows)

abbrev pub is_sum : Option ℤ → ℤ → Bool
is_sum None n = false
is_sum (Some m) n = int_eq m n

-- the suggestion whose number a row shows has a sum, which is that of its votes
abbrev pub has_its_sum : {A : Type 0} → BTreeMap (String A) Votes → Sums → Row → Bool
has_its_sum votes sums row = is_sum (sum_in sums (text_at 0 row)) (vote_sum (votes_of votes (text_at 0 row)))

abbrev pub has_shown_sum : FigureRows → Row → Bool
has_shown_sum rows row = is_sum (sum_shown rows.sums.items (text_at 0 row)) (vote_sum (votes_shown rows.votes.items (text_at 0 row)))

abbrev pub have_shown_sums : FigureRows → Bool
have_shown_sums rows = list_all (has_shown_sum rows) rows.suggestions.items

-- votes and numbers of suggestions stand for values
abbrev pub votes_stand : FigureRows → Bool
votes_stand rows = list_all is_vote_row rows.votes.items && list_all (holds_text is_number 0) rows.suggestions.items

-- ---- both

pub record ShowFigures (counts : Counts) (rows : FigureRows) : Type 0 where
  pub tallies : AreTalliesShown counts rows.tallies.items
  pub sums : have_shown_sums rows ≡ true
