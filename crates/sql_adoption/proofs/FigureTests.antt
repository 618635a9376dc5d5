-- What tests of rows of figures tell.
use Rattle.std.proofs.Common.{◌≡◌, ℤ, pos, [], ◌∷◌, Bool, true, false, ◌&&◌, Option, Some, None, ap}
use Rattle.std.specs.Bool.{Decides}
use Rattle.std.proofs.lemmas.Bool.{false≢true}
use Rattle.std.proofs.lemmas.Bool.Decides.{Decides-like, Decides-and, Decides-int_eq}
use Rattle.std.specs.Cmp.Lexicographic.{bytes_decides}
use Rattle.std.specs.Ordering.{int_eq}
use Rattle.sqlite.specs.declared.types.Value.{Value}
use Rattle.sqlite.specs.declared.types.Value.TheVariants.{Null, Int, Real, Text as Words, Blob}
use Rattle.sqlite.specs.Order.{Row, column}
use Rattle.sqlite_value.specs.Order.{bytes}
use Rattle.po_text.specs.Texts.{Text, text_eq}
use Rattle.office_specification.specs.declared.tally.Tally.{Tally}
use Rattle.sql_schema.specs.Keys.{columns}
use Rattle.sql_meaning.specs.Cells.{tally_cells}
use Rattle.sql_meaning.specs.Values.{integer_of}
use Rattle.sql_statements.specs.SummedVotes.{is_integer}
use Rattle.sql_adoption.specs.FigureRows.{is_words, shows_counts, is_row_of, is_sum}
use Rattle.sql_layouts.specs.RisingRows.{integer_in}
use Rattle.sql_adoption.specs.declared.language_tallies.Counted.{Counted}

-- ---- a column

-- a test that fails of values that differ
fails_of : {P : Type 0} → ¬ P → Decides false P
fails_of differ = (λ e. absurd (false≢true e), λ p. absurd (differ p))

words_told : (text : Text) (v : Value) → Decides (is_words text v) (v ≡ Words text)
words_told text Null = fails_of (λ e. cc)
words_told text (Int n) = fails_of (λ e. cc)
words_told text (Real x) = fails_of (λ e. cc)
words_told text (Words t) = Decides-like (text_eq t text) (ap Words) (ap bytes) (bytes_decides t text)
words_told text (Blob b) = fails_of (λ e. cc)

integer_told : (n : ℤ) (v : Value) → Decides (is_integer n v) (v ≡ Int n)
integer_told n Null = fails_of (λ e. cc)
integer_told n (Int m) = Decides-like (int_eq m n) (ap Int) (ap integer_of) (Decides-int_eq m n)
integer_told n (Real x) = fails_of (λ e. cc)
integer_told n (Words t) = fails_of (λ e. cc)
integer_told n (Blob b) = fails_of (λ e. cc)

pub integer_is : (v : Value) (n : ℤ) → integer_in v ≡ Some n → v ≡ Int n
integer_is Null n e = absurd cc
integer_is (Int m) n e = let same : m ≡ n = cc in ap Int same
integer_is (Real x) n e = absurd cc
integer_is (Words t) n e = absurd cc
integer_is (Blob b) n e = absurd cc

-- ---- columns one after the other

abbrev others : Row → Row
others [] = []
others (v ∷ row) = row

one_told : (v w : Value) (b : Bool) → Decides b (v ≡ w) → Decides b (v ∷ [] ≡ w ∷ [])
one_told v w b told = Decides-like b (λ e i. e i ∷ []) (ap (λ (row : Row). column row 0)) told

then_told : (v w : Value) (row cells : Row) (a b : Bool) → Decides a (v ≡ w) → Decides b (row ≡ cells) → Decides (a && b) (v ∷ row ≡ w ∷ cells)
then_told v w row cells a b first rest = Decides-like (a && b) (λ e i. e.0 i ∷ e.1 i) (λ e. (ap (λ (r : Row). column r 0) e, ap others e)) (Decides-and a b first rest)

abbrev counts_of_cells : Tally → Row
counts_of_cells tally =
    Int (pos tally.untranslated) ∷ Int (pos tally.needs_editing) ∷ Int (pos tally.translated) ∷ Int (pos tally.approved) ∷ Int (pos tally.read_only) ∷ Int (pos tally.suggestions)
    ∷ Int (pos tally.obsolete) ∷ []

counts_told : (tally : Tally) (row : Row) → Decides (shows_counts tally row) (columns (2 ∷ 3 ∷ 4 ∷ 5 ∷ 6 ∷ 7 ∷ 8 ∷ []) row ≡ counts_of_cells tally)
counts_told tally row =
    then_told _ _ _ _ _ _ (integer_told (pos tally.untranslated) (column row 2)) (then_told _ _ _ _ _ _ (integer_told (pos tally.needs_editing) (column row 3))
    (then_told _ _ _ _ _ _ (integer_told (pos tally.translated) (column row 4)) (then_told _ _ _ _ _ _ (integer_told (pos tally.approved) (column row 5))
    (then_told _ _ _ _ _ _ (integer_told (pos tally.read_only) (column row 6)) (then_told _ _ _ _ _ _ (integer_told (pos tally.suggestions) (column row 7))
    (one_told _ _ _ (integer_told (pos tally.obsolete) (column row 8))))))))

pub row_told : (c : Counted) (row : Row) → Decides (is_row_of c row) (columns (0 ∷ 1 ∷ 2 ∷ 3 ∷ 4 ∷ 5 ∷ 6 ∷ 7 ∷ 8 ∷ []) row ≡ tally_cells c.domain.now c.lang.now c.tally)
row_told c row =
    then_told _ _ _ _ _ _ (words_told c.domain.now (column row 0)) (then_told _ _ _ _ _ _ (words_told c.lang.now (column row 1)) (counts_told c.tally row))

-- ---- a sum

pub sum_told : (kept : Option ℤ) (n : ℤ) → Decides (is_sum kept n) (kept ≡ Some n)
sum_told None n = fails_of (λ e. cc)
sum_told (Some m) n = Decides-like (int_eq m n) (ap Some) (λ e. cc) (Decides-int_eq m n)
