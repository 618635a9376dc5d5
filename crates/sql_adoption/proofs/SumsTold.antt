-- Sums of votes, put under their numbers one after the other: which sum a number has.
use Rattle.std.proofs.Common.{◌≡◌, ◌⊎◌, inl, inr, ℤ, List, [], ◌∷◌, fold, Bool, true, false, cond, Option, Some, None, unwrap_or, refl, ap, ◌∙◌}
use Rattle.std.specs.Prelude.{String}
use Rattle.std.specs.BTreeMap.{BTreeMap}
use Rattle.std.specs.List.{list_all}
use Rattle.sqlite.specs.declared.types.Value.TheVariants.{Int}
use Rattle.sqlite.specs.Order.{Row, column}
use Rattle.sqlite_rules.specs.Lists.{Has}
use Rattle.po_text.specs.Texts.{Text}
use Rattle.units.specs.Units.{vote_sum}
use Rattle.sql_schema.specs.Keys.{text_at}
use Rattle.sql_meaning.specs.OfficeShown.{votes_shown}
use Rattle.sql_decoding.specs.TablesRead.{Votes, votes_of}
use Rattle.sql_adoption.specs.FigureRows.{Sums, sum_in, sum_shown, is_sum, has_its_sum, have_shown_sums}
use Rattle.sql_layouts.specs.RisingRows.{integer_in}
use Rattle.sql_adoption.specs.declared.figure_rows.FigureRows.{FigureRows}
use Rattle.sql_adoption.proofs.FigureTests.{integer_is}

-- the sum of the last of some rows
abbrev pub last_sum : Option ℤ → List Row → Option ℤ
last_sum = fold (λ before row. integer_in (column row 1))

pub one_of_rows : (rows : List Row) (before : Option ℤ) (n : ℤ) → last_sum before rows ≡ Some n → (before ≡ Some n) ⊎ ((row : Row) × Has rows row × (column row 1 ≡ Int n))
one_of_rows [] before n e = inl e
one_of_rows (row ∷ rows) before n e = elim (one_of_rows rows (integer_in (column row 1)) n e) [
  | inl own ↦ inr (row, inl refl, integer_is (column row 1) n own)
  | inr later ↦ inr (later.0, inr later.1, later.2)
]

all_alike : (rows : List Row) (before : Option ℤ) (n : ℤ) → ((row : Row) → Has rows row → column row 1 ≡ Int n) → before ≡ Some n → last_sum before rows ≡ Some n
all_alike [] before n alike e = e
all_alike (row ∷ rows) before n alike e = all_alike rows (integer_in (column row 1)) n (λ r there. alike r (inr there)) (ap integer_in (alike row (inl refl)))

pub some_alike : (rows : List Row) (before : Option ℤ) (n : ℤ) (row : Row) → Has rows row → ((r : Row) → Has rows r → column r 1 ≡ Int n) → last_sum before rows ≡ Some n
some_alike [] before n row there alike = absurd there
some_alike (r ∷ rows) before n row there alike = all_alike rows (integer_in (column r 1)) n (λ s at. alike s (inr at)) (ap integer_in (alike r (inl refl)))

-- a sum that is put under a number, or the one that was there
pub sum_put : (put : Bool) (sum : Option ℤ) (found : Option (Option ℤ)) → unwrap_or (cond put (Some sum) found) None ≡ cond put sum (unwrap_or found None)
sum_put true sum found = refl
sum_put false sum found = refl

-- sums and votes in maps tell what the rows tell from which they are
pub sums_same : {A : Type 0} (all : BTreeMap (String A) Votes) (sums : Sums) (rows : FigureRows) (v s n : List Row) → v ≡ rows.votes.items → s ≡ rows.sums.items → n ≡ rows.suggestions.items
    → ((number : Text) → votes_of all number ≡ votes_shown v number) → ((number : Text) → sum_in sums number ≡ sum_shown s number) → list_all (has_its_sum all sums) n ≡ have_shown_sums rows
sums_same all sums rows v s n is_v is_s is_n of_votes of_sums =
    (λ i. list_all (λ (row : Row). is_sum (of_sums (text_at 0 row) i) (vote_sum (of_votes (text_at 0 row) i))) n)
    ∙ (λ i. list_all (λ (row : Row). is_sum (sum_shown (is_s i) (text_at 0 row)) (vote_sum (votes_shown (is_v i) (text_at 0 row)))) (is_n i))
