-- How SQL compares two texts, two integers, and one column of two rows.
use Rattle.std.proofs.Common.{◌≡◌, ℕ, List, [], ◌∷◌, Bool, true, false, ◌&&◌, Some, refl, ap}
use Rattle.std.specs.Ordering.{is_eq, nat_cmp}
use Rattle.std.specs.Cmp.Lexicographic.{slice_cmp}
use Rattle.sqlite.specs.Collation.TheVariants.{Binary}
use Rattle.sqlite.specs.declared.types.Value.{Value}
use Rattle.sqlite.specs.declared.types.Value.TheVariants.{Null, Int, Real, Text, Blob}
use Rattle.sqlite.specs.Order.{Row, column, value_cmp}
use Rattle.sqlite.specs.Ops.{binary}
use Rattle.sqlite_sql.specs.Ops.{is_true, from_truth}
use Rattle.sqlite_sql.specs.declared.ops.CompareOp.TheVariants as compare
use Rattle.sqlite_sql.specs.declared.ops.BinaryOp.TheVariants as by
use Rattle.sqlite_schema.specs.Rules.{agree}
use Rattle.sqlite_trees.specs.View.{is_int}
use Rattle.sqlite_value.specs.Keys.{plain, first_key}

pub truth_is : (b : Bool) → is_true (from_truth (Some b)) ≡ b
truth_is true = refl
truth_is false = refl

pub ints_compared : (a b : Value) → is_int a ≡ true → is_int b ≡ true
    → is_true (binary (by.Compare compare.Eq Binary) a b) ≡ is_eq (value_cmp a b)
unfolding binary lib.Ieee.is_nan lib.Ieee.lt
ints_compared (Int m) (Int n) p q = truth_is (is_eq (value_cmp (Int m) (Int n)))
ints_compared (Int m) Null p q = absurd cc
ints_compared (Int m) (Real n) p q = absurd cc
ints_compared (Int m) (Text n) p q = absurd cc
ints_compared (Int m) (Blob n) p q = absurd cc
ints_compared Null b p q = absurd cc
ints_compared (Real x) b p q = absurd cc
ints_compared (Text x) b p q = absurd cc
ints_compared (Blob x) b p q = absurd cc

pub texts_compared : (a b : List ℕ)
    → is_true (binary (by.Compare compare.Eq Binary) (Text a) (Text b)) ≡ is_eq (slice_cmp nat_cmp a b)
unfolding value_cmp binary lib.Ieee.is_nan lib.Ieee.lt
texts_compared a b = truth_is (is_eq (slice_cmp nat_cmp a b))

-- one column of each row, as a key compares them
pub agree-texts : (r s : Row) (p q : ℕ) (a b : List ℕ) → column r p ≡ Text a → column s q ≡ Text b
    → agree plain (p ∷ []) r (q ∷ []) s ≡ (is_eq (slice_cmp nat_cmp a b) && true)
unfolding first_key
agree-texts r s p q a b of_r of_s = rw (of_r, of_s) (ap (λ x. x && true) (texts_compared a b))

pub agree-null : (r s : Row) (p q : ℕ) (a : List ℕ) → column r p ≡ Text a → column s q ≡ Null
    → agree plain (p ∷ []) r (q ∷ []) s ≡ false
unfolding first_key binary
agree-null r s p q a of_r of_s = rw (of_r, of_s) refl
