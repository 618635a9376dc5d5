-- What a sink takes in two steps it takes in one.
use Rattle.std.proofs.Common.{◌≡◌, List, ℕ, [], ◌++◌, refl, sym, ap, append_assoc, Option, Some, None}
use Rattle.std.proofs.lemmas.List.{append-nil}
use Rattle.byte_streams.specs.Streams.{append_known, Took, TookBeginning}

pub append_known-append : (old : Option (List ℕ)) (a b : List ℕ) → append_known (append_known old a) b ≡ append_known old (a ++ b)
append_known-append None a b = refl
append_known-append (Some xs) a b = ap (λ ys. Some ys) (append_assoc xs a b)

pub append_known-nil : (old : Option (List ℕ)) → append_known old [] ≡ old
append_known-nil None = refl
append_known-nil (Some xs) = ap (λ ys. Some ys) (append-nil xs)

-- all of one text, and then all of another
pub took_both : (old mid new : Option (List ℕ)) (a b : List ℕ) → Took old mid a → Took mid new b → Took old new (a ++ b)
took_both old mid new a b first second = rw (second, first) (append_known-append old a b)

-- a beginning of a text is one of a longer text
pub beginning_of_longer : (old new : Option (List ℕ)) (a b : List ℕ) → TookBeginning old new a → TookBeginning old new (a ++ b)
beginning_of_longer old new a b part = record {
  front = part.front;
  rest = part.rest ++ b;
  whole = rw part.whole (append_assoc part.front part.rest b);
  taken = part.taken;
}

-- all of one text, and then a beginning of another
pub took_then_beginning : (old mid new : Option (List ℕ)) (a b : List ℕ) → Took old mid a → TookBeginning mid new b → TookBeginning old new (a ++ b)
took_then_beginning old mid new a b first part = record {
  front = a ++ part.front;
  rest = part.rest;
  whole = rw part.whole (sym (append_assoc a part.front part.rest));
  taken = rw (part.taken, first) (append_known-append old a part.front);
}
