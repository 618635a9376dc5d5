-- Pieces that are sent one after another.
use Rattle.std.proofs.lemmas.Bool.{eqb-true}
use Rattle.std.proofs.lemmas.Grind.{common_steps}
use Rattle.std.proofs.Common.{◌≡◌, ℕ, List, [], ◌++◌, Option, refl, sym, subst, ◌∙◌, ap, append_assoc, MatchResult, Result, Ok, Err, IsErr, false, true, ◌+◌, ◌-◌, ◌≤◌, ◌==◌, ◌∷◌, length, take, drop, arith, take_all}
use Rattle.std.proofs.lemmas.List.{append-nil, take-append-drop, length-drop, drop-drop}
use Rattle.byte_streams.specs.Streams.{Took, RoseOrStands}
use Rattle.byte_streams.proofs.Taking.{append_known-nil, took_both, took_then_beginning, beginning_of_longer}
use Rattle.byte_streams.specs.Sending.{TookAll, TookPart, SoFar}

-- nothing was sent yet
pub begin : {whole rest : List ℕ} (s : Option (List ℕ)) (f : ℕ) → whole ≡ rest → SoFar s s f f whole rest
begin s f same = record { front = []; cut = same; taken = sym (append_known-nil s); count = refl }

-- one more piece was sent
pub more : {s0 s1 s2 : Option (List ℕ)} {f0 f1 f2 : ℕ} {whole rest piece behind : List ℕ} → SoFar s0 s1 f0 f1 whole rest → rest ≡ piece ++ behind → TookAll s1 s2 f1 f2 piece → SoFar s0 s2 f0 f2 whole behind
more {s0} {s1} {s2} {piece = piece} {behind = behind} so_far cut all = record {
  front = so_far.front ++ piece;
  cut = so_far.cut ∙ ap (λ xs. so_far.front ++ xs) cut ∙ sym (append_assoc so_far.front piece behind);
  taken = took_both s0 s1 s2 so_far.front piece so_far.taken all.taken;
  count = all.count ∙ so_far.count;
}

-- one more piece broke off
pub broke : {s0 s1 s2 : Option (List ℕ)} {f0 f1 f2 : ℕ} {whole rest piece : List ℕ} (behind : List ℕ) → SoFar s0 s1 f0 f1 whole rest → rest ≡ piece ++ behind → TookPart s1 s2 f1 f2 piece → TookPart s0 s2 f0 f2 whole
broke {s0} {s1} {s2} {f2 = f2} {piece = piece} behind so_far cut part = record {
  beginning = rw (so_far.cut, cut) (took_then_beginning s0 s1 s2 so_far.front (piece ++ behind) so_far.taken (beginning_of_longer s1 s2 piece behind part.beginning));
  count = let P : ℕ → Type 0 = λ f. RoseOrStands f f2 in subst P so_far.count part.count;
}

-- no rest is left
pub whole_sent : {s0 s1 : Option (List ℕ)} {f0 f1 : ℕ} {whole rest : List ℕ} → SoFar s0 s1 f0 f1 whole rest → rest ≡ [] → TookAll s0 s1 f0 f1 whole
whole_sent {s0} {s1} so_far none = record {
  taken = let P : List ℕ → Type 0 = λ xs. Took s0 s1 xs in subst P (sym (so_far.cut ∙ ap (λ xs. so_far.front ++ xs) none ∙ append-nil so_far.front)) so_far.taken;
  count = so_far.count;
}

-- the rest was sent
pub last : {s0 s1 s2 : Option (List ℕ)} {f0 f1 f2 : ℕ} {whole rest piece : List ℕ} → SoFar s0 s1 f0 f1 whole rest → rest ≡ piece → TookAll s1 s2 f1 f2 piece → TookAll s0 s2 f0 f2 whole
last {piece = piece} so_far same all = whole_sent (more so_far (same ∙ sym (append-nil piece)) all) refl

pub last_broke : {s0 s1 s2 : Option (List ℕ)} {f0 f1 f2 : ℕ} {whole rest piece : List ℕ} → SoFar s0 s1 f0 f1 whole rest → rest ≡ piece → TookPart s1 s2 f1 f2 piece → TookPart s0 s2 f0 f2 whole
last_broke {piece = piece} so_far same part = broke [] so_far (same ∙ sym (append-nil piece)) part

-- the same for an outcome that isn't looked into
pub outcome : {T E : Type 0} {s0 s1 : Option (List ℕ)} (s2 : Option (List ℕ)) {f0 f1 : ℕ} (f2 : ℕ) {whole rest piece : List ℕ} (r : Result T E) → SoFar s0 s1 f0 f1 whole rest → rest ≡ piece
    → MatchResult r (λ _. TookAll s1 s2 f1 f2 piece) (λ _. TookPart s1 s2 f1 f2 piece)
    → MatchResult r (λ _. TookAll s0 s2 f0 f2 whole) (λ _. TookPart s0 s2 f0 f2 whole)
outcome s2 f2 (Ok x) so_far same h = last so_far same h
outcome s2 f2 (Err e) so_far same h = last_broke so_far same h

-- the outcome that `?` passes on
pub stopped : {T E : Type 0} {s0 s1 s2 : Option (List ℕ)} {f0 f1 f2 : ℕ} {whole rest piece : List ℕ} (r : Result T E) (behind : List ℕ) → IsErr r → SoFar s0 s1 f0 f1 whole rest → rest ≡ piece ++ behind
    → TookPart s1 s2 f1 f2 piece → MatchResult r (λ _. TookAll s0 s2 f0 f2 whole) (λ _. TookPart s0 s2 f0 f2 whole)
stopped (Ok x) behind err so_far same part = let differs : false ≡ true = err in cc
stopped (Err e) behind err so_far same part = broke behind so_far same part

-- ---- one write

-- a slice up to the end
pub rest_slice : (bytes : List ℕ) (n : ℕ) → n ≤ length bytes → drop n bytes ≡ take (length bytes - n) (drop n bytes)
rest_slice bytes n within = sym (take_all (length bytes - n) (drop n bytes) (omega (arith, length-drop n bytes)))

-- the bytes that one write took, and those behind them
pub taken_by_write : (bytes : List ℕ) (i n : ℕ) → i ≤ length bytes
    → drop i bytes ≡ take n (take (length bytes - i) (drop i bytes)) ++ drop (i + n) bytes
taken_by_write bytes i n within =
    sym (take-append-drop n (drop i bytes)) ∙ ap (λ xs. take n (drop i bytes) ++ xs) (drop-drop n i bytes ∙ ap (λ k. drop k bytes) (omega arith))
    ∙ ap (λ xs. take n xs ++ drop (i + n) bytes) (rest_slice bytes i within)

pub fits_write : (bytes : List ℕ) (i n : ℕ) → i ≤ length bytes → n ≤ length (take (length bytes - i) (drop i bytes)) → i + n ≤ length bytes
fits_write bytes i n within most = grind (arith, common_steps)

pub all_gone : {X : Type 0} (xs : List X) (i : ℕ) → length xs ≤ i → drop i xs ≡ []
all_gone xs i past = grind (arith, common_steps)

pub none_there : {X : Type 0} (xs : List X) → true ≡ (length xs == 0) → xs ≡ []
none_there [] none = refl
none_there (x ∷ xs) none = let zero_long : length (x ∷ xs) ≡ 0 = eqb-true (length (x ∷ xs)) 0 (sym none) in absurd (omega arith)
