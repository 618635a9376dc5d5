-- What a source gave and what a writer took, step by step.
use Rattle.std.proofs.Common.{◌≡◌, ◌≢◌, ℕ, ◌-◌, ◌^◌, ◌<◌, ◌≤◌, ◌⊎◌, inl, inr, nat_lt, List, [], ◌++◌, Bool, true, false, length, take, Option, Some, None, Result, Ok, Err, MatchResult, refl, sym, ap, subst, ◌∙◌, append_assoc, append-nil, arith, length-take}
use Rattle.std.proofs.lemmas.Bool.Decides.{nat_tests}
use Rattle.std.specs.Prelude.{IfSome}
use Rattle.byte_streams.specs.Streams.{prepend_known, IsAtEnd, one_more, RoseOrStands}
use Rattle.byte_streams.proofs.Taking.{append_known-nil, took_both, took_then_beginning}
use Rattle.byte_streams.specs.Sending.{TookAll, TookPart}
use Rattle.office.specs.Writers.{Writer, TakesAll, TakesPart}

-- ---- what a source gave

pub nothing_read : (old : Option (List ℕ)) → old ≡ prepend_known [] old
nothing_read None = refl
nothing_read (Some xs) = refl

pub read_more : (old mid new : Option (List ℕ)) (a b : List ℕ) → old ≡ prepend_known a mid → mid ≡ prepend_known b new → old ≡ prepend_known (a ++ b) new
read_more old mid None a b first second = first ∙ ap (prepend_known a) second
read_more old mid (Some xs) a b first second = first ∙ ap (prepend_known a) second ∙ ap Some (sym (append_assoc a b xs))

pub same_read : (old new : Option (List ℕ)) → new ≡ old → old ≡ prepend_known [] new
same_read old new same = subst (λ o. old ≡ prepend_known [] o) (sym same) (nothing_read old)

pub end_read : (old new : Option (List ℕ)) (room : List ℕ) (n : ℕ) → n ≡ 0 → old ≡ prepend_known (take n room) new → IsAtEnd old → (old ≡ prepend_known [] new) × IsAtEnd new
end_read old new room n none read end =
    let P : ℕ → Type 0 = λ k. old ≡ prepend_known (take k room) new in
    let nothing : old ≡ prepend_known [] new = subst P none read in
    (nothing, subst IsAtEnd (nothing ∙ sym (nothing_read new)) end)

pub some_read : (room : List ℕ) (n size : ℕ) → n ≢ 0 → n ≤ size → length room ≡ size → 0 < length (take n room)
some_read room n size some most is = simp length-take (omega arith)

-- one more failure
pub rose : (old new : ℕ) → new ≡ one_more old → RoseOrStands old new
rose old new is = by (nat_lt old (2 ^ 64 - 1)) refl
  where
    by : (t : Bool) → nat_lt old (2 ^ 64 - 1) ≡ t → RoseOrStands old new
    by true low = inl (let less : old < 2 ^ 64 - 1 = grind (arith, nat_tests) in omega arith)
    by false high = inr (let least : 2 ^ 64 - 1 ≤ old = grind (arith, nat_tests) in omega arith)

-- at the end all was read
pub all_read : (old new : Option (List ℕ)) (got : List ℕ) → old ≡ prepend_known got new → IsAtEnd new → IfSome old (λ all. got ≡ all)
all_read old None got read end = let P : Option (List ℕ) → Type 0 = λ o. IfSome o (λ all. got ≡ all) in subst P (sym read) tt
all_read old (Some xs) got read end = let P : Option (List ℕ) → Type 0 = λ o. IfSome o (λ all. got ≡ all) in subst P (sym read) (sym (append-nil got) ∙ ap (λ t. got ++ t) (sym end))

-- else something may be left
pub record Given (old : Option (List ℕ)) (got : List ℕ) : Type 0 where
  pub later : List ℕ
  pub all : IfSome old (λ all. got ++ later ≡ all)

pub given : (old new : Option (List ℕ)) (got : List ℕ) → old ≡ prepend_known got new → Given old got
given old None got read = record { later = []; all = let P : Option (List ℕ) → Type 0 = λ o. IfSome o (λ all. got ++ [] ≡ all) in subst P (sym read) tt }
given old (Some xs) got read = record { later = xs; all = let P : Option (List ℕ) → Type 0 = λ o. IfSome o (λ all. got ++ xs ≡ all) in subst P (sym read) refl }

-- ---- what a writer took

pub took_none : (s : Option (List ℕ)) (f : ℕ) → TookAll s s f f []
took_none s f = record { taken = sym (append_known-nil s); count = refl }

pub took_all : {s0 s1 s2 : Option (List ℕ)} {f0 f1 f2 : ℕ} (a b : List ℕ) → TookAll s0 s1 f0 f1 a → TookAll s1 s2 f1 f2 b → TookAll s0 s2 f0 f2 (a ++ b)
took_all {s0} {s1} {s2} a b first then = record { taken = took_both s0 s1 s2 a b first.taken then.taken; count = then.count ∙ first.count }

pub took_part : {s0 s1 s2 : Option (List ℕ)} {f0 f1 f2 : ℕ} (a b : List ℕ) → TookAll s0 s1 f0 f1 a → TookPart s1 s2 f1 f2 b → TookPart s0 s2 f0 f2 (a ++ b)
took_part {s0} {s1} {s2} {f2 = f2} a b first then = record {
  beginning = took_then_beginning s0 s1 s2 a b first.taken then.beginning;
  count = let P : ℕ → Type 0 = λ f. RoseOrStands f f2 in subst P first.count then.count;
}

-- either way
pub all_or_part : {T E : Type 0} (w0 w1 : Writer) (text : List ℕ) (r : Result T E) → MatchResult r (λ _. TakesAll w0 w1 text) (λ _. TakesPart w0 w1 text) → TakesAll w0 w1 text ⊎ TakesPart w0 w1 text
all_or_part w0 w1 text (Ok x) all = inl all
all_or_part w0 w1 text (Err e) part = inr part
