-- Lines that are written and handed on.
use Rattle.std.proofs.Common.{◌≡◌, ℕ, List, [], true, false, Result, Ok, Err, MatchResult, IsErr, subst, append-nil}
use Rattle.office.specs.Writers.{Writer, TakesAll, TakesPart}
use Rattle.office.proofs.Streaming.{took_all, took_part}

pub broke_off : {T E : Type 0} (w0 w1 : Writer) (text : List ℕ) (r : Result T E) → IsErr r → TakesPart w0 w1 text → MatchResult r (λ _. TakesAll w0 w1 text) (λ _. TakesPart w0 w1 text)
broke_off w0 w1 text (Ok x) err part = let differs : false ≡ true = err in cc
broke_off w0 w1 text (Err e) err part = part

pub handed_on : {T E : Type 0} (w0 w1 w2 : Writer) (text : List ℕ) (r : Result T E) → TakesAll w0 w1 text → MatchResult r (λ _. TakesAll w1 w2 []) (λ _. TakesPart w1 w2 [])
    → MatchResult r (λ _. TakesAll w0 w2 text) (λ _. TakesPart w0 w2 text)
handed_on w0 w1 w2 text (Ok x) all then = subst (TakesAll w0 w2) (append-nil text) (took_all text [] all then)
handed_on w0 w1 w2 text (Err e) all then = subst (TakesPart w0 w2) (append-nil text) (took_part text [] all then)
