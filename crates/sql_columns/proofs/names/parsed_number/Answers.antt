-- An error means that nothing is parsed.
use Rattle.std.proofs.Common.{◌≡◌, ℕ, List, true, false, Option, Some, None, Err, IsOk, ◌↔◌, true≢false, refl, sym}
use Rattle.sql_columns.proofs.names.parsed_number.Goals as goal

none_at_err : {E : Type 0} (e : E) (o : Option (List ℕ)) → (IsOk {T = List ℕ} (Err e) ↔ ((u : List ℕ) × (o ≡ Some u))) → None ≡ o
none_at_err e None ok = refl
none_at_err e (Some u) ok = absurd (true≢false (sym (ok.1 (u, refl))))

pub returns-in-Err : goal.returns-in-Err
returns-in-Err c = none_at_err c.in-Err.field-0 _ c.in-Err.ensures.ok
