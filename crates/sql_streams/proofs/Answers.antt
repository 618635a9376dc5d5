-- A walk by what an answer is.
use Rattle.std.proofs.Common.{inl, inr, ℕ, List, [], ◌∷◌, ◌++◌, append_assoc, Result, Ok, Err, OnOk, IfErr, subst}
use Rattle.sqlite.specs.Order.{Row}
use Rattle.sqlite.specs.State.{State, Begins, Shown}
use Rattle.sql_streams.specs.declared.walking.WalkFault.{WalkFault}
use Rattle.sql_streams.specs.declared.walking.WalkFault.TheVariants.{NoRows, NoSink}
use Rattle.sql_streams.specs.Walks.{TookAll, TookFront, HandsOut}

module _ {K R : Type 0} (Took : K → List Row → K → Type 0) (Refuses : K → Row → R → K → Type 0) (sql : List ℕ) (params : Row) (s : State) (IsAnswer : List Row → Type 0)
    (shown : (rows : List Row) → Shown sql params s s rows → IsAnswer rows) (begins : (rows : List Row) → Begins sql params s rows → (tail : List Row) × IsAnswer (rows ++ tail)) (first last : K) where
  pub hands_out : {T : Type 0} (r : Result T (WalkFault R)) → OnOk r (TookAll Took sql params s first last) → IfErr r (TookFront Took Refuses sql params s first last) → HandsOut Took Refuses IsAnswer first last r
  hands_out (Ok x) all cut = record { rows = all.rows; answer = shown all.rows all.shown; took = all.took }
  hands_out (Err (NoRows error)) all cut = elim cut.begins [
    | inl none ↦ record { front = cut.front; rest = []; answer = inl none; took = cut.took }
    | inr some ↦ let whole = begins cut.front some in record { front = cut.front; rest = whole.0; answer = inr whole.1; took = cut.took }
  ]
  hands_out (Err (NoSink refusal)) all cut =
      let whole = begins (cut.front ++ cut.row ∷ []) cut.begins in
      record { front = cut.front; row = cut.row; rest = whole.0; mid = cut.mid; answer = subst IsAnswer (append_assoc cut.front (cut.row ∷ []) whole.0) whole.1; took = cut.took; refused = cut.refused }
