-- One more delivery of a run.
use Rattle.std.proofs.Common.{◌≡◌, ℕ, suc, List, [], ◌∷◌, ◌++◌, length, arith, refl, sym, ◌∙◌, ap, subst, Ok, Err, Result, ◌<◌, ◌≤◌, ◌+◌, zero, get_or, take, add-one}
use Rattle.std.specs.Prelude.{IfOk, OnOk, OnErr, IsOk, is_ok, cond, All}
use Rattle.std.proofs.Math.Seq.{take-suc}
use Rattle.std.proofs.lemmas.List.Elements.{All-append}
use Rattle.request_book.specs.declared.act.Request.{Request}
use Rattle.request_book.specs.Replies.{Reply}
use Rattle.request_book.specs.Book.{OfficeWithBook}
use Rattle.office_specification.specs.OfficeRules.{KeepsRules}
use Rattle.office_specification.specs.Deliveries.{left_by, answers_of, told, kept, lost_marks, is_lost}
use Rattle.office_specification.proofs.retries.Once.{joined}

module _ {E : Type 0} where
  lost_marks-last : (rs : List (Result Reply E)) (r : Result Reply E) → lost_marks (rs ++ r ∷ []) ≡ lost_marks rs ++ is_lost r ∷ []
  lost_marks-last [] r = refl
  lost_marks-last (s ∷ rs) r = ap (λ ms. is_lost s ∷ ms) (lost_marks-last rs r)

  pub told-ok : (rs : List (Result Reply E)) (reply : Reply) → told (rs ++ Ok reply ∷ []) ≡ told rs ++ reply ∷ []
  told-ok [] reply = refl
  told-ok (Ok s ∷ rs) reply = ap (λ xs. s ∷ xs) (told-ok rs reply)
  told-ok (Err e ∷ rs) reply = told-ok rs reply

  pub told-err : (rs : List (Result Reply E)) (e : E) → told (rs ++ Err e ∷ []) ≡ told rs
  told-err [] e = refl
  told-err (Ok s ∷ rs) e = ap (λ xs. s ∷ xs) (told-err rs e)
  told-err (Err d ∷ rs) e = told-err rs e

  pub kept-ok : (xs : List Request) (rs : List (Result Reply E)) (x : Request) (reply : Reply) → length xs ≡ length rs →
      kept (xs ++ x ∷ []) (lost_marks (rs ++ Ok reply ∷ [])) ≡ kept xs (lost_marks rs) ++ x ∷ []
  kept-ok [] [] x reply e = refl
  kept-ok [] (r ∷ rs) x reply e = absurd (omega arith)
  kept-ok (y ∷ xs) [] x reply e = absurd (omega arith)
  kept-ok (y ∷ xs) (Ok r ∷ rs) x reply e = ap (λ zs. y ∷ zs) (kept-ok xs rs x reply (omega arith))
  kept-ok (y ∷ xs) (Err r ∷ rs) x reply e = kept-ok xs rs x reply (omega arith)

  pub kept-err : (xs : List Request) (rs : List (Result Reply E)) (x : Request) (d : E) → length xs ≡ length rs →
      kept (xs ++ x ∷ []) (lost_marks (rs ++ Err d ∷ [])) ≡ kept xs (lost_marks rs)
  kept-err [] [] x d e = refl
  kept-err [] (r ∷ rs) x d e = absurd (omega arith)
  kept-err (y ∷ xs) [] x d e = absurd (omega arith)
  kept-err (y ∷ xs) (Ok r ∷ rs) x d e = ap (λ zs. y ∷ zs) (kept-err xs rs x d (omega arith))
  kept-err (y ∷ xs) (Err r ∷ rs) x d e = kept-err xs rs x d (omega arith)

  -- what the tables mean and what was told, after some requests and their results
  pub record Ran (m now : OfficeWithBook) (xs : List Request) (rs : List (Result Reply E)) : Type 0 where
    pub left : now ≡ left_by m (kept xs (lost_marks rs))
    pub answers : told rs ≡ answers_of m (kept xs (lost_marks rs))

  -- one more delivery leaves what a list of one leaves, and answers its one reply; or it is lost
  pub one_more : (m now next : OfficeWithBook) (xs : List Request) (rs : List (Result Reply E)) (x : Request) (r : Result Reply E) → length xs ≡ length rs → Ran m now xs rs →
      OnOk r (next ≡ left_by now (x ∷ [])) → IfOk r (λ reply. reply ∷ [] ≡ answers_of now (x ∷ [])) → OnErr r (next ≡ now) → Ran m next (xs ++ x ∷ []) (rs ++ r ∷ [])
  one_more m now next xs rs x (Ok reply) len ran tables answer lost =
      let done = kept xs (lost_marks rs) in
      let both = joined m done (x ∷ []) in
      let longer = kept-ok xs rs x reply len in
      record {
        left = tables ∙ (ap (λ (n : OfficeWithBook). left_by n (x ∷ [])) ran.left ∙ (sym both.0 ∙ sym (ap (left_by m) longer)));
        answers = told-ok rs reply ∙ (ap (λ ts. ts ++ reply ∷ []) ran.answers
            ∙ (ap (λ ts. answers_of m done ++ ts) (answer ∙ ap (λ (n : OfficeWithBook). answers_of n (x ∷ [])) ran.left)
            ∙ (sym both.1 ∙ sym (ap (answers_of m) longer))));
      }
  one_more m now next xs rs x (Err e) len ran tables answer lost = record {
    left = lost ∙ (ran.left ∙ sym (ap (left_by m) (kept-err xs rs x e len)));
    answers = told-err rs e ∙ (ran.answers ∙ sym (ap (answers_of m) (kept-err xs rs x e len)));
  }

-- a delivery, lost or not, keeps the rules where it does so if it isn't lost
pub still_start : {T F : Type 0} (r : Result T F) (old new : OfficeWithBook) → OnOk r (KeepsRules old → KeepsRules new) → OnErr r (new ≡ old) → KeepsRules old → KeepsRules new
still_start (Ok t) old new kept same start = kept start
still_start (Err f) old new kept same start = subst KeepsRules (sym same) start

-- a push that succeeds
pub pushed : {X T F : Type 0} (r : Result T F) (new old : List X) (x : X) → IsOk r → new ≡ cond (is_ok r) (old ++ x ∷ []) old → new ≡ old ++ x ∷ []
pushed (Ok t) new old x ok e = e
pushed (Err f) new old x ok e = cc

-- one more of a list
pub taken : {X : Type 0} (l : List X) (i : ℕ) (x : X) → i < length l → x ≡ get_or l i x → take (i + 1) l ≡ take i l ++ x ∷ []
taken l i x lt is = rw add-one (take-suc l i x lt ∙ ap (λ y. take i l ++ y ∷ []) (sym is))

pub longer : {T F : Type 0} (r : Result T F) (new old : ℕ) → IsOk r → new ≡ cond (is_ok r) (old + 1) old → new ≡ old + 1
longer (Ok t) new old ok e = e
longer (Err f) new old ok e = cc

pub take-whole : {X : Type 0} (n : ℕ) (xs : List X) → length xs ≤ n → take n xs ≡ xs
take-whole zero [] h = refl
take-whole (suc n) [] h = refl
take-whole zero (x ∷ xs) h = absurd (omega arith)
take-whole (suc n) (x ∷ xs) h = ap (λ ys. x ∷ ys) (take-whole n xs (omega arith))

-- a fact of a list of one
pub one_all : {X : Type 0} (P : X → Type 0) (x : X) → P x → All P (x ∷ [])
one_all P x h zero d lt = h
one_all P x h (suc k) d lt = absurd (omega arith)

pub one_more_all : {X : Type 0} (P : X → Type 0) (new old : List X) (x : X) → new ≡ old ++ x ∷ [] → All P old → P x → All P new
one_more_all P new old x is all h = subst (All P) (sym is) (All-append P old (x ∷ []) all (one_all P x h))
