-- What readers tell of rows: that they stand for values, and of a failure that they don't.
use Rattle.std.proofs.Common.{◌≡◌, ◌≢◌, ◌+◌, ◌<◌, ◌≤◌, ℕ, Bool, true, false, ◌&&◌, List, length, take, get_or, Result, Ok, Err, IfErr, refl, sym, ap, ◌∙◌}
use Rattle.std.specs.Prelude.{IsErr, IsErrAnd}
use Rattle.std.specs.List.{list_all}
use Rattle.std.proofs.lemmas.List.{take_all}
use Rattle.std.proofs.lemmas.List.Folds.{list_all_more, list_all_at}
use Rattle.tables.specs.declared.faults.Lost.{Lost}
use Rattle.tables.specs.declared.faults.Lost.TheVariants.{Memory, Disk}
use Rattle.sql_decoding.specs.declared.faults.Failure.{Failure}
use Rattle.sql_decoding.specs.RowTests.{IsUnread}

pub second_fails : (a b : Bool) → b ≡ false → (a && b) ≡ false
second_fails true b fails = fails
second_fails false b fails = refl

pub first_fails : (a b : Bool) → a ≡ false → (a && b) ≡ false
first_fails a b fails = ap (λ x. x && b) fails

-- ---- failures

-- want of memory tells nothing of rows
pub memory_tells : {A : Type 0} (failure : Failure) → failure.lost ≡ Memory → failure.lost ≢ Memory → A
memory_tells failure memory other = absurd (other memory)

-- what tells of the disk is none
pub disk_is_other : (lost : Lost) → lost ≡ Disk → lost ≢ Memory
disk_is_other lost disk memory = let both : Memory ≡ Disk = sym memory ∙ disk in cc

module _ {X : Type 0} (r : Result X Failure) (failure : Failure) (b : Bool) where
  -- a failure that is handed on
  pub handed_on : (a : Bool) → IsErr r × IsErrAnd r (λ handed. handed ≡ failure) → (a ≡ false → b ≡ false) → IsUnread a failure → IfErr r (IsUnread b)
  handed_on a h more unread = by r h
    where
      by : (s : Result X Failure) → IsErr s × IsErrAnd s (λ handed. handed ≡ failure) → IfErr s (IsUnread b)
      by (Ok x) g = tt
      by (Err e) g = λ other. more (unread (λ memory. other (ap (λ (f : Failure). f.lost) g.1 ∙ memory)))

  pub memory_handed_on : IsErr r × IsErrAnd r (λ handed. handed ≡ failure) → failure.lost ≡ Memory → IfErr r (IsUnread b)
  memory_handed_on h memory = by r h
    where
      by : (s : Result X Failure) → IsErr s × IsErrAnd s (λ handed. handed ≡ failure) → IfErr s (IsUnread b)
      by (Ok x) g = tt
      by (Err e) g = memory_tells e (ap (λ (f : Failure). f.lost) g.1 ∙ memory)

-- what is told of a test, of what its holding is
pub not_read : (b : Bool) (failure : Failure) → IsUnread b failure → failure.lost ≢ Memory → ¬ (b ≡ true)
not_read b failure unread other stands = absurd (let e : true ≡ false = sym stands ∙ unread other in cc)

-- the same, of what is no test
pub handed_on_of : {X : Type 0} (r : Result X Failure) (failure : Failure) {P Q : Type 0} → IsErr r × IsErrAnd r (λ handed. handed ≡ failure) → (Q → P) → (failure.lost ≢ Memory → ¬ P)
    → IfErr r (λ f. f.lost ≢ Memory → ¬ Q)
handed_on_of (Ok x) failure h less unread = tt
handed_on_of (Err e) failure h less unread = λ other q. unread (λ memory. other (ap (λ (f : Failure). f.lost) h.1 ∙ memory)) (less q)

-- ---- rows one after the other

module _ {X : Type 0} (p : X → Bool) (rows : List X) (i : ℕ) where
  pub more_stand : (row : X) → i < length rows → row ≡ get_or rows i row → list_all p (take i rows) ≡ true → p row ≡ true → list_all p (take (i + 1) rows) ≡ true
  more_stand row within is so_far stands = list_all_more p rows i row within ∙ ap (λ b. b && p (get_or rows i row)) so_far ∙ ap p (sym is) ∙ stands

  pub all_stand : length rows ≤ i → list_all p (take i rows) ≡ true → list_all p rows ≡ true
  all_stand past so_far = ap (list_all p) (sym (take_all i rows past)) ∙ so_far

  pub one_fails : (row : X) → i < length rows → row ≡ get_or rows i row → p row ≡ false → list_all p rows ≡ false
  one_fails row within is fails = list_all_at p rows i row within (ap p (sym is) ∙ fails)
