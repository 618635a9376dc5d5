-- A result of reading, a value or the kind of a fault, and what is white: this project's own words for the definitions beside them.
use Rattle.std.specs.Prelude.{ℕ, List, [], ◌∷◌, Bool, ◌||◌, ◌==◌, Option, Some, None, Result, Ok, Err, if◌then◌else◌}
use Rattle.std.specs.List.{list_all}
use Rattle.po_lex.specs.declared.fault.FaultKind.{FaultKind}

infixl 10 ◌>>=◌
abbrev pub ◌>>=◌ : {A B : Type 0} → Result A FaultKind → (A → Result B FaultKind) → Result B FaultKind
(Ok x) >>= f = f x
(Err e) >>= f = Err e

abbrev pub ok_or : {A : Type 0} → Option A → FaultKind → Result A FaultKind
ok_or (Some x) e = Ok x
ok_or None e = Err e

-- a space or a tab
abbrev pub is_white : ℕ → Bool
is_white b = (b == 32) || (b == 9)

abbrev pub is_all_white : List ℕ → Bool
is_all_white bytes = list_all is_white bytes

-- the bytes from the first that isn't white
abbrev pub skip_white : List ℕ → List ℕ
skip_white [] = []
skip_white (b ∷ bytes) = if is_white b then skip_white bytes else b ∷ bytes

-- the bytes up to the last that isn't white
abbrev pub drop_white_end : List ℕ → List ℕ
drop_white_end [] = []
drop_white_end (b ∷ bytes) = if is_all_white (b ∷ bytes) then [] else b ∷ drop_white_end bytes

-- without white at its ends
abbrev pub trim : List ℕ → List ℕ
trim bytes = drop_white_end (skip_white bytes)
