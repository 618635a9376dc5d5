-- Lists with their next, and with one that fails a test.
use Rattle.std.proofs.Common.{◌≡◌, ℕ, ◌+◌, ◌<◌, ◌≤◌, Bool, true, false, cond, ◌&&◌, ◌||◌, List, [], ◌∷◌, ◌++◌, length, take, drop, map, get_or, Option, Some, None, Bor, is_some, refl, sym, ap, ◌∙◌, add-one, append_assoc, arith}
use Rattle.std.specs.Prelude.{find, filter}
use Rattle.std.specs.List.{list_any, list_all}
use Rattle.std.specs.Option.{option_copied}
use Rattle.std.proofs.Math.Seq.{drop-cons}
use Rattle.std.proofs.lemmas.Grind.{common_steps}
use Rattle.std.proofs.lemmas.List.{take_more, map-append, take-append-drop}
use Rattle.std.proofs.lemmas.List.Elements.{filter-append}
use Rattle.std.proofs.lemmas.List.Folds.{list_all-append}

pub next_taken : {X : Type 0} (xs : List X) (i : ℕ) (x : X) → i < length xs → x ≡ get_or xs i x → take (i + 1) xs ≡ take i xs ++ x ∷ []
next_taken xs i x within is = take_more xs i x within ∙ ap (λ y. take i xs ++ y ∷ []) (sym is)

-- a list around one of it
around : {X : Type 0} (xs : List X) (i : ℕ) (x : X) → i < length xs → x ≡ get_or xs i x → xs ≡ take i xs ++ x ∷ drop (i + 1) xs
around xs i x within is =
    sym (take-append-drop i xs) ∙ ap (λ ys. take i xs ++ ys) (drop-cons xs i x within ∙ (λ k. sym is k ∷ drop (sym (add-one i) k) xs))

and_false : (b : Bool) → (b && false) ≡ false
and_false true = refl
and_false false = refl

-- not all pass a test that one fails
pub fails : {X Y : Type 0} (p : Y → Bool) (f : X → Y) (xs : List X) (i : ℕ) (x : X) → i < length xs → x ≡ get_or xs i x → p (f x) ≡ false → list_all p (map f xs) ≡ false
fails p f xs i x within is fail =
    ap (list_all p) (ap (map f) (around xs i x within is) ∙ map-append f (take i xs) (x ∷ drop (i + 1) xs))
    ∙ list_all-append p (map f (take i xs)) (map f (x ∷ drop (i + 1) xs))
    ∙ ap (λ b. list_all p (map f (take i xs)) && (b && list_all p (map f (drop (i + 1) xs)))) fail
    ∙ and_false (list_all p (map f (take i xs)))

pub filter-more : {X : Type 0} (p : X → Bool) (xs : List X) (x : X) → p x ≡ true → filter p (xs ++ x ∷ []) ≡ filter p xs ++ x ∷ []
filter-more p xs x e = filter-append p xs (x ∷ []) ∙ ap (λ b. filter p xs ++ cond b (x ∷ []) []) e

pub filter-same : {X : Type 0} (p : X → Bool) (xs : List X) (x : X) → p x ≡ false → filter p (xs ++ x ∷ []) ≡ filter p xs
filter-same p xs x e = filter-append p xs (x ∷ []) ∙ ap (λ b. filter p xs ++ cond b (x ∷ []) []) e ∙ no_more (filter p xs)
  where
    no_more : {Y : Type 0} (ys : List Y) → ys ++ [] ≡ ys
    no_more [] = refl
    no_more (y ∷ ys) = ap (λ zs. y ∷ zs) (no_more ys)

pub is_some-find : {X : Type 0} (p : X → Bool) (xs : List X) → is_some (find p xs) ≡ list_any p xs
is_some-find p [] = refl
is_some-find p (x ∷ xs) = elim (p x) as (λ b. is_some (cond b (Some x) (find p xs)) ≡ (b || list_any p xs)) [ true ↦ refl | false ↦ is_some-find p xs ]

pub is_some-copied : {X : Type 0} (o : Option (Bor X)) → is_some o ≡ is_some (option_copied o)
is_some-copied None = refl
is_some-copied (Some x) = refl

-- what a list has made of it, with one more
pub map-kept : {X Y : Type 0} (p : X → Bool) (f : X → Y) (xs : List X) (x : X) (old all : List Y) (y : Y) → p x ≡ true → all ≡ old ++ map f (filter p xs) → y ≡ f x
    → all ++ y ∷ [] ≡ old ++ map f (filter p (xs ++ x ∷ []))
map-kept p f xs x old all y e h made =
    (λ i. h i ++ made i ∷ []) ∙ append_assoc old (map f (filter p xs)) (f x ∷ [])
    ∙ ap (λ ys. old ++ ys) (sym (map-append f (filter p xs) (x ∷ []))) ∙ ap (λ ys. old ++ map f ys) (sym (filter-more p xs x e))

pub map-left : {X Y : Type 0} (p : X → Bool) (f : X → Y) (xs : List X) (x : X) (old all : List Y) → p x ≡ false → all ≡ old ++ map f (filter p xs) → all ≡ old ++ map f (filter p (xs ++ x ∷ []))
map-left p f xs x old all e h = h ∙ ap (λ ys. old ++ map f ys) (sym (filter-same p xs x e))

pub map-next : {X Y : Type 0} (f : X → Y) (xs : List X) (i : ℕ) (x : X) → i < length xs → x ≡ get_or xs i x → map f (take (i + 1) xs) ≡ map f (take i xs) ++ f x ∷ []
map-next f xs i x within is = ap (map f) (next_taken xs i x within is) ∙ map-append f (take i xs) (x ∷ [])

pub all_taken : {X : Type 0} (xs : List X) (i : ℕ) → length xs ≤ i → take i xs ≡ xs
all_taken xs i past = grind (arith, common_steps)
