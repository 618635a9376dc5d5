-- Members of a list are struck out in one pass: where the next one that is left stands, it is taken.
use Rattle.std.proofs.Common.{◌≡◌, List, [], ◌∷◌, ◌++◌, Bool, true, false, ◌&&◌, ◌||◌, map, cond, refl, sym, ap, ◌∙◌, inl, inr}
use Rattle.std.specs.List.{list_any}
use Rattle.std.proofs.lemmas.Bool.{or_cases, and_parts, cases_Bool, false≢true}
use Rattle.po_text.specs.Texts.{Text, text_eq, texts_eq}
use Rattle.checks.specs.Findings.{struck_out_of, is_struck_out}

-- ---- what is in joined lists, and in lists that begin alike

any-append : {X : Type 0} (test : X → Bool) (xs ys : List X) → list_any test (xs ++ ys) ≡ (list_any test xs || list_any test ys)
any-append test [] ys = refl
any-append test (x ∷ xs) ys = elim (cases_Bool (test x)) [
  | inl e ↦ rw e refl
  | inr e ↦ rw e (any-append test xs ys)
]

any-begun : (x y : Text) (xs : List Text) (lists : List (List Text)) → list_any (texts_eq (x ∷ xs)) (map (λ left. y ∷ left) lists) ≡ (text_eq x y && list_any (texts_eq xs) lists)
any-begun x y xs [] = elim (cases_Bool (text_eq x y)) [
  | inl e ↦ rw e refl
  | inr e ↦ rw e refl
]
any-begun x y xs (left ∷ lists) = elim (cases_Bool (text_eq x y)) [
  | inl e ↦ rw (any-begun x y xs lists, e) refl
  | inr e ↦ rw (any-begun x y xs lists, e) refl
]

or-right : (a b : Bool) → b ≡ true → (a || b) ≡ true
or-right true b e = refl
or-right false b e = e

-- ---- one step

at_cons : (x y : Text) (xs ys : List Text) → is_struck_out (x ∷ xs) (y ∷ ys) ≡ ((text_eq x y && is_struck_out xs ys) || is_struck_out (x ∷ xs) ys)
unfolding is_struck_out
at_cons x y xs ys =
    any-append (texts_eq (x ∷ xs)) (map (λ left. y ∷ left) (struck_out_of ys)) (struck_out_of ys)
    ∙ ap (λ b. b || list_any (texts_eq (x ∷ xs)) (struck_out_of ys)) (any-begun x y xs (struck_out_of ys))

-- one more member is struck out
struck-more : (y : Text) (xs ys : List Text) → is_struck_out xs ys ≡ true → is_struck_out xs (y ∷ ys) ≡ true
unfolding is_struck_out
struck-more y xs ys e =
    any-append (texts_eq xs) (map (λ left. y ∷ left) (struck_out_of ys)) (struck_out_of ys)
    ∙ or-right (list_any (texts_eq xs) (map (λ left. y ∷ left) (struck_out_of ys))) _ e

-- the first that is left may be struck out too
struck-first : (x : Text) (xs ys : List Text) → is_struck_out (x ∷ xs) ys ≡ true → is_struck_out xs ys ≡ true
unfolding is_struck_out
struck-first x xs [] e = cc
struck-first x xs (y ∷ ys) e = elim (or_cases (text_eq x y && is_struck_out xs ys) (is_struck_out (x ∷ xs) ys) (sym (at_cons x y xs ys) ∙ e)) [
  | inl kept ↦ struck-more y xs ys (and_parts (text_eq x y) (is_struck_out xs ys) kept).1
  | inr struck ↦ struck-more y xs ys (struck-first x xs ys struck)
]

-- ---- the pass

pub none_left : (ys : List Text) → is_struck_out [] ys ≡ true
unfolding is_struck_out
none_left [] = refl
none_left (y ∷ ys) = struck-more y [] ys (none_left ys)

pub some_left : (x : Text) (xs : List Text) → is_struck_out (x ∷ xs) [] ≡ false
unfolding is_struck_out
some_left x xs = refl

pub at_kept : (x y : Text) (xs ys : List Text) → text_eq x y ≡ true → is_struck_out (x ∷ xs) (y ∷ ys) ≡ is_struck_out xs ys
at_kept x y xs ys e = at_cons x y xs ys ∙ ap (λ b. (b && is_struck_out xs ys) || is_struck_out (x ∷ xs) ys) e ∙ either
  where
    either : (is_struck_out xs ys || is_struck_out (x ∷ xs) ys) ≡ is_struck_out xs ys
    either = elim (cases_Bool (is_struck_out xs ys)) [
      | inl s ↦ rw s refl
      | inr s ↦ elim (cases_Bool (is_struck_out (x ∷ xs) ys)) [
        | inl t ↦ absurd (false≢true (sym s ∙ struck-first x xs ys t))
        | inr t ↦ rw (s, t) refl
      ]
    ]

pub at_struck : (x y : Text) (xs ys : List Text) → text_eq x y ≡ false → is_struck_out (x ∷ xs) (y ∷ ys) ≡ is_struck_out (x ∷ xs) ys
at_struck x y xs ys e = at_cons x y xs ys ∙ ap (λ b. (b && is_struck_out xs ys) || is_struck_out (x ∷ xs) ys) e

-- the pass answers what striking out means
abbrev pub taken_in_order : List Text → List Text → Bool
taken_in_order [] ys = true
taken_in_order (x ∷ xs) [] = false
taken_in_order (x ∷ xs) (y ∷ ys) = taken_in_order (cond (text_eq x y) xs (x ∷ xs)) ys

pub in_order : (xs ys : List Text) → taken_in_order xs ys ≡ is_struck_out xs ys
in_order [] ys = sym (none_left ys)
in_order (x ∷ xs) [] = sym (some_left x xs)
in_order (x ∷ xs) (y ∷ ys) = elim (cases_Bool (text_eq x y)) [
  | inl e ↦ ap (λ b. taken_in_order (cond b xs (x ∷ xs)) ys) e ∙ in_order xs ys ∙ sym (at_kept x y xs ys e)
  | inr e ↦ ap (λ b. taken_in_order (cond b xs (x ∷ xs)) ys) e ∙ in_order (x ∷ xs) ys ∙ sym (at_struck x y xs ys e)
]
