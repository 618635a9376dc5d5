-- The last of several texts.
use Rattle.std.proofs.Common.{◌≡◌, ℕ, zero, suc, ◌+◌, length, List, [], ◌∷◌, ◌++◌, Bool, true, false, ◌&&◌, nat_le, get_or, set, ◌≤◌, ◌-◌, ◌∙◌, refl, ap, arith}
use Rattle.std.proofs.Math.ListN.{length-set}
use Rattle.std.proofs.lemmas.Bool.{leb-true}
use Rattle.std.specs.List.{list_all}
use Rattle.po_text.specs.Strings.{is_string, is_forms}
use Rattle.po_text.specs.Texts.{Text, last_more}

and_true : (a b : Bool) → (a && b) ≡ true → (a ≡ true) × (b ≡ true)
and_true true b h = (refl, h)
and_true false b h = cc

-- ---- the last of these texts, by its place

pub more_at : (texts : List Text) (i : ℕ) (x last more : Text) → i + 1 ≡ length texts → last ≡ get_or texts i last → set (set texts i x) i (last ++ more) ≡ last_more texts more
more_at [] i x last more e is = absurd (omega arith)
more_at (text ∷ []) zero x last more e is = ap (λ t. (t ++ more) ∷ []) is
more_at (text ∷ []) (suc i) x last more e is = absurd (omega arith)
more_at (text ∷ other ∷ texts) zero x last more e is = absurd (omega arith)
more_at (text ∷ other ∷ texts) (suc i) x last more e is = ap (λ ts. text ∷ ts) (more_at (other ∷ texts) i x last more (omega arith) is)

-- ---- forms with another string in the place of one

strings_set : (texts : List Text) (i : ℕ) (text : Text) → list_all is_string texts ≡ true → is_string text ≡ true → list_all is_string (set texts i text) ≡ true
strings_set [] i text h t = refl
strings_set (other ∷ texts) zero text h t = rw t (and_true (is_string other) (list_all is_string texts) h).1
strings_set (other ∷ texts) (suc i) text h t = let both = and_true (is_string other) (list_all is_string texts) h in rw both.0 (strings_set texts i text both.1 t)

forms_set : (texts : List Text) (i : ℕ) (text : Text) → is_forms texts ≡ true → is_string text ≡ true → is_forms (set texts i text) ≡ true
forms_set texts i text h t =
    let both = and_true (nat_le 1 (length texts) && nat_le (length texts) 8) (list_all is_string texts) h in
    let count = and_true (nat_le 1 (length texts)) (nat_le (length texts) 8) both.0 in
    rw (length-set texts i text, count.0, count.1) (strings_set texts i text both.1 t)

pub last_place : (texts seen : List Text) → seen ≡ texts → is_forms texts ≡ true → length seen - 1 + 1 ≡ length texts
last_place texts seen e h =
    let both = and_true (nat_le 1 (length texts) && nat_le (length texts) 8) (list_all is_string texts) h in
    let some : 1 ≤ length texts = leb-true 1 (length texts) (and_true (nat_le 1 (length texts)) (nat_le (length texts) 8) both.0).0 in
    let same : length seen ≡ length texts = ap length e in
    omega arith

pub forms_put : (texts new : List Text) (i : ℕ) (text : Text) → new ≡ set texts i text → is_forms texts ≡ true → is_string text ≡ true → is_forms new ≡ true
forms_put texts new i text is h t = ap is_forms is ∙ forms_set texts i text h t
