-- A key's text is cut at its first U+0004 into the key's parts.
use Rattle.std.proofs.Common.{◌≡◌, ℕ, suc, ◌+◌, ◌<◌, List, [], ◌∷◌, ◌++◌, length, take, drop, Bool, true, false, cond, Option, Some, None, refl, sym, ap, ◌∙◌, subst, arith}
use Rattle.std.specs.Prelude.{nat_lt}
use Rattle.std.proofs.Common.{length-append}
use Rattle.std.proofs.lemmas.Bool.Decides.{nat_tests}
use Rattle.std.specs.Option.{option_map_or}
use Rattle.std.specs.List.{list_all, position_or_len, before_first, after_first}
use Rattle.std.proofs.lemmas.Bool.{and_parts, eqb-true}
use Rattle.po_text.specs.Strings.{is_string, is_string_byte}
use Rattle.po_text.specs.Texts.{Text}
use Rattle.units.specs.Units.{key_text}
use Rattle.units.specs.KeyTexts.{HasStrings}
use Rattle.units.specs.declared.unit.Key.{Key}
use Rattle.sql_columns.specs.Readings.{is_mark, key_parts}

-- ---- strings have no mark

not_mark : (b : ℕ) → is_string_byte b ≡ true → is_mark b ≡ false
not_mark b fits = by_test (is_mark b) refl
  where
    by_test : (c : Bool) → is_mark b ≡ c → is_mark b ≡ false
    by_test false is = is
    by_test true is = let wrong : is_string_byte 4 ≡ true = subst (λ x. is_string_byte x ≡ true) (eqb-true b 4 is) fits in absurd cc

unmarked : (t : Text) → list_all is_string_byte t ≡ true → position_or_len is_mark t ≡ length t
unmarked [] all = refl
unmarked (b ∷ t) all = let parts = and_parts _ _ all in rw (not_mark b parts.0, unmarked t parts.1) (omega arith)

marked_behind : (ctx id : Text) → list_all is_string_byte ctx ≡ true → position_or_len is_mark (ctx ++ 4 ∷ id) ≡ length ctx
marked_behind [] id all = refl
marked_behind (b ∷ ctx) id all = let parts = and_parts _ _ all in rw (not_mark b parts.0, marked_behind ctx id parts.1) (omega arith)

string_bytes_fit : (t : Text) → is_string t ≡ true → list_all is_string_byte t ≡ true
string_bytes_fit t fit = (and_parts _ _ fit).1

-- ---- the parts of a text

lt_irrefl : (n : ℕ) → nat_lt n n ≡ false
lt_irrefl n = grind (arith, nat_tests)

inside : (ctx id : Text) → nat_lt (length ctx) (length (ctx ++ 4 ∷ id)) ≡ true
inside ctx id = grind (arith, nat_tests, length-append)

front_of : (ctx id : Text) → take (length ctx) (ctx ++ 4 ∷ id) ≡ ctx
front_of [] id = refl
front_of (b ∷ ctx) id = ap (λ t. b ∷ t) (front_of ctx id)

back_of : (ctx id : Text) → drop (length ctx + 1) (ctx ++ 4 ∷ id) ≡ id
back_of [] id = refl
back_of (b ∷ ctx) id = let e : suc (length ctx) + 1 ≡ suc (length ctx + 1) = omega arith in rw e (back_of ctx id)

pub parts_of_text : (key : Key) → HasStrings key → key_parts (key_text key) ≡ key
parts_of_text key fit = by key.ctx refl fit.ctx
  where
    by : (o : Option Text) → key.ctx ≡ o → option_map_or is_string o true ≡ true → key_parts (option_map_or (λ ctx. ctx ++ 4 ∷ key.id) o key.id) ≡ key
    by None is s =
        let none : nat_lt (position_or_len is_mark key.id) (length key.id) ≡ false = rw (unmarked key.id (string_bytes_fit key.id fit.id)) (lt_irrefl (length key.id)) in
        rw none (λ i. record { ctx = sym is i; id = key.id })
    by (Some ctx) is s =
        let place = marked_behind ctx key.id (string_bytes_fit ctx s) in
        let within : nat_lt (length ctx) (length (ctx ++ 4 ∷ key.id)) ≡ true = inside ctx key.id in
        rw (place, within, front_of ctx key.id, back_of ctx key.id) (λ i. record { ctx = sym is i; id = key.id })

joined : (t : Text) → nat_lt (position_or_len is_mark t) (length t) ≡ true → before_first is_mark t ++ 4 ∷ after_first is_mark t ≡ t
joined [] e = absurd cc
joined (b ∷ t) e = by_test (is_mark b) refl (joined t)
  where
    shifted : (n m : ℕ) → nat_lt (1 + n) (suc m) ≡ true → nat_lt n m ≡ true
    shifted n m h = grind (arith, nat_tests)

    by_test : (c : Bool) → is_mark b ≡ c → (nat_lt (position_or_len is_mark t) (length t) ≡ true → before_first is_mark t ++ 4 ∷ after_first is_mark t ≡ t)
        → before_first is_mark (b ∷ t) ++ 4 ∷ after_first is_mark (b ∷ t) ≡ b ∷ t
    by_test true is later = rw is (ap (λ x. x ∷ t) (sym (eqb-true b 4 is)))
    by_test false is later =
        let n = position_or_len is_mark t in
        let within : nat_lt (1 + n) (length (b ∷ t)) ≡ true = rw is at e in
        let front : take (1 + n) (b ∷ t) ≡ b ∷ take n t = let k : 1 + n ≡ suc n = omega arith in rw k refl in
        let back : drop (1 + n + 1) (b ∷ t) ≡ drop (n + 1) t = let k : 1 + n + 1 ≡ suc (n + 1) = omega arith in rw k refl in
        rw is (rw (front, back) (ap (λ u. b ∷ u) (later (shifted n (length t) within))))

pub text_of_parts : (t : Text) → key_text (key_parts t) ≡ t
text_of_parts t = by_test (nat_lt (position_or_len is_mark t) (length t)) refl
  where
    by_test : (c : Bool) → nat_lt (position_or_len is_mark t) (length t) ≡ c → key_text (key_parts t) ≡ t
    by_test true is = rw is (joined t is)
    by_test false is = rw is refl
