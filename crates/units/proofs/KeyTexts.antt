-- Keys of strings have equal texts exactly where they are equal: no string has the character U+0004.
use Rattle.std.proofs.Common.{◌≡◌, Bool, true, false, ◌&&◌, [], ◌∷◌, ◌++◌, Option, Some, None, refl, sym, ◌∙◌, ap}
use Rattle.std.specs.Prelude.{◌↔◌}
use Rattle.std.specs.Option.{option_map_or}
use Rattle.std.specs.List.{list_all}
use Rattle.po_text.specs.Strings.{is_string, is_string_byte}
use Rattle.po_text.specs.Texts.{Text}
use Rattle.units.specs.Units.{key_text}
use Rattle.units.specs.KeyTexts.{HasStrings}
use Rattle.units.specs.declared.unit.Key.{Key}

second : (a b : Bool) → (a && b) ≡ true → b ≡ true
second true b e = e
second false b e = cc

first : (a b : Bool) → (a && b) ≡ true → a ≡ true
first true b e = refl
first false b e = cc

bytes_of : (text : Text) → is_string text ≡ true → list_all is_string_byte text ≡ true
bytes_of text e = second _ (list_all is_string_byte text) e

-- U+0004 isn't in a string
without_separator : (front back : Text) → list_all is_string_byte (front ++ 4 ∷ back) ≡ true → ⊥
without_separator [] back e = let no : false ≡ true = e in cc
without_separator (b ∷ front) back e = without_separator front back (second (is_string_byte b) (list_all is_string_byte (front ++ 4 ∷ back)) e)

-- what stands before the first U+0004, and what stands behind it
cut_alike : (c d i j : Text) → list_all is_string_byte c ≡ true → list_all is_string_byte d ≡ true → c ++ 4 ∷ i ≡ d ++ 4 ∷ j → (c ≡ d) × (i ≡ j)
cut_alike [] [] i j p q e = let same : i ≡ j = cc in (refl, same)
cut_alike [] (y ∷ d) i j p q e =
    let is : 4 ≡ y = cc in
    let no : false ≡ true = ap is_string_byte is ∙ first (is_string_byte y) (list_all is_string_byte d) q in
    cc
cut_alike (x ∷ c) [] i j p q e =
    let is : 4 ≡ x = cc in
    let no : false ≡ true = ap is_string_byte is ∙ first (is_string_byte x) (list_all is_string_byte c) p in
    cc
cut_alike (x ∷ c) (y ∷ d) i j p q e =
    let head : x ≡ y = cc in
    let rest : c ++ 4 ∷ i ≡ d ++ 4 ∷ j = cc in
    let both = cut_alike c d i j (second (is_string_byte x) (list_all is_string_byte c) p) (second (is_string_byte y) (list_all is_string_byte d) q) rest in
    (λ k. head k ∷ both.0 k, both.1)

same_key : (a b : Key) → HasStrings a → HasStrings b → key_text a ≡ key_text b → a ≡ b
same_key a b x y e = by a.ctx b.ctx refl refl x.ctx y.ctx e
  where
    by : (c d : Option Text) → a.ctx ≡ c → b.ctx ≡ d → option_map_or is_string c true ≡ true → option_map_or is_string d true ≡ true → option_map_or (λ ctx. ctx ++ 4 ∷ a.id) c a.id ≡ option_map_or (λ ctx. ctx ++ 4 ∷ b.id) d b.id → a ≡ b
    by None None p q s t e = λ i. record { ctx = (p ∙ sym q) i; id = e i }
    by None (Some d) p q s t e = absurd (without_separator d b.id (ap (list_all is_string_byte) (sym e) ∙ bytes_of a.id x.id))
    by (Some c) None p q s t e = absurd (without_separator c a.id (ap (list_all is_string_byte) e ∙ bytes_of b.id y.id))
    by (Some c) (Some d) p q s t e =
        let both = cut_alike c d a.id b.id (bytes_of c s) (bytes_of d t) e in
        λ i. record { ctx = (p ∙ (ap (λ text. Some text) both.0 ∙ sym q)) i; id = both.1 i }

pub equal_texts : (a b : Key) → HasStrings a → HasStrings b → (key_text a ≡ key_text b) ↔ (a ≡ b)
equal_texts a b x y = (same_key a b x y, λ e. ap key_text e)
