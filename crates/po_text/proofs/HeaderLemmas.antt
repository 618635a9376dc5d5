-- The fields of a header, line by line.
use Rattle.std.proofs.Common.{◌≡◌, ◌≢◌, ℕ, ◌<◌, List, [], ◌∷◌, ◌++◌, Bool, true, false, cond, length, get_or, refl, sym, ◌∙◌, ap, Option, Some, None, option_map, suc, arith}
use Rattle.std.specs.List.{find, filter_map}
use Rattle.std.specs.Str.{bytes_eq}
use Rattle.std.proofs.lemmas.Bool.{ne_eqb}
use Rattle.po_lex.specs.Reading.{trim}
use Rattle.po_text.specs.Header.{in_front, field_of, named_value, value_in}

-- no byte of the text is this one
abbrev pub Without : ℕ → List ℕ → Type 0
Without b text = (i : ℕ) → i < length text → get_or text i 0 ≢ b

rest_without : (b c : ℕ) (text : List ℕ) → Without b (c ∷ text) → Without b text
rest_without b c text h i lt = h (suc i) (omega arith)

field_cut : (front rest : List ℕ) → Without 58 front → field_of (front ++ 58 ∷ rest) ≡ Some (front, trim rest)
field_cut [] rest h = refl
field_cut (b ∷ front) rest h = let other : b ≢ 58 = h 0 (omega arith) in rw (ne_eqb b 58 other) (ap (in_front b) (field_cut front rest (rest_without 58 b front h)))

pub field_at : (line front rest : List ℕ) → (line ≡ front ++ 58 ∷ rest) × Without 58 front → field_of line ≡ Some (front, trim rest)
field_at line front rest h = ap field_of h.0 ∙ field_cut front rest h.1

pub no_field : (line : List ℕ) → Without 58 line → field_of line ≡ None
no_field [] h = refl
no_field (b ∷ line) h = let other : b ≢ 58 = h 0 (omega arith) in rw (ne_eqb b 58 other) (ap (in_front b) (no_field line (rest_without 58 b line h)))

-- the first of these lines with the name
abbrev pub first_value : List ℕ → List (List ℕ) → Option (List ℕ)
first_value name lines = option_map (λ field. field.1) (find (λ field. bytes_eq field.0 name) (filter_map field_of lines))

pub value_found : (name line : List ℕ) (lines : List (List ℕ)) (value : List ℕ) → Some value ≡ value_in name line → Some value ≡ first_value name (line ∷ lines)
value_found name line lines value h = by (field_of line) refl h
  where
    there : (field : List ℕ × List ℕ) (t : Bool) → cond t (Some field.1) None ≡ Some value → option_map (λ (f : List ℕ × List ℕ). f.1) (cond t (Some field) (find (λ f. bytes_eq f.0 name) (filter_map field_of lines))) ≡ Some value
    there field true e = e
    there field false e = cc

    by : (o : Option (List ℕ × List ℕ)) → field_of line ≡ o → Some value ≡ named_value name o → Some value ≡ first_value name (line ∷ lines)
    by None e h = cc
    by (Some field) e h = sym (rw e (there field (bytes_eq field.0 name) (sym h)))

pub value_later : (name line : List ℕ) (lines : List (List ℕ)) → None ≡ value_in name line → first_value name (line ∷ lines) ≡ first_value name lines
value_later name line lines h = by (field_of line) refl h
  where
    there : (field : List ℕ × List ℕ) (t : Bool) → cond t (Some field.1) None ≡ None → option_map (λ (f : List ℕ × List ℕ). f.1) (cond t (Some field) (find (λ f. bytes_eq f.0 name) (filter_map field_of lines))) ≡ first_value name lines
    there field true e = cc
    there field false e = refl

    by : (o : Option (List ℕ × List ℕ)) → field_of line ≡ o → None ≡ named_value name o → first_value name (line ∷ lines) ≡ first_value name lines
    by None e h = rw e refl
    by (Some field) e h = rw e (there field (bytes_eq field.0 name) (sym h))

pub value_is : (name line found value trimmed : List ℕ) → field_of line ≡ Some (found, trim value) → bytes_eq found name ≡ true → trimmed ≡ trim value → Some trimmed ≡ value_in name line
value_is name line found value trimmed f e t = ap Some t ∙ sym (ap (named_value name) f ∙ ap (λ b. cond b (Some (trim value)) None) e)

pub value_is_not : (name line found value : List ℕ) → field_of line ≡ Some (found, trim value) → bytes_eq found name ≡ false → None ≡ value_in name line
value_is_not name line found value f e = sym (ap (named_value name) f ∙ ap (λ b. cond b (Some (trim value)) None) e)

pub no_value : (name line : List ℕ) → field_of line ≡ None → None ≡ value_in name line
no_value name line f = sym (ap (named_value name) f)
