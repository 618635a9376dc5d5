use Rattle.std.proofs.Common.{◌≡◌, ℕ, zero, suc, ◌-◌, ◌<◌, ◌≤◌, ◌==◌, Bool, true, false, [], ◌∷◌, ◌++◌, length, take, drop, Option, Some, None, option_map, codes, refl, sym, ap, subst, ◌∙◌, arith, length-drop}
use Rattle.std.specs.Option.{IfSome}
use Rattle.std.proofs.lemmas.Bool.{and_parts, eqb-true}
use Rattle.std.proofs.lemmas.List.{take-append-drop}
use Rattle.po_text.specs.Texts.{Text}
use Rattle.checks.specs.Directives.{begins_with, after_directive, directives}
use Rattle.checks.proofs.Parts.{Passes, here, past, directive-Passes, length-Passes_le, after_directive_lt}
use Rattle.checks.proofs.Scanning.{at_both, at_directive, at_other, at_end}
use Rattle.office_laws.specs.Cuts.{IsCut, ended, percents, taken, skipped}
use Rattle.office_laws.proofs.directives.directives_cut_the_text.Goals as goal

two_percents : (text : Text) → begins_with text (codes "%%") ≡ true → text ≡ codes "%%" ++ drop 2 text
two_percents [] e = cc
two_percents (b ∷ []) e = let no = (and_parts (37 == b) false e).1 in cc
two_percents (b ∷ c ∷ rest) e =
    let one = and_parts (37 == b) (begins_with (c ∷ rest) (codes "%")) e in
    let two = and_parts (37 == c) (begins_with rest []) one.1 in
    (λ i. sym (eqb-true 37 b one.0) i ∷ sym (eqb-true 37 c two.0) i ∷ rest)

-- what stands behind the front
rest_is : {text rest : Text} → Passes text rest → drop (length text - length rest) text ≡ rest
rest_is {text} here =
    let none : 0 ≡ length text - length text = omega arith in
    subst (λ n. drop n text ≡ text) none refl
rest_is (past {b} {text} {rest} small passes) =
    let within = length-Passes_le passes in
    let more : suc (length text - length rest) ≡ suc (length text) - length rest = omega arith in
    subst (λ n. drop n (b ∷ text) ≡ rest) more (rest_is passes)

cut : (n : ℕ) (text : Text) → length text ≤ n → IsCut text (directives text)
cut n [] within = subst (IsCut []) (sym (at_end [] refl)) ended
cut zero (b ∷ text) within = absurd (omega arith)
cut (suc n) (b ∷ text) within = by (cut n) (begins_with (b ∷ text) (codes "%%")) refl (after_directive (b ∷ text)) refl
  where
    by : ((text : Text) → length text ≤ n → IsCut text (directives text)) → (both : Bool) → begins_with (b ∷ text) (codes "%%") ≡ both → (o : Option Text) → after_directive (b ∷ text) ≡ o → IsCut (b ∷ text) (directives (b ∷ text))
    by later true both o e =
        subst (IsCut (b ∷ text)) (sym (at_both (b ∷ text) both))
        (percents (b ∷ text) (drop 2 (b ∷ text)) (directives (drop 2 (b ∷ text))) (two_percents (b ∷ text) both)
        (later (drop 2 (b ∷ text)) (omega (arith, length-drop 2 (b ∷ text)))))
    by later false single None e =
        subst (IsCut (b ∷ text)) (sym (at_other (b ∷ text) (omega arith) single (ap (option_map (λ rest. length (b ∷ text) - length rest)) e)))
        (skipped b text (directives text) single e (later text (omega arith)))
    by later false single (Some rest) e =
        let len : ℕ = length (b ∷ text) - length rest in
        let less : length rest < length (b ∷ text) = after_directive_lt (b ∷ text) rest e in
        let passes : Passes (b ∷ text) rest = subst (λ o. IfSome o (Passes (b ∷ text))) e (directive-Passes (b ∷ text)) in
        let behind : drop len (b ∷ text) ≡ rest = rest_is passes in
        let whole : b ∷ text ≡ take len (b ∷ text) ++ rest = sym (take-append-drop len (b ∷ text)) ∙ ap (λ r. take len (b ∷ text) ++ r) behind in
        let is : directives (b ∷ text) ≡ take len (b ∷ text) ∷ directives (drop len (b ∷ text)) =
        at_directive (b ∷ text) len single (ap (option_map (λ rest. length (b ∷ text) - length rest)) e) (omega (arith, less)) (omega arith) in
        subst (IsCut (b ∷ text)) (sym (is ∙ ap (λ r. take len (b ∷ text) ∷ directives r) behind))
        (taken (b ∷ text) (take len (b ∷ text)) rest (directives rest) single e whole (later rest (omega (arith, less))))

pub returns : goal.returns
returns c = λ text. cut (length text) text (omega arith)
