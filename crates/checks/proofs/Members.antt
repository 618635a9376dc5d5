-- One more text in the set of a list's texts.
use Rattle.std.proofs.Common.{◌≡◌, ℕ, ◌<◌, ◌+◌, List, [], ◌∷◌, ◌++◌, Bool, true, false, ◌||◌, cond, length, take, get_or, Bor, refl, sym, ap, subst, ◌∙◌}
use Rattle.std.specs.BTreeSet.{BTreeSet, contains, Updates}
use Rattle.std.specs.List.{list_any}
use Rattle.std.proofs.lemmas.List.{take_more}
use Rattle.std.proofs.lemmas.List.Folds.{list_any-append}
use Rattle.std.proofs.lemmas.Map.Text.{is_eq-slice_cmp}
use Rattle.po_text.specs.Texts.{Text, text_cmp, text_eq}
use Rattle.checks.specs.Members.{HasMembers}

either : (a b : Bool) → cond a true b ≡ (b || (a || false))
either true true = refl
either true false = refl
either false true = refl
either false false = refl

has_added : (old new : BTreeSet (Bor (List ℕ))) (member : Bor (List ℕ)) (texts : List Text) → HasMembers old texts → Updates (λ x y. text_cmp x.now y.now) old new member true → HasMembers new (texts ++ member.now ∷ [])
has_added old new member texts has updates = λ text.
    let asked : Bor (List ℕ) = record { ref_ptr = (0, 0); now = text } in
    updates.0 asked
    ∙ ap (λ same. cond same true (contains (λ x y. text_cmp x.now y.now) old asked)) (is_eq-slice_cmp member.now text)
    ∙ ap (λ b. cond (text_eq member.now text) true b) (has text)
    ∙ either (text_eq member.now text) (list_any (λ y. text_eq y text) texts)
    ∙ sym (list_any-append (λ y. text_eq y text) texts (member.now ∷ []))

pub has_more : (old new : BTreeSet (Bor (List ℕ))) (member : Bor (List ℕ)) (texts : List Text) (i : ℕ) → i < length texts → member.now ≡ get_or texts i member.now →
    HasMembers old (take i texts) → Updates (λ x y. text_cmp x.now y.now) old new member true → HasMembers new (take (i + 1) texts)
has_more old new member texts i within same has updates =
    subst (HasMembers new) (ap (λ text. take i texts ++ text ∷ []) same ∙ sym (take_more texts i member.now within)) (has_added old new member (take i texts) has updates)
