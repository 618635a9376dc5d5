-- Objects of replies: their fields in the order in which they are put in, and that they hold no float.
use Rattle.std.proofs.Common.{◌≡◌, Bool, true, false, ◌||◌, List, [], ◌∷◌, ◌++◌, map, refl, sym, ap, ◌∙◌}
use Rattle.std.specs.Prelude.{codes}
use Rattle.std.specs.Ordering.{match_ordering, nat_cmp}
use Rattle.std.specs.declared.cmp.Ordering.TheVariants.{Less, Equal, Greater}
use Rattle.std.specs.Cmp.Lexicographic.{slice_cmp}
use Rattle.std.proofs.lemmas.List.{map-append}
use Rattle.serde_json.specs.Data.{Data, Members, no_members, member, object, put}
use Rattle.serde_json.specs.Written.{has_float}
use Rattle.po_text.specs.Texts.{Text}
use Rattle.template_update.specs.declared.plans.Plan.{Plan}
use Rattle.template_update.specs.declared.plans.Counts.{Counts}
use Rattle.template_update.specs.declared.plans.Counts.TheVariants.{Updated, Loaded}
use Rattle.request_book.specs.Words.{Fields, object_of, with_fields}
use Rattle.replies.specs.Bodies.{count_fields, template_fields}
use Rattle.replies.specs.LanguageFields.{language_fields}

-- ---- fields in turn

pub with_fields-append : (xs ys : Fields) (ms : Members) → with_fields (xs ++ ys) ms ≡ with_fields xs (with_fields ys ms)
with_fields-append [] ys ms = refl
with_fields-append (x ∷ xs) ys ms = ap (put x.0 x.1) (with_fields-append xs ys ms)

-- one language more, from the end
pub one_language : (plans : List (Text × Plan)) (p : Text × Plan) (counts : Data) (ms : Members) → counts ≡ object_of (count_fields p.1.counts)
    → with_fields (language_fields plans) (put p.0 counts ms) ≡ with_fields (language_fields (plans ++ p ∷ [])) ms
one_language plans p counts ms e =
    ap (λ d. with_fields (language_fields plans) (put p.0 d ms)) e
    ∙ sym (ap (λ fs. with_fields fs ms) (map-append (λ (q : Text × Plan). (q.0, object_of (count_fields q.1.counts))) plans (p ∷ []))
    ∙ with_fields-append (language_fields plans) ((p.0, object_of (count_fields p.1.counts)) ∷ []) ms)

-- ---- the fields of replies

-- each language with its counts
told_languages : (plans : List (Text × Plan)) →
    map (λ (l : Text × Counts). (l.0, object_of (count_fields l.1))) (map (λ (p : Text × Plan). (p.0, p.1.counts)) plans) ≡ language_fields plans
told_languages [] = refl
told_languages (p ∷ plans) = ap (λ (fs : Fields). (p.0, object_of (count_fields p.1.counts)) ∷ fs) (told_languages plans)

pub template_told : (plans : List (Text × Plan)) →
    object (put (codes "languages") (object_of (language_fields plans)) no_members) ≡ object_of (template_fields (map (λ (p : Text × Plan). (p.0, p.1.counts)) plans))
template_told plans = ap (λ (fs : Fields). object (member (codes "languages") (object_of fs) no_members)) (sym (told_languages plans))

-- ---- no floats

neither : (a b : Bool) → a ≡ false → b ≡ false → (a || b) ≡ false
neither true b p q = p
neither false b p q = q

parts_of : (a b : Bool) → (a || b) ≡ false → (a ≡ false) × (b ≡ false)
parts_of true b p = cc
parts_of false b p = (refl, p)

pub flat-put : (key : Text) (d : Data) (ms : Members) → has_float d ≡ false → has_float (object ms) ≡ false → has_float (object (put key d ms)) ≡ false
flat-put key d no_members hd hm = neither (has_float d) false hd refl
flat-put key d (member l e ms) hd hm =
    let own = parts_of (has_float e) (has_float (object ms)) hm in
    elim (slice_cmp nat_cmp key l) as (λ r. has_float (object (match_ordering r (member key d (member l e ms)) (member l d ms) (member l e (put key d ms)))) ≡ false) [
      | Less ↦ neither (has_float d) (has_float (object (member l e ms))) hd hm
      | Equal ↦ neither (has_float d) (has_float (object ms)) hd own.1
      | Greater ↦ neither (has_float e) (has_float (object (put key d ms))) own.0 (flat-put key d ms hd own.1)
    ]

-- ---- a turn of the loop over the languages, from the last

pub one_more : (left others : List (Text × Plan)) (p : Text × Plan) (counts : Data) (ms new all : Members) → left ≡ others ++ p ∷ [] → counts ≡ object_of (count_fields p.1.counts)
    → new ≡ put p.0 counts ms → with_fields (language_fields left) ms ≡ all → with_fields (language_fields others) new ≡ all
one_more left others p counts ms new all cut own puts h =
    ap (with_fields (language_fields others)) puts
    ∙ (one_language others p counts ms own
    ∙ (ap (λ plans. with_fields (language_fields plans) ms) (sym cut) ∙ h))

pub flat_more : (key : Text) (d : Data) (ms new : Members) → new ≡ put key d ms → has_float d ≡ false → has_float (object ms) ≡ false → has_float (object new) ≡ false
flat_more key d ms new puts hd hm = ap (λ m. has_float (object m)) puts ∙ flat-put key d ms hd hm

pub flat_counts : (counts : Counts) → has_float (object_of (count_fields counts)) ≡ false
flat_counts (Updated added changed kept obsolete revived) = refl
flat_counts (Loaded loaded missing obsolete) = refl
