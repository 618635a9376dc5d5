-- Keys keep their texts when more stands behind them.
use Rattle.std.proofs.Common.{◌≡◌, ℕ, ◌+◌, ◌-◌, ◌<◌, ◌≤◌, List, [], ◌∷◌, ◌++◌, Bool, true, false, not, ◌&&◌, cond, map, length, take, drop, refl, sym, ◌∙◌, ap, subst, arith, zero, suc, Option, Some, None, is_none, is_some, nat_eq, append_assoc, append-nil, length-append}
use Rattle.std.specs.List.{AllByRecursion, slice_get}
use Rattle.std.proofs.lemmas.Bool.{false≢true}
use Rattle.std.proofs.lemmas.Bool.Decides.{nat_tests}
use Rattle.std.proofs.lemmas.List.{take-append-le, drop-append-le, length-drop, length-take, map-append}
use Rattle.std.proofs.Math.Seq.{take-append_seam, drop-append_seam}
use Rattle.po_text.specs.Entries.{is_header_key}
use Rattle.po_text.specs.Texts.{Text}
use Rattle.po_text.specs.declared.key.EntryKey.{EntryKey}
use Rattle.po_text.proofs.EntryLists.{all_push}
use Rattle.po_read.specs.Found.{key_at_hand, count_in}
use Rattle.po_read.specs.KeyTexts.{between, part_behind, key_at_place, EndsWithin, IsPlaced, bytes_of, end_of}
use Rattle.po_read.specs.declared.place.Place.{Place}

-- ---- more behind

kept : (start end : ℕ) (bytes more : List ℕ) → start ≤ end → end ≤ length bytes → between start end (bytes ++ more) ≡ between start end bytes
kept start end bytes more order within =
    ap (take (end - start)) (drop-append-le start bytes more (omega arith))
    ∙ take-append-le (end - start) (drop start bytes) more (omega (arith, length-drop start bytes))

part_kept : (start : ℕ) (end : Option ℕ) (bytes more : List ℕ) → EndsWithin (length bytes) start end → part_behind (bytes ++ more) start end ≡ part_behind bytes start end
part_kept start None bytes more h = refl
part_kept start (Some end) bytes more h = ap Some (kept start end bytes more h.0 h.1)

key_kept : (place : Place) (bytes more : List ℕ) → IsPlaced (length bytes) place → key_at_place (bytes ++ more) place ≡ key_at_place bytes place
key_kept place bytes more h =
    let ctx = part_kept place.end place.ctx_end bytes more h.behind in
    let id = kept place.start place.end bytes more h.order h.within in
    λ i. key_at_hand (ctx i) (id i)

keys_kept : (places : List Place) (bytes more : List ℕ) → AllByRecursion (IsPlaced (length bytes)) places → map (key_at_place (bytes ++ more)) places ≡ map (key_at_place bytes) places
keys_kept [] bytes more h = refl
keys_kept (place ∷ places) bytes more h = λ i. key_kept place bytes more h.0 i ∷ keys_kept places bytes more h.1 i

ends_within : (n m start : ℕ) (end : Option ℕ) → n ≤ m → EndsWithin n start end → EndsWithin m start end
ends_within n m start None less h = tt
ends_within n m start (Some end) less h = (h.0, omega (arith, h.1))

placed_more : (n m : ℕ) (places : List Place) → n ≤ m → AllByRecursion (IsPlaced n) places → AllByRecursion (IsPlaced m) places
placed_more n m [] less h = tt
placed_more n m (place ∷ places) less h = (record { order = h.0.order; within = omega (arith, h.0.within); behind = ends_within n m place.end place.ctx_end less h.0.behind }, placed_more n m places less h.1)

-- ---- one more key

added : (bytes more rest : List ℕ) (start end : ℕ) → start ≡ length bytes → end ≡ length bytes + length more → between start end (bytes ++ (more ++ rest)) ≡ more
added bytes more rest start end s e =
    let len : end - start ≡ length more = omega arith in
    ap (λ n. take (end - start) (drop n (bytes ++ (more ++ rest)))) s
    ∙ ap (take (end - start)) (drop-append_seam bytes (more ++ rest))
    ∙ ap (λ n. take n (more ++ rest)) len
    ∙ take-append_seam more rest

ctx_added : (bytes : List ℕ) (ctx : Option Text) (end : ℕ) (ctx_end : Option ℕ) → end ≡ length bytes → ctx_end ≡ end_of (length bytes) ctx → part_behind (bytes ++ bytes_of ctx) end ctx_end ≡ ctx
ctx_added bytes None end ctx_end e is = ap (part_behind (bytes ++ []) end) is
ctx_added bytes (Some ctx) end ctx_end e is =
    ap (part_behind (bytes ++ ctx) end) is
    ∙ ap Some (ap (λ (more : List ℕ). between end (length bytes + length ctx) (bytes ++ more)) (sym (append-nil ctx)) ∙ added bytes ctx [] end (length bytes + length ctx) e refl)

pub key_added : (bytes grown all : List ℕ) (place : Place) (ctx : Option Text) (id : Text) → place.start ≡ length bytes → grown ≡ bytes ++ id → place.end ≡ length grown → all ≡ grown ++ bytes_of ctx → place.ctx_end ≡ end_of (length grown) ctx
    → key_at_place all place ≡ key_at_hand ctx id
key_added bytes grown all place ctx id s g e a c =
    let whole : all ≡ bytes ++ (id ++ bytes_of ctx) = a ∙ ap (λ (t : List ℕ). t ++ bytes_of ctx) g ∙ append_assoc bytes id (bytes_of ctx) in
    let len : length grown ≡ length bytes + length id = ap length g ∙ length-append bytes id in
    let own_id : between place.start place.end all ≡ id = ap (between place.start place.end) whole ∙ added bytes id (bytes_of ctx) place.start place.end s (e ∙ len) in
    let own_ctx : part_behind all place.end place.ctx_end ≡ ctx = ap (λ (t : List ℕ). part_behind t place.end place.ctx_end) a ∙ ctx_added grown ctx place.end place.ctx_end e c in
    λ i. key_at_hand (own_ctx i) (own_id i)

pub keys_added : (bytes grown all : List ℕ) (places : List Place) (place : Place) (ctx : Option Text) (id : Text) → AllByRecursion (IsPlaced (length bytes)) places → place.start ≡ length bytes → grown ≡ bytes ++ id → place.end ≡ length grown → all ≡ grown ++ bytes_of ctx
    → place.ctx_end ≡ end_of (length grown) ctx → map (key_at_place all) (places ++ place ∷ []) ≡ map (key_at_place bytes) places ++ key_at_hand ctx id ∷ []
keys_added bytes grown all places place ctx id h s g e a c =
    let whole : all ≡ bytes ++ (id ++ bytes_of ctx) = a ∙ ap (λ (t : List ℕ). t ++ bytes_of ctx) g ∙ append_assoc bytes id (bytes_of ctx) in
    let old : map (key_at_place all) places ≡ map (key_at_place bytes) places = ap (λ (t : List ℕ). map (key_at_place t) places) whole ∙ keys_kept places bytes (id ++ bytes_of ctx) h in
    let new = key_added bytes grown all place ctx id s g e a c in
    map-append (key_at_place all) places (place ∷ []) ∙ (λ i. old i ++ new i ∷ [])

ctx_within : (n start : ℕ) (ctx : Option Text) (end : Option ℕ) → end ≡ end_of start ctx → start + length (bytes_of ctx) ≤ n → EndsWithin n start end
ctx_within n start None end is less = subst (λ (o : Option ℕ). EndsWithin n start o) (sym is) tt
ctx_within n start (Some ctx) end is less = subst (λ (o : Option ℕ). EndsWithin n start o) (sym is) (omega arith, less)

pub placed_added : (bytes grown all : List ℕ) (places : List Place) (place : Place) (ctx : Option Text) (id : Text) → AllByRecursion (IsPlaced (length bytes)) places → place.start ≡ length bytes → grown ≡ bytes ++ id → place.end ≡ length grown → all ≡ grown ++ bytes_of ctx
    → place.ctx_end ≡ end_of (length grown) ctx → AllByRecursion (IsPlaced (length all)) (places ++ place ∷ [])
placed_added bytes grown all places place ctx id h s g e a c =
    let len : length grown ≡ length bytes + length id = ap length g ∙ length-append bytes id in
    let more : length all ≡ length grown + length (bytes_of ctx) = ap length a ∙ length-append grown (bytes_of ctx) in
    all_push (IsPlaced (length all)) places place (placed_more (length bytes) (length all) places (omega arith) h)
    (record { order = omega arith; within = omega arith; behind = ctx_within (length all) place.end ctx place.ctx_end (c ∙ ap (λ n. end_of n ctx) (sym e)) (omega arith) })

-- ---- looked at

pub placed_at : (n i : ℕ) (places : List Place) (place : Place) → AllByRecursion (IsPlaced n) places → slice_get places i ≡ Some place → IsPlaced n place
placed_at n i [] place h there = cc
placed_at n zero (p ∷ places) place h there = let same : p ≡ place = cc in subst (λ (q : Place). IsPlaced n q) same h.0
placed_at n (suc i) (p ∷ places) place h there = placed_at n i places place h.1 there

pub key_there : (bytes : List ℕ) (i : ℕ) (places : List Place) (place : Place) (key : EntryKey) → slice_get places i ≡ Some place → slice_get (map (key_at_place bytes) places) i ≡ Some key → key ≡ key_at_place bytes place
key_there bytes i [] place key p k = cc
key_there bytes zero (q ∷ places) place key p k = let same : q ≡ place = cc in let is : key_at_place bytes q ≡ key = cc in sym is ∙ ap (key_at_place bytes) same
key_there bytes (suc i) (q ∷ places) place key p k = key_there bytes i places place key p k

-- ---- the header's

no_header : (id : Text) → 0 < length id → false ≡ is_header_key None id
no_header [] h = absurd (omega (arith, h))
no_header (b ∷ id) h = refl

empty_header : (id : Text) → length id ≡ 0 → true ≡ is_header_key None id
empty_header [] h = refl
empty_header (b ∷ id) h = absurd (omega (arith, h))

between_len : (start end : ℕ) (bytes : List ℕ) → start ≤ end → end ≤ length bytes → length (between start end bytes) ≡ end - start
between_len start end bytes order within = omega (arith, length-take (end - start) (drop start bytes), length-drop start bytes)

pub headers_at : (bytes : List ℕ) (place : Place) → IsPlaced (length bytes) place → (is_none place.ctx_end && nat_eq place.start place.end) ≡ is_header_key (key_at_place bytes place).ctx (key_at_place bytes place).id
headers_at bytes place h = by place.ctx_end (nat_eq place.start place.end) refl
  where
    id : Text
    id = between place.start place.end bytes

    by : (ctx_end : Option ℕ) (b : Bool) → nat_eq place.start place.end ≡ b → (is_none ctx_end && b) ≡ is_header_key (part_behind bytes place.end ctx_end) id
    by (Some end) b e = refl
    by None true e =
        let same : place.start ≡ place.end = grind (arith, nat_tests) in
        empty_header id (omega (arith, between_len place.start place.end bytes h.order h.within))
    by None false e =
        let other : place.start < place.end = grind (arith, nat_tests, h.order) in
        no_header id (omega (arith, between_len place.start place.end bytes h.order h.within))

pub is_none_is : (o : Option ℕ) (b : Bool) → is_some o ≡ not b → is_none o ≡ b
is_none_is None true e = refl
is_none_is None false e = cc
is_none_is (Some x) true e = cc
is_none_is (Some x) false e = refl
