-- Keys that are found by their hashes.
use Rattle.std.proofs.Common.{◌≡◌, ◌⊎◌, inl, inr, ℕ, zero, suc, ◌+◌, ◌<◌, List, [], ◌∷◌, ◌++◌, Bool, true, false, ◌||◌, cond, length, refl, sym, ◌∙◌, ap, subst, arith, Option, Some, None, is_some}
use Rattle.std.specs.List.{list_any, slice_get}
use Rattle.std.specs.Ordering.{nat_cmp, is_eq}
use Rattle.std.specs.BTreeMap.{BTreeMap, get}
use Rattle.std.specs.BTreeSet.{BTreeSet, contains}
use Rattle.std.proofs.lemmas.Bool.{false≢true}
use Rattle.std.proofs.lemmas.Bool.Decides.{nat_tests}
use Rattle.std.proofs.lemmas.Map.Keys.{any_passes_from_place}
use Rattle.std.proofs.lemmas.List.{length-append}
use Rattle.std.proofs.lemmas.List.Folds.{list_any-append}
use Rattle.po_text.specs.Entries.{Key, same_key}
use Rattle.po_text.specs.Keys.{entry_key_cmp}
use Rattle.po_text.specs.Texts.{Text}
use Rattle.po_text.specs.declared.key.EntryKey.{EntryKey}
use Rattle.po_text.proofs.EntryLists.{same_key_self, key_same, cmp_same}
use Rattle.po_read.specs.Found.{key_at_hand, pair_of, has_key, key_hash, IsFoundAt, AreFound}

-- ---- places

record Place (p : EntryKey → Bool) (ks : List EntryKey) : Type 0 where
  i : ℕ
  e : EntryKey
  there : slice_get ks i ≡ Some e
  passes : p e ≡ true

behind_first : (p : EntryKey → Bool) (x : EntryKey) (ks : List EntryKey) (b : Bool) → p x ≡ b → (b || list_any p ks) ≡ true → (list_any p ks ≡ true → Place p ks) → Place p (x ∷ ks)
behind_first p x ks true k h rest = record { i = 0; e = x; there = refl; passes = k }
behind_first p x ks false k h rest = let r = rest h in record { i = suc r.i; e = r.e; there = r.there; passes = r.passes }

any_place : (p : EntryKey → Bool) (ks : List EntryKey) → list_any p ks ≡ true → Place p ks
any_place p [] h = absurd (false≢true h)
any_place p (x ∷ ks) h = behind_first p x ks (p x) refl h (any_place p ks)

pub same_place : (ks : List EntryKey) (i j : ℕ) (e d : EntryKey) → slice_get ks i ≡ Some e → slice_get ks j ≡ Some d → i ≡ j → e ≡ d
same_place ks i j e d p q is = some_same (sym p ∙ ap (slice_get ks) is ∙ q)
  where
    some_same : {x y : EntryKey} → Some x ≡ Some y → x ≡ y
    some_same s = cc

pub read_at : (ks : List EntryKey) (i : ℕ) → i < length ks → (e : EntryKey) × (slice_get ks i ≡ Some e)
read_at [] i h = absurd (omega (arith, h))
read_at (k ∷ ks) zero h = (k, refl)
read_at (k ∷ ks) (suc i) h = read_at ks i (omega (arith, h))

-- a key of a list with one more
old_or_new : (ks : List EntryKey) (new : EntryKey) (i : ℕ) (e : EntryKey) → slice_get (ks ++ new ∷ []) i ≡ Some e → (slice_get ks i ≡ Some e) ⊎ ((i ≡ length ks) × (e ≡ new))
old_or_new [] new zero e h = inr (refl, cc)
old_or_new [] new (suc i) e h = cc
old_or_new (x ∷ ks) new zero e h = inl h
old_or_new (x ∷ ks) new (suc i) e h = elim (old_or_new ks new i e h) [ inl old ↦ inl old | inr last ↦ inr (ap suc last.0, last.1) ]

-- ---- looked up

abbrev with_key : Option Text → Text → EntryKey → Bool
with_key ctx id e = same_key (pair_of e) (ctx, id)

not_there : (b : Bool) → (b ≡ true → ⊥) → false ≡ b
not_there true never = absurd (never refl)
not_there false _ = refl

pub none_found : (ks : List EntryKey) (firsts : BTreeMap ℕ ℕ) (others : BTreeSet EntryKey) (ctx : Option Text) (id : Text) → AreFound ks firsts others → get nat_cmp firsts (key_hash ctx id) ≡ None → false ≡ has_key ctx id ks
none_found ks firsts others ctx id h none = not_there (has_key ctx id ks) never
  where
    hashed : (e : EntryKey) → pair_of e ≡ (ctx, id) → get nat_cmp firsts (key_hash e.ctx e.id) ≡ None
    hashed e is = ap (λ (k : Key). get nat_cmp firsts (key_hash k.0 k.1)) is ∙ none

    never : has_key ctx id ks ≡ true → ⊥
    never found =
        let at = any_place (with_key ctx id) ks found in
        let is = hashed at.e (key_same (pair_of at.e) (ctx, id) at.passes) in
        elim (h.each at.i at.e at.there) [
          | inl some ↦ (let differs : None ≡ Some at.i = sym is ∙ some in cc)
          | inr some ↦ false≢true (ap is_some (sym is) ∙ some.0)
        ]

pub first_found : (ks : List EntryKey) (i : ℕ) (e : EntryKey) (ctx : Option Text) (id : Text) → slice_get ks i ≡ Some e → same_key (pair_of e) (ctx, id) ≡ true → true ≡ has_key ctx id ks
first_found ks i e ctx id there is = sym (any_passes_from_place (with_key ctx id) ks i e there is)

pub other_found : (ks : List EntryKey) (firsts : BTreeMap ℕ ℕ) (others : BTreeSet EntryKey) (ctx : Option Text) (id : Text) (i : ℕ) (e : EntryKey) → AreFound ks firsts others → get nat_cmp firsts (key_hash ctx id) ≡ Some i → slice_get ks i ≡ Some e
    → same_key (pair_of e) (ctx, id) ≡ false → contains entry_key_cmp others (key_at_hand ctx id) ≡ has_key ctx id ks
other_found ks firsts others ctx id i e h last there apart = by (contains entry_key_cmp others (key_at_hand ctx id)) (has_key ctx id ks) refl refl
  where
    among : has_key ctx id ks ≡ true → contains entry_key_cmp others (key_at_hand ctx id) ≡ true
    among found =
        let at = any_place (with_key ctx id) ks found in
        let is = key_same (pair_of at.e) (ctx, id) at.passes in
        elim (h.each at.i at.e at.there) [
          | inl some ↦ (
              let same : Some i ≡ Some at.i = sym last ∙ ap (λ (k : Key). get nat_cmp firsts (key_hash k.0 k.1)) (sym is) ∙ some in
              let here : i ≡ at.i = cc in
              let one : e ≡ at.e = same_place ks i at.i e at.e there at.there here in
              absurd (false≢true (sym apart ∙ ap (with_key ctx id) one ∙ at.passes))
              )
          | inr some ↦ ap (λ (k : Key). contains entry_key_cmp others (key_at_hand k.0 k.1)) (sym is) ∙ some.1
        ]

    by : (a b : Bool) → contains entry_key_cmp others (key_at_hand ctx id) ≡ a → has_key ctx id ks ≡ b → a ≡ b
    by true true p q = refl
    by false false p q = refl
    by true false p q = sym (h.known (key_at_hand ctx id) p) ∙ q
    by false true p q = sym p ∙ among q

-- ---- one more

-- the key of a hash stands at this place now, and those of other hashes stay
abbrev pub IsPut : BTreeMap ℕ ℕ → BTreeMap ℕ ℕ → ℕ → ℕ → Type 0
IsPut firsts new hash i = (q : ℕ) → get nat_cmp new q ≡ cond (is_eq (nat_cmp hash q)) (Some i) (get nat_cmp firsts q)

hash_is : (hash q : ℕ) → is_eq (nat_cmp hash q) ≡ true → hash ≡ q
hash_is hash q h = grind (arith, nat_tests)

hash_self : (hash : ℕ) → is_eq (nat_cmp hash hash) ≡ true
hash_self hash = grind (arith, nat_tests)

still_has : (ctx : Option Text) (id : Text) (ks : List EntryKey) (new : EntryKey) → has_key ctx id ks ≡ true → has_key ctx id (ks ++ new ∷ []) ≡ true
still_has ctx id ks new h = list_any-append (with_key ctx id) ks (new ∷ []) ∙ ap (λ b. b || (with_key ctx id new || false)) h

new_there : (ks : List EntryKey) (new : EntryKey) → slice_get (ks ++ new ∷ []) (length ks) ≡ Some new
new_there [] new = refl
new_there (k ∷ ks) new = new_there ks new

module _ (ks all : List EntryKey) (new : EntryKey) (firsts : BTreeMap ℕ ℕ) (others : BTreeSet EntryKey) (hash : ℕ) (found : AreFound ks firsts others) (grown : all ≡ ks ++ new ∷ []) (is : hash ≡ key_hash new.ctx new.id) where
  -- its hash is new
  pub found_new : (firsts' : BTreeMap ℕ ℕ) (place : ℕ) → place ≡ length ks → IsPut firsts firsts' hash place → get nat_cmp firsts hash ≡ None → AreFound all firsts' others
  found_new firsts' place at put none =
      subst (λ (xs : List EntryKey). AreFound xs firsts' others) (sym grown) (record {
        each = λ i e there. elim (old_or_new ks new i e there) [ inl old ↦ kept i e old | inr last ↦ subst (λ (x : EntryKey). IsFoundAt firsts' others i x) (sym last.1) (inl (here ∙ ap Some (at ∙ sym last.0))) ];
        places = λ q i there. placed q i (is_eq (nat_cmp hash q)) refl there;
        known = λ key there. still_has key.ctx key.id ks new (found.known key there);
      })
    where
      here : get nat_cmp firsts' (key_hash new.ctx new.id) ≡ Some place
      here = ap (get nat_cmp firsts') (sym is) ∙ put hash ∙ ap (λ b. cond b (Some place) (get nat_cmp firsts hash)) (hash_self hash)

      stays : (q : ℕ) (b : Bool) → is_eq (nat_cmp hash q) ≡ b → is_some (get nat_cmp firsts q) ≡ true → get nat_cmp firsts' q ≡ get nat_cmp firsts q
      stays q true same some = absurd (false≢true (ap is_some (sym none ∙ ap (get nat_cmp firsts) (hash_is hash q same)) ∙ some))
      stays q false other some = put q ∙ ap (λ b. cond b (Some place) (get nat_cmp firsts q)) other

      kept : (i : ℕ) (e : EntryKey) → slice_get ks i ≡ Some e → IsFoundAt firsts' others i e
      kept i e old = elim (found.each i e old) [
        | inl some ↦ inl (stays (key_hash e.ctx e.id) (is_eq (nat_cmp hash (key_hash e.ctx e.id))) refl (ap is_some some) ∙ some)
        | inr some ↦ inr (ap is_some (stays (key_hash e.ctx e.id) (is_eq (nat_cmp hash (key_hash e.ctx e.id))) refl some.0) ∙ some.0, some.1)
      ]

      placed : (q i : ℕ) (b : Bool) → is_eq (nat_cmp hash q) ≡ b → get nat_cmp firsts' q ≡ Some i → i < length (ks ++ new ∷ [])
      placed q i true same there =
          let e : Some place ≡ Some i = sym (put q ∙ ap (λ b. cond b (Some place) (get nat_cmp firsts q)) same) ∙ there in
          let last : place ≡ i = cc in
          omega (arith, at, length-append ks (new ∷ []))
      placed q i false other there =
          let before : i < length ks = found.places q i (sym (put q ∙ ap (λ b. cond b (Some place) (get nat_cmp firsts q)) other) ∙ there) in
          omega (arith, length-append ks (new ∷ []))

  -- another has its hash, and its key goes to the others
  pub found_behind : (mid firsts' : BTreeMap ℕ ℕ) (others' : BTreeSet EntryKey) (place first : ℕ) (key : EntryKey) → IsPut firsts mid hash place → get nat_cmp firsts hash ≡ Some first → IsPut mid firsts' hash first → key ≡ new
      → ((q : EntryKey) → contains entry_key_cmp others' q ≡ cond (is_eq (entry_key_cmp key q)) true (contains entry_key_cmp others q)) → AreFound all firsts' others'
  found_behind mid firsts' others' place first key put was again is_key inserted =
      subst (λ (xs : List EntryKey). AreFound xs firsts' others') (sym grown) (record {
        each = λ i e there. elim (old_or_new ks new i e there) [ inl old ↦ kept i e old | inr last ↦ subst (λ (x : EntryKey). IsFoundAt firsts' others' i x) (sym last.1) (inr (ap is_some (same (key_hash new.ctx new.id) ∙ ap (get nat_cmp firsts) (sym is) ∙ was), key_in)) ];
        places = λ q i there. let before : i < length ks = found.places q i (sym (same q) ∙ there) in omega (arith, length-append ks (new ∷ []));
        known = λ q there. known q (is_eq (entry_key_cmp key q)) refl (sym (inserted q) ∙ there);
      })
    where
      same : (q : ℕ) → get nat_cmp firsts' q ≡ get nat_cmp firsts q
      same q = by (is_eq (nat_cmp hash q)) refl
        where
          by : (b : Bool) → is_eq (nat_cmp hash q) ≡ b → get nat_cmp firsts' q ≡ get nat_cmp firsts q
          by true e = again q ∙ ap (λ b. cond b (Some first) (get nat_cmp mid q)) e ∙ sym was ∙ ap (get nat_cmp firsts) (hash_is hash q e)
          by false e = again q ∙ ap (λ b. cond b (Some first) (get nat_cmp mid q)) e ∙ put q ∙ ap (λ b. cond b (Some place) (get nat_cmp firsts q)) e

      or_true : (a : Bool) → cond a true true ≡ true
      or_true true = refl
      or_true false = refl

      more : (q : EntryKey) → contains entry_key_cmp others q ≡ true → contains entry_key_cmp others' q ≡ true
      more q there = inserted q ∙ ap (λ b. cond (is_eq (entry_key_cmp key q)) true b) there ∙ or_true (is_eq (entry_key_cmp key q))

      key_in : contains entry_key_cmp others' new ≡ true
      key_in =
          inserted new
          ∙ ap (λ b. cond b true (contains entry_key_cmp others new))
          (ap (λ (k : EntryKey). is_eq (entry_key_cmp k new)) is_key ∙ cmp_same new new ∙ same_key_self (new.ctx, new.id))

      kept : (i : ℕ) (e : EntryKey) → slice_get ks i ≡ Some e → IsFoundAt firsts' others' i e
      kept i e old = elim (found.each i e old) [
        | inl some ↦ inl (same (key_hash e.ctx e.id) ∙ some)
        | inr some ↦ inr (ap is_some (same (key_hash e.ctx e.id)) ∙ some.0, more e some.1)
      ]

      known : (q : EntryKey) (b : Bool) → is_eq (entry_key_cmp key q) ≡ b → cond b true (contains entry_key_cmp others q) ≡ true → has_key q.ctx q.id (ks ++ new ∷ []) ≡ true
      known q false e there = still_has q.ctx q.id ks new (found.known q there)
      known q true e there =
          any_passes_from_place (with_key q.ctx q.id) (ks ++ new ∷ []) (length ks) new (new_there ks new)
          (sym (cmp_same new q) ∙ ap (λ (k : EntryKey). is_eq (entry_key_cmp k q)) (sym is_key) ∙ e)
