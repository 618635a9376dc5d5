-- The index from numbers to places: one request more, and what a reply changes.
use Rattle.std.proofs.Common.{◌≡◌, ℕ, zero, suc, ◌<◌, List, [], ◌∷◌, ◌++◌, length, map, take, set, get_or, Bool, true, false, cond, Option, Some, None, refl, sym, ◌∙◌, ap, subst, arith, inl, inr, add-one, ◌+◌, is_some}
use Rattle.std.specs.Prelude.{◌⊎◌, ◌↔◌, slice_get, option_map, Result, Ok, Err, IfOk, OnOk}
use Rattle.std.specs.Map.{lookup}
use Rattle.std.specs.BTreeMap.{BTreeMap, get, is_at, Updates}
use Rattle.std.specs.Cmp.Lexicographic.{texts_ties}
use Rattle.std.proofs.Math.Seq.{take-suc}
use Rattle.std.proofs.lemmas.List.{map-append, length-map}
use Rattle.std.proofs.lemmas.Bool.{false_from_ne_true}
use Rattle.std.proofs.lemmas.Option.{same_Some, slice_get-map, slice_get-get_or}
use Rattle.std.proofs.lemmas.Map.Keys.{IsDistinct-from_apart}
use Rattle.po_text.specs.Texts.{Text, text_cmp, text_eq}
use Rattle.request_book.specs.declared.act.Request.{Request}
use Rattle.request_book.specs.Replies.{Reply}
use Rattle.sender.specs.declared.exchange.Exchange.{Exchange}
use Rattle.sender.specs.declared.fault.SenderFault.{SenderFault}
use Rattle.sender.specs.declared.fault.SenderFault.TheVariants.{Twice, Memory}
use Rattle.sender.specs.Sending.{HasDistinctNumbers, unanswered, is_open, replied, hear}
use Rattle.sender.specs.NumberIndex.{number_at, IsNumberIndex}
use Rattle.sender.proofs.Places.{in_front, same, itself, apart}

-- ---- one exchange more

ties : (n m : Text) → is_at (text_cmp n) m ≡ text_eq n m
ties n m = sym (texts_ties n m)

record StandsLast (es : List Exchange) (e : Exchange) (place : ℕ) (n : Text) : Type 0 where
  last : place ≡ length es
  its : e.request.number ≡ n

-- a number of a longer list stands where it stood, or at the end
number_before_or_last : (es : List Exchange) (e : Exchange) (place : ℕ) (n : Text) → number_at (es ++ e ∷ []) place ≡ Some n → (number_at es place ≡ Some n) ⊎ StandsLast es e place n
number_before_or_last [] e zero n h = inr (record { last = refl; its = same_Some e.request.number n h })
number_before_or_last [] e (suc place) n h = cc
number_before_or_last (f ∷ fs) e zero n h = inl h
number_before_or_last (f ∷ fs) e (suc place) n h = elim (number_before_or_last fs e place n h) [
  | inl before ↦ inl before
  | inr now ↦ inr (record { last = ap suc now.last; its = now.its })
]

number_stays : (es : List Exchange) (e : Exchange) (place : ℕ) (n : Text) → number_at es place ≡ Some n → number_at (es ++ e ∷ []) place ≡ Some n
number_stays [] e place n h = cc
number_stays (f ∷ fs) e zero n h = h
number_stays (f ∷ fs) e (suc place) n h = number_stays fs e place n h

number_last : (es : List Exchange) (e : Exchange) → number_at (es ++ e ∷ []) (length es) ≡ Some e.request.number
number_last [] e = refl
number_last (f ∷ fs) e = number_last fs e

pub one_more : (es : List Exchange) (places more : BTreeMap Text ℕ) (e : Exchange) → IsNumberIndex es places → get text_cmp places e.request.number ≡ None →
    Updates text_cmp places more e.request.number (Some (length es)) → IsNumberIndex (es ++ e ∷ []) more
one_more es places more e index new put n place = by_test (text_eq e.request.number n) refl
  where
    read : (c : Bool) → text_eq e.request.number n ≡ c → get text_cmp more n ≡ cond c (Some (length es)) (get text_cmp places n)
    read c t = put.0 n ∙ ap (λ b. cond b (Some (length es)) (get text_cmp places n)) (ties e.request.number n ∙ t)

    by_test : (c : Bool) → text_eq e.request.number n ≡ c → (get text_cmp more n ≡ Some place) ↔ (number_at (es ++ e ∷ []) place ≡ Some n)
    by_test true t = (
      λ h.
          let here : length es ≡ place = same_Some _ _ (sym (read true t) ∙ h) in
          subst (λ (p : ℕ). number_at (es ++ e ∷ []) p ≡ Some n) here (number_last es e ∙ ap (λ (m : Text). Some m) (same e.request.number n t)),
      λ h. elim (number_before_or_last es e place n h) [
        | inl before ↦
            let found : get text_cmp places n ≡ Some place = (index n place).1 before in
            let wrong : Some place ≡ None = sym found ∙ (ap (get text_cmp places) (sym (same e.request.number n t)) ∙ new) in
            absurd (none_is_some place wrong)
        | inr now ↦ read true t ∙ ap (λ (p : ℕ). Some p) (sym now.last)
      ],
    )
      where
        none_is_some : (p : ℕ) → Some p ≡ None → ⊥
        none_is_some p w = cc
    by_test false t = (
      λ h. number_stays es e place n ((index n place).0 (sym (read false t) ∙ h)),
      λ h. elim (number_before_or_last es e place n h) [
        | inl before ↦ read false t ∙ (index n place).1 before
        | inr now ↦ absurd (not_both now.its)
      ],
    )
      where
        not_both : e.request.number ≡ n → ⊥
        not_both its = let wrong : true ≡ false = sym (itself e.request.number) ∙ (ap (text_eq e.request.number) its ∙ t) in cc

-- ---- the whole list

taken : {X : Type 0} (l : List X) (i : ℕ) (x : X) → i < length l → x ≡ get_or l i x → take (i + 1) l ≡ take i l ++ x ∷ []
taken l i x lt is = rw add-one (take-suc l i x lt ∙ ap (λ y. take i l ++ y ∷ []) (sym is))

pub unanswered-more : (requests : List Request) (i : ℕ) (x : Request) → i < length requests → x ≡ get_or requests i x →
    unanswered (take (i + 1) requests) ≡ unanswered (take i requests) ++ (record { request = x; reply = None }) ∷ []
unanswered-more requests i x lt is =
    ap (λ (xs : List Request). unanswered xs) (taken requests i x lt is) ∙ map-append (λ (request : Request). record { request = request; reply = None }) (take i requests) (x ∷ [])

pub length-unanswered : (requests : List Request) → length (unanswered requests) ≡ length requests
length-unanswered requests = length-map requests _

number_of_unanswered : (requests : List Request) (k : ℕ) → number_at (unanswered requests) k ≡ option_map (λ (r : Request). r.number) (slice_get requests k)
number_of_unanswered [] k = refl
number_of_unanswered (x ∷ xs) zero = refl
number_of_unanswered (x ∷ xs) (suc k) = number_of_unanswered xs k

-- an index has each number at one place
one_place : (es : List Exchange) (places : BTreeMap Text ℕ) (n m : Text) (j k : ℕ) → IsNumberIndex es places → number_at es j ≡ Some n → number_at es k ≡ Some m → text_eq n m ≡ true → j ≡ k
one_place es places n m j k index at_j at_k t =
    same_Some j k (sym ((index n j).1 at_j) ∙ (ap (get text_cmp places) (same n m t) ∙ (index m k).1 at_k))

pub distinct_numbers : (requests : List Request) (places : BTreeMap Text ℕ) → IsNumberIndex (unanswered requests) places → HasDistinctNumbers requests
distinct_numbers requests places index = IsDistinct-from_apart text_eq (map (λ (r : Request). r.number) requests) apart_at
  where
    here : (k : ℕ) (d : Text) → k < length (map (λ (r : Request). r.number) requests) → number_at (unanswered requests) k ≡ Some (get_or (map (λ (r : Request). r.number) requests) k d)
    here k d lt = number_of_unanswered requests k ∙ (sym (slice_get-map (λ (r : Request). r.number) requests k) ∙ slice_get-get_or (map (λ (r : Request). r.number) requests) k d lt)

    apart_at : (i j : ℕ) (d : Text) → i < j → j < length (map (λ (r : Request). r.number) requests) → text_eq (get_or (map (λ (r : Request). r.number) requests) i d) (get_or (map (λ (r : Request). r.number) requests) j d) ≡ false
    apart_at i j d lt within = by_test _ refl
      where
        by_test : (c : Bool) → text_eq (get_or (map (λ (r : Request). r.number) requests) i d) (get_or (map (λ (r : Request). r.number) requests) j d) ≡ c → c ≡ false
        by_test false t = refl
        by_test true t =
            let one : i ≡ j = one_place (unanswered requests) places _ _ i j index (here i d (omega arith)) (here j d within) t in
            absurd (omega arith)

-- a number that is found again stands twice
pub stands_twice : (requests : List Request) (places : BTreeMap Text ℕ) (i place : ℕ) (x : Request) → IsNumberIndex (unanswered (take i requests)) places → slice_get requests i ≡ Some x →
    get text_cmp places x.number ≡ Some place → HasDistinctNumbers requests → ⊥
stands_twice requests places i place x index at_i found distinct = by_request (slice_get (take i requests) place) refl
  where
    read : option_map (λ (r : Request). r.number) (slice_get (take i requests) place) ≡ Some x.number
    read = sym (number_of_unanswered (take i requests) place) ∙ (index x.number place).0 found

    by_request : (o : Option Request) → slice_get (take i requests) place ≡ o → ⊥
    by_request None is = let wrong : None ≡ Some x.number = ap (option_map (λ (r : Request). r.number)) (sym is) ∙ read in cc
    by_request (Some y) is =
        let its : y.number ≡ x.number = same_Some y.number x.number (ap (option_map (λ (r : Request). r.number)) (sym is) ∙ read) in
        let b = in_front requests i place y is in
        let wrong : true ≡ false = sym (itself x.number) ∙ (ap (λ (n : Text). text_eq n x.number) (sym its) ∙ apart requests place i y x distinct b.before b.there at_i) in
        cc

-- what the index told of a number before it was put there
pub new_number : {E : Type 0} (told : Result (Option ℕ) E) (before found : Option ℕ) → IfOk told (λ old. old ≡ before) → told ≡ Ok found → found ≡ None → before ≡ None
new_number {E} told before found old is none = sym (subst (λ (r : Result (Option ℕ) E). IfOk r (λ old. old ≡ before)) is old) ∙ none

pub known_number : {E : Type 0} (told : Result (Option ℕ) E) (before found : Option ℕ) (place : ℕ) → IfOk told (λ old. old ≡ before) → told ≡ Ok found → found ≡ Some place → is_some before ≡ true
known_number {E} told before found place old is some = ap is_some (sym (subst (λ (r : Result (Option ℕ) E). IfOk r (λ old. old ≡ before)) is old) ∙ some)

pub where_ok : {T E : Type 0} (told : Result T E) (found : T) (P : Type 0) → OnOk told P → told ≡ Ok found → P
where_ok {T} {E} told found P holds is = subst (λ (r : Result T E). OnOk r P) is holds

pub known_place : (o : Option ℕ) → is_some o ≡ true → (p : ℕ) × (o ≡ Some p)
known_place None t = cc
known_place (Some p) t = (p, refl)

-- one fault of two kinds of results
pub same_fault : {S T E : Type 0} (e d : E) → ◌≡◌ {A = Result S E} (Err e) (Err d) → ◌≡◌ {A = Result T E} (Err e) (Err d)
same_fault {S} {T} {E} e d is = ap recast is
  where
    recast : Result S E → Result T E
    recast (Ok x) = Err d
    recast (Err f) = Err f

-- want of memory is no number that stands twice
pub not_twice : {T : Type 0} → ◌≡◌ {A = Result T SenderFault} (Err Memory) (Err Twice) → ⊥
not_twice wrong = cc

-- ---- a reply

abbrev answered : Text → Reply → Exchange → Exchange
answered n reply e = cond (text_eq n e.request.number) (replied reply e) e

not_answered : (n : Text) (reply : Reply) (e : Exchange) → text_eq n e.request.number ≡ false → answered n reply e ≡ e
not_answered n reply e t = ap (λ c. cond c (replied reply e) e) t

-- a reply to a number that no request has changes nothing
hear_strange : (n : Text) (reply : Reply) (es : List Exchange) → ((j : ℕ) (f : Exchange) → slice_get es j ≡ Some f → text_eq n f.request.number ≡ false) → hear n reply es ≡ es
hear_strange n reply [] none = refl
hear_strange n reply (e ∷ es) none = λ i. not_answered n reply e (none zero e refl) i ∷ hear_strange n reply es (λ j f is. none (suc j) f is) i

-- a reply to the number of one request changes this one
hear_here : (n : Text) (reply : Reply) (es : List Exchange) (place : ℕ) (e : Exchange) → slice_get es place ≡ Some e → ((j : ℕ) (f : Exchange) → slice_get es j ≡ Some f → text_eq n f.request.number ≡ true → j ≡ place) →
    hear n reply es ≡ set es place (answered n reply e)
hear_here n reply [] place e is one = cc
hear_here n reply (f ∷ fs) zero e is one =
    λ i. answered n reply (same_Some f e is i) ∷ hear_strange n reply fs others i
  where
    others : (j : ℕ) (g : Exchange) → slice_get fs j ≡ Some g → text_eq n g.request.number ≡ false
    others j g there = false_from_ne_true (text_eq n g.request.number) (λ t. let wrong : suc j ≡ zero = one (suc j) g there t in absurd (omega arith))
hear_here n reply (f ∷ fs) (suc place) e is one =
    λ i. not_answered n reply f (false_from_ne_true (text_eq n f.request.number) (λ t. let wrong : zero ≡ suc place = one zero f refl t in absurd (omega arith))) i
    ∷ hear_here n reply fs place e is (λ j g there t. let s : suc j ≡ suc place = one (suc j) g there t in omega arith) i

has_its_number : (es : List Exchange) (n : Text) (j : ℕ) (f : Exchange) → slice_get es j ≡ Some f → text_eq n f.request.number ≡ true → number_at es j ≡ Some n
has_its_number es n j f is t = ap (option_map (λ (e : Exchange). e.request.number)) is ∙ ap (λ (m : Text). Some m) (sym (same n f.request.number t))

pub heard_strange : (es : List Exchange) (places : BTreeMap Text ℕ) (n : Text) (reply : Reply) → IsNumberIndex es places → get text_cmp places n ≡ None → es ≡ hear n reply es
heard_strange es places n reply index none = sym (hear_strange n reply es (λ j f is. false_from_ne_true (text_eq n f.request.number) (λ t.
    let wrong : Some j ≡ None = sym ((index n j).1 (has_its_number es n j f is t)) ∙ none in
    none_is_some j wrong)))
  where
    none_is_some : (p : ℕ) → Some p ≡ None → ⊥
    none_is_some p w = cc

pub heard_here : (es : List Exchange) (places : BTreeMap Text ℕ) (n : Text) (reply : Reply) (place : ℕ) (e x : Exchange) → IsNumberIndex es places → get text_cmp places n ≡ Some place → slice_get es place ≡ Some e →
    x ≡ replied reply e → set es place x ≡ hear n reply es
heard_here es places n reply place e x index found is now =
    sym (hear_here n reply es place e is (λ j f there t. same_Some j place (sym ((index n j).1 (has_its_number es n j f there t)) ∙ found))
    ∙ ap (set es place) (ap (λ c. cond c (replied reply e) e) its ∙ sym now))
  where
    number : e.request.number ≡ n
    number = same_Some e.request.number n (ap (option_map (λ (e : Exchange). e.request.number)) (sym is) ∙ (index n place).0 found)

    its : text_eq n e.request.number ≡ true
    its = ap (text_eq n) number ∙ itself n

pub number_within : (es : List Exchange) (n : Text) (place : ℕ) → number_at es place ≡ Some n → place < length es
number_within [] n place e = cc
number_within (f ∷ fs) n zero e = omega arith
number_within (f ∷ fs) n (suc place) e = let rest : place < length fs = number_within fs n place e in omega arith

-- a reply changes no number
pub same_request : (reply : Reply) (e : Exchange) → (replied reply e).request ≡ e.request
same_request reply e = by_test (is_open e)
  where
    by_test : (c : Bool) → (cond c (record e { reply = Some reply }) e).request ≡ e.request
    by_test true = refl
    by_test false = refl

same_numbers : (es : List Exchange) (place : ℕ) (e x : Exchange) (k : ℕ) → slice_get es place ≡ Some e → x.request ≡ e.request → number_at (set es place x) k ≡ number_at es k
same_numbers [] place e x k is same = refl
same_numbers (f ∷ fs) zero e x zero is same = ap (λ (r : Request). Some r.number) (same ∙ ap (λ (g : Exchange). g.request) (sym (same_Some f e is)))
same_numbers (f ∷ fs) zero e x (suc k) is same = refl
same_numbers (f ∷ fs) (suc place) e x zero is same = refl
same_numbers (f ∷ fs) (suc place) e x (suc k) is same = same_numbers fs place e x k is same

pub same_index : (es : List Exchange) (places : BTreeMap Text ℕ) (place : ℕ) (reply : Reply) (e x : Exchange) → IsNumberIndex es places → slice_get es place ≡ Some e → x ≡ replied reply e → IsNumberIndex (set es place x) places
same_index es places place reply e x index is now n k =
    let s = same_numbers es place e x k is (ap (λ (g : Exchange). g.request) now ∙ same_request reply e) in
    (λ h. s ∙ (index n k).0 h, λ h. (index n k).1 (sym s ∙ h))

-- an index of nothing
pub empty_index : (es : List Exchange) (places : BTreeMap Text ℕ) → es ≡ [] → places.entries ≡ [] → IsNumberIndex es places
empty_index es places none empty number place = (
  λ h. absurd (no_place place (sym (ap (λ (entries : List (Text × ℕ)). lookup (is_at (text_cmp number)) entries) empty) ∙ h)),
  λ h. absurd (no_number number (sym (ap (λ (fs : List Exchange). number_at fs place) none) ∙ h)),
)
  where
    no_place : (p : ℕ) → ◌≡◌ {A = Option ℕ} None (Some p) → ⊥
    no_place p wrong = cc

    no_number : (n : Text) → ◌≡◌ {A = Option Text} None (Some n) → ⊥
    no_number n wrong = cc
