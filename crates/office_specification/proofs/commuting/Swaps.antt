-- Lists that are alike are joined by a chain of swaps of neighbours that don't clash, and no swap changes the office that is left.
use Rattle.std.proofs.Common.{◌≡◌, List, [], ◌∷◌, ◌++◌, Bool, true, false, cond, refl, sym, ◌∙◌, ap, subst}
use Rattle.std.proofs.lemmas.List.Elements.{filter-append}
use Rattle.units.specs.Office.{Office, OfficePlace}
use Rattle.request_book.specs.declared.act.Request.{Request}
use Rattle.request_book.specs.Clash.{scope_of, clash, concerns, own, Alike}
use Rattle.office_specification.specs.Step.{step}
use Rattle.office_specification.specs.Deliveries.{after}
use Rattle.office_specification.specs.Laws.{Swaps, same, swap, GoInEitherOrder}
use Rattle.office_specification.proofs.commuting.Between.{either}
use Rattle.office_specification.proofs.commuting.Scopes.{its_place, shared, both_count}

-- ---- a chain of swaps

behind_one : (w : Request) (zs xs : List Request) → Swaps zs xs → Swaps (w ∷ zs) (w ∷ xs)
behind_one w zs xs same = same
behind_one w zs xs (swap front x y back c rest) = swap (w ∷ front) x y back c (behind_one w zs (front ++ y ∷ x ∷ back) rest)

joined : (zs ys xs : List Request) → Swaps ys xs → Swaps zs ys → Swaps zs xs
joined zs ys xs same t = t
joined zs ys xs (swap front x y back c rest) t = swap front x y back c (joined zs ys (front ++ y ∷ x ∷ back) rest t)

-- none of them clashes with x
abbrev AllClear : Request → List Request → Type 0
AllClear x [] = Unit {0}
AllClear x (y ∷ ys) = (clash x y ≡ false) × AllClear x ys

-- x goes behind requests that it doesn't clash with
go_behind : (x : Request) (before behind : List Request) → AllClear x before → Swaps (before ++ x ∷ behind) (x ∷ (before ++ behind))
go_behind x [] behind clear = same
go_behind x (y ∷ before) behind clear = swap [] x y (before ++ behind) clear.0 (behind_one y (before ++ x ∷ behind) (x ∷ (before ++ behind)) (go_behind x before behind clear.1))

-- ---- the first request of a list, in a list that is alike

record Split (p : OfficePlace) (ys : List Request) (x : Request) (rest : List Request) : Type 0 where
  before : List Request
  behind : List Request
  is : ys ≡ before ++ x ∷ behind
  clear : own p before ≡ []
  left : own p behind ≡ rest

split : (p : OfficePlace) (ys : List Request) (x : Request) (rest : List Request) → own p ys ≡ x ∷ rest → Split p ys x rest
split p [] x rest e = cc
split p (y ∷ ys) x rest e = by_test (concerns p y) refl (split p ys x rest) e
  where
    by_test : (c : Bool) → concerns p y ≡ c → (own p ys ≡ x ∷ rest → Split p ys x rest) → cond c (y ∷ own p ys) (own p ys) ≡ x ∷ rest → Split p (y ∷ ys) x rest
    by_test true t ih e =
        let head : y ≡ x = cc in
        let tail : own p ys ≡ rest = cc in
        record { before = []; behind = ys; is = ap (λ z. z ∷ ys) head; clear = refl; left = tail }
    by_test false t ih e =
        let s = ih e in
        record { before = y ∷ s.before; behind = s.behind; is = ap (λ zs. y ∷ zs) s.is; clear = ap (λ c. cond c (y ∷ own p s.before) (own p s.before)) t ∙ s.clear; left = s.left }

own-append : (p : OfficePlace) (xs ys : List Request) → own p (xs ++ ys) ≡ own p xs ++ own p ys
own-append p xs ys = filter-append (concerns p) xs ys

own-cons : (p : OfficePlace) (x : Request) (xs : List Request) (c : Bool) → concerns p x ≡ c → own p (x ∷ xs) ≡ cond c (x ∷ own p xs) (own p xs)
own-cons p x xs c e = ap (λ d. cond d (x ∷ own p xs) (own p xs)) e

-- ---- what is before it doesn't clash with it

-- the first that counts for a unit, where none counts for another
counts_for_none : (p q : OfficePlace) (ys : List Request) (z : Request) (zs : List Request) → own p ys ≡ [] → own q ys ≡ z ∷ zs → concerns p z ≡ false
counts_for_none p q [] z zs none e = cc
counts_for_none p q (y ∷ ys) z zs none e = by (counts_for_none p q ys z zs) (concerns p y) refl (concerns q y) none e
  where
    by : (own p ys ≡ [] → own q ys ≡ z ∷ zs → concerns p z ≡ false) → (b : Bool) → concerns p y ≡ b → (c : Bool) → cond b (y ∷ own p ys) (own p ys) ≡ [] → cond c (y ∷ own q ys) (own q ys) ≡ z ∷ zs → concerns p z ≡ false
    by ih true t c none e = cc
    by ih false t true none e =
        let head : y ≡ z = cc in
        ap (concerns p) (sym head) ∙ t
    by ih false t false none e = ih none e

-- of what is before it, none counts for a unit that it counts for
abbrev IsClear : Request → List Request → Type 0
IsClear x before = (q : OfficePlace) → concerns q x ≡ true → own q before ≡ []

is_clear : (x : Request) (xs before behind : List Request) (p : OfficePlace) → concerns p x ≡ true → own p before ≡ [] → Alike (x ∷ xs) (before ++ x ∷ behind) → IsClear x before
is_clear x xs before behind p counts none alike q t = by (own q before) refl
  where
    by : (zs : List Request) → own q before ≡ zs → zs ≡ []
    by [] e = refl
    by (z ∷ zs) e =
        let heads : x ∷ own q xs ≡ z ∷ (zs ++ own q (x ∷ behind)) =
        sym (own-cons q x xs true t) ∙ (alike q ∙ (own-append q before (x ∷ behind) ∙ ap (λ ys. ys ++ own q (x ∷ behind)) e)) in
        let one : x ≡ z = cc in
        let wrong : true ≡ false = sym counts ∙ (ap (concerns p) one ∙ counts_for_none p q before z zs none e) in
        cc

all_clear : (x : Request) (ys : List Request) → IsClear x ys → AllClear x ys
all_clear x [] clear = tt
all_clear x (y ∷ ys) clear = (by_clash (clash x y) refl, all_clear x ys (λ q t. by_test q (concerns q y) (clear q t)))
  where
    by_test : (q : OfficePlace) (c : Bool) → cond c (y ∷ own q ys) (own q ys) ≡ [] → own q ys ≡ []
    by_test q true e = cc
    by_test q false e = e

    by_clash : (c : Bool) → clash x y ≡ c → clash x y ≡ false
    by_clash true e =
        let s = shared (scope_of x.act) (scope_of y.act) e in
        let wrong : y ∷ own s.place ys ≡ [] = sym (own-cons s.place y ys true s.second) ∙ clear s.place s.first in
        cc
    by_clash false e = e

-- without x the lists are still alike
alike_rest : (x : Request) (xs before behind : List Request) → IsClear x before → Alike (x ∷ xs) (before ++ x ∷ behind) → Alike xs (before ++ behind)
alike_rest x xs before behind clear alike q = by_test (concerns q x) refl
  where
    by_test : (c : Bool) → concerns q x ≡ c → own q xs ≡ own q (before ++ behind)
    by_test true t =
        let same : x ∷ own q xs ≡ x ∷ own q behind =
        sym (own-cons q x xs true t) ∙ (alike q ∙ (own-append q before (x ∷ behind) ∙ (ap (λ zs. zs ++ own q (x ∷ behind)) (clear q t) ∙ own-cons q x behind true t))) in
        let tail : own q xs ≡ own q behind = cc in
        tail ∙ sym (own-append q before behind ∙ ap (λ zs. zs ++ own q behind) (clear q t))
    by_test false t =
        sym (own-cons q x xs false t) ∙ (alike q ∙ (own-append q before (x ∷ behind) ∙ (ap (λ zs. own q before ++ zs) (own-cons q x behind false t) ∙ sym (own-append q before behind))))

-- nothing of an alike list is left
no_more : (ys : List Request) → Alike [] ys → Swaps ys []
no_more [] alike = same
no_more (y ∷ ys) alike =
    let p = its_place (scope_of y.act) in
    let e : y ∷ own p.0 ys ≡ [] = sym (alike p.0 ∙ own-cons p.0 y ys true p.1) in
    cc

-- lists that are alike are joined by a chain of swaps
pub alike_swaps : (xs ys : List Request) → Alike xs ys → Swaps ys xs
alike_swaps [] ys alike = no_more ys alike
alike_swaps (x ∷ xs) ys alike =
    let p = its_place (scope_of x.act) in
    let s = split p.0 ys x (own p.0 xs) (sym (alike p.0) ∙ own-cons p.0 x xs true p.1) in
    let alike' : Alike (x ∷ xs) (s.before ++ x ∷ s.behind) = λ q. alike q ∙ ap (own q) s.is in
    let clear = is_clear x xs s.before s.behind p.0 p.1 s.clear alike' in
    let rest = alike_swaps xs (s.before ++ s.behind) (alike_rest x xs s.before s.behind clear alike') in
    subst (λ zs. Swaps zs (x ∷ xs)) (sym s.is)
    (joined (s.before ++ x ∷ s.behind) (x ∷ (s.before ++ s.behind)) (x ∷ xs) (behind_one x (s.before ++ s.behind) xs rest)
    (go_behind x s.before s.behind (all_clear x s.before clear)))

-- ---- what a swap leaves as it was

swapped : (front : List Request) (x y : Request) (back : List Request) → clash x y ≡ false → (o : Office) → after o (front ++ x ∷ y ∷ back) ≡ after o (front ++ y ∷ x ∷ back)
swapped [] x y back c o = ap (λ s. after s back) (GoInEitherOrder.left (either o x y c))
swapped (w ∷ front) x y back c o = swapped front x y back c (step o w).0

pub after_swaps : (ys xs : List Request) → Swaps ys xs → (o : Office) → after o xs ≡ after o ys
after_swaps ys xs same o = refl
after_swaps ys xs (swap front x y back c rest) o = swapped front x y back c o ∙ after_swaps ys (front ++ y ∷ x ∷ back) rest o

-- lists that are alike leave one office
pub alike_after : (xs ys : List Request) (o : Office) → Alike xs ys → after o xs ≡ after o ys
alike_after xs ys o alike = after_swaps ys xs (alike_swaps xs ys alike) o

-- ---- a swap leaves each unit's own requests in their order

own_swapped : (p : OfficePlace) (x y : Request) (back : List Request) → clash x y ≡ false → own p (x ∷ y ∷ back) ≡ own p (y ∷ x ∷ back)
own_swapped p x y back apart = by (concerns p x) (concerns p y) refl refl
  where
    by : (b c : Bool) → concerns p x ≡ b → concerns p y ≡ c → cond b (x ∷ cond c (y ∷ own p back) (own p back)) (cond c (y ∷ own p back) (own p back)) ≡ cond c (y ∷ cond b (x ∷ own p back) (own p back)) (cond b (x ∷ own p back) (own p back))
    by true true b c = let wrong : true ≡ false = sym (both_count p (scope_of x.act) (scope_of y.act) b c) ∙ apart in cc
    by true false b c = refl
    by false c b d = refl

pub swaps_alike : (ys xs : List Request) → Swaps ys xs → Alike xs ys
swaps_alike ys xs same p = refl
swaps_alike ys xs (swap front x y back c rest) p =
    own-append p front (x ∷ y ∷ back)
    ∙ (ap (λ zs. own p front ++ zs) (own_swapped p x y back c)
    ∙ (sym (own-append p front (y ∷ x ∷ back)) ∙ swaps_alike ys (front ++ y ∷ x ∷ back) rest p))
