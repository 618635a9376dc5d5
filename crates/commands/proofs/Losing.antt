-- Lists of lines that go no further than the first lost one.
use Rattle.std.proofs.Common.{◌≡◌, List, [], ◌∷◌, ◌++◌, Bool, true, false, Result, Ok, Err, MatchResult, refl, sym, ap, ◌∙◌, append_assoc}
use Rattle.std.specs.Prelude.{IfOk}
use Rattle.office.specs.Exchanges.{Exchange}
use Rattle.commands.specs.declared.deliver.AtLost.{AtLost}
use Rattle.commands.specs.declared.deliver.AtLost.TheVariants.{GoOn, End}
use Rattle.commands.specs.LostLines.{is_lost, NoneLost, EndsLost, NothingBehindLost, WhereItEnds, ends_behind, TellsLost, GoingOn, BrokenOff, EndedAt}

pub where_it_ends : (at : AtLost) {Holds : Type 0} → Holds → WhereItEnds at Holds
where_it_ends GoOn holds = tt
where_it_ends End holds = holds

-- ---- lines behind lines of which none is lost

none-append : (xs ys : List Exchange) → NoneLost xs → NoneLost ys → NoneLost (xs ++ ys)
none-append [] ys none more = more
none-append (x ∷ xs) ys none more = (none.0, none-append xs ys none.1 more)

nothing-append : (xs ys : List Exchange) → NoneLost xs → NothingBehindLost ys → NothingBehindLost (xs ++ ys)
nothing-append [] ys none more = more
nothing-append (x ∷ []) [] none more = tt
nothing-append (x ∷ []) (y ∷ ys) none more = (none.0, more)
nothing-append (x ∷ z ∷ xs) ys none more = (none.0, nothing-append (z ∷ xs) ys none.1 more)

ends-append : (xs ys : List Exchange) → NoneLost xs → EndsLost ys → EndsLost (xs ++ ys)
ends-append xs ys none ends = record {
  front = xs ++ ends.front;
  last = ends.last;
  cut = ap (λ t. xs ++ t) ends.cut ∙ sym (append_assoc xs ends.front (ends.last ∷ []));
  none = none-append xs ends.front none ends.none;
  lost = ends.lost;
}

none_behind : (xs : List Exchange) → NoneLost xs → NothingBehindLost xs
none_behind [] none = tt
none_behind (x ∷ []) none = tt
none_behind (x ∷ y ∷ xs) none = (none.0, none_behind (y ∷ xs) none.1)

-- ---- what they did, one part behind the other

pub going_breaks : (at : AtLost) {Did : List Exchange → Type 0} (xs : List Exchange) → GoingOn at Did xs → BrokenOff at Did xs
going_breaks GoOn xs on = record { did = on.did; behind = tt }
going_breaks End xs on = record { did = on.did; behind = none_behind xs on.none }

pub goes_on : (at : AtLost) {Did DidThen DidAll : List Exchange → Type 0} → ((xs ys : List Exchange) → Did xs → DidThen ys → DidAll (xs ++ ys)) →
    (xs ys : List Exchange) → GoingOn at Did xs → GoingOn at DidThen ys → GoingOn at DidAll (xs ++ ys)
goes_on GoOn did xs ys first more = record { did = did xs ys first.did more.did; none = tt }
goes_on End did xs ys first more = record { did = did xs ys first.did more.did; none = none-append xs ys first.none more.none }

pub breaks_behind : (at : AtLost) {Did DidThen DidAll : List Exchange → Type 0} → ((xs ys : List Exchange) → Did xs → DidThen ys → DidAll (xs ++ ys)) →
    (xs ys : List Exchange) → GoingOn at Did xs → BrokenOff at DidThen ys → BrokenOff at DidAll (xs ++ ys)
breaks_behind GoOn did xs ys first more = record { did = did xs ys first.did more.did; behind = tt }
breaks_behind End did xs ys first more = record { did = did xs ys first.did more.did; behind = nothing-append xs ys first.none more.behind }

pub ends_lost_behind : (at : AtLost) → at ≡ End → {Did DidThen DidAll : List Exchange → Type 0} → ((xs ys : List Exchange) → Did xs → DidThen ys → DidAll (xs ++ ys)) →
    (xs ys : List Exchange) → GoingOn at Did xs → EndedAt DidThen ys → EndedAt DidAll (xs ++ ys)
ends_lost_behind GoOn is did xs ys first more = cc
ends_lost_behind End is did xs ys first more = record { did = did xs ys first.did more.did; ends = ends-append xs ys first.none more.ends }

-- ---- one line

pub one_goes_on : (at : AtLost) (lost : Bool) (x : Exchange) → ends_behind at lost ≡ false → lost ≡ is_lost x → WhereItEnds at (NoneLost (x ∷ []))
one_goes_on GoOn lost x on is = tt
one_goes_on End lost x on is = (sym is ∙ on, tt)

pub it_ends : (at : AtLost) (lost : Bool) → ends_behind at lost ≡ true → at ≡ End
it_ends GoOn lost ends = cc
it_ends End lost ends = refl

pub one_ends : (at : AtLost) (lost : Bool) (x : Exchange) → ends_behind at lost ≡ true → lost ≡ is_lost x → EndsLost (x ∷ [])
one_ends GoOn lost x ends is = cc
one_ends End lost x ends is = record { front = []; last = x; cut = refl; none = tt; lost = sym is ∙ ends }

pub one_told : {E : Type 0} (r : Result Bool E) (x : Exchange) → IfOk r (λ lost. lost ≡ is_lost x) → MatchResult r (λ lost. TellsLost lost (x ∷ [])) (λ _. NothingBehindLost (x ∷ []))
one_told (Ok false) x is = (sym is, tt)
one_told (Ok true) x is = record { front = []; last = x; cut = refl; none = tt; lost = sym is }
one_told (Err e) x is = tt

-- ---- the last line, if there is one

pub last_goes_on : (at : AtLost) (lost : Bool) (xs : List Exchange) → ends_behind at lost ≡ false → TellsLost lost xs → WhereItEnds at (NoneLost xs)
last_goes_on GoOn lost xs on told = tt
last_goes_on End false xs on told = told
last_goes_on End true xs on told = cc

pub last_ends : (at : AtLost) (lost : Bool) (xs : List Exchange) → ends_behind at lost ≡ true → TellsLost lost xs → EndsLost xs
last_ends GoOn lost xs ends told = cc
last_ends End false xs ends told = cc
last_ends End true xs ends told = told
