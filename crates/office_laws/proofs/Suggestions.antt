-- A suggestion among those of a unit, where no two share a number.
use Rattle.std.proofs.Common.{◌≡◌, Bool, true, false, cond, not, List, [], ◌∷◌, ◌++◌, map, filter, find, Some, refl, sym, ap, ◌∙◌}
use Rattle.std.specs.List.{AllByRecursion, IsDistinct}
use Rattle.std.specs.Cmp.Lexicographic.{same_text}
use Rattle.std.proofs.lemmas.List.Elements.{filter-append}
use Rattle.po_text.specs.Texts.{Text, text_eq}
use Rattle.units.specs.declared.unit.Suggestion.{Suggestion}
use Rattle.units.specs.Units.{has_number}

-- those before it and behind it have other numbers
pub record IsAmong (n : Text) (all : List Suggestion) (s : Suggestion) : Type 0 where
  pub front : List Suggestion
  pub back : List Suggestion
  pub whole : all ≡ front ++ s ∷ back
  pub number : s.number ≡ n
  pub before : AllByRecursion (λ x. has_number n x ≡ false) front
  pub behind : AllByRecursion (λ x. has_number n x ≡ false) back

module _ (n : Text) where
  others : (x : Suggestion) → n ≡ x.number → (all : List Suggestion) → AllByRecursion (λ m. text_eq x.number m ≡ false) (map (λ s. s.number) all)
      → AllByRecursion (λ s. has_number n s ≡ false) all
  others x same [] apart = tt
  others x same (s ∷ all) apart = (ap (λ m. text_eq m s.number) same ∙ apart.0, others x same all apart.1)

  pub among : (all : List Suggestion) (s : Suggestion) → find (has_number n) all ≡ Some s → IsDistinct text_eq (map (λ s. s.number) all) → IsAmong n all s
  unfolding IsDistinct
  among [] s found apart = cc
  among (x ∷ all) s found apart = by (λ there. among all s there apart.1) (has_number n x) refl found
    where
      by : (find (has_number n) all ≡ Some s → IsAmong n all s) → (b : Bool) → has_number n x ≡ b → cond b (Some x) (find (has_number n) all) ≡ Some s → IsAmong n (x ∷ all) s
      by later true own is =
          let one : x ≡ s = cc in
          let same : n ≡ x.number = same_text n x.number (sym own) in
          record { front = []; back = all; whole = ap (λ y. y ∷ all) one; number = sym (same ∙ ap (λ (y : Suggestion). y.number) one); before = tt; behind = others x same all apart.0 }
      by later false other is =
          let rest = later is in
          record { front = x ∷ rest.front; back = rest.back; whole = ap (λ l. x ∷ l) rest.whole; number = rest.number; before = (other, rest.before); behind = rest.behind }

  -- all with another number stay
  pub all_stay : (all : List Suggestion) → AllByRecursion (λ s. has_number n s ≡ false) all → filter (λ s. not (has_number n s)) all ≡ all
  all_stay [] other = refl
  all_stay (s ∷ all) other =
      ap (λ b. cond (not b) (s ∷ filter (λ s. not (has_number n s)) all) (filter (λ s. not (has_number n s)) all)) other.0
      ∙ ap (λ l. s ∷ l) (all_stay all other.1)

  -- one between those goes
  pub one_goes : (front : List Suggestion) (s : Suggestion) (back : List Suggestion) → has_number n s ≡ true
      → AllByRecursion (λ x. has_number n x ≡ false) front → AllByRecursion (λ x. has_number n x ≡ false) back
      → filter (λ x. not (has_number n x)) (front ++ s ∷ back) ≡ front ++ back
  one_goes front s back own before behind =
      let keeps = (λ (x : Suggestion). not (has_number n x)) in
      filter-append keeps front (s ∷ back)
      ∙ ap (λ b. filter keeps front ++ cond (not b) (s ∷ filter keeps back) (filter keeps back)) own
      ∙ (λ i. all_stay front before i ++ all_stay back behind i)

  -- a change of those with this number leaves the others
  pub all_same : (f : Suggestion → Suggestion) (all : List Suggestion) → AllByRecursion (λ s. has_number n s ≡ false) all
      → map (λ s. cond (has_number n s) (f s) s) all ≡ all
  all_same f [] other = refl
  all_same f (s ∷ all) other = (λ i. cond (other.0 i) (f s) s ∷ all_same f all other.1 i)
