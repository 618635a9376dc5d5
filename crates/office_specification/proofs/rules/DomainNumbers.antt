-- The numbers of the suggestions of an office, by those of its domains.
use Rattle.std.proofs.Common.{◌≡◌, List, [], ◌∷◌, Bool, true, false, Option, Some, None, refl, sym, ◌∙◌, ap, subst, length, arith}
use Rattle.std.specs.Prelude.{flat_map, unwrap_or}
use Rattle.std.specs.Option.{option_map_or}
use Rattle.std.specs.List.{AllByRecursion, IsDistinct}
use Rattle.std.specs.declared.cmp.Ordering.{Ordering}
use Rattle.std.specs.FinMap as maps
use Rattle.po_text.specs.Texts.{Text, text_cmp, text_eq}
use Rattle.units.specs.Project.{Project, place_cmp}
use Rattle.units.specs.Office.{Domain, empty_domain, same_domain, Office, project_in, domain_of, with_project}
use Rattle.units.specs.declared.unit.Unit.{Unit}
use Rattle.units.specs.Orders.{text_total, place_total}
use Rattle.office_specification.specs.OfficeRules.{numbers_in, all_numbers}
use Rattle.office_specification.proofs.domains.InDomains.{Domains, get_own, get_elsewhere, equal_domains, its_own_domain, apart_back}
use Rattle.office_specification.proofs.rules.Numbering.{AreApart, apart-back, values_at, all_at, all_from, fewer_all, fewer_by_distinct, own_from, distinct_from, AreFewer}
use Rattle.office_specification.proofs.rules.UnitRules.{numbers_of}

-- ---- how numbers move

-- a number may come, and others may go
pub record NumbersMove (number : Text) (old new : List Text) : Type 1 where
  pub all : (P : Text → Type 0) → P number → AllByRecursion P old → AllByRecursion P new
  pub distinct : AllByRecursion (λ n. text_eq number n ≡ false) old → IsDistinct text_eq old → IsDistinct text_eq new

-- some may go
pub record NumbersGo (old new : List Text) : Type 1 where
  pub all : (P : Text → Type 0) → AllByRecursion P old → AllByRecursion P new
  pub distinct : IsDistinct text_eq old → IsDistinct text_eq new

pub numbers_stay : (numbers : List Text) → NumbersGo numbers numbers
numbers_stay numbers = record { all = λ P all. all; distinct = λ d. d }

pub go_moves : (number : Text) (old new : List Text) → NumbersGo old new → NumbersMove number old new
go_moves number old new go = record { all = λ P own. go.all P; distinct = λ free. go.distinct }

pub fewer_go : (old new : maps.FinMap place_cmp Unit) → AreFewer old new → NumbersGo (flat_map (λ e. numbers_of e.1) (maps.entries old)) (flat_map (λ e. numbers_of e.1) (maps.entries new))
fewer_go old new fewer = record {
  all = λ P. fewer_all place_cmp place_total numbers_of P old new fewer;
  distinct = fewer_by_distinct place_cmp place_total numbers_of old new fewer;
}

-- ---- the numbers of a domain

none_of_length : {A : Type 0} (xs : List A) → length xs ≡ 0 → xs ≡ []
none_of_length [] e = refl
none_of_length (x ∷ xs) e = absurd (omega arith)

pub no_entries : {K X : Type 0} (R : K → K → Ordering) → maps.entries (maps.empty {X = X} {R = R}) ≡ []
no_entries {X = X} R = none_of_length _ (sym (maps.len-entries (maps.empty {X = X} {R = R})) ∙ maps.len-empty R X)

pub no_numbers : numbers_in empty_domain ≡ []
no_numbers = ap (flat_map (λ e. numbers_of e.1)) (no_entries {X = Unit} place_cmp)

abbrev pub numbers_at_domain : Domains → Text → List Text
numbers_at_domain domains = values_at text_cmp text_total numbers_in domains

pub numbers_there : (office : Office) (domain : Text) → numbers_at_domain office.domains domain ≡ numbers_in (domain_of (project_in office domain))
numbers_there office domain = by (maps.get office.domains domain)
  where
    by : (o : Option Domain) → option_map_or numbers_in o [] ≡ numbers_in (unwrap_or o empty_domain)
    by None = sym no_numbers
    by (Some d) = refl

-- ---- the numbers of all domains

-- numbers that go in each domain go in all
pub all_go : (old new : Domains) → ((domain : Text) → NumbersGo (numbers_at_domain old domain) (numbers_at_domain new domain)) →
    NumbersGo (flat_map (λ d. numbers_in d.1) (maps.entries old)) (flat_map (λ d. numbers_in d.1) (maps.entries new))
all_go old new go = record {
  all = λ P all. all_from text_cmp text_total numbers_in P new (λ k. (go k).all P (all_at text_cmp text_total numbers_in P old all k));
  distinct = λ distinct.
      let own = own_from text_cmp text_total numbers_in old distinct in
      distinct_from text_cmp text_total numbers_in new (record {
        each = λ p. (go p).distinct (own.each p);
        apart = λ p q n.
            (go p).all (λ x. AllByRecursion (λ y. text_eq x y ≡ false) (numbers_at_domain new q))
            (apart-back (numbers_at_domain new q) (numbers_at_domain old p)
            ((go q).all (λ x. AllByRecursion (λ y. text_eq x y ≡ false) (numbers_at_domain old p)) (apart-back (numbers_at_domain old p) (numbers_at_domain old q) (own.apart p q n))));
      });
}

-- numbers that move in one domain move in all
pub one_moves : (office : Office) (domain number : Text) (new : Project) → maps.contains_key office.domains domain ≡ true → NumbersMove number (numbers_in (domain_of (project_in office domain))) (numbers_in (domain_of new)) →
    NumbersMove number (all_numbers office) (all_numbers (with_project office domain new))
one_moves office domain number new there move = record {
  all = λ P own all.
      all_from text_cmp text_total numbers_in P after
      (λ k. by_key (AllByRecursion P) k (move.all P own (at_own P all)) (λ apart. all_at text_cmp text_total numbers_in P before all k));
  distinct = λ free distinct.
      let own = own_from text_cmp text_total numbers_in before distinct in
      let apart_new : (q : Text) → same_domain q domain ≡ false → AreApart (numbers_in (domain_of new)) (numbers_at_domain before q) =
      λ q apart.
      move.all (λ x. AllByRecursion (λ y. text_eq x y ≡ false) (numbers_at_domain before q)) (all_at text_cmp text_total numbers_in (λ n. text_eq number n ≡ false) before free q)
      (subst (λ ns. AreApart ns (numbers_at_domain before q)) (numbers_there office domain) (own.apart domain q (apart_back q domain apart))) in
      distinct_from text_cmp text_total numbers_in after (record {
        each = λ p. by_key (IsDistinct text_eq) p
            (move.distinct (at_own (λ n. text_eq number n ≡ false) free) (subst (IsDistinct text_eq) (numbers_there office domain) (own.each domain))) (λ apart. own.each p);
        apart = λ p q n. by_two p q n apart_new own.apart;
      });
}
  where
    before : Domains
    before = office.domains

    after : Domains
    after = (with_project office domain new).domains

    at_own : (P : Text → Type 0) → AllByRecursion P (all_numbers office) → AllByRecursion P (numbers_in (domain_of (project_in office domain)))
    at_own P all = subst (AllByRecursion P) (numbers_there office domain) (all_at text_cmp text_total numbers_in P before all domain)

    own_value : numbers_at_domain after domain ≡ numbers_in (domain_of new)
    own_value = ap (λ o. option_map_or numbers_in o []) (get_own office domain new there)

    other_value : (k : Text) → same_domain k domain ≡ false → numbers_at_domain after k ≡ numbers_at_domain before k
    other_value k apart = ap (λ o. option_map_or numbers_in o []) (get_elsewhere office domain k new apart)

    by_key : (Q : List Text → Type 0) (k : Text) → Q (numbers_in (domain_of new)) → (same_domain k domain ≡ false → Q (numbers_at_domain before k)) → Q (numbers_at_domain after k)
    by_key Q k here elsewhere = by (same_domain k domain) refl
      where
        by : (tie : Bool) → same_domain k domain ≡ tie → Q (numbers_at_domain after k)
        by true t = subst (λ d. Q (numbers_at_domain after d)) (sym (equal_domains k domain t)) (subst Q (sym own_value) here)
        by false t = subst Q (sym (other_value k t)) (elsewhere t)

    by_two : (p q : Text) → same_domain p q ≡ false → ((k : Text) → same_domain k domain ≡ false → AreApart (numbers_in (domain_of new)) (numbers_at_domain before k)) →
        ((k l : Text) → same_domain k l ≡ false → AreApart (numbers_at_domain before k) (numbers_at_domain before l)) → AreApart (numbers_at_domain after p) (numbers_at_domain after q)
    by_two p q n apart_new own = by (same_domain p domain) refl (same_domain q domain) refl
      where
        by : (at_p : Bool) → same_domain p domain ≡ at_p → (at_q : Bool) → same_domain q domain ≡ at_q → AreApart (numbers_at_domain after p) (numbers_at_domain after q)
        by true s true t =
            let same : p ≡ q = equal_domains p domain s ∙ sym (equal_domains q domain t) in
            let wrong : true ≡ false = sym (its_own_domain p) ∙ (ap (same_domain p) same ∙ n) in
            cc
        by true s false t =
            subst (λ d. AreApart (numbers_at_domain after d) (numbers_at_domain after q)) (sym (equal_domains p domain s))
            (subst (λ ns. AreApart ns (numbers_at_domain after q)) (sym own_value) (subst (AreApart (numbers_in (domain_of new))) (sym (other_value q t)) (apart_new q t)))
        by false s true t =
            subst (λ d. AreApart (numbers_at_domain after p) (numbers_at_domain after d)) (sym (equal_domains q domain t))
            (subst (AreApart (numbers_at_domain after p)) (sym own_value)
            (subst (λ ns. AreApart ns (numbers_in (domain_of new))) (sym (other_value p s)) (apart-back (numbers_in (domain_of new)) (numbers_at_domain before p) (apart_new p s))))
        by false s false t = subst (AreApart (numbers_at_domain after p)) (sym (other_value q t)) (subst (λ ns. AreApart ns (numbers_at_domain before q)) (sym (other_value p s)) (own p q n))
