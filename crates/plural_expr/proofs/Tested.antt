-- What a rule that passed the tests gives at each n in 0..999.
use Rattle.std.proofs.Common.{◌≡◌, ℕ, zero, suc, ◌+◌, ◌<◌, ◌≤◌, arith, refl, subst, Option, Some, None, Ok, Err, nat_lt, false, inl, inr}
use Rattle.std.specs.List.{range_with_len}
use Rattle.std.proofs.lemmas.Bool.{cases_eq, cases_lt, le-ltb}
use Rattle.plural_expr.specs.declared.fault.EvalFault.{EvalFault}
use Rattle.plural_expr.specs.declared.fault.PluralFault.{PluralFault}
use Rattle.plural_expr.specs.Values.{Value, Rule, value_of}
use Rattle.plural_expr.specs.Faults.{value_fault, first_fault, values_fault, IsSound, IsForm}

pub first_none : (o p : Option PluralFault) → elim o as (λ _. Option PluralFault) [ Some fault ↦ Some fault | None ↦ p ] ≡ None → (o ≡ None) × (p ≡ None)
first_none None p e = (refl, e)
first_none (Some fault) p e = cc

pub none_at : (rule : Rule) (a len n : ℕ) → first_fault rule (range_with_len a len) ≡ None → a ≤ n → n < a + len → value_fault rule.count n (value_of rule.tree n) ≡ None
none_at rule a zero n e low high = absurd (omega arith)
none_at rule a (suc len) n e low high =
    let parts = first_none (value_fault rule.count a (value_of rule.tree a)) (first_fault rule (range_with_len (a + 1) len)) e in
    elim (cases_eq a n) [
      | inl same ↦ subst (λ k. value_fault rule.count k (value_of rule.tree k) ≡ None) same parts.0
      | inr other ↦ none_at rule (a + 1) len n parts.1 (omega arith) (omega arith)
    ]

some_is_none : (fault : PluralFault) → Some fault ≡ None → ⊥
some_is_none fault e = cc

pub form_in_range : (count n : ℕ) (v : Value) → value_fault count n v ≡ None → IsForm count v
form_in_range count n (Err e) h = cc
form_in_range count n (Ok k) h = elim (cases_lt k count) [ inl low ↦ low | inr high ↦ absurd (let no : nat_lt k count ≡ false = le-ltb k count high in some_is_none _ (rw no at h)) ]

-- the value at a tested n is a form's number
pub form_at : (rule : Rule) (n : ℕ) → IsSound rule → n < 1000 → IsForm rule.count (value_of rule.tree n)
unfolding values_fault
form_at rule n sound low = form_in_range rule.count n (value_of rule.tree n) (none_at rule 0 1000 n sound.values (omega arith) (omega arith))

pub no_fault_at : (rule : Rule) (n : ℕ) (e : EvalFault) → IsSound rule → n < 1000 → value_of rule.tree n ≡ Err e → ⊥
no_fault_at rule n e sound low v = rw v at (form_at rule n sound low)

pub below_count_at : (rule : Rule) (n k : ℕ) → IsSound rule → n < 1000 → value_of rule.tree n ≡ Ok k → k < rule.count
below_count_at rule n k sound low v = rw v at (form_at rule n sound low)
