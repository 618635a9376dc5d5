use Rattle.std.proofs.Common.{◌≡◌, ◌<◌, ℕ, List, [], ◌∷◌, zero, suc, get_or, arith, refl, sym, ◌∙◌, length, length-set}
use Rattle.std.proofs.lemmas.Result.{err_from_is_err_and}
use Rattle.plural_expr.proofs.Counted.{fault_start, fault_next, fault_end, fault_here, served_start, served_end, no_value_fault, few_next, counts_next}
use Rattle.plural_expr.proofs.testing.count_served.Goals as goal

abbrev zeros : List ℕ
zeros = 0 ∷ 0 ∷ 0 ∷ 0 ∷ 0 ∷ 0 ∷ 0 ∷ 0 ∷ []

zero_at : (form : ℕ) → get_or zeros form 0 ≡ 0
zero_at zero = refl
zero_at (suc zero) = refl
zero_at (suc (suc zero)) = refl
zero_at (suc (suc (suc zero))) = refl
zero_at (suc (suc (suc (suc zero)))) = refl
zero_at (suc (suc (suc (suc (suc zero))))) = refl
zero_at (suc (suc (suc (suc (suc (suc zero)))))) = refl
zero_at (suc (suc (suc (suc (suc (suc (suc zero))))))) = refl
zero_at (suc (suc (suc (suc (suc (suc (suc (suc k)))))))) = refl

pub loop-n-init : goal.loop-n-init
loop-n-init c = record { all = refl; few = λ form. omega (arith, zero_at form); passed = fault_start _; counts = λ form. zero_at form ∙ sym (served_start _ form) }

pub returns-in_err-form-clause-fault : goal.returns-in_err-form-clause-fault
returns-in_err-form-clause-fault c =
    let p = err_from_is_err_and c.from_residual.result c.from_residual.ensures.1 in
    rw (p.1, p.2) (fault_here _ c.loop-n.n _ c.loop-n-test.true c.loop-n.invariant.passed c.in_err-form.ensures.fault)

pub loop-n-preserved : goal.loop-n-preserved
loop-n-preserved c =
    let low : c.in_ok-form.form < length c.loop-n.served = omega (arith, c.in_ok-form.ensures.below_count, c.loop-n.invariant.all) in
    record {
      all = length-set _ _ _ ∙ c.loop-n.invariant.all;
      few = few_next _ _ _ low c.loop-n.invariant.few;
      passed = fault_next _ _ c.loop-n.invariant.passed (no_value_fault _ _ _ _ c.in_ok-form.ensures.value c.in_ok-form.ensures.below_count);
      counts = counts_next _ _ _ _ low c.in_ok-form.ensures.value c.loop-n.invariant.counts;
    }

pub returns-clause-passed : goal.returns-clause-passed
returns-clause-passed c = fault_end _ c.loop-n.n (omega arith) c.loop-n.invariant.passed

pub returns-clause-counts : goal.returns-clause-counts
returns-clause-counts c = λ form. c.loop-n.invariant.counts form ∙ served_end _ c.loop-n.n form (omega arith)
