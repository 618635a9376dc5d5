-- What an office act comes to is the definition's step.
use Rattle.std.proofs.Common.{◌≡◌, Result, Ok, Err, sym, subst}
use Rattle.std.specs.Prelude.{IfOk}
use Rattle.units.specs.Project.{Project}
use Rattle.units.specs.Office.{Office}
use Rattle.request_book.specs.Replies.{Reply}
use Rattle.replies.specs.Bodies.{Stepped}
use Rattle.outcomes.specs.declared.outcome.DomainOutcome.{DomainOutcome}
use Rattle.outcomes.specs.declared.outcome.OfficeOutcome.{OfficeOutcome}
use Rattle.outcomes.specs.Settled.{IsSettledIn, IsSettled, no_change, without_change}

-- an act that changes nothing, in each office of some
pub unchanged : {E : Type 0} (r : Result OfficeOutcome E) (said : Reply) (Among : Office → Type 0) (next : Office → Stepped Office)
    → ((whole : Office) → Among whole → ◌≡◌ {A = Stepped Office} (whole, said) (next whole))
    → IfOk r (λ outcome. outcome ≡ without_change said) → IfOk r (λ outcome. (whole : Office) → Among whole → IsSettled whole outcome (next whole))
unchanged (Ok outcome) said Among next each is = λ whole among. subst (λ (o : OfficeOutcome). IsSettled whole o (next whole)) (sym is) (record { is = each whole among; possible = tt })
unchanged (Err fault) said Among next each is = tt

-- a step that is another's, in each office of some
pub alike : {E : Type 0} (r : Result OfficeOutcome E) (Among Fewer : Office → Type 0) (a b : Office → Stepped Office) → ((whole : Office) → Fewer whole → Among whole)
    → ((whole : Office) → Fewer whole → a whole ≡ b whole)
    → IfOk r (λ outcome. (whole : Office) → Among whole → IsSettled whole outcome (a whole)) → IfOk r (λ outcome. (whole : Office) → Fewer whole → IsSettled whole outcome (b whole))
alike (Ok outcome) Among Fewer a b among same settled = λ whole few. subst (IsSettled whole outcome) (same whole few) (settled whole (among whole few))
alike (Err fault) Among Fewer a b among same settled = tt

-- an act in a domain that changes nothing, in each project of some
pub unchanged_in : {E : Type 0} (r : Result DomainOutcome E) (said : Reply) (Among : Project → Type 0) (next : Project → Stepped Project)
    → ((whole : Project) → Among whole → ◌≡◌ {A = Stepped Project} (whole, said) (next whole))
    → IfOk r (λ outcome. outcome ≡ no_change said) → IfOk r (λ outcome. (whole : Project) → Among whole → IsSettledIn whole outcome (next whole))
unchanged_in (Ok outcome) said Among next each is = λ whole among. subst (λ (o : DomainOutcome). IsSettledIn whole o (next whole)) (sym is) (record { is = each whole among; possible = tt })
unchanged_in (Err fault) said Among next each is = tt

-- a step that is another's, in each project of some
pub alike_in : {E : Type 0} (r : Result DomainOutcome E) (Among : Project → Type 0) (a b : Project → Stepped Project) → ((whole : Project) → Among whole → a whole ≡ b whole)
    → IfOk r (λ outcome. (whole : Project) → Among whole → IsSettledIn whole outcome (a whole)) → IfOk r (λ outcome. (whole : Project) → Among whole → IsSettledIn whole outcome (b whole))
alike_in (Ok outcome) Among a b same settled = λ whole among. subst (IsSettledIn whole outcome) (same whole among) (settled whole among)
alike_in (Err fault) Among a b same settled = tt
