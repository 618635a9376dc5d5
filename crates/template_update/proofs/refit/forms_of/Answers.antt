use Rattle.std.proofs.Common.{◌≡◌, ◌<◌, ℕ, List, [], replicate, length, sym, subst, arith}
use Rattle.std.proofs.lemmas.List.{length-replicate}
use Rattle.template_update.proofs.refit.forms_of.Goals as goal

pub add-requires : goal.add-requires
add-requires c =
    subst (λ (forms : List (List ℕ)). length forms < 8) (sym c.loop.invariant)
    (subst (λ n. n < 8) (sym (length-replicate c.loop.counter [])) (omega (arith, c.loop-test.true, c.requires.most)))
