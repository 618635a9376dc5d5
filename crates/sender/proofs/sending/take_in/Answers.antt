use Rattle.std.proofs.lemmas.Result.{err_from_is_err_and}
use Rattle.sender.proofs.NumberLemmas.{new_number, known_number, where_ok, not_twice}
use Rattle.sender.proofs.sending.take_in.Goals as goal

pub returns-in-Ok-Some-clause-twice : goal.returns-in-Ok-Some-clause-twice
returns-in-Ok-Some-clause-twice c = λ _. known_number _ _ _ _ c.insert.ensures.old c.in-Ok-Some.is c.in-Ok-Some.field-0-is

pub returns-in-Ok-Some-clause-pushed : goal.returns-in-Ok-Some-clause-pushed
returns-in-Ok-Some-clause-pushed c = tt

pub returns-in-Ok-Some-clause-new : goal.returns-in-Ok-Some-clause-new
returns-in-Ok-Some-clause-new c = tt

pub returns-in-Ok-Some-clause-placed : goal.returns-in-Ok-Some-clause-placed
returns-in-Ok-Some-clause-placed c = tt

pub returns-in-Ok-Some-clause-waits : goal.returns-in-Ok-Some-clause-waits
returns-in-Ok-Some-clause-waits c = tt

pub returns-in-Err-clause-twice : goal.returns-in-Err-clause-twice
returns-in-Err-clause-twice c = λ twice. absurd (not_twice twice)

pub returns-in_err-add-clause-twice : goal.returns-in_err-add-clause-twice
returns-in_err-add-clause-twice c =
    let p = err_from_is_err_and c.from_residual.result c.from_residual.ensures.1 in
    rw (p.1, p.2) (λ twice. absurd (not_twice twice))

pub returns-in_err-push_copy-clause-twice : goal.returns-in_err-push_copy-clause-twice
returns-in_err-push_copy-clause-twice c =
    let p = err_from_is_err_and c.from_residual-in_err-push_copy.result c.from_residual-in_err-push_copy.ensures.1 in
    rw (p.1, p.2) (λ twice. absurd (not_twice twice))

pub returns-clause-pushed : goal.returns-clause-pushed
returns-clause-pushed c = c.in_ok-push_copy.ensures

pub returns-clause-new : goal.returns-clause-new
returns-clause-new c = new_number _ _ _ c.insert.ensures.old c.in-Ok-None.is c.in-Ok-None.field-0-is

pub returns-clause-placed : goal.returns-clause-placed
returns-clause-placed c = where_ok _ _ _ c.insert.ensures.updates c.in-Ok-None.is

pub returns-clause-waits : goal.returns-clause-waits
returns-clause-waits c = c.in_ok-add.ensures
