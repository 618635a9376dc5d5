-- All members are read in three parts.
use Rattle.std.proofs.lemmas.Result.{err_from_is_err_and}
use Rattle.serde_json.specs.View.{members_view}
use Rattle.request_book.proofs.Three.{all_three, none_middle, none_last, same_err}
use Rattle.request_book.proofs.parts.unit_members_from.Goals as goal

pub returns-clause-ok : goal.returns-clause-ok
returns-clause-ok c = all_three (members_view c.args.fields.now) _ _ _ _ _ c.in_ok-first.ensures.ok c.in_ok-middle.ensures.ok c.in_ok-last.ensures.ok

pub returns-in_err-middle-clause-malformed : goal.returns-in_err-middle-clause-malformed
returns-in_err-middle-clause-malformed c =
    let p = err_from_is_err_and c.from_residual-in_err-middle.result c.from_residual-in_err-middle.ensures.1 in
    rw (p.1, p.2) (λ is. none_middle (members_view c.args.fields.now) _ _ c.in_ok-first.ensures.ok (c.in_err-middle.ensures.malformed (same_err _ _ is)))

pub returns-in_err-last-clause-malformed : goal.returns-in_err-last-clause-malformed
returns-in_err-last-clause-malformed c =
    let p = err_from_is_err_and c.from_residual-in_err-last.result c.from_residual-in_err-last.ensures.1 in
    rw (p.1, p.2) (λ is. none_last (members_view c.args.fields.now) _ _ _ _ c.in_ok-first.ensures.ok c.in_ok-middle.ensures.ok (c.in_err-last.ensures.malformed (same_err _ _ is)))
