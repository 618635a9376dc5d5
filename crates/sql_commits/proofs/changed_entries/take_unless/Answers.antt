use Rattle.std.proofs.Common.{refl, sym, subst}
use Rattle.sqlite.specs.Held.{state}
use Rattle.sql_decoding.specs.declared.faults.Failure.{Failure}
use Rattle.sql_schema.specs.Inside.{IsInsideOf}
use Rattle.sql_schema.specs.Layouts.{by_domain}
use Rattle.sql_changes.specs.OnDomains.{OnDomain}
use Rattle.sql_changes.proofs.DomainWrites.{seen, nothing_on_domain}
use Rattle.sql_commits.specs.Entries.{TakesUnless}
use Rattle.sql_commits.proofs.WritesInTurn.{nothing_put}
use Rattle.sql_figures.specs.Figures.{FiguresStay}
use Rattle.sql_figures.proofs.FigureSteps.{nothing_follows}
use Rattle.sql_commits.proofs.changed_entries.take_unless.Goals as goal

-- an entry that stays isn't taken out
pub returns-then-stays-clause-taken : goal.returns-then-stays-clause-taken
returns-then-stays-clause-taken g c =
    let old = state g.S.Store c.args.tx.now.conn.now in
    let domain = c.args.domain.now in
    let row = c.args.row.now in
    nothing_put old {E = Failure} _ (OnDomain domain (TakesUnless c.args.stays row)) c.requires.steady c.requires.open
    (nothing_on_domain domain (TakesUnless c.args.stays row) old.now (subst (λ b. TakesUnless b row (seen domain old.now) (seen domain old.now)) (sym c.if-stays.true) refl))

pub returns-then-stays-clause-figures : goal.returns-then-stays-clause-figures
returns-then-stays-clause-figures g c =
    nothing_put (state g.S.Store c.args.tx.now.conn.now) {E = Failure} _ FiguresStay c.requires.steady c.requires.open (nothing_follows (state g.S.Store c.args.tx.now.conn.now).now)

pub returns-else-stays-clause-taken : goal.returns-else-stays-clause-taken
returns-else-stays-clause-taken g c =
    let old = state g.S.Store c.args.tx.now.conn.now in
    let new = state g.S.Store c.take_shown.new.tx.conn.now in
    subst (λ b. IsInsideOf by_domain old new c.take_shown.result (OnDomain c.args.domain.now (TakesUnless b c.args.row.now))) (sym c.if-stays.false) c.take_shown.ensures.taken
