use Rattle.std.proofs.Common.{refl, sym, subst}
use Rattle.sqlite.specs.Held.{state}
use Rattle.sql_decoding.specs.declared.faults.Failure.{Failure}
use Rattle.sql_schema.specs.Inside.{IsInsideOf}
use Rattle.sql_schema.specs.Layouts.{by_domain}
use Rattle.sql_changes.specs.OnDomains.{OnDomain}
use Rattle.sql_changes.proofs.DomainWrites.{seen, nothing_on_domain}
use Rattle.sql_commits.specs.Changes.{WritesUnlessStays}
use Rattle.sql_commits.proofs.WritesInTurn.{nothing_put}
use Rattle.sql_figures.specs.Figures.{FiguresStay}
use Rattle.sql_figures.proofs.FigureSteps.{nothing_follows}
use Rattle.sql_commits.proofs.planned_units.write_changed.Goals as goal

-- a unit that stays isn't written
pub returns-then-stays-clause-put : goal.returns-then-stays-clause-put
returns-then-stays-clause-put g c =
    let old = state g.S.Store c.args.tx.now.conn.now in
    let domain = c.args.domain.now in
    let lang = c.args.lang.now in
    let unit = c.args.unit.now in
    let Stays = WritesUnlessStays c.args.stays lang unit in
    nothing_put old {E = Failure} _ (OnDomain domain Stays) c.requires.steady c.requires.open
    (nothing_on_domain domain Stays old.now (subst (λ b. WritesUnlessStays b lang unit (seen domain old.now) (seen domain old.now)) (sym c.if-stays.true) refl))

pub returns-then-stays-clause-figures : goal.returns-then-stays-clause-figures
returns-then-stays-clause-figures g c =
    nothing_put (state g.S.Store c.args.tx.now.conn.now) {E = Failure} _ FiguresStay c.requires.steady c.requires.open (nothing_follows (state g.S.Store c.args.tx.now.conn.now).now)

pub returns-else-stays-clause-put : goal.returns-else-stays-clause-put
returns-else-stays-clause-put g c =
    let old = state g.S.Store c.args.tx.now.conn.now in
    let new = state g.S.Store c.write_planned.new.tx.conn.now in
    subst (λ b. IsInsideOf by_domain old new c.write_planned.result (OnDomain c.args.domain.now (WritesUnlessStays b c.args.lang.now c.args.unit.now))) (sym c.if-stays.false) c.write_planned.ensures.put
