use Rattle.std.proofs.Common.{refl, sym, subst}
use Rattle.sqlite.specs.Held.{state}
use Rattle.sql_decoding.specs.declared.faults.Failure.{Failure}
use Rattle.sql_schema.specs.Inside.{IsInsideOf}
use Rattle.sql_schema.specs.Layouts.{by_domain}
use Rattle.sql_changes.specs.EntryWrites.{PutsUnless}
use Rattle.sql_changes.specs.OnDomains.{OnDomain}
use Rattle.sql_changes.proofs.DomainWrites.{seen, nothing_on_domain}
use Rattle.sql_commits.proofs.WritesInTurn.{nothing_put}
use Rattle.sql_figures.specs.Figures.{FiguresStay}
use Rattle.sql_figures.proofs.FigureSteps.{nothing_follows}
use Rattle.sql_commits.proofs.changed_entries.put_unless.Goals as goal

-- an entry that stays isn't written
pub returns-then-stays-clause-put : goal.returns-then-stays-clause-put
returns-then-stays-clause-put g c =
    let old = state g.S.Store c.args.tx.now.conn.now in
    let domain = c.args.domain.now in
    let place = c.args.place in
    let entry = c.args.entry.now in
    nothing_put old {E = Failure} _ (OnDomain domain (PutsUnless c.args.stays place entry)) c.requires.steady c.requires.open
    (nothing_on_domain domain (PutsUnless c.args.stays place entry) old.now (subst (λ b. PutsUnless b place entry (seen domain old.now) (seen domain old.now)) (sym c.if-stays.true) refl))

pub returns-then-stays-clause-figures : goal.returns-then-stays-clause-figures
returns-then-stays-clause-figures g c =
    nothing_put (state g.S.Store c.args.tx.now.conn.now) {E = Failure} _ FiguresStay c.requires.steady c.requires.open (nothing_follows (state g.S.Store c.args.tx.now.conn.now).now)

pub returns-else-stays-clause-put : goal.returns-else-stays-clause-put
returns-else-stays-clause-put g c =
    let old = state g.S.Store c.args.tx.now.conn.now in
    let new = state g.S.Store c.put_entry.new.tx.conn.now in
    subst (λ b. IsInsideOf by_domain old new c.put_entry.result (OnDomain c.args.domain.now (PutsUnless b c.args.place c.args.entry.now))) (sym c.if-stays.false) c.put_entry.ensures.put
