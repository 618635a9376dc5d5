use Rattle.std.proofs.Common.{◌≡◌, Ok, ℕ, take}
use Rattle.sqlite.specs.Held.{state}
use Rattle.sqlite.specs.declared.error.Error.{Error}
use Rattle.sql_schema.specs.Inside.{IsInsideOf}
use Rattle.sql_commits.specs.Entries.{TakesOthers}
use Rattle.sql_commits.proofs.changed_entries.take_others.Given as goal
use Rattle.sql_changes.specs.OnDomains.{OnDomain}
use Rattle.sql_figures.specs.Figures.{FiguresStay}
use Rattle.sql_schema.specs.Layouts.{by_domain}

-- of the rows so far those that don't stay are taken out
abbrev pub invariant-loop-row : goal.invariant-loop-row
invariant-loop-row g l =
    (l.tx.conn.ghost_name ≡ l.fn.tx.conn.ghost_name)
    × IsInsideOf {A = ℕ} {E = Error} by_domain (state g.S.Store l.fn.tx.conn.now) (state g.S.Store l.tx.conn.now) (Ok 0) (OnDomain l.domain (TakesOthers l.stays (take l.row-index l.rows)))
    × IsInsideOf {A = ℕ} {E = Error} by_domain (state g.S.Store l.fn.tx.conn.now) (state g.S.Store l.tx.conn.now) (Ok 0) FiguresStay
