use Rattle.std.proofs.Common.{◌≡◌, Ok, ℕ, length}
use Rattle.sqlite.specs.Held.{state}
use Rattle.sqlite.specs.declared.error.Error.{Error}
use Rattle.sql_schema.specs.Inside.{IsInsideOf}
use Rattle.sql_commits.proofs.PlannedWrites.{UnitsBehind}
use Rattle.sql_commits.proofs.planned_units.write_units_back.Given as goal
use Rattle.sql_changes.specs.OnDomains.{OnDomain}
use Rattle.sql_figures.specs.Figures.{FiguresStay}
use Rattle.sql_schema.specs.Layouts.{by_domain}

-- the units behind those that are left are written, but those that stay
abbrev pub invariant-loop-last : goal.invariant-loop-last
invariant-loop-last g l =
    (l.tx.conn.ghost_name ≡ l.fn.tx.conn.ghost_name)
    × IsInsideOf {A = ℕ} {E = Error} by_domain (state g.S.Store l.fn.tx.conn.now) (state g.S.Store l.tx.conn.now) (Ok 0) (OnDomain l.domain (UnitsBehind l.lang l.stays l.fn.units l.left))
    × IsInsideOf {A = ℕ} {E = Error} by_domain (state g.S.Store l.fn.tx.conn.now) (state g.S.Store l.tx.conn.now) (Ok 0) FiguresStay

abbrev pub decreases-loop-last : goal.decreases-loop-last
decreases-loop-last g l = length l.left
