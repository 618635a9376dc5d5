use Rattle.std.proofs.Common.{◌≡◌, Ok, ℕ, take}
use Rattle.sqlite.specs.Held.{state}
use Rattle.sqlite.specs.declared.error.Error.{Error}
use Rattle.sql_schema.specs.Inside.{IsInsideOf}
use Rattle.sql_schema.specs.Layouts.{by_domain}
use Rattle.sql_changes.specs.OnDomains.{SparesDomains}
use Rattle.sql_figures.specs.Figures.{with_tallies, FiguresFollow}
use Rattle.sql_commits.proofs.tallies.put_tallies.Given as goal

-- what each domain sees stays
abbrev pub invariant-loop-tallied : goal.invariant-loop-tallied
invariant-loop-tallied g l =
    (l.tx.conn.ghost_name ≡ l.fn.tx.conn.ghost_name)
    × IsInsideOf {A = ℕ} {E = Error} by_domain (state g.S.Store l.fn.tx.conn.now) (state g.S.Store l.tx.conn.now) (Ok 0) SparesDomains
    × IsInsideOf {A = ℕ} {E = Error} by_domain (state g.S.Store l.fn.tx.conn.now) (state g.S.Store l.tx.conn.now) (Ok 0) (FiguresFollow (with_tallies l.domain (take l.tallied-index l.tallies)))
