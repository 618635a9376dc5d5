use Rattle.std.proofs.Common.{◌≡◌, Ok, ℕ, length, take}
use Rattle.sqlite.specs.Held.{state}
use Rattle.sqlite.specs.declared.error.Error.{Error}
use Rattle.sql_schema.specs.Inside.{IsInsideOf}
use Rattle.sql_changes.specs.EntryWrites.{PutsOthers}
use Rattle.sql_commits.proofs.changed_entries.put_others.Given as goal
use Rattle.sql_changes.specs.OnDomains.{OnDomain}
use Rattle.sql_figures.specs.Figures.{FiguresStay}
use Rattle.sql_schema.specs.Layouts.{by_domain}

-- of the entries so far those that don't stay are put
abbrev pub invariant-loop-place : goal.invariant-loop-place
invariant-loop-place g l =
    (l.place-end ≡ length l.entries)
    × (l.tx.conn.ghost_name ≡ l.fn.tx.conn.ghost_name)
    × IsInsideOf {A = ℕ} {E = Error} by_domain (state g.S.Store l.fn.tx.conn.now) (state g.S.Store l.tx.conn.now) (Ok 0) (OnDomain l.domain (PutsOthers 0 l.stays (take l.place l.entries)))
    × IsInsideOf {A = ℕ} {E = Error} by_domain (state g.S.Store l.fn.tx.conn.now) (state g.S.Store l.tx.conn.now) (Ok 0) FiguresStay
