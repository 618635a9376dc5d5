use Rattle.std.proofs.Common.{◌≡◌, Ok, ℕ}
use Rattle.sqlite.specs.Held.{state}
use Rattle.sqlite.specs.declared.error.Error.{Error}
use Rattle.office_maps.specs.LanguageUnits.{taken}
use Rattle.office_maps.proofs.Ranges.{own_of}
use Rattle.sql_schema.specs.Inside.{IsInsideOf}
use Rattle.sql_schema.specs.Layouts.{by_domain}
use Rattle.sql_changes.specs.OnDomains.{OnDomain}
use Rattle.sql_figures.specs.Figures.{FiguresStay}
use Rattle.sql_conversion.proofs.WrittenInTurn.{UnitsBefore}
use Rattle.sql_conversion.proofs.writing.write_units_of.Given as goal

-- the units so far are written
abbrev pub invariant-loop-place : goal.invariant-loop-place
invariant-loop-place g l =
    (l.tx.conn.ghost_name ≡ l.fn.tx.conn.ghost_name)
    × IsInsideOf {A = ℕ} {E = Error} by_domain (state g.S.Store l.fn.tx.conn.now) (state g.S.Store l.tx.conn.now) (Ok 0)
    (OnDomain l.fn.domain (UnitsBefore l.fn.lang (own_of l.project.domain.now.units l.fn.lang) (taken l.fn.lang l.place-iterator)))
    × IsInsideOf {A = ℕ} {E = Error} by_domain (state g.S.Store l.fn.tx.conn.now) (state g.S.Store l.tx.conn.now) (Ok 0) FiguresStay
