use Rattle.std.proofs.Common.{◌≡◌, Ok, ℕ, take}
use Rattle.sqlite.specs.Held.{state}
use Rattle.sqlite.specs.declared.error.Error.{Error}
use Rattle.office_maps.specs.OfficeIn.{lent_project, office_in}
use Rattle.sql_schema.specs.Inside.{IsInsideOf}
use Rattle.sql_schema.specs.Layouts.{by_domain}
use Rattle.sql_changes.specs.OnDomains.{OnDomain}
use Rattle.sql_conversion.specs.Conversion.{WritesLanguages, FollowsLanguagesIn}
use Rattle.sql_conversion.proofs.writing.write_languages.Given as goal

-- the languages so far are written
abbrev pub invariant-loop-lang : goal.invariant-loop-lang
invariant-loop-lang g l =
    (l.tx.conn.ghost_name ≡ l.fn.tx.conn.ghost_name)
    × IsInsideOf {A = ℕ} {E = Error} by_domain (state g.S.Store l.fn.tx.conn.now) (state g.S.Store l.tx.conn.now) (Ok 0)
    (OnDomain l.fn.domain (WritesLanguages (lent_project l.project) (take l.lang-index l.langs)))
    × IsInsideOf {A = ℕ} {E = Error} by_domain (state g.S.Store l.fn.tx.conn.now) (state g.S.Store l.tx.conn.now) (Ok 0) (FollowsLanguagesIn l.fn.domain (office_in l.maps) (take l.lang-index l.langs))
