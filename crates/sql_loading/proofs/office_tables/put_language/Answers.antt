use Rattle.std.proofs.Common.{List, fold, map, refl, ◌∙◌}
use Rattle.std.specs.FinMap as maps
use Rattle.po_text.specs.declared.entry.Entry.{Entry}
use Rattle.po_text.specs.Texts.{Text}
use Rattle.units.specs.Project.{Project, Place, place_cmp}
use Rattle.units.specs.declared.unit.Unit.{Unit}
use Rattle.office_maps.specs.OfficeIn.{office_in}
use Rattle.sql_loading.specs.DomainChanged.{lending}
use Rattle.sql_loading.proofs.Lending.{made_in}
use Rattle.sql_loading.proofs.office_tables.put_language.Goals as goal

-- a project with a language and its units
abbrev with_units : Text → Entry → List Unit → Project → Project
with_units lang header units project = record project {
  headers = maps.insert project.headers lang header;
  units = fold (λ (m : maps.FinMap place_cmp Unit) (e : Place × Unit). maps.insert m e.0 e.1) project.units (map (λ (unit : Unit). ((lang, unit.key), unit)) units);
}

pub returns-clause-shown : goal.returns-clause-shown
returns-clause-shown c = λ office project is.
    c.in_ok-change.ensures.ok
    ∙ (made_in office c.args.domain.now project (office_in c.args.maps.now) c.in_ok-own.own (with_units c.in_ok-lang.lang c.in_ok-language.language.header c.new.result) is c.in_ok-own.ensures refl refl
    ∙ (λ i. lending office c.args.domain.now (with_units (c.in_ok-lang.ensures.shown i) (c.in_ok-language.ensures.shown i) (c.new.ensures i) project)))
