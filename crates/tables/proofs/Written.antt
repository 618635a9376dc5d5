-- The office with the unit that a write leaves is the office with the write.
use Rattle.std.proofs.Common.{◌≡◌, Option, Some, None, option_map, refl, ap, ◌∙◌}
use Rattle.std.specs.Option.{option_map_or}
use Rattle.po_text.specs.Texts.{Text}
use Rattle.units.specs.Office.{Office, project_in, with_project}
use Rattle.units.specs.Project.{Project, Place, with_unit}
use Rattle.units.specs.declared.unit.Key.{Key}
use Rattle.units.specs.declared.unit.Unit.{Unit}
use Rattle.units.specs.declared.unit.UnitView.{UnitView}
use Rattle.office_specification.specs.declared.values.UnitWrite.{UnitWrite}
use Rattle.office_specification.specs.UnitAccess.{with_view, written_at, with_write_in}

-- the project with this unit at a place, if there is one
abbrev left_project : Project → Place → Option Unit → Project
left_project project place unit = option_map_or (with_unit project place) unit project

-- the office with this unit in a domain, if there is one
abbrev pub left_office : Office → Text → Place → Option Unit → Office
left_office office domain place unit = with_project office domain (left_project (project_in office domain) place unit)

of_view : (project : Project) (lang : Text) (key : Key) (view : Option UnitView) → left_project project (lang, key) (option_map (λ (v : UnitView). v.unit) view) ≡ with_view project lang key view
of_view project lang key None = refl
of_view project lang key (Some view) = refl

pub written_office : (office : Office) (domain lang : Text) (key : Key) (write : Option UnitWrite) (unit : Option Unit) → unit ≡ option_map (λ (v : UnitView). v.unit) (written_at (project_in office domain) lang key write)
    → left_office office domain (lang, key) unit ≡ with_write_in office domain lang key write
written_office office domain lang key write unit is =
    ap (left_office office domain (lang, key)) is
    ∙ ap (with_project office domain) (of_view (project_in office domain) lang key (written_at (project_in office domain) lang key write))
