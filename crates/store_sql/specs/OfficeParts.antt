-- What an office tells a caller of a domain's language apart from its units, as it is kept between looks at units. This project's own words.
use Rattle.std.specs.Prelude.{◌≡◌, IsSome, Option}
use Rattle.std.specs.FinMap as maps
use Rattle.po_text.specs.Texts.{Text}
use Rattle.units.specs.Office.{Office, project_in}
use Rattle.units.specs.Project.{Project, role_of}
use Rattle.units.specs.Rules.{rule_at}
use Rattle.units.specs.declared.unit.UnitView.{UnitView}
use Rattle.office_specification.specs.declared.values.ActContext.{ActContext}
use Rattle.store_sql.specs.declared.office_part.OfficePart.{OfficePart}

-- The language is there, and this is its plural rule, and these are the policy and the caller's role.
pub record IsToldOf (project : Project) (part : OfficePart) : Type 0 where
  pub language : IsSome (maps.get project.headers part.lang)
  pub rule : part.rule ≡ rule_at project part.lang
  pub policy : part.policy ≡ project.policy
  pub role : part.role ≡ role_of project part.name

-- so an office's domain tells it
abbrev pub IsPartOf : Office → OfficePart → Type 0
IsPartOf office part = IsToldOf (project_in office part.domain) part

-- with a unit's view it is what an act on the unit needs to know
abbrev pub context_with : OfficePart → Option UnitView → ActContext
context_with part view = record { rule = part.rule; policy = part.policy; role = part.role; view = view }

-- and this of what was found for an act of a caller on a unit of a domain's language
abbrev pub part_with : Text → Text → Text → ActContext → OfficePart
part_with domain lang name context =
    record { domain = domain; lang = lang; name = name; rule = context.rule; policy = context.policy; role = context.role }
