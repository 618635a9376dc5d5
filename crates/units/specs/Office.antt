-- The office: its domains, each with its own template, languages and units, and the team and the policy that all domains share.
-- Domains are those of the GNU gettext manual ("Ambiguities": a text domain has its own messages); that `main` is always there is
-- this project's own rule.
use Rattle.std.specs.Prelude.{List, [], Bool, unwrap_or, if◌then◌else◌}
use Rattle.std.specs.declared.cmp.Ordering.{Ordering}
use Rattle.std.specs.Ordering.{on, then_cmp, eq_by_cmp}
use Rattle.std.specs.FinMap as maps
use Rattle.po_text.specs.declared.entry.Entry.{Entry}
use Rattle.po_text.specs.Texts.{Text, text_cmp}
use Rattle.units.specs.Project.{Place, place_cmp, Project}
pub use Rattle.units.specs.Limits.{main}
use Rattle.units.specs.declared.unit.Unit.{Unit}
use Rattle.units.specs.declared.unit.Policy.{Policy}
use Rattle.units.specs.declared.unit.Role.{Role}

-- ---- domains

-- what a domain has of its own
pub record Domain : Type 0 where
  pub template : List Entry
  pub headers : maps.FinMap text_cmp Entry
  pub units : maps.FinMap place_cmp Unit

-- a new domain has no message and no language
abbrev pub empty_domain : Domain
empty_domain = record { template = []; headers = maps.empty; units = maps.empty }

abbrev pub same_domain : Text → Text → Bool
same_domain = eq_by_cmp text_cmp

-- ---- the office

pub record Office : Type 0 where
  pub domains : maps.FinMap text_cmp Domain  -- by their names
  pub team : maps.FinMap text_cmp Role
  pub policy : Policy

abbrev pub has_domain : Office → Text → Bool
has_domain office domain = maps.contains_key office.domains domain

-- ---- one domain of it

-- a domain with the team and the policy of the office
abbrev pub as_project : Office → Domain → Project
as_project office domain = record {
  template = domain.template;
  headers = domain.headers;
  units = domain.units;
  team = office.team;
  policy = office.policy;
}

-- the project of a domain; where there is no such domain, one with no message and no language
abbrev pub project_in : Office → Text → Project
project_in office domain = as_project office (unwrap_or (maps.get office.domains domain) empty_domain)

abbrev pub domain_of : Project → Domain
domain_of project = record { template = project.template; headers = project.headers; units = project.units }

-- The office with a project in its domain; where there is no such domain, as it is. Team and policy stay.
abbrev pub with_project : Office → Text → Project → Office
with_project office domain project =
    record office { domains = if maps.contains_key office.domains domain then maps.insert office.domains domain (domain_of project) else office.domains }

-- ---- places

-- a unit's place in the office: its domain, and its place there
abbrev pub OfficePlace : Type 0
OfficePlace = Text × Place

abbrev pub office_place_cmp : OfficePlace → OfficePlace → Ordering
office_place_cmp = then_cmp (on (λ place. place.0) text_cmp) (on (λ place. place.1) place_cmp)

abbrev pub office_place_eq : OfficePlace → OfficePlace → Bool
office_place_eq = eq_by_cmp office_place_cmp
