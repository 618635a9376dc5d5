-- What a change of the team, of the policy or of the domains does to an office: this project's own rule, over the roles and reviews
-- of Weblate's documentation ("Translation workflows").
use Rattle.std.specs.Prelude.{List, map, if◌then◌else◌}
use Rattle.std.specs.FinMap as maps
use Rattle.po_text.specs.Texts.{Text, text_cmp}
use Rattle.units.specs.Units.{is_approved, in_state, next_revision}
use Rattle.units.specs.Project.{Project, Place}
use Rattle.units.specs.Office.{Office, Domain, as_project, domain_of, empty_domain}
use Rattle.units.specs.declared.unit.Unit.{Unit}
use Rattle.units.specs.declared.unit.UnitState.TheVariants.{Translated}
use Rattle.units.specs.declared.unit.Role.{Role}
use Rattle.units.specs.declared.unit.Role.TheVariants.{Guest, Translator, Reviewer, Manager}
use Rattle.units.specs.declared.unit.Policy.{Policy}

-- a guest isn't in the team
abbrev pub set_role : Text → Role → maps.FinMap text_cmp Role → maps.FinMap text_cmp Role
set_role name Guest team = maps.remove team name
set_role name Translator team = maps.insert team name Translator
set_role name Reviewer team = maps.insert team name Reviewer
set_role name Manager team = maps.insert team name Manager

-- an approved unit becomes translated, at the next revision
abbrev pub unapproved : Unit → Unit
unapproved unit = if is_approved unit.state then next_revision (in_state Translated unit) else unit

-- the units under a policy: without reviews none stays approved, an obsolete one neither
abbrev pub under : Policy → List (Place × Unit) → List (Place × Unit)
under policy placed = if policy.reviews then placed else map (λ e. (e.0, unapproved e.1)) placed

-- a project under a policy
abbrev pub with_policy : Project → Policy → Project
with_policy project policy = record project { policy = policy; units = maps.from_entries (under policy (maps.entries project.units)) }

-- the domains of an office under a policy
abbrev pub domains_under : Office → Policy → List (Text × Domain)
domains_under office policy = map (λ d. (d.0, domain_of (with_policy (as_project office d.1) policy))) (maps.entries office.domains)

-- an office under a policy: each of its domains is
abbrev pub office_under : Office → Policy → Office
office_under office policy = record office { policy = policy; domains = maps.from_entries (domains_under office policy) }

abbrev pub with_team : Office → maps.FinMap text_cmp Role → Office
with_team office team = record office { team = team }

-- an office with a new domain
abbrev pub with_domain : Office → Text → Office
with_domain office domain = record office { domains = maps.insert office.domains domain empty_domain }
