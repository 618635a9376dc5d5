-- What one request does to the office, and its reply. Acts are those of Weblate's documentation ("Translation workflows");
-- their statuses and the order of refusals are this project's own rule. A new act is one line more in `act_step`.
use Rattle.std.specs.Prelude.{not, if◌then◌else◌}
use Rattle.std.specs.FinMap as maps
use Rattle.po_text.specs.Texts.{Text}
use Rattle.units.specs.Project.{Project}
use Rattle.units.specs.Office.{Office, project_in, with_project}
use Rattle.units.specs.declared.unit.Refusal.TheVariants.{NoDomain}
use Rattle.request_book.specs.declared.act.Act.{Act}
use Rattle.request_book.specs.declared.act.Act.TheVariants.{OnUnit, SetTemplate, AddLanguage, SetRole, SetPolicy, AddDomain}
use Rattle.request_book.specs.declared.act.Request.{Request}
use Rattle.replies.specs.Bodies.{Stepped, refuse}
use Rattle.office_specification.specs.ProjectActs.{unit_act_step, template_step, language_step}
use Rattle.office_specification.specs.OfficeActs.{managed, team_step, policy_step, domain_step}

-- The office with what an act makes of the project of its domain. In a domain that isn't there no language is, so an act on a unit
-- is refused for want of its language.
abbrev pub in_domain : Office → Text → (Project → Stepped Project) → Stepped Office
in_domain office domain next = let after = next (project_in office domain) in (with_project office domain after.0, after.1)

-- the same, where the domain has to be there
abbrev pub in_known_domain : Office → Text → (Project → Stepped Project) → Stepped Office
in_known_domain office domain next = if not (maps.contains_key office.domains domain) then refuse office NoDomain else in_domain office domain next

-- the office after a request, and its reply
unfoldable pub act_step : Office → Text → Text → Act → Stepped Office
act_step office caller number (OnUnit domain lang key act) = in_domain office domain (λ project. unit_act_step project caller number (lang, key) act)
act_step office caller number (SetTemplate domain po) = managed office caller (in_known_domain office domain (λ project. template_step project po))
act_step office caller number (AddLanguage domain lang po) = managed office caller (in_known_domain office domain (λ project. language_step project lang po))
act_step office caller number (SetRole name role) = managed office caller (team_step office name role)
act_step office caller number (SetPolicy policy) = managed office caller (policy_step office policy)
act_step office caller number (AddDomain domain) = managed office caller (domain_step office domain)

abbrev pub step : Office → Request → Stepped Office
step office request = act_step office request.caller request.number request.act
