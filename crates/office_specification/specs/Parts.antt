-- The part of an office that an act reads, and offices that are alike in it. This project's own rule.
use Rattle.std.specs.Prelude.{◌≡◌, ⊤, Bool, true, false, sum_by}
use Rattle.std.specs.List.{list_any}
use Rattle.std.specs.FinMap as maps
use Rattle.po_text.specs.Texts.{Text}
use Rattle.units.specs.Office.{Office, project_in}
use Rattle.units.specs.Project.{Project}
use Rattle.units.specs.declared.unit.Policy.{Policy}
use Rattle.request_book.specs.declared.act.Act.{Act}
use Rattle.request_book.specs.declared.act.Act.TheVariants.{OnUnit, SetTemplate, AddLanguage, SetRole, SetPolicy, AddDomain}
use Rattle.office_specification.specs.OfficeActs.{passes, turned}
use Rattle.office_specification.specs.declared.parts.Part.{Part}
use Rattle.office_specification.specs.declared.parts.Part.TheVariants.{Team, Languages, Domain}

-- An act on a unit and a template read their domain, and a language no unit of it; a role, a policy and a new domain read the team and the domains'
-- names. A new act is one line more.
abbrev pub part_of : Act → Part
part_of (OnUnit domain lang key act) = Domain domain
part_of (SetTemplate domain po) = Domain domain
part_of (AddLanguage domain lang po) = Languages domain
part_of (SetRole name role) = Team
part_of (SetPolicy policy) = Team
part_of (AddDomain domain) = Team

-- two offices have one team, one policy and domains of the same names
pub record ShareTeam (x y : Office) : Type 0 where
  pub team : x.team ≡ y.team
  pub policy : x.policy ≡ y.policy
  pub domains : (domain : Text) → maps.contains_key x.domains domain ≡ maps.contains_key y.domains domain

-- two projects are one but for their units
pub record ShareLanguages (x y : Project) : Type 0 where
  pub template : x.template ≡ y.template
  pub headers : x.headers ≡ y.headers
  pub team : x.team ≡ y.team
  pub policy : x.policy ≡ y.policy

-- two offices are alike in a part
abbrev pub AreAlikeIn : Part → Office → Office → Type 0
AreAlikeIn Team x y = ShareTeam x y
AreAlikeIn (Languages domain) x y = ShareTeam x y × ShareLanguages (project_in x domain) (project_in y domain)
AreAlikeIn (Domain domain) x y = ShareTeam x y × (maps.get x.domains domain ≡ maps.get y.domains domain)

-- ---- what a policy reads beside its part

abbrev pub is_policy_act : Act → Bool
is_policy_act (OnUnit domain lang key act) = false
is_policy_act (SetTemplate domain po) = false
is_policy_act (AddLanguage domain lang po) = false
is_policy_act (SetRole name role) = false
is_policy_act (SetPolicy policy) = true
is_policy_act (AddDomain domain) = false

-- of two offices a policy turns as many units, and one would pass the last revision in both or in none
pub record ShareTurned (policy : Policy) (x y : Office) : Type 0 where
  pub count : sum_by (turned policy) (maps.values x.domains) ≡ sum_by (turned policy) (maps.values y.domains)
  pub past : list_any (passes policy) (maps.values x.domains) ≡ list_any (passes policy) (maps.values y.domains)

-- of all units of an office a policy alone reads more than its part
abbrev pub ShareCounts : Act → Office → Office → Type 0
ShareCounts (OnUnit domain lang key act) x y = ⊤
ShareCounts (SetTemplate domain po) x y = ⊤
ShareCounts (AddLanguage domain lang po) x y = ⊤
ShareCounts (SetRole name role) x y = ⊤
ShareCounts (SetPolicy policy) x y = ShareTurned policy x y
ShareCounts (AddDomain domain) x y = ⊤
