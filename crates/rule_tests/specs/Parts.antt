-- The parts of an office's rules that are tested one by one, apart from those of its book. Only inner clauses and proofs cite this file.
use Rattle.std.specs.Prelude.{◌≡◌, ◌≤◌, [], ◌∷◌, length, true, false, not, Some, None, IsSome, IsOk, IsTrue, All}
use Rattle.std.specs.List.{list_any, AllByRecursion}
use Rattle.std.specs.FinMap as maps
use Rattle.po_lex.specs.Lines.{is_comment_text}
use Rattle.po_text.specs.declared.entry.Entry.{Entry}
use Rattle.po_text.specs.Entries.{is_header}
use Rattle.po_text.specs.Strings.{form_limit}
use Rattle.po_text.specs.Texts.{Text, text_cmp, is_empty}
use Rattle.po_text.specs.Valid.{IsValid}
use Rattle.plural_expr.specs.Values.{Rule}
use Rattle.units.specs.Limits.{is_accept_at, language_limit, team_limit, unit_limit, suggestion_limit, vote_limit}
use Rattle.units.specs.Units.{forms_needed, no_previous, is_below, is_approved, is_needs_editing, key_of}
use Rattle.units.specs.Project.{Project, Place, entry_of, units_of}
use Rattle.units.specs.Projects.{IsUnit, IsTemplateEntry, IsProject}
use Rattle.units.specs.Office.{Office, project_in}
use Rattle.units.specs.Rules.{rule_in, rule_at}
use Rattle.units.specs.declared.unit.Role.{Role}
use Rattle.units.specs.declared.unit.Role.TheVariants.{Guest, Manager}
use Rattle.units.specs.declared.unit.Unit.{Unit}

-- ---- of a unit

-- the forms that a unit needs which isn't obsolete, on its suggestions too
abbrev pub HasForms : Rule → Unit → Type 0
HasForms rule unit = (length unit.forms ≡ forms_needed rule unit.plural) × All (λ s. length s.forms ≡ forms_needed rule unit.plural) unit.suggestions

-- an obsolete unit's
abbrev pub IsPutAway : Unit → Type 0
IsPutAway unit = (unit.suggestions ≡ []) × (1 ≤ length unit.forms) × (length unit.forms ≤ form_limit) × (unit.plural ≡ None → length unit.forms ≡ 1)

pub record HasItsForms (rule : Rule) (unit : Unit) : Type 0 where
  pub current : unit.obsolete ≡ false → HasForms rule unit
  pub put_away : unit.obsolete ≡ true → IsPutAway unit

-- previous strings only while it needs editing
abbrev pub KeepsPrevious : Unit → Type 0
KeepsPrevious unit = is_needs_editing unit.state ≡ false → unit.previous ≡ no_previous

pub record HasItsTexts (unit : Unit) : Type 0 where
  pub named : unit.key.ctx ≡ None → IsTrue (not (is_empty unit.key.id))
  pub previous : KeepsPrevious unit
  pub commented : AllByRecursion (λ line. IsTrue (is_comment_text line)) unit.comment

pub record HasFewSuggestions (unit : Unit) : Type 0 where
  pub suggested : length unit.suggestions ≤ suggestion_limit
  pub voted : All (λ s. maps.len s.votes ≤ vote_limit) unit.suggestions

-- ---- of an entry of a template

pub record IsUntouched (entry : Entry) : Type 0 where
  pub unworked : entry.forms ≡ [] ∷ []
  pub uncommented : entry.translator ≡ []
  pub unchanged : entry.previous ≡ no_previous

-- ---- of a team

pub record IsTeam (team : maps.FinMap text_cmp Role) : Type 0 where
  pub managed : IsTrue (list_any (λ role. not (is_below role Manager)) (maps.values team))
  pub members : (name : Text) (role : Role) → maps.get team name ≡ Some role → is_below Guest role ≡ true
  pub few : maps.len team ≤ team_limit

-- ---- of a unit at its place

-- what its language has no part in
pub record StandsRight (project : Project) (place : Place) (unit : Unit) : Type 0 where
  pub key : unit.key ≡ place.1
  pub exact : unit.obsolete ≡ false → IsSome (entry_of project.template place.1)
  pub reviewed : project.policy.reviews ≡ false → is_approved unit.state ≡ false

pub record IsPlaced (project : Project) (place : Place) (unit : Unit) : Type 0 where
  pub stands : StandsRight project place unit
  pub language : IsSome (maps.get project.headers place.0)
  pub rules : IsUnit (rule_at project place.0) unit

abbrev pub ArePlaced : Project → Type 0
ArePlaced project = (place : Place) (unit : Unit) → maps.get project.units place ≡ Some unit → IsPlaced project place unit

-- ---- of a language

pub record IsLanguage (header : Entry) : Type 0 where
  pub plain : is_header header ≡ true
  pub valid : IsValid (header ∷ [])
  pub ruled : IsOk (rule_in (Some header))

-- a language that is there has a valid header
abbrev pub IsHeaded : Project → Text → Type 0
IsHeaded project lang = (header : Entry) → maps.get project.headers lang ≡ Some header → IsLanguage header

-- the language has the unit of an entry
abbrev pub HasUnit : Project → Text → Entry → Type 0
HasUnit project lang entry =
    (unit : Unit) × (maps.get project.units (lang, key_of entry) ≡ Some unit) × (unit.obsolete ≡ false) × (unit.plural ≡ entry.plural)

pub record KeepsLanguage (project : Project) (lang : Text) : Type 0 where
  pub headed : IsHeaded project lang
  pub few : length (units_of project lang) ≤ unit_limit
  pub complete : All (HasUnit project lang) project.template

-- ---- of a project, apart from its languages and units

pub record IsFrame (project : Project) : Type 0 where
  pub team : IsTeam project.team
  pub accepting : is_accept_at project.policy.accept_at ≡ true
  pub template_valid : IsValid project.template
  pub template_plain : All IsTemplateEntry project.template
  pub few_languages : maps.len project.headers ≤ language_limit

-- of a project, apart from its units
pub record IsBareProject (project : Project) : Type 0 where
  pub frame : IsFrame project
  pub headed : (lang : Text) → IsHeaded project lang

-- ---- of an office

-- each domain keeps the rules of a project
abbrev pub AreProjects : Office → Type 0
AreProjects office = (domain : Text) → IsSome (maps.get office.domains domain) → IsProject (project_in office domain)
