-- What an office in maps stands for, read at one key and changed at one key.
use Rattle.std.proofs.Common.{◌≡◌, Option, Some, None, option_map, unwrap_or, string_bytes, refl, sym, ap, ◌∙◌}
use Rattle.std.specs.FinMap as maps
use Rattle.std.specs.Prelude.{String}
use Rattle.std.specs.BTreeMap.{BTreeMap, get_by}
use Rattle.po_text.specs.Texts.{Text, text_cmp}
use Rattle.units.specs.Project.{Place as OfficePlace, place_cmp, role_in, role_of, view_of, entry_of}
use Rattle.units.specs.declared.unit.Role.{Role}
use Rattle.units.specs.declared.unit.Role.TheVariants.{Guest}
use Rattle.units.specs.declared.unit.Unit.{Unit}
use Rattle.units.specs.declared.unit.UnitView.{UnitView}
use Rattle.units.specs.Orders.{text_total, place_total}
use Rattle.plural_expr.specs.Values.{Rule}
use Rattle.office_specification.specs.declared.values.ActContext.{ActContext}
use Rattle.office_maps.specs.declared.project_maps.ProjectMaps.{ProjectMaps}
use Rattle.office_specification.specs.declared.values.Language.{Language}
use Rattle.office_maps.specs.ActContexts.{context_with}
use Rattle.office_maps.specs.OfficeIn.{lent_project, place_of}
use Rattle.office_maps.specs.Rows.{team_in}
use Rattle.office_maps.proofs.MapEntries.{get-mapped}
use Rattle.office_maps.proofs.ContextLemmas as lemmas

map_self : {X : Type 0} (o : Option X) → option_map (λ x. x) o ≡ o
map_self None = refl
map_self (Some x) = refl

pub header_at : (t : ProjectMaps) (lang : Text) → maps.get (lent_project t).headers lang ≡ option_map (λ language. language.header) (get_by (λ k. text_cmp lang (string_bytes k)) t.domain.now.languages.rows)
header_at t lang = get-mapped text_cmp string_bytes (λ language. language.header) text_total t.domain.now.languages.rows lang

pub unit_at : (t : ProjectMaps) (place : OfficePlace) → maps.get (lent_project t).units place ≡ get_by (λ k. place_cmp place (place_of k)) t.domain.now.units
unit_at t place = get-mapped place_cmp place_of (λ unit. unit) place_total t.domain.now.units place ∙ map_self _

pub role_found : {A : Type 0} (team : BTreeMap (String A) Role) (name : Text) (found : Option Role) → found ≡ get_by (λ k. text_cmp name (string_bytes k)) team → unwrap_or found Guest ≡ role_in (team_in team) name
role_found team name found e = ap (λ o. unwrap_or o Guest) (e ∙ sym (get-mapped text_cmp string_bytes (λ role. role) text_total team name ∙ map_self _))

pub role_at : (t : ProjectMaps) (name : Text) (found : Option Role) → found ≡ get_by (λ k. text_cmp name (string_bytes k)) t.team.now → unwrap_or found Guest ≡ role_of (lent_project t) name
role_at t name found e = ap (λ o. unwrap_or o Guest) (e ∙ sym (get-mapped text_cmp string_bytes (λ role. role) text_total t.team.now name ∙ map_self _))

pub view_at : (t : ProjectMaps) (place : OfficePlace) (found : Option Unit) → found ≡ get_by (λ k. place_cmp place (place_of k)) t.domain.now.units
    → option_map (λ unit. record { unit = unit; source = entry_of t.domain.now.template.catalogue place.1 }) found ≡ view_of (lent_project t) place
view_at t place found e = ap (option_map (λ unit. record { unit = unit; source = entry_of t.domain.now.template.catalogue place.1 })) (e ∙ sym (unit_at t place))

-- what is found where the language is there, and where it isn't
pub context_there : (t : ProjectMaps) (lang name : Text) (view : Option UnitView) (language : Language) → Some language ≡ get_by (λ k. text_cmp lang (string_bytes k)) t.domain.now.languages.rows
    → (rule : Rule) (role : Role) → rule ≡ language.rule → role ≡ role_of (lent_project t) name
    → ◌≡◌ {A = Option ActContext} (Some (record { rule = rule; policy = t.policy; role = role; view = view })) (context_with (lent_project t) lang name view)
context_there t lang name view language e = lemmas.context_there (lent_project t) lang name view language (ap (option_map (λ l. l.header)) e ∙ sym (header_at t lang))

pub no_context : (t : ProjectMaps) (lang name : Text) (view : Option UnitView) → None ≡ get_by (λ k. text_cmp lang (string_bytes k)) t.domain.now.languages.rows → None ≡ context_with (lent_project t) lang name view
no_context t lang name view e = lemmas.no_context (lent_project t) lang name view (ap (option_map (λ l. l.header)) e ∙ sym (header_at t lang))
