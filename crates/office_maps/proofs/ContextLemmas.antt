-- What is found for a unit act, from the header of its language.
use Rattle.std.proofs.Common.{◌≡◌, Option, Some, None, refl, sym, ap, ◌∙◌}
use Rattle.std.specs.Prelude.{option_map}
use Rattle.std.specs.FinMap as maps
use Rattle.po_text.specs.Texts.{Text}
use Rattle.po_text.specs.declared.entry.Entry.{Entry}
use Rattle.plural_expr.specs.Trees as trees
use Rattle.plural_expr.specs.Values.{Rule}
use Rattle.units.specs.Project.{Project, role_of}
use Rattle.units.specs.Rules.{rule_at, rule_in, by_result}
use Rattle.units.specs.declared.unit.Role.{Role}
use Rattle.units.specs.declared.unit.UnitView.{UnitView}
use Rattle.review.specs.Parts.{bare}
use Rattle.office_specification.specs.UnitAccess.{without_suggestions}
use Rattle.office_specification.specs.declared.values.ActContext.{ActContext}
use Rattle.office_specification.specs.declared.values.Language.{Language}
use Rattle.office_maps.specs.ActContexts.{context_with}

abbrev context_by : Project → Text → Text → Option UnitView → Option Entry → Option ActContext
context_by project lang name view header =
    option_map (λ h. record { rule = rule_at project lang; policy = project.policy; role = role_of project name; view = view }) header

-- a language's rule is the one of its header
pub rule_there : (project : Project) (lang : Text) (language : Language) → Some language.header ≡ maps.get project.headers lang → language.rule ≡ rule_at project lang
unfolding rule_at
rule_there project lang language e =
    sym (ap (λ header. by_result (λ fault. record { count = 1; tree = trees.number 0 }) (λ rule. rule) (rule_in header)) (sym e)
    ∙ ap (by_result (λ fault. record { count = 1; tree = trees.number 0 }) (λ rule. rule)) language.ruled)

pub context_there : (project : Project) (lang name : Text) (view : Option UnitView) (language : Language) → Some language.header ≡ maps.get project.headers lang →
    (rule : Rule) (role : Role) → rule ≡ language.rule → role ≡ role_of project name →
    ◌≡◌ {A = Option ActContext} (Some (record { rule = rule; policy = project.policy; role = role; view = view })) (context_with project lang name view)
context_there project lang name view language e rule role rule_is role_is =
    (λ i. Some (record { rule = (rule_is ∙ rule_there project lang language e) i; policy = project.policy; role = role_is i; view = view }))
    ∙ ap (context_by project lang name view) e

pub no_context : (project : Project) (lang name : Text) (view : Option UnitView) → None ≡ maps.get project.headers lang → None ≡ context_with project lang name view
no_context project lang name view e = ap (context_by project lang name view) e

-- what is found with the unit's view, and with the view without its suggestions
pub bare_context : (project : Project) (lang name : Text) (view : Option UnitView) → context_with project lang name (option_map bare view) ≡ without_suggestions (context_with project lang name view)
bare_context project lang name view = by (maps.get project.headers lang)
  where
    by : (o : Option Entry) → context_by project lang name (option_map bare view) o ≡ without_suggestions (context_by project lang name view o)
    by None = refl
    by (Some header) = refl
