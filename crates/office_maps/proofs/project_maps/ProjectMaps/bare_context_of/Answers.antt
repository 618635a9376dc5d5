use Rattle.std.proofs.Common.{◌≡◌, Option, subst, ap, ◌∙◌}
use Rattle.std.specs.Prelude.{IfOk}
use Rattle.units.specs.Project.{view_of}
use Rattle.office_specification.specs.declared.values.ActContext.{ActContext}
use Rattle.office_maps.specs.ActContexts.{context_with}
use Rattle.office_maps.specs.OfficeIn.{lent_project}
use Rattle.office_maps.proofs.ContextLemmas.{bare_context}
use Rattle.office_maps.proofs.project_maps.ProjectMaps.bare_context_of.Goals as goal

pub returns : goal.returns
returns c =
    subst (λ (found : Option ActContext). IfOk c.context_with.result (λ r. r ≡ found))
    (ap (context_with (lent_project c.args.self.now) c.args.lang.now c.args.name.now) c.in_ok-view.ensures
    ∙ bare_context (lent_project c.args.self.now) c.args.lang.now c.args.name.now (view_of (lent_project c.args.self.now) (c.args.lang.now, c.args.key.now)))
    c.context_with.ensures
