use Rattle.std.proofs.Common.{refl, ◌∙◌}
use Rattle.std.specs.Prelude.{flat_map}
use Rattle.std.specs.FinMap as maps
use Rattle.units.specs.Project.{Project, place_cmp}
use Rattle.office_specification.specs.ProjectActs.{placed, with_template}
use Rattle.office_maps.specs.OfficeIn.{office_in}
use Rattle.sql_loading.specs.DomainChanged.{lending}
use Rattle.sql_loading.proofs.Lending.{made_in}
use Rattle.sql_loading.proofs.office_tables.put_template.Goals as goal

pub returns-clause-shown : goal.returns-clause-shown
returns-clause-shown c = λ office project is.
    c.in_ok-change.ensures.ok
    ∙ (made_in office c.args.domain.now project (office_in c.args.maps.now) c.in_ok-own.own (λ (p : Project). with_template p c.in_ok-template.template c.new.result.items) is c.in_ok-own.ensures refl refl
    ∙ (λ i. lending office c.args.domain.now (record project { template = c.in_ok-template.ensures.shown i; units = maps.from_entries {R = place_cmp} (flat_map placed (c.new.ensures.items i)) })))
