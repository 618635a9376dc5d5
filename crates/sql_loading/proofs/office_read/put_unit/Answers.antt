use Rattle.std.proofs.Common.{refl, ap, ◌∙◌}
use Rattle.units.specs.Project.{Project, with_unit}
use Rattle.office_maps.specs.OfficeIn.{office_in, place_of}
use Rattle.sql_loading.specs.DomainChanged.{lending}
use Rattle.sql_loading.proofs.Lending.{made_in}
use Rattle.sql_loading.proofs.office_read.put_unit.Goals as goal

pub unit_of-requires : goal.unit_of-requires
unit_of-requires c = ap (λ place. place.1) c.in_ok-place.ensures.shown

pub returns-clause-shown : goal.returns-clause-shown
returns-clause-shown c = λ office project is.
    c.in_ok-put_unit.ensures.ok
    ∙ (made_in office c.args.domain.now project (office_in c.args.maps.now) c.args.domain.now (λ (p : Project). with_unit p (place_of c.in_ok-place.place) c.in_ok-unit.unit) is refl refl refl
    ∙ (λ i. lending office c.args.domain.now (with_unit project (c.in_ok-place.ensures.shown i) (c.in_ok-unit.ensures.shown i))))
