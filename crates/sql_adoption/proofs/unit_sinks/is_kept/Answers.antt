use Rattle.office_maps.specs.OfficeIn.{lent_project, place_of}
use Rattle.sql_adoption.proofs.NotedUnits.{kept_told}
use Rattle.sql_adoption.proofs.unit_sinks.is_kept.Goals as goal

pub returns : goal.returns
returns c = λ row place unit suggestions.
    kept_told (lent_project c.args.project.now) row (place_of c.args.shown.now.place) c.args.shown.now.unit c.args.shown.now.suggestions c.hold_all.result c.is_placed-placed.result c.fits_entry-fits.result c.may_have-few.result place unit suggestions
    c.hold_all.ensures c.is_placed-placed.ensures c.fits_entry-fits.ensures c.may_have-few.ensures
