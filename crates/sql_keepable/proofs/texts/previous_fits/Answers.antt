use Rattle.sql_keepable.proofs.Columns.{previous_utf8, optional_string}
use Rattle.sql_keepable.proofs.texts.previous_fits.Goals as goal

pub returns-clause-strings : goal.returns-clause-strings
returns-clause-strings c =
    let was = c.args.previous.now in
    record { ctx = optional_string was.ctx c.optional_fits.ensures; id = optional_string was.id c.optional_fits-2.ensures; plural = optional_string was.plural c.optional_fits-3.ensures }

pub returns-clause-column : goal.returns-clause-column
returns-clause-column c = previous_utf8 c.args.previous.now c.optional_fits.ensures c.optional_fits-2.ensures c.optional_fits-3.ensures
