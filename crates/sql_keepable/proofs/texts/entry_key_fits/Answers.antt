use Rattle.sql_keepable.proofs.Columns.{key_utf8, optional_string}
use Rattle.sql_keepable.proofs.texts.entry_key_fits.Goals as goal

pub returns-clause-strings : goal.returns-clause-strings
returns-clause-strings c = record { ctx = optional_string c.args.entry.now.ctx c.optional_fits.ensures; id = c.string_fits.ensures.0 }

pub returns-clause-column : goal.returns-clause-column
returns-clause-column c = key_utf8 c.args.entry.now.ctx c.args.entry.now.id c.optional_fits.ensures c.string_fits.ensures.1
