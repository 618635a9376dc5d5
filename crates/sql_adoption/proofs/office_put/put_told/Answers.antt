use Rattle.std.proofs.Common.{sym, ◌∙◌}
use Rattle.sql_layouts.specs.Tables.{form_told}
use Rattle.sql_adoption.proofs.OpensBlame.{unread_mild}
use Rattle.sql_adoption.proofs.Read.{rows_unread}
use Rattle.sql_adoption.proofs.office_put.put_told.Goals as goal

pub returns-in-Err-clause-refused : goal.returns-in-Err-clause-refused
returns-in-Err-clause-refused c = rows_unread (form_told c.args.form) c.args.rows.now c.in-Err.failure c.unread.result c.unread.ensures c.in-Err.ensures.unread

pub returns-in-Err-clause-disk : goal.returns-in-Err-clause-disk
returns-in-Err-clause-disk c = λ same. unread_mild c.in-Err.failure.lost (sym c.unread.ensures ∙ same)
