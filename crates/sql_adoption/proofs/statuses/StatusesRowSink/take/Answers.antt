use Rattle.sql_adoption.proofs.RecordRows.{row_noted}
use Rattle.sql_adoption.proofs.statuses.StatusesRowSink.take.Goals as goal

pub returns-clause-ok : goal.returns-clause-ok
returns-clause-ok c = row_noted c.note_row.result c.args.row.now c.args.self.now.by_number c.note_row.new.statuses c.note_row.ensures.stands c.note_row.ensures.noted
