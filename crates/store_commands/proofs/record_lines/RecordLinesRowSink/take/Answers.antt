use Rattle.std.proofs.Common.{refl}
use Rattle.store_commands.proofs.Printing.{took_line, broke_line, refused_unread}
use Rattle.store_commands.proofs.record_lines.RecordLinesRowSink.take.Goals as goal

pub returns-in-Ok-send_record-clause-ok : goal.returns-in-Ok-send_record-clause-ok
returns-in-Ok-send_record-clause-ok g c = took_line g.W.ByteSink.taken g.W.ByteSink.failed _ _ _ c.in-Ok.head refl c.in-Ok.ensures.shown c.in-Ok-send_record.ensures

pub returns-in-Err-send_record-clause-err : goal.returns-in-Err-send_record-clause-err
returns-in-Err-send_record-clause-err g c = broke_line g.W.ByteSink.taken g.W.ByteSink.failed _ _ _ c.in-Ok.head refl c.in-Ok.ensures.shown c.in-Err-send_record.ensures

pub returns-in-Err-clause-err : goal.returns-in-Err-clause-err
returns-in-Err-clause-err g c = refused_unread g.W.ByteSink.taken g.W.ByteSink.failed _ _ c.in-Err.failure.lost c.lost_fault.result c.lost_fault.ensures c.in-Err.ensures.unread
