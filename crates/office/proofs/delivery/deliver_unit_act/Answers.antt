use Rattle.std.proofs.Common.{ap, sym, ◌∙◌}
use Rattle.request_book.specs.Book.{OfficeWithBook}
use Rattle.request_book.specs.Replies.{Reply}
use Rattle.request_book.specs.declared.book.Record.{Record}
use Rattle.office.proofs.Committed.{handed_on, unit_act_delivered, unit_act_keeps, unit_act_possible}
use Rattle.office.proofs.Stopped.{alike, read_then}
use Rattle.office.proofs.delivery.deliver_unit_act.Goals as goal

pub commit_unit_act-requires-clause-content : goal.commit_unit_act-requires-clause-content
commit_unit_act-requires-clause-content g c = (c.args.asked.request.now, c.requires.limits, sym c.requires.content ∙ sym (ap (λ (r : Record). r.content) c.in-Some.ensures))

pub commit_unit_act-requires-clause-possible : goal.commit_unit_act-requires-clause-possible
commit_unit_act-requires-clause-possible g c = λ honest.
    let whole = c.in_ok-write.ensures.kept.open_still honest in
    unit_act_possible (g.T.Tables.means c.args.tables.now) (g.T.Tables.means c.read_and_decide.new.tables)
    c.args.asked.request.now c.args.asked.domain.now c.args.asked.lang.now c.args.asked.key.now c.args.asked.act.now c.in_ok-write.field-0
    (c.read_and_decide.ensures.same honest whole) (c.in_ok-write.ensures.answer honest)

pub commit_unit_act-requires-clause-rules : goal.commit_unit_act-requires-clause-rules
commit_unit_act-requires-clause-rules g c = λ honest.
    let whole = c.in_ok-write.ensures.kept.open_still honest in
    let was = c.read_and_decide.ensures.kept.honest honest in
    unit_act_keeps (g.T.Tables.means c.args.tables.now) (g.T.Tables.means c.read_and_decide.new.tables)
    c.args.asked.request.now c.args.asked.domain.now c.args.asked.lang.now c.args.asked.key.now c.args.asked.act.now c.in_ok-write.field-0 c.args.content c.in-Some.row
    c.requires.act (c.read_and_decide.ensures.same honest whole) (c.in_ok-write.ensures.answer honest) c.requires.content c.in-Some.ensures
    c.requires.limits (c.requires.new was) (g.met.T.Tables.rules c.args.tables.now was (c.read_and_decide.ensures.kept.whole honest whole))

pub returns-clause-ok : goal.returns-clause-ok
returns-clause-ok g c = λ honest.
    let was = c.commit_unit_act.ensures.kept.honest honest in
    let whole = c.in_ok-write.ensures.kept.open_still was in
    handed_on c.commit_unit_act.result c.in_ok-write.field-0.reply _ _ _ c.commit_unit_act.ensures.handed_on (c.commit_unit_act.ensures.done honest)
    (unit_act_delivered (g.T.Tables.means c.args.tables.now) (g.T.Tables.means c.read_and_decide.new.tables) _
    c.args.asked.request.now c.args.asked.domain.now c.args.asked.lang.now c.args.asked.key.now c.args.asked.act.now c.in_ok-write.field-0 c.args.content c.in-Some.row
    c.requires.act (c.read_and_decide.ensures.same was whole) (c.in_ok-write.ensures.answer was) c.requires.content c.in-Some.ensures)

pub returns-clause-kept : goal.returns-clause-kept
returns-clause-kept g c =
    read_then (alike c.commit_unit_act.result) c.in_ok-write.ensures.kept c.commit_unit_act.ensures.kept
    (λ honest m is.
    let was = c.commit_unit_act.ensures.kept.honest honest in
    let whole = c.in_ok-write.ensures.kept.open_still was in
    ap (λ (p : OfficeWithBook × Reply). p.0) (unit_act_delivered (g.T.Tables.means c.args.tables.now) (g.T.Tables.means c.read_and_decide.new.tables) m
    c.args.asked.request.now c.args.asked.domain.now c.args.asked.lang.now c.args.asked.key.now c.args.asked.act.now c.in_ok-write.field-0 c.args.content c.in-Some.row
    c.requires.act (c.read_and_decide.ensures.same was whole) (c.in_ok-write.ensures.answer was) c.requires.content c.in-Some.ensures is))
