use Rattle.std.proofs.Common.{◌∙◌, ap, sym}
use Rattle.request_book.specs.Book.{OfficeWithBook}
use Rattle.request_book.specs.Replies.{Reply}
use Rattle.request_book.specs.declared.book.Record.{Record}
use Rattle.office.proofs.Committed.{handed_on, office_act_delivered, office_act_keeps}
use Rattle.office.proofs.Stopped.{alike, read_then}
use Rattle.office.proofs.delivery.deliver_office_act.Goals as goal

pub commit_office_act-requires-clause-content : goal.commit_office_act-requires-clause-content
commit_office_act-requires-clause-content g c = (c.args.request.now, c.requires.limits, sym c.requires.content ∙ sym (ap (λ (r : Record). r.content) c.in-Some.ensures))

pub commit_office_act-requires-clause-rules : goal.commit_office_act-requires-clause-rules
commit_office_act-requires-clause-rules g c = λ honest.
    let whole = c.in_ok-change.ensures.kept.open_still honest in
    let was = c.ask_role_and_decide.ensures.kept.honest honest in
    let same = c.ask_role_and_decide.ensures.same honest whole in
    office_act_keeps (g.T.Tables.means c.args.tables.now) (g.T.Tables.means c.ask_role_and_decide.new.tables) (g.T.Tables.means c.args.tables.now).office
    c.args.request.now c.in_ok-change.field-0 c.args.content c.in-Some.row
    same (ap (λ (m : OfficeWithBook). m.office) (sym same)) (c.in_ok-change.ensures.answer honest) c.requires.content c.in-Some.ensures
    c.requires.limits (c.requires.new was) (g.met.T.Tables.rules c.args.tables.now was (c.ask_role_and_decide.ensures.kept.whole honest whole))

pub returns-clause-ok : goal.returns-clause-ok
returns-clause-ok g c = λ honest.
    let was = c.commit_office_act.ensures.kept.honest honest in
    let whole = c.in_ok-change.ensures.kept.open_still was in
    let same = c.ask_role_and_decide.ensures.same was whole in
    handed_on c.commit_office_act.result c.in_ok-change.field-0.reply _ _ _ c.commit_office_act.ensures.handed_on (c.commit_office_act.ensures.done honest)
    (office_act_delivered (g.T.Tables.means c.args.tables.now) (g.T.Tables.means c.ask_role_and_decide.new.tables) _ (g.T.Tables.means c.args.tables.now).office
    c.args.request.now c.in_ok-change.field-0 c.args.content c.in-Some.row
    same (ap (λ (m : OfficeWithBook). m.office) (sym same)) (c.in_ok-change.ensures.answer was) c.requires.content c.in-Some.ensures)

pub returns-clause-kept : goal.returns-clause-kept
returns-clause-kept g c =
    read_then (alike c.commit_office_act.result) c.in_ok-change.ensures.kept c.commit_office_act.ensures.kept
    (λ honest m is.
    let was = c.commit_office_act.ensures.kept.honest honest in
    let whole = c.in_ok-change.ensures.kept.open_still was in
    let same = c.ask_role_and_decide.ensures.same was whole in
    ap (λ (p : OfficeWithBook × Reply). p.0) (office_act_delivered (g.T.Tables.means c.args.tables.now) (g.T.Tables.means c.ask_role_and_decide.new.tables) m (g.T.Tables.means c.args.tables.now).office
    c.args.request.now c.in_ok-change.field-0 c.args.content c.in-Some.row
    same (ap (λ (m : OfficeWithBook). m.office) (sym same)) (c.in_ok-change.ensures.answer was) c.requires.content c.in-Some.ensures is))
