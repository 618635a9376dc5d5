use Rattle.std.proofs.Common.{refl}
use Rattle.tables.proofs.EntriesCut.{entries_there, no_entries, template_left}
use Rattle.tables.proofs.Handings.{begin, more, whole, stopped, ends}
use Rattle.tables.proofs.handing.hand_entries.Goals as goal

pub returns-in_default : goal.returns-in_default
returns-in_default g c = whole {Took = g.S.EntrySink.Took} (begin g.met.S.EntrySink.none c.args.sink.now refl) (no_entries c.args.project.now c.args.lang.now c.in_default.ensures)

pub returns-in_err-hand : goal.returns-in_err-hand
returns-in_err-hand g c =
    stopped g.S.EntrySink.Refuses g.met.S.EntrySink.more _ c.from_residual.result c.in_err-hand.field-0.0 c.from_residual.ensures.1
    (begin g.met.S.EntrySink.none c.args.sink.now (entries_there c.args.project.now c.args.lang.now c.in-Some.language.now c.in-Some.ensures)) refl c.in_err-hand.ensures

pub returns-in_err-hand_template : goal.returns-in_err-hand_template
returns-in_err-hand_template g c =
    stopped g.S.EntrySink.Refuses g.met.S.EntrySink.more _ c.from_residual-in_err-hand_template.result c.in_err-hand_template.field-0.0 c.from_residual-in_err-hand_template.ensures.1
    (more g.met.S.EntrySink.more (begin g.met.S.EntrySink.none c.args.sink.now (entries_there c.args.project.now c.args.lang.now c.in-Some.language.now c.in-Some.ensures)) refl c.in_ok-hand.ensures)
    (template_left c.args.project.now c.args.lang.now c.entries.result.now c.entries.ensures.value) c.in_err-hand_template.ensures

pub returns : goal.returns
returns g c =
    ends g.S.EntrySink.Refuses g.met.S.EntrySink.more c.hand_obsolete.new.sink _ c.hand_obsolete.result
    (more g.met.S.EntrySink.more
    (more g.met.S.EntrySink.more (begin g.met.S.EntrySink.none c.args.sink.now (entries_there c.args.project.now c.args.lang.now c.in-Some.language.now c.in-Some.ensures)) refl c.in_ok-hand.ensures)
    (template_left c.args.project.now c.args.lang.now c.entries.result.now c.entries.ensures.value) c.in_ok-hand_template.ensures)
    refl c.hand_obsolete.ensures
