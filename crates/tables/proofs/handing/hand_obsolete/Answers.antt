use Rattle.std.proofs.Common.{◌≡◌, ◌∙◌, sym, ap, true}
use Rattle.po_text.specs.Texts.{text_eq}
use Rattle.std.specs.Map.Iter.{deref_pair}
use Rattle.std.proofs.lemmas.Bool.{not-false}
use Rattle.std.proofs.lemmas.Map.Iter.{rest_more}
use Rattle.tables.specs.Handing.{obsolete_entries}
use Rattle.tables.proofs.Handings.{begin, more, stopped}
use Rattle.tables.proofs.EntriesCut.{next_obsolete}
use Rattle.tables.proofs.LanguageUnits.{starts}
use Rattle.tables.proofs.handing.hand_obsolete.Goals as goal

pub loop-place-init : goal.loop-place-init
loop-place-init g c =
    begin g.met.S.EntrySink.none c.args.sink.now
    (ap obsolete_entries (sym (starts c.args.project.now.domain.now.units c.args.lang.now c.args.first c.into_iter-place-iterator.result c.requires.lang c.requires.key
    c.range-place-items.ensures.ordered (c.into_iter-place-iterator.ensures.into_iter_gives ∙ c.range-place-items.ensures.between tt))))

pub returns-in_err-hand_unit : goal.returns-in_err-hand_unit
returns-in_err-hand_unit g c =
    let own : text_eq c.args.lang.now c.in-Some.place.now.lang ≡ true = not-false (text_eq c.args.lang.now c.in-Some.place.now.lang) (sym c.ne.ensures ∙ c.if-ne.false) in
    stopped g.S.EntrySink.Refuses g.met.S.EntrySink.more _ c.from_residual.result c.in_err-hand_unit.field-0.0 c.from_residual.ensures.1 c.loop-place.invariant
    (next_obsolete c.args.lang.now (c.in-Some.place.now, c.in-Some.unit.now) c.loop-place.place-iterator c.next.new.self
    (rest_more deref_pair c.loop-place.place-iterator c.next.new.self c.next.result (c.in-Some.place, c.in-Some.unit) c.in-Some.is c.next.ensures.steps) own)
    c.in_err-hand_unit.ensures

pub loop-place-preserved : goal.loop-place-preserved
loop-place-preserved g c =
    let own : text_eq c.args.lang.now c.in-Some.place.now.lang ≡ true = not-false (text_eq c.args.lang.now c.in-Some.place.now.lang) (sym c.ne.ensures ∙ c.if-ne.false) in
    more g.met.S.EntrySink.more c.loop-place.invariant
    (next_obsolete c.args.lang.now (c.in-Some.place.now, c.in-Some.unit.now) c.loop-place.place-iterator c.next.new.self
    (rest_more deref_pair c.loop-place.place-iterator c.next.new.self c.next.result (c.in-Some.place, c.in-Some.unit) c.in-Some.is c.next.ensures.steps) own)
    c.in_ok-hand_unit.ensures
