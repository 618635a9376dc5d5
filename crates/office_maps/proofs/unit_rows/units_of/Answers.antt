use Rattle.std.proofs.Common.{◌≡◌, ◌∙◌, sym, true, false}
use Rattle.po_text.specs.Texts.{text_eq}
use Rattle.std.specs.Map.Iter.{deref_pair}
use Rattle.std.proofs.lemmas.Bool.{not-true, not-false}
use Rattle.std.proofs.lemmas.Map.Iter.{rest_more, rest_all}
use Rattle.office_maps.proofs.Ranges.{own_of, taken_first, taken_more, taken_no_more, taken_all}
use Rattle.office_maps.proofs.unit_rows.units_of.Goals as goal
use Rattle.office_maps.proofs.unit_rows.units_of.Goals.{in-None, in-Some+then-ne}

pub loop-place-init : goal.loop-place-init
loop-place-init c =
    taken_first c.args.units.now c.args.lang.now c.in_ok-first.first c.new-all.result.items c.into_iter-place-iterator.result c.in_ok-first.ensures.lang c.in_ok-first.ensures.key
    c.range-place-items.ensures.ordered c.new-all.ensures.items (c.into_iter-place-iterator.ensures.into_iter_gives ∙ c.range-place-items.ensures.between tt)

pub loop-place-preserved : goal.loop-place-preserved
loop-place-preserved c =
    let own : text_eq c.args.lang.now c.in-Some.place.now.lang ≡ true = not-false (text_eq c.args.lang.now c.in-Some.place.now.lang) (sym c.ne.ensures ∙ c.if-ne.false) in
    taken_more c.args.lang.now c.loop-place.all.items c.push.new.self.items (own_of c.args.units.now c.args.lang.now) c.in_ok-duplicate.field-0 (c.in-Some.place.now, c.in-Some.unit.now)
    c.loop-place.place-iterator c.next.new.self c.loop-place.invariant
    (rest_more deref_pair c.loop-place.place-iterator c.next.new.self c.next.result (c.in-Some.place, c.in-Some.unit) c.in-Some.is c.next.ensures.steps)
    own c.in_ok-duplicate.ensures c.in_ok-push.ensures.items

pub returns : goal.returns
returns c =
    elim c.match-next.branch [
      | in-None w ↦
          taken_all c.args.lang.now c.loop-place.all.items (own_of c.args.units.now c.args.lang.now) c.loop-place.place-iterator c.loop-place.invariant
          (rest_all deref_pair c.loop-place.place-iterator c.next.new.self c.next.result w.in-None.is c.next.ensures.steps)
      | in-Some+then-ne w ↦
          let other : text_eq c.args.lang.now w.in-Some.place.now.lang ≡ false = not-true (text_eq c.args.lang.now w.in-Some.place.now.lang) (sym w.ne.ensures ∙ w.if-ne.true) in
          taken_no_more c.args.lang.now c.loop-place.all.items (own_of c.args.units.now c.args.lang.now) (w.in-Some.place.now, w.in-Some.unit.now)
          c.loop-place.place-iterator c.next.new.self c.loop-place.invariant
          (rest_more deref_pair c.loop-place.place-iterator c.next.new.self c.next.result (w.in-Some.place, w.in-Some.unit) w.in-Some.is c.next.ensures.steps)
          other
    ]
