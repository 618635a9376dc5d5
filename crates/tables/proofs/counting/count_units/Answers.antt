use Rattle.std.proofs.Common.{◌≡◌, ◌∙◌, ◌&&◌, sym, ap, subst, true}
use Rattle.std.specs.List.{AllByRecursion}
use Rattle.std.specs.Ordering.{is_le}
use Rattle.po_text.specs.Texts.{text_eq}
use Rattle.std.specs.Map.Iter.{deref_pair}
use Rattle.std.proofs.lemmas.Bool.{not-false}
use Rattle.std.proofs.lemmas.Map.Iter.{rest_more}
use Rattle.units.specs.Project.{place_cmp, entry_of}
use Rattle.office_maps.specs.LanguageUnits.{taken}
use Rattle.office_maps.specs.OfficeIn.{place_of}
use Rattle.office_specification.specs.declared.tally.Tally.{Tally}
use Rattle.office_specification.specs.Tally.{counts_in}
use Rattle.office_specification.specs.Counting.{plus}
use Rattle.office_specification.proofs.tallies.Countings.{none_and, next_counted}
use Rattle.tables.proofs.LanguageUnits.{starts, next_own}
use Rattle.tables.proofs.OfficeUnits.{HasItsKey, have_keys}
use Rattle.tables.proofs.counting.count_units.Goals as goal

pub loop-place-init : goal.loop-place-init
loop-place-init c =
    let template = c.args.project.now.domain.now.template.catalogue in
    let left = c.into_iter-place-iterator.ensures.into_iter_gives ∙ c.range-place-items.ensures.between tt in
    let ordered = c.range-place-items.ensures.ordered in
    let all = starts c.args.project.now.domain.now.units c.args.lang.now c.in_ok-first.first c.into_iter-place-iterator.result c.in_ok-first.ensures.lang c.in_ok-first.ensures.key ordered left in
    record {
      sum = λ rules. ap (λ (counts : Tally). plus counts (counts_in template (taken c.args.lang.now c.into_iter-place-iterator.result))) c.none-tally.ensures
          ∙ (none_and (counts_in template (taken c.args.lang.now c.into_iter-place-iterator.result)) ∙ ap (counts_in template) all);
      keys = λ rules. subst (AllByRecursion HasItsKey) (sym left)
          (have_keys c.args.project.now (λ e. is_le (place_cmp (place_of c.in_ok-first.first) (place_of e.0)) && true) ordered rules);
    }

pub loop-place-preserved : goal.loop-place-preserved
loop-place-preserved c =
    let own : text_eq c.args.lang.now c.in-Some.place.now.lang ≡ true = not-false (text_eq c.args.lang.now c.in-Some.place.now.lang) (sym c.ne.ensures ∙ c.if-ne.false) in
    let template = c.args.project.now.domain.now.template.catalogue in
    let next = rest_more deref_pair c.loop-place.place-iterator c.next.new.self c.next.result (c.in-Some.place, c.in-Some.unit) c.in-Some.is c.next.ensures.steps in
    let more = next_counted c.loop-place.tally template c.in-Some.unit.now (taken c.args.lang.now c.next.new.self) _
    (next_own c.args.lang.now (c.in-Some.place.now, c.in-Some.unit.now) c.loop-place.place-iterator c.next.new.self next own) in
    record {
      sum = λ rules.
          let key = (subst (AllByRecursion HasItsKey) next (c.loop-place.invariant.keys rules)).0 in
          ap (λ (counts : Tally). plus counts (counts_in template (taken c.args.lang.now c.next.new.self))) (c.in_ok-add.ensures template (c.entry_of.ensures ∙ ap (entry_of template) (sym key))) ∙ (more ∙ c.loop-place.invariant.sum rules);
      keys = λ rules. (subst (AllByRecursion HasItsKey) next (c.loop-place.invariant.keys rules)).1;
    }
