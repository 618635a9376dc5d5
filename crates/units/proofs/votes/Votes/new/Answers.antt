use Rattle.std.proofs.Common.{refl, ap, ◌∙◌, sym, []}
use Rattle.std.specs.FinMap.{from_sorted, is_sorted}
use Rattle.po_text.specs.Texts.{text_cmp}
use Rattle.units.specs.Ballots.{vote_sum}
use Rattle.units.proofs.Placing.{view-nil, vote_sum-view}
use Rattle.units.proofs.votes.Votes.new.Goals as goal

pub invariant_of-result : goal.invariant_of-result
invariant_of-result c = (ap (is_sorted text_cmp) c.new.ensures.items, sym (ap (λ votes. vote_sum (from_sorted {R = text_cmp} votes)) c.new.ensures.items ∙ vote_sum-view [] refl))

pub returns : goal.returns
returns c = view-nil _ c.new.ensures.items
