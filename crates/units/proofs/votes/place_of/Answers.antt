use Rattle.std.proofs.Common.{rules}
use Rattle.std.proofs.lemmas.Fn.{always_returns_same}
use Rattle.po_text.specs.Texts.{text_cmp}
use Rattle.units.proofs.Placing.{searched}
use Rattle.units.proofs.votes.place_of.Goals as goal

-- the closure compares a vote's voter with this one
pub returns : goal.returns
returns c =
    let facts = c.binary_search_by.ensures in
    let found = facts.position (λ vote. text_cmp vote.0 c.args.voter.now) (always_returns_same _ _ _ (λ a r f called. search rules)) in
    searched c.args.voter.now c.args.votes.now _ c.requires facts.bound found
