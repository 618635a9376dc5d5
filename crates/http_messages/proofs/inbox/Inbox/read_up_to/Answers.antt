use Rattle.std.proofs.Common.{◌≡◌, ◌<◌, ℕ, List, ◌++◌, length, ap, subst, arith}
use Rattle.std.proofs.lemmas.Grind.{common_steps}
use Rattle.http_messages.specs.Arrivals.{HoldsFirst}
use Rattle.http_messages.proofs.ReadingLemmas.{more_behind, fault_behind, wanted_more}
use Rattle.http_messages.proofs.inbox.Inbox.read_up_to.Goals as goal

pub returns-in_err-read_some-clause-fault : goal.returns-in_err-read_some-clause-fault
returns-in_err-read_some-clause-fault g c = fault_behind c.in_err-read_some.field-0.0 c.from_residual.result c.from_residual.ensures.1 c.loop-self.invariant.read c.in_err-read_some.ensures.fault

short_of : (old now piece : List ℕ) (most : ℕ) → now ≡ old ++ piece → ((more : List ℕ) → length (old ++ more) < most → HoldsFirst (old ++ more) → ⊥) → length now < most → HoldsFirst now → ⊥
short_of old now piece most behind short few holds = short piece (subst (λ bytes. length bytes < most) behind few) (subst HoldsFirst behind holds)

pub loop-self-preserved : goal.loop-self-preserved
loop-self-preserved g c = record {
  read = more_behind c.loop-self.invariant.read c.in_ok-read_some.ensures.read;
  at_hand = λ enough. absurd (let same = (c.loop-self.invariant.at_hand enough).1 in let long = ap length same in let size = ap length c.self.view_is in grind (arith, common_steps));
  wanted = λ short. wanted_more c.loop-self.invariant.read c.in_ok-read_some.ensures.read c.in_ok-read_some.ensures.most (short_of c.args.self.now c.loop-self.self c.loop-self.invariant.read.piece c.args.most c.loop-self.invariant.read.behind short (let size = ap length c.self.view_is in grind (arith, common_steps)));
}

pub returns-then-not-branch-clause-wanted : goal.returns-then-not-branch-clause-wanted
returns-then-not-branch-clause-wanted g c = λ short. wanted_more c.loop-self.invariant.read c.in_ok-read_some.ensures.read c.in_ok-read_some.ensures.most (short_of c.args.self.now c.loop-self.self c.loop-self.invariant.read.piece c.args.most c.loop-self.invariant.read.behind short (let size = ap length c.self.view_is in grind (arith, common_steps)))
