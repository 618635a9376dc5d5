use Rattle.std.proofs.Common.{length, ap, arith}
use Rattle.std.proofs.lemmas.Grind.{common_steps}
use Rattle.http_messages.proofs.ReadingLemmas.{more_behind, fault_behind, no_head_at_hand, no_message, wanted_more}
use Rattle.http_messages.proofs.inbox.Inbox.read_head.Goals as goal

pub returns-in_err-read_some-clause-fault : goal.returns-in_err-read_some-clause-fault
returns-in_err-read_some-clause-fault g c = fault_behind c.in_err-read_some.field-0.0 c.from_residual.result c.from_residual.ensures.1 c.loop-self.invariant.read c.in_err-read_some.ensures.fault

pub returns-in_err-read_some-clause-at_hand : goal.returns-in_err-read_some-clause-at_hand
returns-in_err-read_some-clause-at_hand g c = λ stands. absurd (no_head_at_hand c.args.self.now c.loop-self.self c.head_end.result c.is_none.result stands (c.loop-self.invariant.at_hand stands).1 (let size = ap length c.self.view_is in grind (arith, common_steps)) c.is_none.ensures c.if-is_none.true c.head_end.ensures.cut)

pub returns-then-not-branch-clause-at_hand : goal.returns-then-not-branch-clause-at_hand
returns-then-not-branch-clause-at_hand g c = λ stands. absurd (no_head_at_hand c.args.self.now c.loop-self.self c.head_end.result c.is_none.result stands (c.loop-self.invariant.at_hand stands).1 (let size = ap length c.self.view_is in grind (arith, common_steps)) c.is_none.ensures c.if-is_none.true c.head_end.ensures.cut)

pub loop-self-preserved : goal.loop-self-preserved
loop-self-preserved g c = record {
  read = more_behind c.loop-self.invariant.read c.in_ok-read_some.ensures.read;
  at_hand = λ stands. absurd (no_head_at_hand c.args.self.now c.loop-self.self c.head_end.result c.is_none.result stands (c.loop-self.invariant.at_hand stands).1 (let size = ap length c.self.view_is in grind (arith, common_steps)) c.is_none.ensures c.if-is_none.true c.head_end.ensures.cut);
  wanted = wanted_more c.loop-self.invariant.read c.in_ok-read_some.ensures.read c.in_ok-read_some.ensures.most (no_message c.loop-self.self c.head_end.result c.is_none.result (let size = ap length c.self.view_is in grind (arith, common_steps)) c.is_none.ensures c.if-is_none.true c.head_end.ensures.cut);
}

pub returns-then-not-branch-clause-wanted : goal.returns-then-not-branch-clause-wanted
returns-then-not-branch-clause-wanted g c = wanted_more c.loop-self.invariant.read c.in_ok-read_some.ensures.read c.in_ok-read_some.ensures.most (no_message c.loop-self.self c.head_end.result c.is_none.result (let size = ap length c.self.view_is in grind (arith, common_steps)) c.is_none.ensures c.if-is_none.true c.head_end.ensures.cut)
