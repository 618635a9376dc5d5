use Rattle.std.proofs.Common.{refl}
use Rattle.serde_json.specs.View.{members_view}
use Rattle.request_book.specs.Words.{object_of}
use Rattle.replies.specs.Bodies.{count_fields}
use Rattle.outcomes.proofs.Objects.{one_more, flat_more, flat_counts}
use Rattle.outcomes.proofs.bodies.languages.Goals as goal

pub loop-last-preserved : goal.loop-last-preserved
loop-last-preserved c =
    let ms = members_view c.loop-last.body.map.entries in
    let told = object_of (count_fields c.in-Some.last.now.1.counts) in
    record {
      value = one_more c.loop-last.left.now c.in-Some.others.now c.in-Some.last.now told ms _ _ c.in-Some.ensures.cases.0 refl c.in_ok-body.ensures c.loop-last.invariant.value;
      flat = flat_more c.in-Some.last.now.0 told ms _ c.in_ok-body.ensures (flat_counts c.in-Some.last.now.1.counts) c.loop-last.invariant.flat;
    }
