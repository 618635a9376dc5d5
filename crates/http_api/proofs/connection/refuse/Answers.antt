use Rattle.std.proofs.Common.{◌≡◌, true, refl}
use Rattle.http_api.specs.Answers.{refusal_text}
use Rattle.office.specs.Writers.{writer_at, TakesAll, TakesPart}
use Rattle.http_api.specs.declared.connection.Next.{Next}
use Rattle.http_api.specs.declared.connection.Next.TheVariants.{Last}
use Rattle.http_api.specs.declared.faults.ServeFault.TheVariants as fault
use Rattle.http_api.proofs.Counting.{on_ok_and}
use Rattle.http_api.proofs.Handing.{passed_on, tells_handed, tells_and, ok_and}
use Rattle.http_api.proofs.connection.refuse.Goals as goal

pub returns-in_err-send_refusal-clause-told : goal.returns-in_err-send_refusal-clause-told
returns-in_err-send_refusal-clause-told g c =
    let old = writer_at g.W.ByteSink.taken g.W.ByteSink.failed c.args.w.now in
    let new = writer_at g.W.ByteSink.taken g.W.ByteSink.failed c.send_refusal.new.w in
    passed_on (λ _. TakesAll old new (refusal_text c.args.refusal true)) (λ f. (f ≡ fault.Write) × TakesPart old new (refusal_text c.args.refusal true)) c.from_residual.result c.in_err-send_refusal.field-0.0 c.from_residual.ensures.1 c.in_err-send_refusal.ensures

pub returns-clause-told : goal.returns-clause-told
returns-clause-told g c =
    let old = writer_at g.W.ByteSink.taken g.W.ByteSink.failed c.args.w.now in
    let mid = writer_at g.W.ByteSink.taken g.W.ByteSink.failed c.send_refusal.new.w in
    let new = writer_at g.W.ByteSink.taken g.W.ByteSink.failed c.hand_on.new.w in
    let text = refusal_text c.args.refusal true in
    tells_and old new text c.hand_on.result _ c.and.result c.and.ensures (tells_handed old mid new text c.hand_on.result c.in_ok-send_refusal.ensures c.hand_on.ensures.told)

pub returns-clause-next : goal.returns-clause-next
returns-clause-next g c = ok_and (λ (next : Next). next ≡ Last) c.hand_on.result Last c.and.result c.and.ensures refl

pub returns-clause-handed_on : goal.returns-clause-handed_on
returns-clause-handed_on g c = on_ok_and _ c.hand_on.result Last c.and.result c.and.ensures c.hand_on.ensures.handed_on
