use Rattle.std.proofs.Common.{◌≡◌, ◌∷◌, ◌++◌, [], None, subst, ◌∙◌}
use Rattle.std.specs.Prelude.{Option, IfSome}
use Rattle.request_book.specs.declared.act.Act.{Act}
use Rattle.sender.specs.declared.exchange.Exchange.{Exchange}
use Rattle.sender.proofs.Copies.{both_there, is_copy}
use Rattle.sender.proofs.exchange.push_copy.Goals as goal

pub returns-in_ok-push-in-Some : goal.returns-in_ok-push-in-Some
returns-in_ok-push-in-Some c =
    let request = c.args.request.now in
    let there = both_there _ _ c.in-Some.caller c.in-Some.act _ c.zip.ensures c.in-Some.is in
    let caller : c.in-Some.caller ≡ request.caller = is_copy _ _ _ _ c.duplicate.ensures c.ok.ensures.value there.0 in
    let act : c.in-Some.act ≡ request.act = subst (λ (found : Option Act). IfSome found (λ act. act ≡ request.act)) there.1 c.copied.ensures in
    let same : ◌≡◌ {A = Exchange} (record { request = record request { caller = c.in-Some.caller; act = c.in-Some.act }; reply = None }) (record { request = request; reply = None }) =
    λ i. record { request = record request { caller = caller i; act = act i }; reply = None } in
    c.in_ok-push-in-Some.ensures.items ∙ (λ i. c.args.exchanges.now.items ++ same i ∷ [])
