use Rattle.std.proofs.Common.{◌≡◌, ◌++◌, false, None, option_map, sym, ap, ◌∙◌}
use Rattle.std.proofs.lemmas.Result.{on_ok_weaker}
use Rattle.request_book.specs.declared.act.Act.{Act}
use Rattle.request_book.specs.Acts.{fields_of}
use Rattle.request_book.specs.Tokens.{body_tokens}
use Rattle.request_book.proofs.written.put_act.Goals as goal

pub returns-in-SetPolicy-clause-value : goal.returns-in-SetPolicy-clause-value
returns-in-SetPolicy-clause-value c =
    on_ok_weaker c.put_policy.result
    (λ put. put ∙ ap (λ (a : Act). c.args.out.now.tokens ++ body_tokens (fields_of false (option_map (λ name. name.now) c.args.caller) None a)) (sym c.in-SetPolicy.is))
    c.put_policy.ensures.value
