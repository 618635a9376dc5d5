use Rattle.std.proofs.Common.{sym, ◌∙◌, ap}
use Rattle.std.specs.Cow.{cow_str_bytes}
use Rattle.http_messages.specs.Queries.{is_known}
use Rattle.http_messages.proofs.QueryLemmas.{Kept, unknown}
use Rattle.http_messages.proofs.query.all_known.Goals as goal

pub returns-then-not-is_known : goal.returns-then-not-is_known
returns-then-not-is_known c =
    unknown c.args.pairs.now c.loop-name.name-index c.loop-name-item.result c.loop-name-test.true
    (ap (λ (pair : Kept). is_known (cow_str_bytes pair.0)) (sym c.loop-name-item.is) ∙ ap is_known (sym c.as_str.ensures.value) ∙ sym c.is_known.ensures ∙ c.if-not-is_known.true)
