-- The members were written in the order of their keys.
use Rattle.std.proofs.Common.{false, Some, option_map, ◌∙◌}
use Rattle.std.specs.Prelude.{codes}
use Rattle.std.proofs.lemmas.Result.{on_ok_weaker}
use Rattle.serde_json.specs.Data.{string}
use Rattle.request_book.specs.Acts.{domain_field}
use Rattle.request_book.specs.Tokens.{member_tokens}
use Rattle.request_book.proofs.TokenLemmas.{added_4}
use Rattle.request_book.proofs.written.put_template.Goals as goal

pub returns-clause-value : goal.returns-clause-value
returns-clause-value c =
    let piece_1 = member_tokens (codes "act") (Some (string (codes "template"))) in
    let piece_2 = member_tokens (codes "caller") (option_map string (option_map (λ name. name.now) c.args.caller)) in
    let piece_3 = member_tokens (codes "domain") (option_map string (domain_field false c.args.domain.now)) in
    let piece_4 = member_tokens (codes "po") (Some (string c.args.po.now)) in
    on_ok_weaker c.put_text-2.result (λ put. put ∙ rw (
      c.as_str.ensures,
      c.in_ok-put_domain.ensures.value,
      c.in_ok-put_caller.ensures.value,
      c.in_ok-put_text.ensures.value,
    ) (added_4 c.args.out.now.tokens piece_1 piece_2 piece_3 piece_4)) c.put_text-2.ensures.value
