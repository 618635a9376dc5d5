-- The members were written in the order of their keys.
use Rattle.std.proofs.Common.{Some, option_map, ◌∙◌}
use Rattle.std.specs.Prelude.{codes}
use Rattle.std.proofs.lemmas.Result.{on_ok_weaker}
use Rattle.serde_json.specs.Data.{boolean, string}
use Rattle.request_book.specs.Words.{natural}
use Rattle.request_book.specs.Tokens.{member_tokens}
use Rattle.request_book.proofs.TokenLemmas.{added_8}
use Rattle.request_book.proofs.written.put_policy.Goals as goal

pub returns-clause-value : goal.returns-clause-value
returns-clause-value c =
    let piece_1 = member_tokens (codes "accept_at") (Some (natural c.args.policy.now.accept_at)) in
    let piece_2 = member_tokens (codes "act") (Some (string (codes "policy"))) in
    let piece_3 = member_tokens (codes "caller") (option_map string (option_map (λ name. name.now) c.args.caller)) in
    let piece_4 = member_tokens (codes "guests_suggest") (Some (boolean c.args.policy.now.guests_suggest)) in
    let piece_5 = member_tokens (codes "line_ends") (Some (boolean c.args.policy.now.line_ends)) in
    let piece_6 = member_tokens (codes "placeholders") (Some (boolean c.args.policy.now.placeholders)) in
    let piece_7 = member_tokens (codes "reviews") (Some (boolean c.args.policy.now.reviews)) in
    let piece_8 = member_tokens (codes "voting") (Some (boolean c.args.policy.now.voting)) in
    on_ok_weaker c.put_flag-5.result (λ put. put ∙ rw (
      c.in_ok-put_flag-4.ensures.value,
      c.in_ok-put_flag-3.ensures.value,
      c.in_ok-put_flag-2.ensures.value,
      c.in_ok-put_flag.ensures.value,
      c.in_ok-put_caller.ensures.value,
      c.in_ok-put_text.ensures.value,
      c.in_ok-put_natural.ensures.value,
      c.from.ensures,
      c.number.ensures.value,
    ) (added_8 c.args.out.now.tokens piece_1 piece_2 piece_3 piece_4 piece_5 piece_6 piece_7 piece_8)) c.put_flag-5.ensures.value
