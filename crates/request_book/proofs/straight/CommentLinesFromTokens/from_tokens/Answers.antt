use Rattle.std.proofs.Common.{ℕ, List, Some, None, if◌then◌else◌, ap, ◌∙◌}
use Rattle.units.specs.Limits.{is_comment_lines}
use Rattle.request_book.proofs.TokenReads.{passed_list}
use Rattle.request_book.proofs.straight.CommentLinesFromTokens.from_tokens.Goals as goal

pub returns-clause-tokens : goal.returns-clause-tokens
returns-clause-tokens c =
    passed_list is_comment_lines c.in_ok-lines.lines.items c.try_new.result c.args.reader.now c.items_in.new.reader c.in_ok-lines.ensures.tokens
    (c.try_new.ensures ∙ ap (λ (ts : List (List ℕ)). if is_comment_lines ts then Some ts else None) c.from_vec.ensures)
