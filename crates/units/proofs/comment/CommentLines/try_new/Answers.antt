use Rattle.std.proofs.Common.{rules}
use Rattle.units.proofs.comment.CommentLines.try_new.Goals as goal

pub returns-then-each_is_comment_line : goal.returns-then-each_is_comment_line
returns-then-each_is_comment_line c = search rules
