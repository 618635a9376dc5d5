use Rattle.std.proofs.Common.{take}
use Rattle.std.specs.List.{AllByRecursion}
use Rattle.po_text.specs.Valid.{IsCommentLine}
use Rattle.po_text.proofs.valid.are_comment_lines.Given as goal

abbrev pub invariant-loop-line : goal.invariant-loop-line
invariant-loop-line l = AllByRecursion IsCommentLine (take l.line-index l.lines)
