use Rattle.po_text.specs.Valid.{IsCommentLine}
use Rattle.po_text.proofs.Checked.{all_next, refused, accepted}
use Rattle.po_text.proofs.valid.are_comment_lines.Goals as goal

pub loop-line-preserved : goal.loop-line-preserved
loop-line-preserved c = all_next IsCommentLine c.args.lines.now c.loop-line.line-index c.line-item.result c.loop-line-test.true c.line-item.is c.loop-line.invariant (c.is_comment_line.ensures.0 c.if-not-is_comment_line.false)

pub returns-then-not-is_comment_line : goal.returns-then-not-is_comment_line
returns-then-not-is_comment_line c = refused IsCommentLine c.args.lines.now c.loop-line.line-index c.line-item.result c.is_comment_line.result c.loop-line-test.true c.line-item.is c.is_comment_line.ensures c.if-not-is_comment_line.true

pub returns : goal.returns
returns c = accepted IsCommentLine c.args.lines.now c.loop-line.line-index c.loop-line-test.false c.loop-line.invariant
