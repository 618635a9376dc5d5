use Rattle.std.proofs.Common.{ℤ, Option, None, cond, unwrap_or, ap, ◌∙◌}
use Rattle.std.specs.BTreeMap.{get_by}
use Rattle.std.specs.Ordering.{is_eq}
use Rattle.po_text.specs.Texts.{text_cmp}
use Rattle.sql_adoption.specs.FigureRows.{sum_in}
use Rattle.sql_adoption.proofs.SumsTold.{sum_put}
use Rattle.sql_adoption.proofs.suggestion_sums.put_sum.Goals as goal

pub returns : goal.returns
returns c = λ number.
    ap (λ (found : Option (Option ℤ)). unwrap_or found None) (c.in_ok-insert.ensures.updates.0 (record c.bytes_of.result { now = number }))
    ∙ sum_put (is_eq (text_cmp c.bytes_of.result.now number)) c.integer_of.result (get_by (λ k. text_cmp number k.now) c.args.all.now)
    ∙ (λ i. cond (is_eq (text_cmp (c.bytes_of.ensures i) number)) (c.integer_of.ensures i) (sum_in c.args.all.now number))
