use Rattle.std.proofs.Common.{◌≡◌, rules, sym, ap, ◌∙◌}
use Rattle.std.proofs.lemmas.Result.{IfOk-weaker}
use Rattle.sql_schema.specs.Keys.{text_at}
use Rattle.sql_decoding.specs.TablesRead.{votes_of, with_votes, with_own_votes}
use Rattle.sql_decoding.proofs.ColumnsRead.{holds_text}
use Rattle.sql_loading.proofs.unit_tables.suggestion_of.Goals as goal

pub returns-clause-shown : goal.returns-clause-shown
returns-clause-shown c =
    let row = c.args.row.now in
    let number = c.as_str.result.now in
    let read : text_at 0 row ≡ number = holds_text 0 row number (search rules) in
    IfOk-weaker c.suggestion_with.result _ (λ v. v ≡ with_own_votes c.args.votes.now row)
    (λ v is. is ∙ ap (λ votes. with_votes votes row) (c.in_ok-votes.ensures ∙ ap (votes_of c.args.votes.now) (sym read))) c.suggestion_with.ensures.shown
