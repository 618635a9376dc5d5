use Rattle.std.proofs.Common.{◌≡◌, map, filter, ap, ◌∙◌}
use Rattle.std.proofs.lemmas.Result.{IfOk-weaker}
use Rattle.sqlite.specs.Order.{Row}
use Rattle.po_text.specs.Texts.{Text}
use Rattle.sql_schema.specs.Keys.{text_at}
use Rattle.sql_meaning.specs.OfficeShown.{is_of_unit, suggestions_shown, votes_shown}
use Rattle.sql_decoding.specs.TablesRead.{with_votes, suggestions_of}
use Rattle.sql_loading.proofs.unit_tables.all_suggestions.Goals as goal

pub returns-clause-shown : goal.returns-clause-shown
returns-clause-shown c =
    let rows = c.args.rows.now in
    let votes = λ (row : Row). c.in_ok-votes.ensures.shown (text_at 0 row) ∙ ap (λ all. votes_shown all (text_at 0 row)) c.as_slice.ensures.value in
    IfOk-weaker c.suggestions_by_unit.result _ (λ all. (lang key : Text) → suggestions_of all lang key ≡ suggestions_shown rows lang key)
    (λ all is lang key. is lang key ∙ (λ i. map (λ row. with_votes (votes row i) row) (filter (is_of_unit lang key) (c.as_slice-2.ensures.value i))))
    c.suggestions_by_unit.ensures.shown
