use Rattle.std.proofs.Common.{◌≡◌, ◌∙◌}
use Rattle.std.proofs.lemmas.Result.{IfOk-weaker}
use Rattle.sql_meaning.specs.Shown.{shown_unit}
use Rattle.sql_decoding.specs.TablesRead.{with_suggestions}
use Rattle.sql_loading.proofs.office_read.unit_of.Goals as goal

pub returns-clause-shown : goal.returns-clause-shown
returns-clause-shown c =
    IfOk-weaker c.unit_with.result _ (λ unit. unit ≡ with_suggestions c.args.suggestions.now c.args.row.now)
    (λ unit is. is ∙ (λ i. shown_unit (c.requires i) (c.in_ok-own.ensures.shown i) c.args.row.now)) c.unit_with.ensures.shown
