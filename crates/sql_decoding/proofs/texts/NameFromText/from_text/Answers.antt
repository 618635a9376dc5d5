use Rattle.std.proofs.Common.{ap, sym, inl, ◌∙◌}
use Rattle.std.proofs.lemmas.Result.{IfOk-weaker}
use Rattle.units.specs.Limits.{is_name}
use Rattle.sql_decoding.proofs.ColumnsRead.{holds_text}
use Rattle.sql_decoding.proofs.ColumnsTested.{both_tell, read_fails, unless}
use Rattle.sql_decoding.proofs.texts.NameFromText.from_text.Goals as goal

pub returns-clause-shown : goal.returns-clause-shown
returns-clause-shown c = IfOk-weaker c.name_from.result _ _ (λ v is at row holds. sym is ∙ sym (holds_text at row c.args.text.now holds)) c.name_from.ensures.ok

pub returns-clause-stands : goal.returns-clause-stands
returns-clause-stands c = both_tell c.name_from.result _ _ (λ v is fits. ap is_name is ∙ fits) c.name_from.ensures.ok c.name_from.ensures.fits

pub returns-clause-falls : goal.returns-clause-falls
returns-clause-falls c = read_fails c.name_from.result (is_name c.args.text.now) (λ never. unless (is_name c.args.text.now) (λ fits. never c.args.text.now (inl (c.name_from.ensures.back fits))))
