use Rattle.std.proofs.Common.{subst}
use Rattle.std.specs.Prelude.{IsUtf8}
use Rattle.sql_columns.specs.Written.{texts_text}
use Rattle.sql_keepable.proofs.Columns.{texts_utf8}
use Rattle.sql_keepable.proofs.texts.forms_fit.Goals as goal

pub returns-clause-column : goal.returns-clause-column
returns-clause-column c = subst (λ ts. IsUtf8 (texts_text ts)) c.as_slice.ensures.value (texts_utf8 c.as_slice.result.now c.strings_fit.ensures)
