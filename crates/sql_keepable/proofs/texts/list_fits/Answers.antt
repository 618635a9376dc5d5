use Rattle.std.proofs.Common.{subst}
use Rattle.std.specs.Prelude.{IsUtf8}
use Rattle.sql_columns.specs.Written.{texts_text}
use Rattle.sql_keepable.proofs.Columns.{texts_utf8}
use Rattle.sql_keepable.proofs.texts.list_fits.Goals as goal

pub returns : goal.returns
returns c = subst (λ ts. IsUtf8 (texts_text ts)) c.as_slice.ensures (texts_utf8 c.as_slice.result.now c.texts_fit.ensures)
