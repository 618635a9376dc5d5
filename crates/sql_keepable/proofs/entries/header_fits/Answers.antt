use Rattle.std.proofs.Common.{List, subst}
use Rattle.std.specs.Prelude.{All, IsUtf8}
use Rattle.po_text.specs.Texts.{Text}
use Rattle.sql_keepable.proofs.Columns.{header_utf8}
use Rattle.sql_keepable.proofs.entries.header_fits.Goals as goal

pub returns : goal.returns
returns c =
    header_utf8 c.args.header.now c.list_fits.ensures c.list_fits-2.ensures c.list_fits-3.ensures c.list_fits-4.ensures c.previous_fits.ensures.column
    (subst (λ (ts : List Text). All IsUtf8 ts) c.as_slice.ensures.value c.strings_fit.ensures)
