use Rattle.std.proofs.Common.{subst}
use Rattle.std.specs.Prelude.{IsUtf8}
use Rattle.sql_keepable.proofs.entries.language_fits.Goals as goal

pub returns : goal.returns
returns c = record {
  language = c.lang_fits.ensures;
  forms = c.forms_fit.ensures.fits;
  previous = c.previous_fits.ensures.strings;
  header_column = c.header_fits.ensures;
  rule_column = subst IsUtf8 c.rule_text.ensures c.rule_text.utf8;
}
