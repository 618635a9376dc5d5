use Rattle.std.proofs.Common.{List, subst}
use Rattle.std.specs.Prelude.{All}
use Rattle.units.specs.declared.unit.Suggestion.{Suggestion}
use Rattle.sql_keepable.specs.Keepable.{IsKeepableSuggestion}
use Rattle.sql_keepable.proofs.Lists.{each_of}
use Rattle.sql_keepable.proofs.unit_parts.unit_fits.Goals as goal

pub returns : goal.returns
returns c =
    let unit = c.args.unit.now in
    let suggestions : All IsKeepableSuggestion unit.suggestions = subst (λ (ss : List Suggestion). All IsKeepableSuggestion ss) c.as_slice.ensures c.suggestions_fit.ensures in
    record {
      language = c.lang_fits.ensures;
      key = c.key_fits.ensures.strings;
      key_column = c.key_fits.ensures.column;
      plural = c.optional_fits.ensures;
      forms = c.forms_fit.ensures.fits;
      forms_column = c.forms_fit.ensures.column;
      revision = c.number.ensures.fits;
      comment_column = c.list_fits.ensures;
      previous = c.previous_fits.ensures.strings;
      previous_column = c.previous_fits.ensures.column;
      suggestions = each_of IsKeepableSuggestion unit.suggestions suggestions;
    }
