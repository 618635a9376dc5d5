use Rattle.std.proofs.Common.{List, subst}
use Rattle.std.specs.FinMap as maps
use Rattle.std.specs.Prelude.{All}
use Rattle.po_text.specs.Texts.{Text}
use Rattle.units.specs.declared.votes.VoteValue.{VoteValue}
use Rattle.sql_keepable.specs.Keepable.{IsVoter}
use Rattle.sql_keepable.proofs.Lists.{each_of}
use Rattle.sql_keepable.proofs.unit_parts.suggestion_fits.Goals as goal

pub returns : goal.returns
returns c =
    let voters : All IsVoter (maps.entries c.args.suggestion.now.votes) = subst (λ (votes : List (Text × VoteValue)). All IsVoter votes) c.as_slice.ensures c.voters_fit.ensures in
    record {
      suggester = c.name_fits.ensures;
      forms = c.forms_fit.ensures.fits;
      forms_column = c.forms_fit.ensures.column;
      voters = each_of IsVoter (maps.entries c.args.suggestion.now.votes) voters;
    }
