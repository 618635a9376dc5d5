-- A plural rule has as many forms as an entry may have.
use Rattle.std.proofs.Common.{◌≡◌, refl}
use Rattle.plural_expr.specs.Faults as rules
use Rattle.po_text.specs.Strings as entries

pub same_limit : rules.form_limit ≡ entries.form_limit
same_limit = refl
