-- What is written has no number.
use Rattle.std.proofs.Common.{◌≡◌, false, sym, subst}
use Rattle.serde_json.specs.Written.{has_float}
use Rattle.sql_columns.proofs.ReadBack.{strings_flat}
use Rattle.sql_columns.proofs.lists.forms_column.Goals as goal

pub compact-requires : goal.compact-requires
compact-requires c = subst (λ d. has_float d ≡ false) (sym c.in_ok-value.ensures) (strings_flat c.as_slice.result.now)
