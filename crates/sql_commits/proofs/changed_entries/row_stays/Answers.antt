use Rattle.std.proofs.Common.{◌≡◌, Some, sym, ap, ◌∙◌}
use Rattle.sqlite.specs.Order.{column}
use Rattle.sql_commits.specs.Entries.{stays_by}
use Rattle.sql_commits.proofs.EntriesShown.{none_stays}
use Rattle.sql_commits.proofs.changed_entries.row_stays.Goals as goal

pub returns-in-Some : goal.returns-in-Some
returns-in-Some c = c.stays_at.ensures ∙ sym (ap (stays_by c.args.stays.now) ((c.natural_in.ensures c.in-Some.place).0 c.in-Some.is))

pub returns-in-None : goal.returns-in-None
returns-in-None c = none_stays c.args.stays.now (column c.args.row.now 5) (λ place at. let clash : Some place ≡ _ = sym ((c.natural_in.ensures place).1 at) ∙ c.in-None.is in cc)
