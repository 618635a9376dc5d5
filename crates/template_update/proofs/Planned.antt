-- What a plan or a load that is there is.
use Rattle.std.proofs.Common.{◌≡◌, Bool, true, false, cond, List, Some, None, ◌&&◌, length, nat_le}
use Rattle.std.specs.List.{list_all}
use Rattle.units.specs.declared.unit.Unit.{Unit}
use Rattle.units.specs.Limits.{unit_limit}
use Rattle.template_update.specs.declared.plans.Counts.{Counts}
use Rattle.template_update.specs.declared.plans.Plan.{Plan}
use Rattle.template_update.specs.Units.{within_limits, has_revision}

pub record IsPlan (units : List Unit) (stays : List Bool) (counts : Counts) (plan : Plan) : Type 0 where
  pub all : plan.units ≡ units
  pub stay : plan.stays ≡ stays
  pub told : plan.counts ≡ counts

by_limit : (within : Bool) (units : List Unit) (stays : List Bool) (counts : Counts) (plan : Plan)
    → cond within (Some (record { units = units; stays = stays; counts = counts })) None ≡ Some plan → IsPlan units stays counts plan
by_limit true units stays counts plan e = record { all = cc; stay = cc; told = cc }
by_limit false units stays counts plan e = cc

pub planned : (units : List Unit) (stays : List Bool) (counts : Counts) (plan : Plan) → within_limits units stays counts ≡ Some plan → IsPlan units stays counts plan
planned units stays counts plan e = by_limit (nat_le (length units) unit_limit && list_all has_revision units) units stays counts plan e
