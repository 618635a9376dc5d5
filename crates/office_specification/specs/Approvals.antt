-- What a policy reads of the units of an office. This project's own rule.
use Rattle.std.specs.Prelude.{ℕ, Bool, ◌&&◌, nat_eq, count_by, sum_by}
use Rattle.std.specs.FinMap as maps
use Rattle.units.specs.Limits.{revision_limit}
use Rattle.units.specs.Office.{Office, Domain}
use Rattle.units.specs.Units.{is_approved}
use Rattle.units.specs.declared.unit.Unit.{Unit}
use Rattle.office_specification.specs.declared.approvals.Approvals.{Approvals}

-- how many units of a domain pass a test, and how many of all domains
abbrev pub count_in : (Unit → Bool) → Domain → ℕ
count_in test domain = count_by (λ e. test e.1) (maps.entries domain.units)

abbrev pub count_of : (Unit → Bool) → Office → ℕ
count_of test office = sum_by (count_in test) (maps.values office.domains)

abbrev pub is_approved_unit : Unit → Bool
is_approved_unit unit = is_approved unit.state

-- one that can't lose its approval
abbrev pub is_last_approved : Unit → Bool
is_last_approved unit = is_approved unit.state && nat_eq unit.revision revision_limit

abbrev pub approvals_in : Office → Approvals
approvals_in office = record { approved = count_of is_approved_unit office; at_last_revision = count_of is_last_approved office }
