-- Rows of all domains become others where they stand: those of approved units, and each tally, under a policy without reviews.
use Rattle.std.specs.Prelude.{◌≡◌, pos, ◌+ℤ◌, Bool, true, [], ◌∷◌, ◌++◌, drop, codes}
use Rattle.sqlite.specs.declared.types.Value.TheVariants.{Int}
use Rattle.sqlite.specs.Order.{Row, column}
use Rattle.sqlite.specs.Effect.{Database}
use Rattle.sqlite_sql.specs.Ops.{fits_i64}
use Rattle.sqlite_rules.specs.Edit.{id_in}
use Rattle.sqlite_rules.specs.Lists.{Has}
use Rattle.sql_schema.specs.Keys.{columns}
use Rattle.sql_schema.specs.Layouts.{rows_named, SparesOthers}
use Rattle.sql_schema.specs.SeenRows.{unit_seen}
use Rattle.sql_statements.specs.Renewed.{RenewsRows, is_approved_row, unapproved_row}

-- a unit's row becomes what it becomes without its domain
abbrev pub is_approved_in_domain : Row → Bool
is_approved_in_domain row = is_approved_row (unit_seen row)

abbrev pub unapproved_in_domain : Row → Row
unapproved_in_domain row = column row 0 ∷ column row 1 ∷ drop 1 (unapproved_row (unit_seen row))

-- 64 bits hold the revision after that of each approved unit
abbrev pub HaveNextRevisionsInDomains : Database → Type 0
HaveNextRevisionsInDomains db = (row : Row) → Has (rows_named db (codes "d_unit")) row → is_approved_in_domain row ≡ true → fits_i64 (id_in (column row 8) +ℤ pos 1) ≡ true

-- no unit stays approved
abbrev pub UnapprovesDomainUnits : Database → Database → Type 0
UnapprovesDomainUnits old new = HaveNextRevisionsInDomains old → RenewsRows (codes "d_unit") is_approved_in_domain unapproved_in_domain old new

-- a tally whose approved units are counted as translated
abbrev pub unapproved_tally : Row → Row
unapproved_tally row = columns (0 ∷ 1 ∷ 2 ∷ 3 ∷ 4 ∷ []) row ++ Int (id_in (column row 5) +ℤ id_in (column row 6)) ∷ Int (pos 0) ∷ columns (7 ∷ 8 ∷ 9 ∷ []) row

-- 64 bits hold the sum of what is translated and what is approved
abbrev pub HaveTallySums : Database → Type 0
HaveTallySums db = (row : Row) → Has (rows_named db (codes "d_tally")) row → fits_i64 (id_in (column row 5) +ℤ id_in (column row 6)) ≡ true

-- no tally counts a unit as approved, and whatever the sums, no other table changes
abbrev pub UnapprovesTallies : Database → Database → Type 0
UnapprovesTallies old new = SparesOthers (codes "d_tally") (rows_named old) (rows_named new) × (HaveTallySums old → RenewsRows (codes "d_tally") (λ row. true) unapproved_tally old new)
