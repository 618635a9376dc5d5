-- The policy that the row of `policy` stands for: what the query of the one row finds.
use Rattle.std.proofs.Common.{◌≡◌, ℕ, pos, List, [], ◌∷◌, Some, unwrap_or, ap, codes}
use Rattle.std.specs.Ordering.{int_cmp}
use Rattle.std.specs.Cmp.{int_cmp_total}
use Rattle.std.specs.FinMap.{int_cmp-IsAntisymmetric}
use Rattle.sqlite.specs.declared.types.Value.TheVariants.{Int}
use Rattle.sqlite.specs.Order.{Row}
use Rattle.sql_laws.specs.RowMaps.{OneEach, IsFound}
use Rattle.sql_laws.proofs.RowMaps.{get-is}
use Rattle.units.specs.Openings.{closed_policy}
use Rattle.sql_schema.specs.Keys.{row_number, columns}
use Rattle.sql_meaning.specs.Values.{integer_of, integer_at}
use Rattle.sql_meaning.specs.Meaning.{policy_of, policy_in}
use Rattle.sql_meaning.specs.Shown.{shown_policy}
use Rattle.sql_schema.specs.Layouts.{NamedRows}

-- what the query shows of a row: schema, reviews, guests_suggest, voting, accept_at, placeholders, line_ends
abbrev pub policy_places : List ℕ
policy_places = 2 ∷ 3 ∷ 4 ∷ 5 ∷ 6 ∷ 7 ∷ 8 ∷ []

pub finds_policy : (tables : NamedRows) (shown : Row) → OneEach (integer_at 0) (tables (codes "policy"))
    → IsFound row_number (columns policy_places) (tables (codes "policy")) (Int (pos 1)) (Some shown) → policy_in tables ≡ shown_policy shown
finds_policy tables shown one it =
    ap (λ o. unwrap_or o closed_policy) (get-is int_cmp int_cmp_total int_cmp-IsAntisymmetric (integer_at 0) policy_of (tables (codes "policy")) (pos 1) (Some (shown_policy shown))
    one (it.0, it.1, ap integer_of it.2, ap shown_policy it.3))
