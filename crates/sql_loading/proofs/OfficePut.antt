-- What a project becomes while the rows of its tables are put in.
use Rattle.std.proofs.Common.{◌≡◌, List, [], ◌∷◌, fold, string_bytes, refl, ap}
use Rattle.std.specs.Prelude.{String}
use Rattle.std.specs.FinMap as maps
use Rattle.std.specs.BTreeMap.{BTreeMap}
use Rattle.sqlite.specs.Order.{Row}
use Rattle.po_text.specs.Texts.{text_cmp}
use Rattle.units.specs.Project.{Project, Place, with_unit}
use Rattle.units.specs.declared.unit.Role.{Role}
use Rattle.units.specs.declared.unit.Unit.{Unit}
use Rattle.office_maps.specs.MapEntries.{mapped}
use Rattle.office_maps.specs.Rows.{team_in}

-- a team without entries
pub no_team : {A : Type 0} (team : BTreeMap (String A) Role) → team.entries ≡ [] → team_in team ≡ maps.empty
no_team {A} team none = ap (λ (es : List (String A × Role)). maps.from_entries {R = text_cmp} (mapped string_bytes (λ (role : Role). role) es)) none

-- units that are put at places of a project are put into its map of units
pub units_put : (place : Row → Place) (unit : Row → Unit) (project : Project) (rows : List Row)
    → fold (λ p row. with_unit p (place row) (unit row)) project rows ≡ record project { units = fold (λ m row. maps.insert m (place row) (unit row)) project.units rows }
units_put place unit project [] = refl
units_put place unit project (row ∷ rows) = units_put place unit (with_unit project (place row) (unit row)) rows
