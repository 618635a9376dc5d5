-- What a member's row that is put, or taken away, makes of the team.
use Rattle.std.proofs.Common.{◌≡◌, refl, codes}
use Rattle.std.specs.FinMap as maps
use Rattle.sql_laws.specs.RowMaps.{OneEach}
use Rattle.po_text.specs.Texts.{Text, text_cmp}
use Rattle.units.specs.Changes.{set_role}
use Rattle.units.specs.Orders.{text_total, text_IsAntisymmetric}
use Rattle.units.specs.declared.unit.Role.{Role}
use Rattle.units.specs.declared.unit.Role.TheVariants.{Guest, Translator, Reviewer, Manager}
use Rattle.sql_columns.specs.Numbers.{role_number}
use Rattle.sql_schema.specs.Keys.{first_text, has_text}
use Rattle.sql_meaning.specs.Values.{role_at}
use Rattle.sql_meaning.specs.Meaning.{team_in}
use Rattle.sql_meaning.proofs.MapEntries.{map_of-removed}
use Rattle.sql_meaning.proofs.RowsPut.{team_put}
use Rattle.sql_changes.specs.Commits.{WritesRole}
use Rattle.sql_schema.specs.Layouts.{NamedRows}
use Rattle.sql_meaning.specs.RowChanges.{TakesIn}

module _ (old new : NamedRows) (name : Text) (one : OneEach first_text (old (codes "team"))) where
  pub team_without : TakesIn (codes "team") (has_text 1 name) old new → team_in new ≡ maps.remove (team_in old) name
  team_without taken = map_of-removed text_cmp text_total text_IsAntisymmetric first_text (role_at 2) (old (codes "team")) (new (codes "team")) name one taken.rows

  pub team_changed : (role : Role) → WritesRole name (role_number role) old new → team_in new ≡ set_role name role (team_in old)
  team_changed Guest taken = team_without taken
  team_changed Translator put = team_put old new name Translator _ refl one put
  team_changed Reviewer put = team_put old new name Reviewer _ refl one put
  team_changed Manager put = team_put old new name Manager _ refl one put
