use Rattle.std.proofs.Common.{◌≡◌, Option, Some, None, IsTrue, sym, ap, subst, ◌∙◌}
use Rattle.std.specs.Prelude.{unwrap_or}
use Rattle.sqlite.specs.Held.{state}
use Rattle.sqlite.specs.State.{HasCleanDisk}
use Rattle.office_specification.specs.Parts.{AreAlikeIn}
use Rattle.office_specification.specs.declared.parts.Part.{Part}
use Rattle.office_maps.specs.OfficeIn.{office_in}
use Rattle.sql_meaning.specs.Domains.{office_of_rows}
use Rattle.sql_schema.specs.Layouts.{rows_named}
use Rattle.store_sql.specs.TablesInFile.{is_honest, is_whole, means, is_loaded, held_part}
use Rattle.store_sql.proofs.AtHand.{at_hand_is}
use Rattle.store_sql.proofs.office_connection.OfficeConnection.at_hand.Goals as goal

pub returns : goal.returns
returns g c =
    let s = state g.S.Store c.self.inside.connection in
    let loaded = c.in-Some.loaded in
    let is : HasCleanDisk s → IsTrue s.is_open × AreAlikeIn loaded.part (office_in loaded.maps) (office_of_rows (rows_named s.now)) =
    at_hand_is s c.self.inside.office loaded c.in-Some.is c.self.invariant.2 in
    record {
      whole = subst (λ t. is_honest g.S.Store t → is_whole g.S.Store t) c.self.view_is (λ clean. (is clean).0);
      alike = subst (λ t. is_honest g.S.Store t → (part : Part) → is_loaded g.S.Store t part → AreAlikeIn part (office_in loaded.maps) (means g.S.Store t).office) c.self.view_is
          (λ clean part held.
          let some : ◌≡◌ {A = Option Part} (Some loaded.part) (Some part) = sym (ap held_part c.in-Some.is) ∙ held in
          let one : loaded.part ≡ part = ap (λ (found : Option Part). unwrap_or found loaded.part) some in
          subst (λ (p : Part). AreAlikeIn p (office_in loaded.maps) (office_of_rows (rows_named s.now))) one (is clean).1);
    }

pub unreachable-requires : goal.unreachable-requires
unreachable-requires g c =
    let held : held_part c.self.inside.office ≡ Some c.requires.loaded.0 = subst (λ t. is_loaded g.S.Store t c.requires.loaded.0) (sym c.self.view_is) c.requires.loaded.1 in
    let no : ◌≡◌ {A = Option Part} None (Some c.requires.loaded.0) = sym (ap held_part c.in-None.is) ∙ held in
    cc
