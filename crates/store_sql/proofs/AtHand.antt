-- The part of the office at hand, and what is kept of it for acts on units, and what calls keep that answer from them.
use Rattle.std.specs.Prelude.{IfSome}
use Rattle.std.proofs.Common.{◌≡◌, Option, Some, None, Result, Ok, IsTrue, sym, subst, arith}
use Rattle.sqlite.specs.Effect.{Database}
use Rattle.sqlite.specs.State.{State, HasCleanDisk}
use Rattle.office_maps.specs.OfficeIn.{office_in}
use Rattle.office_maps.specs.declared.office_maps.OfficeMaps.{OfficeMaps}
use Rattle.office_specification.specs.Parts.{AreAlikeIn}
use Rattle.office_specification.specs.declared.parts.Part.{Part}
use Rattle.sql_meaning.specs.Domains.{office_of_rows}
use Rattle.store_sql.specs.declared.office_part.OfficePart.{OfficePart}
use Rattle.store_sql.specs.OfficeParts.{IsPartOf}
use Rattle.sql_schema.specs.Layouts.{rows_named}
use Rattle.sql_schema.specs.Whole.{IsLookUp}
use Rattle.store_sql.specs.TablesInFile.{IsAtHand, IsPartAtHand}
use Rattle.store_sql.specs.declared.loaded_part.LoadedPart.{LoadedPart}

pub none_at_hand : (s : State) (office : Option LoadedPart) → office ≡ None → IsAtHand s office
none_at_hand s office none = subst (IsAtHand s) (sym none) tt

-- after a look-up that answers it is still at hand
pub at_hand_still : (old new : State) {A E : Type 0} (x : A) (P : Database → A → Type 0) (office : Option LoadedPart) → IsLookUp {E = E} old new (Ok x) P → IsAtHand old office → IsAtHand new office
at_hand_still old new x P None looked h = tt
at_hand_still old new x P (Some loaded) looked h = λ clean.
    let is_open : IsTrue new.is_open = looked.is_open clean in
    let early : HasCleanDisk old = omega (arith, clean, looked.survives.clean) in
    (is_open, subst (λ (d : Database). AreAlikeIn loaded.part (office_in loaded.maps) (office_of_rows (rows_named d))) (sym (looked.same clean is_open).now) (h early).1)

-- the part that was read is at hand
pub at_hand_read : (old new : State) {E : Type 0} (part : Part) (maps : OfficeMaps) (office : Option LoadedPart) → office ≡ Some (record { part = part; maps = maps })
    → IsLookUp {E = E} old new (Ok maps) (λ db maps. AreAlikeIn part (office_in maps) (office_of_rows (rows_named db))) → IsAtHand new office
at_hand_read old new part maps office is looked =
    subst (IsAtHand new) (sym is) (λ clean.
    let is_open : IsTrue new.is_open = looked.is_open clean in
    (is_open, subst (λ (d : Database). AreAlikeIn part (office_in maps) (office_of_rows (rows_named d))) (sym (looked.same clean is_open).now) (looked.answer clean)))

-- behind a part at hand the connection is open, and its maps are alike in it to the office of the rows
pub at_hand_is : (s : State) (office : Option LoadedPart) (loaded : LoadedPart) → office ≡ Some loaded → IsAtHand s office → HasCleanDisk s
    → IsTrue s.is_open × AreAlikeIn loaded.part (office_in loaded.maps) (office_of_rows (rows_named s.now))
at_hand_is s office loaded is h clean = subst (IsAtHand s) is h clean

-- ---- what is kept of it

-- after a look-up it is still at hand, whatever came of it
pub part_still : (old new : State) {A E : Type 0} (r : Result A E) (P : Database → A → Type 0) (part : Option OfficePart) → IsLookUp old new r P → IsPartAtHand old part → IsPartAtHand new part
part_still old new r P part looked held = λ clean is_open.
    let same = looked.same clean is_open in
    let early : HasCleanDisk old = omega (arith, clean, looked.survives.clean) in
    subst (λ (d : Database). IfSome part (IsPartOf (office_of_rows (rows_named d)))) (sym same.now) (held early same.was_open)

-- the one that is told by what was found
pub part_found : (old new : State) {A E : Type 0} (x : A) (P : Database → A → Type 0) (Told : OfficePart → Type 0) (part : Option OfficePart) → IsLookUp {E = E} old new (Ok x) P → IfSome part Told
    → ((db : Database) (p : OfficePart) → P db x → Told p → IsPartOf (office_of_rows (rows_named db)) p) → IsPartAtHand new part
part_found old new x P Told None looked told tells = λ clean is_open. tt
part_found old new x P Told (Some p) looked told tells = λ clean is_open.
    subst (λ (d : Database). IsPartOf (office_of_rows (rows_named d)) p) (sym (looked.same clean is_open).now) (tells old.now p (looked.answer clean) told)
