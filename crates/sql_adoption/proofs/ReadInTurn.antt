-- Look-ups of one domain after the other, behind that of their names.
use Rattle.std.proofs.Common.{◌≡◌, ℕ, ◌+◌, ◌<◌, ◌≤◌, List, [], ◌∷◌, ◌++◌, length, take, get_or, Ok, Err, sym, ap, subst, ◌∙◌}
use Rattle.std.proofs.lemmas.List.{take_more, take_all}
use Rattle.sqlite.specs.Effect.{Database}
use Rattle.sqlite.specs.State.{State, HasCleanDisk}
use Rattle.po_text.specs.Texts.{Text}
use Rattle.units.specs.Office.{Office}
use Rattle.office_maps.specs.OfficeIn.{office_in}
use Rattle.office_maps.specs.declared.office_maps.OfficeMaps.{OfficeMaps}
use Rattle.sql_schema.specs.Layouts.{by_domain, NamedRows, rows_named}
use Rattle.sql_schema.specs.Whole.{IsIdleOver, IsLookUp}
use Rattle.sql_adoption.specs.Reading.{AreNames, bare_office, AddsDomain, AreDomainsRead, HoldAll, RefusesOf}
use Rattle.sql_adoption.specs.ReadParts.{part_of}
use Rattle.sql_adoption.specs.declared.domains_read.Part.{Part}
use Rattle.sql_adoption.specs.declared.faults.OpenFault.{OpenFault}
use Rattle.sql_adoption.specs.declared.office_put.ReadOffice.{ReadOffice}
use Rattle.sql_layouts.proofs.Looked.{looked_on, looked_in_vain, both_looked, looked_same}
use Rattle.sql_adoption.proofs.ReadParts.{names_in_part}
use Rattle.sql_adoption.proofs.DomainsRead.{HaveRead, nothing_read, one_read, all_read, domains_are_read}

-- all domains of an office are at hand, as they are put in
pub one_at_hand : (office : Office) (names langs : List Text) (i : ℕ) (name : Text) → i < length names → name ≡ get_or names i name → HoldAll office (take i names ++ name ∷ []) langs
    → HoldAll office (take (i + 1) names) langs
one_at_hand office names langs i name within is held =
    subst (λ l. HoldAll office l langs) (ap (λ (n : Text). take i names ++ n ∷ []) is ∙ sym (take_more names i name within)) held

pub all_at_hand : (office : Office) (names langs : List Text) (i : ℕ) → length names ≤ i → HoldAll office (take i names) langs → HoldAll office names langs
all_at_hand office names langs i past held = subst (λ l. HoldAll office l langs) (take_all i names past) held

-- of a part of the tables
module _ (part : Part) where
  abbrev tables : Database → NamedRows
  tables db = part_of part (rows_named db)

  -- the domains of these names, of which so many are put in
  abbrev pub SoFar : List Text → List Text → Office → Database → Unit {0} → Type 0
  SoFar names read office db _ = AreNames (tables db) names × HaveRead (tables db) read office

  abbrev pub AreRead : Database → ReadOffice → Type 0
  AreRead db read = AreDomainsRead (tables db) read

  -- the names alone
  pub names_looked : (old new : State) {N : Type 0} (vec : N) (names : N → List Text) (office : Office) → office ≡ bare_office → IsLookUp {E = OpenFault} old new (Ok vec) (λ db n. AreNames (rows_named db) (names n))
      → IsLookUp {E = OpenFault} old new (Ok tt) (SoFar (names vec) [] office)
  names_looked old new vec names office bare it =
      looked_on old new {E = OpenFault} vec (Ok tt) (λ db n. AreNames (rows_named db) (names n)) (SoFar (names vec) [] office) it
      (λ early is_open are. (names_in_part part (rows_named old.now) (names vec) are, nothing_read (tables old.now) office bare))

  module _ (old mid new : State) (names : List Text) (i : ℕ) (maps : OfficeMaps) (one : IsLookUp {E = OpenFault} old mid (Ok tt) (SoFar names (take i names) (office_in maps))) where
    -- one domain more
    pub one_looked : {U : Type 0} (u : U) (name : Text) (more : OfficeMaps) → i < length names → name ≡ get_or names i name
        → IsLookUp {E = OpenFault} mid new (Ok u) (λ db _. AddsDomain name (tables db) maps more) → IsLookUp {E = OpenFault} old new (Ok tt) (SoFar names (take (i + 1) names) (office_in more))
    one_looked u name more within is two =
        looked_on old new {E = OpenFault} u (Ok tt) _ (SoFar names (take (i + 1) names) (office_in more))
        (both_looked old mid new tt (Ok u) (SoFar names (take i names) (office_in maps)) (λ db _. AddsDomain name (tables db) maps more) one two)
        (λ early is_open both. (both.0.0, one_read (tables old.now) names i name maps more within is both.0.1 both.1))

    -- one that isn't read
    module _ {U : Type 0} (fault : OpenFault) (P : Database → U → Type 0) (two : IsLookUp {E = OpenFault} mid new (Err fault) P) where
      pub one_in_vain : (handed : OpenFault) → IsLookUp {E = OpenFault} old new (Err handed) AreRead
      one_in_vain handed =
          looked_in_vain old new {E = OpenFault} (Err fault) handed _ AreRead (both_looked old mid new tt (Err fault) (SoFar names (take i names) (office_in maps)) P one two)

      pub one_refused : (HasCleanDisk new → RefusesOf by_domain mid.now fault) → HasCleanDisk new → RefusesOf by_domain old.now fault
      one_refused refused clean =
          subst (λ db. RefusesOf by_domain db fault) (looked_same old mid new tt (Err fault) (SoFar names (take i names) (office_in maps)) P one two clean) (refused clean)

  -- all of them
  pub all_looked : (old new : State) (names : List Text) (i : ℕ) (read : ReadOffice) → IsIdleOver by_domain old → 0 < length names → length names ≤ i
      → IsLookUp {E = OpenFault} old new (Ok tt) (SoFar names (take i names) (office_in read.maps)) → IsLookUp {E = OpenFault} old new (Ok read) AreRead
  all_looked old new names i read idle some past it =
      looked_on old new {E = OpenFault} tt (Ok read) (SoFar names (take i names) (office_in read.maps)) AreRead it
      (λ early is_open far. domains_are_read old.now (idle.ready early is_open) part names far.0 some read (all_read (tables old.now) names i (office_in read.maps) past far.1))
