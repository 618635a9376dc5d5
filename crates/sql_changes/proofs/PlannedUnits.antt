-- What units that are written one after the other make of the units that the tables stand for.
use Rattle.std.proofs.Common.{◌≡◌, List, [], ◌∷◌, ◌++◌, map, fold, refl, sym, ap, subst, ◌∙◌, codes}
use Rattle.std.specs.List.{flat_map}
use Rattle.std.specs.FinMap as maps
use Rattle.po_text.specs.Texts.{Text}
use Rattle.units.specs.Project.{Place, place_cmp}
use Rattle.units.specs.declared.unit.Unit.{Unit}
use Rattle.template_update.specs.Marks.{unmarked}
use Rattle.office_specification.specs.ProjectActs.{LanguagePlan}
use Rattle.sql_meaning.specs.Meaning.{units_in}
use Rattle.sql_meaning.proofs.UnitsWritten.{KeepsOthers, writes_unit}
use Rattle.sql_changes.specs.UnitWrites.{WritesPlanned, WritesUnits, WritesUnitsBack, WritesPlansBack}
use Rattle.sql_changes.proofs.AddedSuggestions.{unit_written, unit_writable}
use Rattle.sql_schema.specs.Layouts.{NamedRows}
use Rattle.sql_meaning.specs.RowKeys.{AreOfficeRows}

abbrev pub Units : Type 0
Units = maps.FinMap place_cmp Unit

abbrev pub Entries : Type 0
Entries = List (Place × Unit)

-- ---- entries that are put into a map

-- the first first, and the last of a key stays
abbrev pub in_turn : Units → Entries → Units
in_turn = fold (λ m e. maps.insert m e.0 e.1)

-- the last first, and the first of a key stays
abbrev pub from_last : Units → Entries → Units
from_last m [] = m
from_last m (e ∷ es) = maps.insert (from_last m es) e.0 e.1

from_last_append : (m : Units) (front back : Entries) → from_last m (front ++ back) ≡ from_last (from_last m back) front
from_last_append m [] back = refl
from_last_append m (e ∷ front) back = ap (λ n. maps.insert n e.0 e.1) (from_last_append m front back)

pub from_none : (es : Entries) → from_last maps.empty es ≡ maps.from_entries es
from_none [] = refl
from_none (e ∷ es) = ap (λ m. maps.insert m e.0 e.1) (from_none es)

-- ---- the tables

keeps_same : (old new : NamedRows) → new ≡ old → KeepsOthers old new
keeps_same old new is = record {
  records = λ i. is i (codes "record");
  team = λ i. is i (codes "team");
  policy = λ i. is i (codes "policy");
  template = λ i. is i (codes "template");
  languages = λ i. is i (codes "language");
}

keeps_both : (old mid new : NamedRows) → KeepsOthers old mid → KeepsOthers mid new → KeepsOthers old new
keeps_both old mid new one two = record {
  records = two.records ∙ one.records;
  team = two.team ∙ one.team;
  policy = two.policy ∙ one.policy;
  template = two.template ∙ one.template;
  languages = two.languages ∙ one.languages;
}

-- the units are these, the rows of other tables are as they were, and all are as a schema asks
pub record HasUnits (units : Units) (old new : NamedRows) : Type 0 where
  pub units_are : units_in new ≡ units
  pub others : KeepsOthers old new
  pub ready : AreOfficeRows new

none_written : (old new : NamedRows) → AreOfficeRows old → new ≡ old → HasUnits (units_in old) old new
none_written old new ready is = record {
  units_are = ap (λ (d : NamedRows). units_in d) is;
  others = keeps_same old new is;
  ready = subst AreOfficeRows (sym is) ready;
}

one_written : (lang : Text) (unit : Unit) (old new : NamedRows) → AreOfficeRows old → WritesPlanned lang unit old new → HasUnits (maps.insert (units_in old) (lang, unit.key) unit) old new
one_written lang unit old new ready (written, strings, previous) =
    let it = writes_unit old new lang unit ready (unit_writable lang unit old new written.0 strings previous) (unit_written lang unit old new written.0) in
    record { units_are = it.0; others = it.1; ready = written.1 }

has_both : (mid_units units : Units) (old mid new : NamedRows) → HasUnits mid_units old mid → HasUnits units mid new → HasUnits units old new
has_both mid_units units old mid new one two = record {
  units_are = two.units_are;
  others = keeps_both old mid new one.others two.others;
  ready = two.ready;
}

abbrev pub rows : Text → List Unit → Entries
rows lang units = map (λ unit. ((lang, unit.key), unit)) units

pub units_in_turn : (lang : Text) (units : List Unit) (old new : NamedRows) → AreOfficeRows old → WritesUnits lang units old new → HasUnits (in_turn (units_in old) (rows lang units)) old new
units_in_turn lang [] old new ready is = none_written old new ready is
units_in_turn lang (unit ∷ more) old new ready (mid, one, rest) =
    let first = one_written lang unit old mid ready one in
    let later = units_in_turn lang more mid new first.ready rest in
    subst (λ m. HasUnits (in_turn m (rows lang more)) old new) first.units_are (has_both _ _ old mid new first later)

units_from_last : (lang : Text) (units : List Unit) (old new : NamedRows) → AreOfficeRows old → WritesUnitsBack lang units old new → HasUnits (from_last (units_in old) (rows lang units)) old new
units_from_last lang [] old new ready is = none_written old new ready is
units_from_last lang (unit ∷ more) old new ready (mid, rest, one) =
    let first = units_from_last lang more old mid ready rest in
    let last = one_written lang unit mid new first.ready one in
    subst (λ m. HasUnits (maps.insert m (lang, unit.key) unit) old new) first.units_are (has_both _ _ old mid new first last)

-- the units that a plan doesn't tell to stay as they were, at their places
abbrev pub changing : LanguagePlan → Entries
changing p = rows p.0 (unmarked p.1.units p.1.stays)

pub plans_from_last : (plans : List LanguagePlan) (old new : NamedRows) → AreOfficeRows old → WritesPlansBack plans old new → HasUnits (from_last (units_in old) (flat_map changing plans)) old new
plans_from_last [] old new ready is = none_written old new ready is
plans_from_last (p ∷ more) old new ready (mid, rest, own) =
    let first = plans_from_last more old mid ready rest in
    let last = units_from_last p.0 (unmarked p.1.units p.1.stays) mid new first.ready own in
    let all : from_last (from_last (units_in old) (flat_map changing more)) (changing p) ≡ from_last (units_in old) (changing p ++ flat_map changing more) = sym (from_last_append (units_in old) (changing p) (flat_map changing more)) in
    subst (λ m. HasUnits m old new) (ap (λ m. from_last m (changing p)) first.units_are ∙ all) (has_both _ _ old mid new first last)
