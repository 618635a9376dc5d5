-- Units of a language that are written in a walk over them, and languages that are written one after the other.
use Rattle.std.proofs.Common.{◌≡◌, inl, inr, ◌+◌, ◌<◌, ℕ, List, [], ◌∷◌, ◌++◌, length, take, get_or, refl, sym, ap, subst, ◌∙◌}
use Rattle.std.proofs.lemmas.List.{append_assoc, append-nil, take_more}
use Rattle.po_text.specs.Texts.{Text}
use Rattle.units.specs.Project.{Project}
use Rattle.units.specs.declared.unit.Unit.{Unit}
use Rattle.sql_schema.specs.Layouts.{NamedRows}
use Rattle.sql_changes.specs.UnitWrites.{WritesPlanned}
use Rattle.sql_commits.proofs.PlannedWrites.{units_more}
use Rattle.sql_keepable.specs.Keepable.{IsKeepableUnit, AreKeepableUnits}
use Rattle.sqlite_rules.proofs.ListLemmas.{has_either}
use Rattle.sql_conversion.specs.Conversion.{WritesKept, WritesThere, WritesLanguages}

-- ---- units

-- what is written of all units, where these are left
abbrev pub UnitsBefore : Text → List Unit → List Unit → NamedRows → NamedRows → Type 0
UnitsBefore lang all left old new = (done : List Unit) × (all ≡ done ++ left) × WritesKept lang done old new

pub no_unit_yet : (lang : Text) (all left : List Unit) (rows : NamedRows) → left ≡ all → UnitsBefore lang all left rows rows
no_unit_yet lang all left rows is = ([], sym is, (refl, λ unit there. absurd there))

kept_more : (lang : Text) (done : List Unit) (unit : Unit) → AreKeepableUnits lang done → IsKeepableUnit lang unit → AreKeepableUnits lang (done ++ unit ∷ [])
kept_more lang done unit all fits one there = elim (has_either done (unit ∷ []) one there) [
  | inl before ↦ all one before
  | inr last ↦ elim last [ inl is ↦ subst (IsKeepableUnit lang) (sym is) fits | inr none ↦ absurd none ]
]

pub one_unit_more : (lang : Text) (all left next : List Unit) (unit : Unit) (old mid new : NamedRows) → IsKeepableUnit lang unit → left ≡ unit ∷ next → UnitsBefore lang all left old mid
    → WritesPlanned lang unit mid new → UnitsBefore lang all next old new
one_unit_more lang all left next unit old mid new fits is (done, parts, (written, kept)) one = (
  done ++ unit ∷ [],
  parts ∙ ap (λ l. done ++ l) is ∙ sym (append_assoc done (unit ∷ []) next),
  (units_more lang done unit old mid new written one, kept_more lang done unit kept fits),
)

pub all_units_before : (lang : Text) (all left : List Unit) (old new : NamedRows) → left ≡ [] → UnitsBefore lang all left old new → WritesKept lang all old new
all_units_before lang all left old new none (done, parts, written) =
    subst (λ us. WritesKept lang us old new) (sym (parts ∙ ap (λ l. done ++ l) none ∙ append-nil done)) written

-- ---- languages

languages_more : (project : Project) (langs : List Text) (lang : Text) (old mid new : NamedRows) → WritesLanguages project langs old mid → WritesThere project lang mid new
    → WritesLanguages project (langs ++ lang ∷ []) old new
languages_more project [] lang old mid new is one = (new, subst (λ (d : NamedRows). WritesThere project lang d new) is one, refl)
languages_more project (first ∷ more) lang old mid new (next, put, rest) one = (next, put, languages_more project more lang next mid new rest one)

pub languages_next : (project : Project) (langs : List Text) (i : ℕ) (lang : Text) (old mid new : NamedRows) → i < length langs → lang ≡ get_or langs i lang
    → WritesLanguages project (take i langs) old mid → WritesThere project lang mid new → WritesLanguages project (take (i + 1) langs) old new
languages_next project langs i lang old mid new within is front one =
    let taken : take (i + 1) langs ≡ take i langs ++ lang ∷ [] = take_more langs i lang within ∙ ap (λ v. take i langs ++ v ∷ []) (sym is) in
    subst (λ ls. WritesLanguages project ls old new) (sym taken) (languages_more project (take i langs) lang old mid new front one)
