-- A unit's update in two steps, and the revisions that it gives.
use Rattle.std.proofs.Common.{◌≡◌, ℕ, ◌+◌, Bool, true, false, not, cond, nat_le, nat_eq, [], Option, Some, None, refl, sym, ap, ◌∙◌}
use Rattle.plural_expr.specs.Values.{Rule}
use Rattle.po_text.specs.declared.entry.Entry.{Entry}
use Rattle.po_text.specs.Texts.{Text, maybe_text_eq}
use Rattle.units.specs.declared.unit.Unit.{Unit}
use Rattle.units.specs.Limits.{revision_limit}
use Rattle.units.specs.Units.{forms_needed}
use Rattle.template_update.specs.declared.update.UnitUpdate.{UnitUpdate}
use Rattle.template_update.specs.declared.update.UnitUpdate.TheVariants.{Changed, Kept, Gone, Revived, Untouched}
use Rattle.template_update.specs.Units.{is_useless, emptied, reworded, refit, has_revision}
use Rattle.template_update.specs.Updates.{update_by, still_suggested, taken_back, updated_by, plural_of, updated}
use Rattle.template_update.specs.Moves.{revision_by, moved_by, updated_within}

pub refit-revision : (rule : Rule) (plural : Option Text) (unit : Unit) → (refit rule plural unit).revision ≡ unit.revision
refit-revision rule plural unit =
    elim (is_useless rule plural unit.forms) as (λ b. (cond b (emptied rule plural unit) (cond (not (maybe_text_eq plural unit.plural)) (reworded plural unit) unit)).revision ≡ unit.revision) [
      | true ↦ refl
      | false ↦ elim (maybe_text_eq plural unit.plural) as (λ b. (cond (not b) (reworded plural unit) unit).revision ≡ unit.revision) [ true ↦ refl | false ↦ refl ]
    ]

still-revision : (rule : Rule) (plural : Option Text) (unit : Unit) → (still_suggested rule plural unit).revision ≡ unit.revision
still-revision rule plural unit =
    elim (nat_eq (forms_needed rule plural) (forms_needed rule unit.plural)) as (λ b. (cond b unit (record unit { suggestions = [] })).revision ≡ unit.revision) [ true ↦ refl | false ↦ refl ]

-- the unit afterwards is the moved one at the revision afterwards
pub updated_by-moved : (rule : Rule) (update : UnitUpdate) (plural : Option Text) (unit : Unit) → updated_by rule update plural unit ≡ record (moved_by rule update plural unit) { revision = revision_by update unit.revision }
updated_by-moved rule Changed plural unit =
    ap (λ n. record (moved_by rule Changed plural unit) { revision = n + 1 }) (refit-revision rule plural (still_suggested rule plural unit) ∙ still-revision rule plural unit)
updated_by-moved rule Kept plural unit = refl
updated_by-moved rule Gone plural unit = refl
updated_by-moved rule Revived plural unit = ap (λ n. record (moved_by rule Revived plural unit) { revision = n + 1 }) (refit-revision rule plural (taken_back unit))
updated_by-moved rule Untouched plural unit = refl

module _ (rule : Rule) (present next : Option Entry) (unit : Unit) where
  abbrev after : Unit
  after = updated rule present next unit

  abbrev number : ℕ
  number = revision_by (update_by present next unit) unit.revision

  after-revision : after.revision ≡ number
  after-revision = ap (λ u. u.revision) (updated_by-moved rule (update_by present next unit) (plural_of next) unit)

  -- without a revision afterwards there is no update
  pub not_within : None ≡ cond (nat_le number revision_limit) (Some number) None → None ≡ updated_within rule present next unit
  not_within e = past (nat_le number revision_limit) (ap (λ n. nat_le n revision_limit) after-revision) e
    where
      past : (b : Bool) → has_revision after ≡ b → None ≡ cond b (Some number) None → None ≡ updated_within rule present next unit
      past true same e = cc
      past false same e = sym (ap (λ b. cond b (Some (update_by present next unit, after)) None) same)

  -- with one it is the moved unit at that revision
  pub is_within : (update : UnitUpdate) (plural : Option Text) (own moved : Unit) (revision : ℕ) → update ≡ update_by present next unit → plural ≡ plural_of next → own ≡ unit
      → Some revision ≡ cond (nat_le (revision_by update unit.revision) revision_limit) (Some (revision_by update unit.revision)) None → moved ≡ moved_by rule update plural own
      → Some (update, record moved { revision = revision }) ≡ updated_within rule present next unit
  is_within update plural own moved revision u p o e m =
      let there = is_there (nat_le (revision_by update unit.revision) revision_limit) revision (revision_by update unit.revision) e in
      let at : revision ≡ revision_by update own.revision = there.1 ∙ ap (λ x. revision_by update x.revision) (sym o) in
      let same : record moved { revision = revision } ≡ after =
      (λ i. record (m i) { revision = at i }) ∙ sym (updated_by-moved rule update plural own) ∙ (λ i. updated_by rule (u i) (p i) (o i)) in
      let has : has_revision after ≡ true = ap has_revision (sym same) ∙ ap (λ n. nat_le n revision_limit) there.1 ∙ there.0 in
      (λ i. Some (u i, same i)) ∙ sym (ap (λ b. cond b (Some (update_by present next unit, after)) None) has)
    where
      is_there : (b : Bool) (x n : ℕ) → Some x ≡ cond b (Some n) None → (b ≡ true) × (x ≡ n)
      is_there true x n e = (refl, cc)
      is_there false x n e = cc
