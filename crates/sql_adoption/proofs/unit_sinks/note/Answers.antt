use Rattle.std.proofs.Common.{Result, Ok, Err, OnOk, inl, inr, true, false, not, cond, refl, sym, ap, ◌∙◌, ◌+◌}
use Rattle.std.proofs.lemmas.Bool.{false≢true}
use Rattle.units.specs.declared.unit.Unit.{Unit}
use Rattle.office_maps.specs.OfficeIn.{lent_project}
use Rattle.sql_adoption.specs.declared.unit_sinks.Told.{Told}
use Rattle.sql_adoption.proofs.NotedUnits.{noted_broken, noted_kept, noted_nothing}
use Rattle.sql_adoption.proofs.unit_sinks.note.Goals as goal

pub returns-then-not-told : goal.returns-then-not-told
returns-then-not-told c = λ row place unit suggestions stands. noted_nothing (lent_project c.args.project.now) c.args.told.now row stands c.if-not-told.true

pub returns-then-not-kept : goal.returns-then-not-kept
returns-then-not-kept c = λ row place unit suggestions stands.
    noted_broken (lent_project c.args.project.now) c.args.told.now row stands (record c.args.told.now { kept = false }) refl
    (inl (λ keep. false≢true (sym c.if-not-kept.true ∙ (c.is_kept-kept.ensures row place unit suggestions).1 keep)))

pub returns-then-units-ge-UNIT_LIMIT : goal.returns-then-units-ge-UNIT_LIMIT
returns-then-units-ge-UNIT_LIMIT c = λ row place unit suggestions stands.
    noted_broken (lent_project c.args.project.now) c.args.told.now row stands (record c.args.told.now { kept = false }) refl (inr c.if-units-ge-UNIT_LIMIT.true)

on_ok : {T E : Type 0} (r : Result T E) (P Q : Type 0) → (P → Q) → OnOk r P → OnOk r Q
on_ok (Ok x) P Q f h = f h
on_ok (Err e) P Q f h = tt

pub returns : goal.returns
returns c = on_ok c.count.result _ _ (λ counted row place unit suggestions stands.
    let told = c.args.told.now in
    let after : Told = record { kept = told.kept; units = told.units + 1; current = c.in_ok-current.current; tally = c.count.new.tally } in
    noted_kept (lent_project c.args.project.now) told row stands after c.if-not-told.false c.if-not-told.false ((c.is_kept-kept.ensures row place unit suggestions).0 c.if-not-kept.false) c.if-units-ge-UNIT_LIMIT.false refl
    (c.in_ok-current.ensures ∙ ap (λ (u : Unit). told.current + cond (not u.obsolete) 1 0) unit) (counted row place unit suggestions)) c.count.ensures
