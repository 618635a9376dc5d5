use Rattle.std.proofs.Common.{Result, Ok, Err, OnOk, sym, ap, ◌∙◌}
use Rattle.std.specs.Prelude.{option_copied}
use Rattle.units.specs.declared.unit.Unit.{Unit}
use Rattle.office_maps.specs.OfficeIn.{lent_project, place_of}
use Rattle.sql_adoption.proofs.NotedUnits.{counted_more, obsolete_counted, unit_added}
use Rattle.sql_adoption.proofs.unit_sinks.count.Goals as goal

pub returns-then-shown : goal.returns-then-shown
returns-then-shown c = λ row place unit suggestions.
    let template = (lent_project c.args.project.now).template in
    unit_added template c.args.tally.now c.add.new.self row (place_of c.args.shown.now.place) c.args.shown.now.unit (option_copied c.entry_of-entry.result) place unit c.entry_of-entry.ensures c.in_ok-add.ensures
    ∙ obsolete_counted template c.args.tally.now row (ap (λ (u : Unit). u.obsolete) (sym unit) ∙ c.if-shown.true)

on_ok : {T E : Type 0} (r : Result T E) (P Q : Type 0) → (P → Q) → OnOk r P → OnOk r Q
on_ok (Ok x) P Q f h = f h
on_ok (Err e) P Q f h = tt

pub returns : goal.returns
returns c = on_ok c.add_suggestions.result _ _ (λ added row place unit suggestions.
    let template = (lent_project c.args.project.now).template in
    counted_more template c.args.tally.now c.add.new.self c.add_suggestions.new.tally row c.args.shown.now.suggestions
    (unit_added template c.args.tally.now c.add.new.self row (place_of c.args.shown.now.place) c.args.shown.now.unit (option_copied c.entry_of-entry.result) place unit c.entry_of-entry.ensures c.in_ok-add.ensures)
    added suggestions (ap (λ (u : Unit). u.obsolete) (sym unit) ∙ c.if-shown.false)) c.add_suggestions.ensures
