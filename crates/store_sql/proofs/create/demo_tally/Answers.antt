use Rattle.std.proofs.Common.{◌≡◌, Some, [], ◌∷◌, refl, sym, ap, ap₂, ◌∙◌, codes}
use Rattle.units.specs.Openings.{plain_entry, demo_domain, demo_unit}
use Rattle.units.specs.Project.{entry_of}
use Rattle.units.specs.declared.unit.Unit.{Unit}
use Rattle.office_specification.specs.Counting.{plus, none_counted}
use Rattle.office_specification.specs.Tally.{counts_in}
use Rattle.office_specification.specs.declared.tally.Tally.{Tally}
use Rattle.store_sql.proofs.create.demo_tally.Goals as goal

pub returns : goal.returns
returns c =
    let own : Some (plain_entry (codes "Hello") []) ≡ entry_of demo_domain.template demo_unit.key = refl in
    let one = c.in_ok-add.ensures demo_domain.template (ap Some c.in_ok-entry.ensures ∙ own ∙ sym (ap (λ (u : Unit). entry_of demo_domain.template u.key) c.in_ok-unit.ensures)) in
    let alone : plus none_counted (counts_in demo_domain.template (demo_unit ∷ [])) ≡ counts_in demo_domain.template (demo_unit ∷ []) = refl in
    one ∙ ap₂ (λ (t : Tally) (u : Unit). plus t (counts_in demo_domain.template (u ∷ []))) c.none-tally.ensures c.in_ok-unit.ensures ∙ alone
