use Rattle.std.proofs.Common.{List, map, sym, ap, ◌∙◌}
use Rattle.po_text.specs.declared.entry.Entry.{Entry}
use Rattle.replies.specs.Bodies.{reply, template_fields}
use Rattle.office_specification.specs.ProjectActs.{LanguagePlan, with_template}
use Rattle.office_specification.specs.Tally.{counts_in}
use Rattle.office_specification.proofs.acts.Possible.{plans_of_all, none_goes}
use Rattle.office_specification.proofs.acts.PlansApart.{plans_apart}
use Rattle.office_specification.proofs.acts.StaysThere.{stays_there}
use Rattle.outcomes.proofs.template_act.with_plans.Goals as goal

pub returns-in-Ok : goal.returns-in-Ok
returns-in-Ok c =
    let next = c.args.next.catalogue in
    let all = c.args.plans.items in
    λ project planned. record {
      is = λ i. (
        with_template project (c.into_catalogue.ensures i) all,
        (c.in-Ok.ensures.reply ∙ ap (λ (ps : List LanguagePlan). reply 200 (template_fields (map (λ (p : LanguagePlan). (p.0, p.1.counts)) ps))) c.as_slice.ensures.value) i,
      );
      possible = record {
        each = plans_of_all project next all planned;
        tallied = c.in-Ok.ensures.tallies ∙ (λ i. map (λ (p : LanguagePlan). (p.0, counts_in (sym c.into_catalogue.ensures i) p.1.units)) (c.as_slice.ensures.value i));
        apart = plans_apart c.plans_keep_units.ensures project next all planned c.requires.valid.unique;
        none_goes = none_goes c.plans_keep_units.ensures project next all planned;
        still = stays_there c.plans_keep_units.ensures project next all planned;
      };
    }
