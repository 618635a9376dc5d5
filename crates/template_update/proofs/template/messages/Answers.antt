use Rattle.std.proofs.Common.{[], take, sym, ap, ◌∙◌}
use Rattle.template_update.specs.Templates.{as_template, is_message, template_of}
use Rattle.template_update.proofs.Taken.{next_taken, map-kept, map-left}
use Rattle.template_update.proofs.template.messages.Goals.{then-is_message+in_ok-as_template+in_ok-push, else-is_message}
use Rattle.template_update.proofs.template.messages.Goals as goal

pub loop-entry-preserved : goal.loop-entry-preserved
loop-entry-preserved c =
    let front = take c.loop-entry.entry-index c.args.entries.now in
    let taken = next_taken c.args.entries.now c.loop-entry.entry-index c.entry-item.result c.loop-entry-test.true c.entry-item.is in
    elim c.if-is_message.branch [
      | then-is_message+in_ok-as_template+in_ok-push w ↦
          ap (λ v. v.items) w.all-is ∙ w.in_ok-push.ensures.items
          ∙ map-kept is_message as_template front c.entry-item.result [] c.loop-entry.all.items w.in_ok-as_template.field-0 (sym c.is_message.ensures ∙ w.if-is_message.true) c.loop-entry.invariant w.in_ok-as_template.ensures
          ∙ ap template_of (sym taken)
      | else-is_message w ↦
          ap (λ v. v.items) w.all-is
          ∙ map-left is_message as_template front c.entry-item.result [] c.loop-entry.all.items (sym c.is_message.ensures ∙ w.if-is_message.false) c.loop-entry.invariant
          ∙ ap template_of (sym taken)
    ]
