use Rattle.std.proofs.Common.{◌≡◌, map, ap, ◌∙◌}
use Rattle.std.specs.Prelude.{codes}
use Rattle.std.proofs.lemmas.Result.{IfOk-weaker}
use Rattle.serde_json.specs.Data.{Data, object, no_members, put}
use Rattle.serde_json.specs.View.{view, members_view}
use Rattle.serde_json.specs.Written.{compact_text}
use Rattle.serde_json.specs.declared.value.Value.{Object}
use Rattle.serde_json.proofs.Views.{view-Object}
use Rattle.request_book.specs.Replies.{Reply}
use Rattle.request_book.specs.Words.{object_of}
use Rattle.po_text.specs.Texts.{Text}
use Rattle.template_update.specs.declared.plans.Plan.{Plan}
use Rattle.replies.specs.Bodies.{template_fields}
use Rattle.outcomes.proofs.Objects.{template_told}
use Rattle.outcomes.proofs.bodies.template_set.Goals as goal

abbrev reply_with : Data → Reply
reply_with told = record { status = 200; body = compact_text told }

pub returns : goal.returns
returns c =
    let languages = c.in_ok-languages.languages.map in
    let puts : members_view c.in_ok-member.field-0.map.entries ≡ put (codes "languages") (view (Object languages)) no_members =
    c.in_ok-member.ensures ∙ ap (λ es. put (codes "languages") (view (Object languages)) (members_view es)) c.new.ensures in
    let told : object (members_view c.in_ok-member.field-0.map.entries) ≡ object_of (template_fields (map (λ (p : Text × Plan). (p.0, p.1.counts)) c.args.plans.now)) =
    ap object puts ∙ (ap (λ d. object (put (codes "languages") d no_members)) (view-Object languages ∙ c.in_ok-languages.ensures.value) ∙ template_told c.args.plans.now) in
    IfOk-weaker c.reply.result _ _ (λ made is. is ∙ ap reply_with told) c.reply.ensures
