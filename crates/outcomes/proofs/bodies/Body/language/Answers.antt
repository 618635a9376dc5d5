use Rattle.std.proofs.Common.{ap, ◌∙◌}
use Rattle.std.proofs.lemmas.Result.{IfOk-weaker}
use Rattle.serde_json.specs.Data.{Data, put}
use Rattle.serde_json.specs.View.{members_view}
use Rattle.serde_json.proofs.Views.{view-Object}
use Rattle.request_book.specs.Words.{object_of}
use Rattle.replies.specs.Bodies.{count_fields}
use Rattle.outcomes.proofs.bodies.Body.language.Goals as goal

pub returns-in-Ok : goal.returns-in-Ok
returns-in-Ok c =
    let ms = members_view c.args.self.map.entries in
    IfOk-weaker c.member.result _ _
    (λ body is. is ∙ (ap (λ (d : Data). put c.as_str.result.now d ms) (view-Object c.in-Ok.counts.map ∙ c.in-Ok.ensures.value)
    ∙ ap (λ k. put k (object_of (count_fields c.args.counts)) ms) c.as_str.ensures.value))
    c.member.ensures
