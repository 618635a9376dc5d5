use Rattle.std.proofs.Common.{◌≡◌, true, inl, refl, subst}
use Rattle.office.specs.Writers.{writer_at}
use Rattle.http_messages.specs.declared.refusal.Refusal.TheVariants.{Malformed}
use Rattle.http_messages.specs.declared.message.Asked.{Asked as AskedValue}
use Rattle.http_messages.specs.Asked as ask
use Rattle.http_messages.specs.Askings.{IsAsked, language_at}
use Rattle.http_messages.specs.Pairs.{name_of}
use Rattle.http_api.specs.Outcomes.{posted, failed, outcome_answer}
use Rattle.http_api.specs.Answers.{refusal_text}
use Rattle.http_api.proofs.Coming.{told}
use Rattle.http_api.proofs.Counting.{tells_failures}
use Rattle.http_api.proofs.Exporting.{tells_writes}
use Rattle.http_api.proofs.Serving.{asked_so}
use Rattle.http_api.proofs.answers.answer.Goals as goal

pub returns-in-Refused-clause-answered : goal.returns-in-Refused-clause-answered
returns-in-Refused-clause-answered g c = λ question is.
    let P : AskedValue → Type 0 = λ asked. IsAsked asked question in (
      failed c.in-Refused.refusal,
      asked_so _ _ _ _ _ _ _ _ question (ask.refused c.in-Refused.refusal) (failed c.in-Refused.refusal) (subst P c.in-Refused.is is)
          (told _ _ _ _ _ _ _ _ (ask.refused c.in-Refused.refusal) (failed c.in-Refused.refusal) refl (λ h. h) (λ h w. w) (λ s. s) (λ since ran. ran) (λ h w. refl) (λ h m left. inl left) (λ office place. refl)),
      tells_writes _ _ (writer_at g.W.ByteSink.taken g.W.ByteSink.failed c.args.w.now) (writer_at g.W.ByteSink.taken g.W.ByteSink.failed c.send_refusal.new.w) (failed c.in-Refused.refusal) c.args.last c.send_refusal.result c.send_refusal.ensures,
    )

pub returns-in-Request-clause-answered : goal.returns-in-Request-clause-answered
returns-in-Request-clause-answered g c = λ question is.
    let P : AskedValue → Type 0 = λ asked. IsAsked asked question in
    let parts = subst P c.in-Request.is is in
    let came = c.answer_post.ensures.answered parts.0 parts.1 in (
      posted came.0,
      asked_so _ _ _ _ _ _ _ _ question (ask.request c.in-Request.parts.number.now parts.0 c.in-Request.parts.body.now) (posted came.0) parts.2 came.1,
      tells_writes _ _ (writer_at g.W.ByteSink.taken g.W.ByteSink.failed c.args.w.now) (writer_at g.W.ByteSink.taken g.W.ByteSink.failed c.answer_post.new.w) (posted came.0) c.args.last c.answer_post.result came.2,
    )

pub returns-in-Export-clause-answered : goal.returns-in-Export-clause-answered
returns-in-Export-clause-answered g c = λ question is.
    let P : AskedValue → Type 0 = λ asked. IsAsked asked question in
    let came = c.answer_export.ensures.answered in
    (came.0, asked_so _ _ _ _ _ _ _ _ question (ask.export (language_at c.in-Export.name)) came.0 (subst P c.in-Export.is is) came.1, came.2)

pub returns-in-Unit-clause-answered : goal.returns-in-Unit-clause-answered
returns-in-Unit-clause-answered g c = λ question is.
    let P : AskedValue → Type 0 = λ asked. IsAsked asked question in
    let came = c.answer_unit.ensures in (
      came.0,
      asked_so _ _ _ _ _ _ _ _ question (ask.unit (name_of c.in-Unit.name)) came.0 (subst P c.in-Unit.is is) came.1,
      tells_writes _ _ (writer_at g.W.ByteSink.taken g.W.ByteSink.failed c.args.w.now) (writer_at g.W.ByteSink.taken g.W.ByteSink.failed c.answer_unit.new.w) came.0 c.args.last c.answer_unit.result came.2,
    )

pub returns-in-Unnamed-clause-answered : goal.returns-in-Unnamed-clause-answered
returns-in-Unnamed-clause-answered g c = λ question is.
    let P : AskedValue → Type 0 = λ asked. IsAsked asked question in (
      failed Malformed,
      asked_so _ _ _ _ _ _ _ _ question ask.unnamed (failed Malformed) (subst P c.in-Unnamed.is is)
          (told _ _ _ _ _ _ _ _ ask.unnamed (failed Malformed) refl (λ h. h) (λ h w. w) (λ s. s) (λ since ran. ran) (λ h w. refl) (λ h m left. inl left) (λ office place. inl refl)),
      tells_writes _ _ (writer_at g.W.ByteSink.taken g.W.ByteSink.failed c.args.w.now) (writer_at g.W.ByteSink.taken g.W.ByteSink.failed c.send_refusal-in-Unnamed.new.w) (failed Malformed) c.args.last c.send_refusal-in-Unnamed.result c.send_refusal-in-Unnamed.ensures,
    )

pub returns-in-Stats-clause-answered : goal.returns-in-Stats-clause-answered
returns-in-Stats-clause-answered g c = λ question is.
    let P : AskedValue → Type 0 = λ asked. IsAsked asked question in
    let came = c.answer_stats.ensures in (
      came.0,
      asked_so _ _ _ _ _ _ _ _ question (ask.stats (language_at c.in-Stats.name)) came.0 (subst P c.in-Stats.is is) came.1,
      tells_writes _ _ (writer_at g.W.ByteSink.taken g.W.ByteSink.failed c.args.w.now) (writer_at g.W.ByteSink.taken g.W.ByteSink.failed c.answer_stats.new.w) came.0 c.args.last c.answer_stats.result came.2,
    )

-- ---- failures of the writer

pub returns-in-Refused-clause-failures : goal.returns-in-Refused-clause-failures
returns-in-Refused-clause-failures g c =
    let old = writer_at g.W.ByteSink.taken g.W.ByteSink.failed c.args.w.now in
    let new = writer_at g.W.ByteSink.taken g.W.ByteSink.failed c.send_refusal.new.w in
    tells_failures (g.T.Tables.is_stopped c.args.desk.now ≡ true) old new (refusal_text c.in-Refused.refusal c.args.last) c.send_refusal.result c.send_refusal.ensures

pub returns-in-Request-clause-failures : goal.returns-in-Request-clause-failures
returns-in-Request-clause-failures g c = c.answer_post.ensures.failures

pub returns-in-Export-clause-failures : goal.returns-in-Export-clause-failures
returns-in-Export-clause-failures g c = c.answer_export.ensures.failures

pub returns-in-Unit-clause-failures : goal.returns-in-Unit-clause-failures
returns-in-Unit-clause-failures g c =
    let came = c.answer_unit.ensures in
    let old = writer_at g.W.ByteSink.taken g.W.ByteSink.failed c.args.w.now in
    let new = writer_at g.W.ByteSink.taken g.W.ByteSink.failed c.answer_unit.new.w in
    tells_failures (g.T.Tables.is_stopped c.answer_unit.new.desk ≡ true) old new (outcome_answer came.0 c.args.last) c.answer_unit.result came.2

pub returns-in-Unnamed-clause-failures : goal.returns-in-Unnamed-clause-failures
returns-in-Unnamed-clause-failures g c =
    let old = writer_at g.W.ByteSink.taken g.W.ByteSink.failed c.args.w.now in
    let new = writer_at g.W.ByteSink.taken g.W.ByteSink.failed c.send_refusal-in-Unnamed.new.w in
    tells_failures (g.T.Tables.is_stopped c.args.desk.now ≡ true) old new (refusal_text Malformed c.args.last) c.send_refusal-in-Unnamed.result c.send_refusal-in-Unnamed.ensures

pub returns-in-Stats-clause-failures : goal.returns-in-Stats-clause-failures
returns-in-Stats-clause-failures g c =
    let came = c.answer_stats.ensures in
    let old = writer_at g.W.ByteSink.taken g.W.ByteSink.failed c.args.w.now in
    let new = writer_at g.W.ByteSink.taken g.W.ByteSink.failed c.answer_stats.new.w in
    tells_failures (g.T.Tables.is_stopped c.answer_stats.new.desk ≡ true) old new (outcome_answer came.0 c.args.last) c.answer_stats.result came.2
