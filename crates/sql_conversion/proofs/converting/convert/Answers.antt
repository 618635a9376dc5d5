use Rattle.std.proofs.Common.{◌≡◌, List, subst, rules}
use Rattle.sqlite.specs.Effect.{Database}
use Rattle.sqlite.specs.Held.{state}
use Rattle.po_text.specs.Texts.{Text}
use Rattle.office_maps.specs.OfficeIn.{office_in}
use Rattle.sql_schema.specs.Inside.{IsSteadyOver, IsSteadyForMain}
use Rattle.sql_schema.specs.Layouts.{Form, by_domain}
use Rattle.sql_schema.specs.Whole.{IsCommitOf}
use Rattle.sql_statements.proofs.LookedUp.{steady_begun}
use Rattle.sql_commits.proofs.FiguresInTurn.{write_joined}
use Rattle.sql_layouts.specs.Tables.{form_told}
use Rattle.sql_schema.proofs.Layouts.{of_main}
use Rattle.sql_conversion.specs.Conversion.{WritesAnew, FollowsLanguages, Converts}
use Rattle.sql_conversion.proofs.OneTransaction.{finishes, commits_as}
use Rattle.sql_conversion.proofs.Whole.{converts_adopted}
use Rattle.sql_decoding.specs.DiskFailures.{FailsTruly}
use Rattle.sql_commits.proofs.WholeTransactions.{finishes_truly}
use Rattle.sql_conversion.proofs.converting.convert.Goals as goal

pub write_anew-written-requires : goal.write_anew-written-requires
write_anew-written-requires g c =
    let adopted = c.args.adopted.now in
    let begun = state g.S.Store c.transaction-tx.result.conn.now in
    record {
      steady = of_main (λ (form : Form). IsSteadyOver form begun → IsSteadyForMain begun) (form_told adopted.form) c.requires.form (λ figures steady. (figures, steady))
          (steady_begun g.S.Store c.args.connection.now c.transaction-tx.result.conn.now c.transaction-tx.ensures.begun c.requires.idle);
    }

pub returns-clause-converted : goal.returns-clause-converted
returns-clause-converted g c =
    let old = c.args.connection.now in
    let adopted = c.args.adopted.now in
    let langs = c.as_slice.result.now in
    let office = office_in adopted.maps in
    let Makes = λ (before after : Database). WritesAnew office langs before after × FollowsLanguages office langs before after in
    let begun = c.transaction-tx.result.conn.now in
    let written = c.write_anew-written.new.tx.conn.now in
    let same : c.finish.new.tx.0 ≡ c.connection-1.given.0 = search rules in
    let all : langs ≡ adopted.langs.items = search rules in
    let whole = subst (λ h. IsCommitOf by_domain (state g.S.Store old) (state g.S.Store h) c.finish.result Makes) same
    (finishes g.S.Store old begun c.finish.new.tx.0 c.transaction-tx.ensures.begun c.requires.idle c.finish.ensures.ended Makes c.finish.ensures.finished
    (write_joined (state g.S.Store begun) (state g.S.Store written) c.write_anew-written.result (WritesAnew office langs) (FollowsLanguages office langs) Makes (λ made counted. (made, counted)) c.write_anew-written.ensures.put c.write_anew-written.ensures.figures)) in
    commits_as (state g.S.Store old) (state g.S.Store c.connection-1.given.0) c.finish.result Makes Converts
    (λ clean is_open after ready made. converts_adopted (state g.S.Store old).now after adopted (c.requires.adopted clean is_open) ready
    (subst (λ (ls : List Text). WritesAnew office ls (state g.S.Store old).now after × FollowsLanguages office ls (state g.S.Store old).now after) all made) c.requires.form (c.requires.idle.ready clean is_open)) whole

pub returns-clause-disk : goal.returns-clause-disk
returns-clause-disk g c =
    let old = c.args.connection.now in
    let written = c.write_anew-written in
    let same : c.finish.new.tx.0 ≡ c.connection-1.given.0 = search rules in
    subst (λ h. FailsTruly (state g.S.Store old) (state g.S.Store h) c.finish.result) same
    (finishes_truly g.S.Store old c.transaction-tx.result.conn.now written.new.tx.conn.now c.finish.new.tx.0 c.transaction-tx.ensures.begun (λ _. ⊥) written.result c.finish.result written.ensures.put.survives c.finish.ensures.finished
    written.ensures.disk c.finish.ensures.disk)
