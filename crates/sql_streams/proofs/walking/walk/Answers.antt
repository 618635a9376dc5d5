use Rattle.std.proofs.Common.{◌≡◌, inl, inr, rules, refl, sym, ap, subst, ◌∙◌, arith, None, Some}
use Rattle.std.specs.Option.{option_copied}
use Rattle.sqlite.specs.Held.{state}
use Rattle.sqlite.specs.Given.{Advances}
use Rattle.sqlite.specs.State.{HasCleanDisk, FailsToQuery}
use Rattle.sqlite.specs.Values.{bound}
use Rattle.sql_laws.specs.DiskErrors.{HasFailed}
use Rattle.sql_laws.proofs.DiskErrors.{query_of_disk}
use Rattle.sql_streams.proofs.Connections.{failed_stays}
use Rattle.sql_streams.proofs.Steps.{commits_nothing, walk_begun, walk_on, walk_refused, walk_ended, walk_failed, failed_truly, failed_as_query}
use Rattle.sql_streams.proofs.walking.walk.Goals as goal

pub returns-in-Err-clause-stays : goal.returns-in-Err-clause-stays
returns-in-Err-clause-stays g c clean is_open =
    let refused = rw c.in-Err.is at c.query.follows.holds-at-none in
    failed_stays c.args.sql.now (bound c.args.params.now) (state g.S.Store c.args.connection.now) (state g.S.Store c.query.follows.lender-at-none) c.in-Err.error (refused.err clean) is_open

pub returns-in-Err-clause-survives : goal.returns-in-Err-clause-survives
returns-in-Err-clause-survives g c =
    let refused = rw c.in-Err.is at c.query.follows.holds-at-none in
    commits_nothing g.S.Store g.K.RowSink.Took c.args.sql.now (bound c.args.params.now) c.args.connection.now c.requires.plain c.args.sink.now c.query.follows.lender-at-none refused.survives

pub rows-init : goal.rows-init
rows-init g c =
    let made = c.in-Ok.ensures in
    (refl, walk_begun g.S.Store g.K.RowSink.Took c.args.sql.now (bound c.args.params.now) c.args.connection.now c.requires.plain c.args.sink.now c.in-Ok.rows.conn.now (g.met.K.RowSink.none c.args.sink.now) made.begun made.mode made.survives)

pub returns-in-Err-advance-clause-cut : goal.returns-in-Err-advance-clause-cut
returns-in-Err-advance-clause-cut g c clean =
    let late : HasCleanDisk (state g.S.Store c.advance.new.self.conn.now) = search rules in
    walk_failed g.S.Store g.K.RowSink.Took c.args.sql.now (bound c.args.params.now) c.args.connection.now c.requires.plain c.args.sink.now c.rows.rows.conn.now c.rows.sink c.rows.invariant.1
    (omega (arith, late, c.advance.ensures.survives.clean))

pub returns-in_default-get-clause-all : goal.returns-in_default-get-clause-all
returns-in_default-get-clause-all g c clean =
    let late : HasCleanDisk (state g.S.Store c.advance.new.self.conn.now) = search rules in
    let ended : HasCleanDisk (state g.S.Store c.advance.new.self.conn.now) → Advances g.S.Store c.rows.rows.conn.now c.advance.new.self.conn.now None =
    λ early. subst (Advances g.S.Store c.rows.rows.conn.now c.advance.new.self.conn.now) (sym c.get.ensures ∙ ap option_copied c.in_default-get.is) (c.in_default.ensures.ok early) in
    walk_ended g.S.Store g.K.RowSink.Took c.args.sql.now (bound c.args.params.now) c.args.connection.now c.requires.plain c.args.sink.now c.rows.rows.conn.now c.advance.new.self.conn.now c.rows.sink c.rows.invariant.1
    c.advance.ensures.survives ended late

pub returns-in-Err-take-clause-cut : goal.returns-in-Err-take-clause-cut
returns-in-Err-take-clause-cut g c clean =
    let late : HasCleanDisk (state g.S.Store c.advance.new.self.conn.now) = search rules in
    let moved : HasCleanDisk (state g.S.Store c.advance.new.self.conn.now) → Advances g.S.Store c.rows.rows.conn.now c.advance.new.self.conn.now (Some c.in-Some.row.now) =
    λ early. subst (Advances g.S.Store c.rows.rows.conn.now c.advance.new.self.conn.now) (sym c.get.ensures ∙ ap option_copied c.in-Some.is) (c.in_default.ensures.ok early) in
    walk_refused g.S.Store g.K.RowSink.Took c.args.sql.now (bound c.args.params.now) c.args.connection.now c.requires.plain c.args.sink.now c.rows.rows.conn.now c.advance.new.self.conn.now c.rows.sink c.rows.invariant.1
    c.advance.ensures.survives g.K.RowSink.Refuses c.in-Some.row.now c.take.new.self c.in-Err-take.refusal c.in-Err-take.ensures.err moved c.in_default.ensures.same late

pub rows-preserved : goal.rows-preserved
rows-preserved g c =
    let moved : HasCleanDisk (state g.S.Store c.advance.new.self.conn.now) → Advances g.S.Store c.rows.rows.conn.now c.advance.new.self.conn.now (Some c.in-Some.row.now) =
    λ early. subst (Advances g.S.Store c.rows.rows.conn.now c.advance.new.self.conn.now) (sym c.get.ensures ∙ ap option_copied c.in-Some.is) (c.in_default.ensures.ok early) in (
      c.advance.ensures.same_reference ∙ c.rows.invariant.0,
      walk_on g.S.Store g.K.RowSink.Took c.args.sql.now (bound c.args.params.now) c.args.connection.now c.requires.plain c.args.sink.now c.rows.rows.conn.now c.advance.new.self.conn.now c.rows.sink c.rows.invariant.1
          c.advance.ensures.survives c.in-Some.row.now c.take.new.self (g.met.K.RowSink.more _ _ _ _ _ c.rows.invariant.1.took c.in_default-take.ensures.ok) c.advance.ensures.mode moved c.in_default.ensures.same,
    )

pub returns-clause-cut : goal.returns-clause-cut
returns-clause-cut g c clean =
    let late : HasCleanDisk (state g.S.Store c.rows.rows.conn.now) = search rules in
    walk_failed g.S.Store g.K.RowSink.Took c.args.sql.now (bound c.args.params.now) c.args.connection.now c.requires.plain c.args.sink.now c.rows.rows.conn.now c.rows.sink c.rows.invariant.1 late

pub returns-in-Err-clause-disk : goal.returns-in-Err-clause-disk
returns-in-Err-clause-disk g c clean =
    let refused = rw c.in-Err.is at c.query.follows.holds-at-none in
    query_of_disk (state g.S.Store c.args.connection.now) (state g.S.Store c.query.follows.lender-at-none) c.in-Err.error c.args.sql.now (bound c.args.params.now) (inl (refused.err clean))

pub returns-in-Err-advance-clause-disk : goal.returns-in-Err-advance-clause-disk
returns-in-Err-advance-clause-disk g c clean blamed =
    let late : HasCleanDisk (state g.S.Store c.advance.new.self.conn.now) = search rules in
    let same : c.advance.new.self.conn.now ≡ c.connection-in-Err-advance-1.given.0 = search rules in
    subst (λ h. HasFailed (state g.S.Store c.args.connection.now) (state g.S.Store h)) same
    (failed_truly g.S.Store g.K.RowSink.Took c.args.sql.now (bound c.args.params.now) c.args.connection.now c.requires.plain c.args.sink.now c.rows.rows.conn.now c.advance.new.self.conn.now c.rows.sink c.rows.invariant.1
    c.advance.ensures.survives c.in-Err-advance.error c.in-Err-advance.ensures.err late blamed)

pub returns-in-Err-clause-errors : goal.returns-in-Err-clause-errors
returns-in-Err-clause-errors g c clean =
    let refused = rw c.in-Err.is at c.query.follows.holds-at-none in
    inr (refused.err clean)

pub returns-in-Err-advance-clause-errors : goal.returns-in-Err-advance-clause-errors
returns-in-Err-advance-clause-errors g c clean =
    let late : HasCleanDisk (state g.S.Store c.advance.new.self.conn.now) = search rules in
    let same : c.advance.new.self.conn.now ≡ c.connection-in-Err-advance-1.given.0 = search rules in
    inr (subst (λ h. FailsToQuery c.args.sql.now (bound c.args.params.now) (state g.S.Store c.args.connection.now) (state g.S.Store h) c.in-Err-advance.error) same
    (failed_as_query g.S.Store g.K.RowSink.Took c.args.sql.now (bound c.args.params.now) c.args.connection.now c.requires.plain c.args.sink.now c.rows.rows.conn.now c.advance.new.self.conn.now c.rows.sink c.rows.invariant.1
    c.advance.ensures.survives c.in-Err-advance.error c.in-Err-advance.ensures.err late))
