use Rattle.std.proofs.Common.{rules}
use Rattle.sqlite.specs.Held.{state}
use Rattle.sql_statements.specs.Queries.{ShowsObsoleteIn}
use Rattle.sql_schema.specs.Layouts.{rows_named}
use Rattle.sql_schema.specs.SeenRows.{seen_in}
use Rattle.sql_exports.proofs.CutsBlame.{walk_cuts}
use Rattle.sql_exports.proofs.Handed.{all_given, cut_given, cut_same}
use Rattle.sql_exports.proofs.handing.hand_obsolete.Goals as goal

pub returns-in-Ok-clause-handed : goal.returns-in-Ok-clause-handed
returns-in-Ok-clause-handed g c entries are clean =
    let handed = c.in-Ok.ensures.handed clean in
    let same = handed.took.same_reference in
    let held = handed.took.held_reference in
    let it = all_given (λ rows. rows.sink) (λ rows. rows.held) g.K.EntrySink.Took g.K.EntrySink.Refuses g.R.EntryReader.entry (ShowsObsoleteIn c.args.lang.now (seen_in c.args.domain.now (rows_named (state g.S.Store c.args.connection.now).now))) entries are c.new-rows.result c.walk_domain_obsolete.new.sink handed in
    search rules

pub returns-in-Err-clause-handed : goal.returns-in-Err-clause-handed
returns-in-Err-clause-handed g c entries are clean =
    let handed = c.in-Err.ensures.handed clean in
    let same = cut_same (λ rows. rows.sink) (λ rows. rows.held) g.K.EntrySink.Took g.K.EntrySink.Refuses g.R.EntryReader.entry (ShowsObsoleteIn c.args.lang.now (seen_in c.args.domain.now (rows_named (state g.S.Store c.args.connection.now).now))) entries are c.new-rows.result c.walk_domain_obsolete.new.sink c.in-Err.fault handed in
    let it = cut_given (λ rows. rows.sink) (λ rows. rows.held) g.K.EntrySink.Took g.K.EntrySink.Refuses g.R.EntryReader.entry (ShowsObsoleteIn c.args.lang.now (seen_in c.args.domain.now (rows_named (state g.S.Store c.args.connection.now).now))) entries are c.new-rows.result c.walk_domain_obsolete.new.sink c.in-Err.fault c.walk_fault.result c.walk_fault.ensures handed in
    search rules

pub returns-in-Err-clause-disk : goal.returns-in-Err-clause-disk
returns-in-Err-clause-disk g c =
    walk_cuts (state g.S.Store c.args.connection.now) (state g.S.Store c.walk_domain_obsolete.new.connection) c.in-Err.fault c.walk_fault.result c.walk_fault.ensures c.in-Err.ensures.disk
