use Rattle.std.proofs.Common.{Ok, subst}
use Rattle.sqlite.specs.Held.{state}
use Rattle.sqlite.specs.declared.error.Error.{Error}
use Rattle.sql_schema.specs.Layouts.{by_domain, rows_named}
use Rattle.sql_schema.specs.SeenRows.{seen_in}
use Rattle.sql_schema.specs.Whole.{IsLookUp}
use Rattle.sql_statements.specs.WholeOffice.{ShowsWholeOfficeIn}
use Rattle.sql_adoption.specs.ReadParts.{part_of}
use Rattle.sql_adoption.specs.Reading.{AddsDomain}
use Rattle.sql_layouts.proofs.Looked.{looked_on, looked_ready}
use Rattle.sql_adoption.proofs.OpensBlame.{statement_opens, never_opens}
use Rattle.sql_adoption.proofs.Read.{domains_put, domain_refused, all_refused}
use Rattle.sql_adoption.proofs.domains_read.read_domain.Goals as goal

pub returns-clause-found : goal.returns-clause-found
returns-clause-found g c =
    let old = state g.S.Store c.args.connection.now in
    let new = state g.S.Store c.look_up.new.connection in
    let domain = c.args.domain.now in
    looked_on old new {E = Error} c.in_ok-rows.rows c.put_told-put.result (λ db rows. ShowsWholeOfficeIn (seen_in domain (part_of c.args.part (rows_named db))) rows)
    (λ db _. AddsDomain domain (part_of c.args.part (rows_named db)) c.args.maps.now c.put_told-put.new.maps)
    (subst (λ name. IsLookUp {E = Error} old new (Ok c.in_ok-rows.rows) (λ db rows. ShowsWholeOfficeIn (seen_in name (part_of c.args.part (rows_named db))) rows)) c.as_str.ensures.value c.in_ok-rows.ensures.found)
    (λ early is_open shows. domains_put c.args.part old.now (c.requires.idle.ready early is_open) domain c.in_ok-rows.rows shows c.put_told-put.result c.args.maps.now c.put_told-put.new.maps
    c.put_told-put.ensures.put c.put_told-put.ensures.told)

pub returns-clause-refused : goal.returns-clause-refused
returns-clause-refused g c =
    let old = state g.S.Store c.args.connection.now in
    let new = state g.S.Store c.look_up.new.connection in
    let domain = c.args.domain.now in
    all_refused by_domain c.in_ok-rows.rows old.now c.put_told-put.result
    (λ clean. domain_refused c.args.part old.now (looked_ready old new {E = Error} c.in_ok-rows.rows _ c.requires.idle c.in_ok-rows.ensures.found clean) domain c.in_ok-rows.rows
    (subst (λ name. ShowsWholeOfficeIn (seen_in name (part_of c.args.part (rows_named old.now))) c.in_ok-rows.rows) c.as_str.ensures.value (c.in_ok-rows.ensures.found.answer clean)))
    c.put_told-put.ensures.refused

pub returns-in_err-rows-clause-disk : goal.returns-in_err-rows-clause-disk
returns-in_err-rows-clause-disk g c = statement_opens (state g.S.Store c.args.connection.now) (state g.S.Store c.look_up.new.connection) _ c.from_residual.result c.from_residual.ensures.1 c.in_err-rows.ensures.disk

pub returns-clause-disk : goal.returns-clause-disk
returns-clause-disk g c = never_opens (state g.S.Store c.args.connection.now) (state g.S.Store c.look_up.new.connection) c.put_told-put.result c.put_told-put.ensures.disk
