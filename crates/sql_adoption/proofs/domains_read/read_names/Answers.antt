use Rattle.std.proofs.Common.{rules, ◌≡◌, Ok, map, sym, ap, ◌∙◌}
use Rattle.std.specs.List.{list_all}
use Rattle.sqlite.specs.Held.{state}
use Rattle.sqlite.specs.declared.error.Error.{Error}
use Rattle.sql_decoding.specs.RowTests.{is_domain_row}
use Rattle.sql_schema.specs.Keys.{text_at}
use Rattle.sql_schema.specs.Layouts.{rows_named}
use Rattle.sql_statements.specs.DomainAnswers.{ShowsDomains}
use Rattle.sql_adoption.specs.Reading.{AreNames}
use Rattle.sql_layouts.proofs.Looked.{looked_on}
use Rattle.sql_adoption.proofs.DomainsRead.{names_are_read, names_unread}
use Rattle.sql_adoption.proofs.OpensBlame.{unread_mild, statement_opens}
use Rattle.sql_adoption.proofs.domains_read.read_names.Goals as goal

pub returns-in-Ok-clause-found : goal.returns-in-Ok-clause-found
returns-in-Ok-clause-found g c =
    let rows = c.in_ok-rows.rows.items in
    let same : c.as_slice.result.now ≡ rows = search rules in
    looked_on (state g.S.Store c.args.connection.now) (state g.S.Store c.look_up_domains.new.connection) {E = Error} c.in_ok-rows.rows (Ok c.in-Ok.names) (λ db rows. ShowsDomains db rows.items)
    (λ db names. AreNames (rows_named db) names.items) c.in_ok-rows.ensures.found
    (λ early is_open shows. names_are_read _ rows shows c.in-Ok.names.items (c.in-Ok.ensures.shown ∙ ap (map (text_at 0)) same) (ap (list_all is_domain_row) (sym same) ∙ c.in-Ok.ensures.stand))

pub returns-clause-refused : goal.returns-clause-refused
returns-clause-refused g c =
    let rows = c.in_ok-rows.rows.items in
    let same : c.as_slice.result.now ≡ rows = search rules in
    names_unread (state g.S.Store c.args.connection.now).now rows c.in-Err.failure c.unread.result (λ clean. c.in_ok-rows.ensures.found.answer clean) c.unread.ensures
    (λ other. ap (list_all is_domain_row) (sym same) ∙ c.in-Err.ensures.unread other)

pub returns-in_err-rows-clause-disk : goal.returns-in_err-rows-clause-disk
returns-in_err-rows-clause-disk g c = statement_opens (state g.S.Store c.args.connection.now) (state g.S.Store c.look_up_domains.new.connection) _ c.from_residual.result c.from_residual.ensures.1 c.in_err-rows.ensures.disk

pub returns-clause-disk : goal.returns-clause-disk
returns-clause-disk g c = λ clean disk. absurd (unread_mild c.in-Err.failure.lost (sym c.unread.ensures ∙ disk))
