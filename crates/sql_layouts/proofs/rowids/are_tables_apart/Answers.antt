use Rattle.std.proofs.Common.{true, false, subst, arith}
use Rattle.sqlite.specs.Held.{state}
use Rattle.sql_schema.specs.Layouts.{for_main, by_domain, own_tables}
use Rattle.sql_layouts.specs.Looks.{IsOver, HasSchema}
use Rattle.sql_layouts.specs.Tables.{form_told}
use Rattle.sql_layouts.proofs.RowidQueries.{tables_told, record_is, team_is, policy_is, template_is, language_is, unit_is, suggestion_is, vote_is, vote_sum_is, tally_is, domain_is, d_template_is, d_language_is, d_unit_is, d_suggestion_is, d_vote_is, d_vote_sum_is, d_tally_is}
use Rattle.sql_layouts.proofs.rowids.are_tables_apart.Goals as goal

pub returns-in-ForMain-clause-found : goal.returns-in-ForMain-clause-found
returns-in-ForMain-clause-found g c =
    let old = state g.S.Store c.args.tx.now.conn.now in
    let over = subst (λ form. IsOver (HasSchema (form_told form)) old) c.in-ForMain.is c.requires.over in
    rw c.in-ForMain.is (tables_told (for_main false) old (state g.S.Store c.are_apart.new.tx.conn.now) c.are_apart.result
    (c.are_apart.ensures.found (for_main false) (own_tables (for_main false)) over (record_is, (team_is, (policy_is, (template_is, (language_is, (unit_is, (suggestion_is, (vote_is, tt)))))))) (omega arith)))

pub returns-in-WithFigures-clause-found : goal.returns-in-WithFigures-clause-found
returns-in-WithFigures-clause-found g c =
    let old = state g.S.Store c.args.tx.now.conn.now in
    let over = subst (λ form. IsOver (HasSchema (form_told form)) old) c.in-WithFigures.is c.requires.over in
    rw c.in-WithFigures.is (tables_told (for_main true) old (state g.S.Store c.are_apart-in-WithFigures.new.tx.conn.now) c.are_apart-in-WithFigures.result
    (c.are_apart-in-WithFigures.ensures.found (for_main true) (own_tables (for_main true)) over
    (record_is, (team_is, (policy_is, (template_is, (language_is, (unit_is, (suggestion_is, (vote_is, (vote_sum_is, (tally_is, tt)))))))))) (omega arith)))

pub returns-in-ByDomain-clause-found : goal.returns-in-ByDomain-clause-found
returns-in-ByDomain-clause-found g c =
    let old = state g.S.Store c.args.tx.now.conn.now in
    let over = subst (λ form. IsOver (HasSchema (form_told form)) old) c.in-ByDomain.is c.requires.over in
    rw c.in-ByDomain.is (tables_told by_domain old (state g.S.Store c.are_apart-in-ByDomain.new.tx.conn.now) c.are_apart-in-ByDomain.result
    (c.are_apart-in-ByDomain.ensures.found by_domain (own_tables by_domain) over (record_is, (team_is, (policy_is, (domain_is, (d_template_is, (d_language_is, (d_unit_is, (d_suggestion_is, (d_vote_is, (d_vote_sum_is, (d_tally_is, tt))))))))))) (omega arith)))

pub returns-in-ForMain-clause-errors : goal.returns-in-ForMain-clause-errors
returns-in-ForMain-clause-errors g c =
    let old = state g.S.Store c.args.tx.now.conn.now in
    let over = subst (λ form. IsOver (HasSchema (form_told form)) old) c.in-ForMain.is c.requires.over in
    c.are_apart.ensures.errors (for_main false) (own_tables (for_main false)) over (record_is, (team_is, (policy_is, (template_is, (language_is, (unit_is, (suggestion_is, (vote_is, tt))))))))

pub returns-in-WithFigures-clause-errors : goal.returns-in-WithFigures-clause-errors
returns-in-WithFigures-clause-errors g c =
    let old = state g.S.Store c.args.tx.now.conn.now in
    let over = subst (λ form. IsOver (HasSchema (form_told form)) old) c.in-WithFigures.is c.requires.over in
    c.are_apart-in-WithFigures.ensures.errors (for_main true) (own_tables (for_main true)) over
    (record_is, (team_is, (policy_is, (template_is, (language_is, (unit_is, (suggestion_is, (vote_is, (vote_sum_is, (tally_is, tt))))))))))

pub returns-in-ByDomain-clause-errors : goal.returns-in-ByDomain-clause-errors
returns-in-ByDomain-clause-errors g c =
    let old = state g.S.Store c.args.tx.now.conn.now in
    let over = subst (λ form. IsOver (HasSchema (form_told form)) old) c.in-ByDomain.is c.requires.over in
    c.are_apart-in-ByDomain.ensures.errors by_domain (own_tables by_domain) over (record_is, (team_is, (policy_is, (domain_is, (d_template_is, (d_language_is, (d_unit_is, (d_suggestion_is, (d_vote_is, (d_vote_sum_is, (d_tally_is, tt)))))))))))
