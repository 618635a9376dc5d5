use Rattle.std.proofs.Common.{◌≡◌, rules}
use Rattle.sqlite.specs.Held.{state}
use Rattle.sql_schema.specs.Inside.{IsReadOf}
use Rattle.sql_statements.specs.DomainAnswers.{ShowsDomainLanguage}
use Rattle.sql_statements.proofs.ReadsBlame.{undone_blames, ended_blames}
use Rattle.sql_exports.proofs.LookedUp.{look_up_undone, look_up_ended}
use Rattle.sql_exports.proofs.header.look_up_language.Goals as goal

pub returns-in_err-found-clause-found : goal.returns-in_err-found-clause-found
returns-in_err-found-clause-found g c =
    look_up_undone g.S.Store c.args.connection.now c.transaction-tx.result.conn.now c.find_domain_language.new.tx.conn.now c.connection-1.given.0 c.transaction-tx.ensures.begun (ShowsDomainLanguage c.args.domain.now c.args.lang.now)
    c.requires.idle (search rules) c.in_err-found.field-0.0 c.from_residual.result c.from_residual.ensures.0 c.in_err-found.ensures.found (search rules) (search rules)

pub returns-clause-found : goal.returns-clause-found
returns-clause-found g c =
    look_up_ended g.S.Store c.args.connection.now c.transaction-tx.result.conn.now c.find_domain_language.new.tx.conn.now c.connection-2-1.given.0 c.transaction-tx.ensures.begun (ShowsDomainLanguage c.args.domain.now c.args.lang.now)
    c.requires.idle (search rules) c.in_ok-found.found c.in_ok-found.ensures.found (search rules) c.commit.result c.and.result c.and.ensures (search rules) (search rules)

pub returns-in_err-found-clause-disk : goal.returns-in_err-found-clause-disk
returns-in_err-found-clause-disk g c =
    undone_blames g.S.Store c.args.connection.now c.transaction-tx.result.conn.now c.find_domain_language.new.tx.conn.now c.connection-1.given.0 c.transaction-tx.ensures.begun (λ _. ⊥)
    c.in_err-found.field-0.0 c.from_residual.result c.from_residual.ensures.1 c.in_err-found.ensures.disk (search rules)

pub returns-clause-disk : goal.returns-clause-disk
returns-clause-disk g c =
    ended_blames g.S.Store c.args.connection.now c.transaction-tx.result.conn.now c.find_domain_language.new.tx.conn.now c.connection-2-1.given.0 c.transaction-tx.ensures.begun (λ _. ⊥)
    (λ db. db ≡ (state g.S.Store c.find_domain_language.new.tx.conn.now).now.trees) (IsReadOf.survives c.in_ok-found.ensures.found) (search rules) c.in_ok-found.found c.commit.result c.and.result c.and.ensures (search rules)
