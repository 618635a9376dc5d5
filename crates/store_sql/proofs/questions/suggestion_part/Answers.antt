use Rattle.std.proofs.Common.{Ok, Some, None, sym, subst}
use Rattle.sqlite.specs.Held.{state}
use Rattle.sqlite.specs.declared.error.Error.{Error}
use Rattle.sql_schema.specs.Inside.{IsReadOf}
use Rattle.sql_schema.specs.Layouts.{by_domain}
use Rattle.sql_schema.proofs.Sequences.{reads_both, read_mapped, fails_after}
use Rattle.sql_statements.specs.DomainAnswers.{ShowsSuggestionOf}
use Rattle.sql_statements.specs.DomainUnitRows.{ShowsOneDomainSuggestion, ShowsWithDomainVotes}
use Rattle.store_sql.proofs.PartsBlame.{first_blames, later_blames}
use Rattle.store_sql.proofs.questions.suggestion_part.Goals as goal

pub returns-in_err-with_votes-in-Some-clause-found : goal.returns-in_err-with_votes-in-Some-clause-found
returns-in_err-with_votes-in-Some-clause-found g c =
    fails_after (state g.S.Store c.args.tx.now.conn.now) (state g.S.Store c.find_domain_suggestion.new.tx.conn.now) (state g.S.Store c.with_votes.new.tx.conn.now) _ _ _ _ _ _
    c.from_residual-in_err-with_votes-in-Some.ensures.0 c.in_ok-found.ensures.found c.in_err-with_votes-in-Some.ensures.found

-- the suggestion, and the votes on it
pub returns-in_ok-with_votes-in-Some-clause-found : goal.returns-in_ok-with_votes-in-Some-clause-found
returns-in_ok-with_votes-in-Some-clause-found g c =
    let old = state g.S.Store c.args.tx.now.conn.now in
    let mid = state g.S.Store c.find_domain_suggestion.new.tx.conn.now in
    let new = state g.S.Store c.with_votes.new.tx.conn.now in
    let Shows = ShowsSuggestionOf c.args.domain.now c.args.lang.now c.args.key.now c.args.number.now in
    let suggestion = c.in-Some.suggestion in
    let rows = c.in_ok-with_votes-in-Some.field-0 in
    let first : IsReadOf {E = Error} by_domain old mid (Ok (Some suggestion)) Shows = subst (λ found. IsReadOf {E = Error} by_domain old mid (Ok found) Shows) c.in-Some.is c.in_ok-found.ensures.found in
    let both = reads_both old mid new (Some suggestion) (Ok rows) Shows (ShowsWithDomainVotes suggestion) first c.in_ok-with_votes-in-Some.ensures.found in
    read_mapped old new rows (Some rows) (λ db shown. Shows db (Some suggestion) × ShowsWithDomainVotes suggestion db shown)
    (ShowsOneDomainSuggestion c.args.domain.now c.args.lang.now c.args.key.now c.args.number.now)
    (λ db it. record { suggestion = subst (λ r. Shows db (Some r)) (sym it.1.same) it.0; votes = it.1.votes }) both

-- there is none
pub returns-in-None-clause-found : goal.returns-in-None-clause-found
returns-in-None-clause-found g c =
    let old = state g.S.Store c.args.tx.now.conn.now in
    let mid = state g.S.Store c.find_domain_suggestion.new.tx.conn.now in
    let Shows = ShowsSuggestionOf c.args.domain.now c.args.lang.now c.args.key.now c.args.number.now in
    read_mapped old mid c.in_ok-found.found None Shows (ShowsOneDomainSuggestion c.args.domain.now c.args.lang.now c.args.key.now c.args.number.now)
    (λ db it. record { suggestion = subst (λ found. Shows db found) c.in-None.is it; votes = tt }) c.in_ok-found.ensures.found

pub returns-in_err-found-clause-disk : goal.returns-in_err-found-clause-disk
returns-in_err-found-clause-disk g c =
    let first = state g.S.Store c.find_domain_suggestion.new.tx.conn.now in
    first_blames (state g.S.Store c.args.tx.now.conn.now) first first c.in_err-found.field-0.0 c.from_residual.result c.from_residual.ensures.1 c.in_err-found.ensures.disk

pub returns-in_err-with_votes-in-Some-clause-disk : goal.returns-in_err-with_votes-in-Some-clause-disk
returns-in_err-with_votes-in-Some-clause-disk g c =
    later_blames (state g.S.Store c.args.tx.now.conn.now) (state g.S.Store c.find_domain_suggestion.new.tx.conn.now) (state g.S.Store c.with_votes.new.tx.conn.now) _ _ _ _
    c.in_err-with_votes-in-Some.field-0.0 c.from_residual-in_err-with_votes-in-Some.result c.from_residual-in_err-with_votes-in-Some.ensures.1 c.in_ok-found.ensures.found
    c.in_err-with_votes-in-Some.ensures.found c.in_err-with_votes-in-Some.ensures.disk
