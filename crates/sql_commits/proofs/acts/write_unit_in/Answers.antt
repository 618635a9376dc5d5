use Rattle.std.proofs.Common.{◌≡◌, rules}
use Rattle.sqlite.specs.Held.{state}
use Rattle.sql_changes.specs.OnDomains.{OnDomain}
use Rattle.sql_changes.specs.UnitWrites.{WritesOfUnit}
use Rattle.sql_commits.specs.Changes.{WritesIn}
use Rattle.sql_commits.proofs.WritesInTurn.{write_then, write_told}
use Rattle.sql_commits.specs.Figures.{FollowsWrite, FollowsIn}
use Rattle.sqlite.specs.Effect.{Database}
use Rattle.sql_decoding.specs.declared.faults.Failure.{Failure}
use Rattle.sql_statements.specs.DomainAnswers.{ShowsDomain}
use Rattle.sql_commits.proofs.FiguresInTurn.{write_answered}
use Rattle.sql_commits.proofs.DomainFound.{writes_there, writes_nowhere, follows_there, follows_nowhere}
use Rattle.sql_decoding.proofs.DiskFailures.{error_told, fails_behind}
use Rattle.sql_commits.proofs.acts.write_unit_in.Goals as goal

-- where the domain is there
pub returns-in-Some-clause-put : goal.returns-in-Some-clause-put
returns-in-Some-clause-put g c =
    let old = state g.S.Store c.args.tx.now.conn.now in
    let mid = state g.S.Store c.find_domain.new.tx.conn.now in
    let new = state g.S.Store c.write_of_unit.new.tx.conn.now in
    let domain = c.args.domain.now in
    let given = c.as_str.result.now in
    let found = c.in_ok-found.found in
    let Unit = WritesOfUnit c.args.lang.now c.args.key.now c.args.write.now in
    let Seen = λ (before after : Database). (after ≡ before) × ShowsDomain given before found in
    write_then old mid new found c.write_of_unit.result Seen (OnDomain domain Unit) (WritesIn domain Unit)
    (λ seen made. writes_there given domain (search rules) found old.now mid.now seen Unit c.in-Some.row new.now (search rules) made)
    (write_answered old mid {F = Failure} found found (ShowsDomain given) c.in_ok-found.ensures.found) c.write_of_unit.ensures.put

-- elsewhere nothing is written
pub returns-in-None-clause-put : goal.returns-in-None-clause-put
returns-in-None-clause-put g c =
    let old = state g.S.Store c.args.tx.now.conn.now in
    let mid = state g.S.Store c.find_domain.new.tx.conn.now in
    let domain = c.args.domain.now in
    let given = c.as_str.result.now in
    let found = c.in_ok-found.found in
    let Unit = WritesOfUnit c.args.lang.now c.args.key.now c.args.write.now in
    let Seen = λ (before after : Database). (after ≡ before) × ShowsDomain given before found in
    write_told old mid found _ Seen (WritesIn domain Unit) (λ seen. writes_nowhere given domain (search rules) found old.now mid.now seen Unit (search rules))
    (write_answered old mid {F = Failure} found found (ShowsDomain given) c.in_ok-found.ensures.found)

-- where the domain is there
pub returns-in-Some-clause-figures : goal.returns-in-Some-clause-figures
returns-in-Some-clause-figures g c =
    let old = state g.S.Store c.args.tx.now.conn.now in
    let mid = state g.S.Store c.find_domain.new.tx.conn.now in
    let new = state g.S.Store c.write_of_unit.new.tx.conn.now in
    let domain = c.args.domain.now in
    let given = c.as_str.result.now in
    let found = c.in_ok-found.found in
    let Follows = FollowsWrite domain c.args.lang.now c.args.key.now c.args.write.now in
    let Seen = λ (before after : Database). (after ≡ before) × ShowsDomain given before found in
    write_then old mid new found c.write_of_unit.result Seen Follows (FollowsIn domain Follows)
    (λ seen follows. follows_there given domain (search rules) found old.now mid.now seen Follows c.in-Some.row new.now (search rules) follows)
    (write_answered old mid {F = Failure} found found (ShowsDomain given) c.in_ok-found.ensures.found) c.write_of_unit.ensures.figures

-- elsewhere nothing is written
pub returns-in-None-clause-figures : goal.returns-in-None-clause-figures
returns-in-None-clause-figures g c =
    let old = state g.S.Store c.args.tx.now.conn.now in
    let mid = state g.S.Store c.find_domain.new.tx.conn.now in
    let domain = c.args.domain.now in
    let given = c.as_str.result.now in
    let found = c.in_ok-found.found in
    let Follows = FollowsWrite domain c.args.lang.now c.args.key.now c.args.write.now in
    let Seen = λ (before after : Database). (after ≡ before) × ShowsDomain given before found in
    write_told old mid found _ Seen (FollowsIn domain Follows) (λ seen. follows_nowhere given domain (search rules) found old.now mid.now seen Follows (search rules))
    (write_answered old mid {F = Failure} found found (ShowsDomain given) c.in_ok-found.ensures.found)

pub returns-in_err-found-clause-disk : goal.returns-in_err-found-clause-disk
returns-in_err-found-clause-disk g c =
    error_told (state g.S.Store c.args.tx.now.conn.now) (state g.S.Store c.find_domain.new.tx.conn.now) _ c.from_residual.result c.from_residual.ensures.1 c.in_err-found.ensures.disk

pub returns-in-Some-clause-disk : goal.returns-in-Some-clause-disk
returns-in-Some-clause-disk g c =
    fails_behind (state g.S.Store c.args.tx.now.conn.now) (state g.S.Store c.find_domain.new.tx.conn.now) (state g.S.Store c.write_of_unit.new.tx.conn.now) (λ _. ⊥) (λ _. ⊥) c.write_of_unit.result c.in_ok-found.ensures.found.survives c.write_of_unit.ensures.put.survives
    (c.write_of_unit.ensures.disk)
