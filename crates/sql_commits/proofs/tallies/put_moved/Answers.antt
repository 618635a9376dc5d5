use Rattle.std.proofs.Common.{◌≡◌, subst, rules}
use Rattle.sqlite.specs.Held.{state}
use Rattle.sql_decoding.specs.declared.faults.Failure.{Failure}
use Rattle.sql_changes.specs.OnDomains.{SparesDomains}
use Rattle.sql_changes.proofs.DomainWrites.{tally_on_domains}
use Rattle.sql_commits.specs.Figures.{PutsTally}
use Rattle.sql_commits.proofs.WritesInTurn.{write_read, write_then}
use Rattle.sqlite.specs.Effect.{Database}
use Rattle.sql_statements.specs.DomainAnswers.{ShowsTally}
use Rattle.sql_figures.specs.Figures.{moved_at, FiguresFollow}
use Rattle.sql_commits.proofs.FiguresInTurn.{write_answered, moves_row}
use Rattle.sql_decoding.proofs.DiskFailures.{error_told, fails_behind, mild_told, needed_is}
use Rattle.sql_commits.proofs.tallies.put_moved.Goals as goal

-- the tally is looked up, and put moved
pub returns-in_ok-after-in-Some-clause-spares : goal.returns-in_ok-after-in-Some-clause-spares
returns-in_ok-after-in-Some-clause-spares g c =
    let old = state g.S.Store c.args.tx.now.conn.now in
    let mid = state g.S.Store c.find_tally.new.tx.conn.now in
    let new = state g.S.Store c.put_tally_of.new.tx.conn.now in
    let looked = write_read old mid {F = Failure} c.in_ok-found.found c.in_ok-found.found _ c.in_ok-found.ensures.found in
    write_then old mid new c.in_ok-found.found c.put_tally_of.result (λ before after. after ≡ before) (PutsTally c.args.domain.now c.args.lang.now c.in_ok-after-in-Some.after) SparesDomains
    (λ same put. subst (λ db. SparesDomains db new.now) same (tally_on_domains put)) looked c.put_tally_of.ensures.put

-- it is the one that was there, moved
pub returns-in_ok-after-in-Some-clause-figures : goal.returns-in_ok-after-in-Some-clause-figures
returns-in_ok-after-in-Some-clause-figures g c =
    let old = state g.S.Store c.args.tx.now.conn.now in
    let mid = state g.S.Store c.find_tally.new.tx.conn.now in
    let new = state g.S.Store c.put_tally_of.new.tx.conn.now in
    let lang = c.args.lang.now in
    let domain = c.args.domain.now in
    let given = c.as_str.result.now in
    let code = c.as_str-2.result.now in
    let found = c.in_ok-found.found in
    let after = c.in_ok-after-in-Some.after in
    let Seen = λ (before now : Database). (now ≡ before) × ShowsTally given code before found in
    let looked = write_answered old mid {F = Failure} found found (ShowsTally given code) c.in_ok-found.ensures.found in
    write_then old mid new found c.put_tally_of.result Seen (PutsTally domain lang after) (FiguresFollow (moved_at domain lang c.args.was c.args.is))
    (moves_row given code domain lang found c.in-Some.row c.in_ok-tally-in-Some.tally after c.args.was c.args.is old.now mid.now new.now (search rules) (search rules) (search rules)
    (needed_is _ c.tally_in.result c.in_ok-tally-in-Some.tally c.in_ok-tally-in-Some.ensures.value c.tally_in.ensures.shown) c.in_ok-after-in-Some.ensures.tally) looked c.put_tally_of.ensures.put

pub returns-in_err-found-clause-disk : goal.returns-in_err-found-clause-disk
returns-in_err-found-clause-disk g c =
    error_told (state g.S.Store c.args.tx.now.conn.now) (state g.S.Store c.find_tally.new.tx.conn.now) _ c.from_residual.result c.from_residual.ensures.1 c.in_err-found.ensures.disk

pub returns-in_err-tally-in-Some-clause-disk : goal.returns-in_err-tally-in-Some-clause-disk
returns-in_err-tally-in-Some-clause-disk g c =
    mild_told (state g.S.Store c.args.tx.now.conn.now) (state g.S.Store c.find_tally.new.tx.conn.now) _ c.from_residual-in_err-tally-in-Some.result c.from_residual-in_err-tally-in-Some.ensures.1 c.in_err-tally-in-Some.ensures.told

pub returns-in_err-after-in-Some-clause-disk : goal.returns-in_err-after-in-Some-clause-disk
returns-in_err-after-in-Some-clause-disk g c =
    mild_told (state g.S.Store c.args.tx.now.conn.now) (state g.S.Store c.find_tally.new.tx.conn.now) _ c.from_residual-in_err-after-in-Some.result c.from_residual-in_err-after-in-Some.ensures.1 c.in_err-after-in-Some.ensures.told

pub returns-in_ok-after-in-Some-clause-disk : goal.returns-in_ok-after-in-Some-clause-disk
returns-in_ok-after-in-Some-clause-disk g c =
    fails_behind (state g.S.Store c.args.tx.now.conn.now) (state g.S.Store c.find_tally.new.tx.conn.now) (state g.S.Store c.put_tally_of.new.tx.conn.now) (λ _. ⊥) (λ _. ⊥) c.put_tally_of.result c.in_ok-found.ensures.found.survives c.put_tally_of.ensures.put.survives
    (c.put_tally_of.ensures.disk)
