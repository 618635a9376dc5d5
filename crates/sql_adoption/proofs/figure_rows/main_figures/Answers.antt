use Rattle.sqlite.specs.Held.{state}
use Rattle.sql_schema.proofs.Sequences.{reads_both, read_mapped}
use Rattle.sql_laws.proofs.DiskErrors.{told_on}
use Rattle.sql_statements.proofs.ReadsBlame.{blames_after}
use Rattle.sql_adoption.proofs.figure_rows.main_figures.Goals as goal

pub returns-clause-found : goal.returns-clause-found
returns-clause-found g c =
    let old = state g.S.Store c.args.tx.now.conn.now in
    let first = state g.S.Store c.main_tallies.new.tx.conn.now in
    let second = state g.S.Store c.main_numbers.new.tx.conn.now in
    let third = state g.S.Store c.main_votes.new.tx.conn.now in
    let fourth = state g.S.Store c.main_sums.new.tx.conn.now in
    let two = reads_both old first second _ _ _ _ c.in_ok-tallies.ensures.found c.in_ok-suggestions.ensures.found in
    let three = reads_both old second third _ _ _ _ two c.in_ok-votes.ensures.found in
    let four = reads_both old third fourth _ _ _ _ three c.in_ok-sums.ensures.found in
    read_mapped old fourth _ _ _ _ (λ db it. record { tallies = it.0.0.0; suggestions = it.0.0.1.all; votes = it.0.1.all; sums = it.1.all }) four

pub returns-in_err-tallies-clause-disk : goal.returns-in_err-tallies-clause-disk
returns-in_err-tallies-clause-disk g c =
    let old = state g.S.Store c.args.tx.now.conn.now in
    let first = state g.S.Store c.main_tallies.new.tx.conn.now in
    told_on old first first _ c.from_residual.result c.from_residual.ensures.1 c.in_err-tallies.ensures.disk

pub returns-in_err-suggestions-clause-disk : goal.returns-in_err-suggestions-clause-disk
returns-in_err-suggestions-clause-disk g c =
    let old = state g.S.Store c.args.tx.now.conn.now in
    let first = state g.S.Store c.main_tallies.new.tx.conn.now in
    let second = state g.S.Store c.main_numbers.new.tx.conn.now in
    blames_after old first second _ _ c.from_residual-in_err-suggestions.result _ _ c.from_residual-in_err-suggestions.ensures.1 c.in_ok-tallies.ensures.found c.in_err-suggestions.ensures.found c.in_err-suggestions.ensures.disk

pub returns-in_err-votes-clause-disk : goal.returns-in_err-votes-clause-disk
returns-in_err-votes-clause-disk g c =
    let old = state g.S.Store c.args.tx.now.conn.now in
    let first = state g.S.Store c.main_tallies.new.tx.conn.now in
    let second = state g.S.Store c.main_numbers.new.tx.conn.now in
    let third = state g.S.Store c.main_votes.new.tx.conn.now in
    let two = reads_both old first second _ _ _ _ c.in_ok-tallies.ensures.found c.in_ok-suggestions.ensures.found in
    blames_after old second third _ _ c.from_residual-in_err-votes.result _ _ c.from_residual-in_err-votes.ensures.1 two c.in_err-votes.ensures.found c.in_err-votes.ensures.disk

pub returns-in_err-sums-clause-disk : goal.returns-in_err-sums-clause-disk
returns-in_err-sums-clause-disk g c =
    let old = state g.S.Store c.args.tx.now.conn.now in
    let first = state g.S.Store c.main_tallies.new.tx.conn.now in
    let second = state g.S.Store c.main_numbers.new.tx.conn.now in
    let third = state g.S.Store c.main_votes.new.tx.conn.now in
    let fourth = state g.S.Store c.main_sums.new.tx.conn.now in
    let two = reads_both old first second _ _ _ _ c.in_ok-tallies.ensures.found c.in_ok-suggestions.ensures.found in
    let three = reads_both old second third _ _ _ _ two c.in_ok-votes.ensures.found in
    blames_after old third fourth _ _ c.from_residual-in_err-sums.result _ _ c.from_residual-in_err-sums.ensures.1 three c.in_err-sums.ensures.found c.in_err-sums.ensures.disk
