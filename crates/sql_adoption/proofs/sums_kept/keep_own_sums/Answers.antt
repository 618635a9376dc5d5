use Rattle.std.proofs.Common.{List, Ok, sym, ◌∙◌}
use Rattle.std.proofs.lemmas.Bool.{false≢true}
use Rattle.sqlite.specs.Held.{state}
use Rattle.sqlite.specs.Order.{Row}
use Rattle.sql_streams.specs.declared.walking.WalkFault.{WalkFault}
use Rattle.sql_decoding.specs.declared.faults.Failure.{Failure}
use Rattle.sql_schema.specs.Layouts.{rows_named}
use Rattle.sql_statements.specs.SummedVotes.{ShowsSummed}
use Rattle.sql_adoption.specs.SumsKept.{has_few_votes, is_kept_sum, HaveOwnFew, HaveOwnSums, RefusesOwnSums, TellsSums}
use Rattle.sql_adoption.specs.declared.sums_kept.Sums.{Sums}
use Rattle.sql_adoption.specs.declared.faults.OpenFault.TheVariants.{Foreign}
use Rattle.sql_adoption.specs.declared.faults.Mismatch.TheVariants.{BrokenRules, OtherFigures}
use Rattle.sql_layouts.proofs.Looked.{walked_on, looked_in_vain, looked_failed}
use Rattle.sql_adoption.proofs.KeptSums.{all_told, all_shown, walk_cut}
use Rattle.sql_adoption.proofs.OpensBlame.{walk_opens}
use Rattle.sql_adoption.proofs.sums_kept.keep_own_sums.Goals as goal

pub returns-then-sums-clause-found : goal.returns-then-sums-clause-found
returns-then-sums-clause-found g c =
    let old = state g.S.Store c.args.connection.now in
    walked_on old (state g.S.Store c.walk_sums.new.connection) {E = WalkFault Failure} _ (Ok _) _ (λ db _. HaveOwnFew (rows_named db) × HaveOwnSums (rows_named db)) c.in_ok-walk_sums.ensures.looked (λ clean early is_open.
    let gave = c.in_ok-walk_sums.ensures.handed clean in
    (all_told old.now gave.rows gave.answer has_few_votes (sym gave.took.few ∙ c.if-not-sums.false), all_told old.now gave.rows gave.answer is_kept_sum (sym gave.took.sums ∙ c.if-sums.true)))

pub returns-then-not-sums-clause-found : goal.returns-then-not-sums-clause-found
returns-then-not-sums-clause-found g c =
    looked_in_vain (state g.S.Store c.args.connection.now) (state g.S.Store c.walk_sums.new.connection) _ (Foreign BrokenRules) _ (λ db _. HaveOwnFew (rows_named db) × HaveOwnSums (rows_named db)) c.in_ok-walk_sums.ensures.looked

pub returns-then-not-sums-clause-refused : goal.returns-then-not-sums-clause-refused
returns-then-not-sums-clause-refused g c = λ clean have.
    let gave = c.in_ok-walk_sums.ensures.handed clean in
    false≢true (sym c.if-not-sums.true ∙ gave.took.few ∙ all_shown (state g.S.Store c.args.connection.now).now gave.rows gave.answer has_few_votes have)

pub returns-else-sums-clause-found : goal.returns-else-sums-clause-found
returns-else-sums-clause-found g c =
    looked_in_vain (state g.S.Store c.args.connection.now) (state g.S.Store c.walk_sums.new.connection) _ (Foreign OtherFigures) _ (λ db _. HaveOwnFew (rows_named db) × HaveOwnSums (rows_named db)) c.in_ok-walk_sums.ensures.looked

pub returns-else-sums-clause-refused : goal.returns-else-sums-clause-refused
returns-else-sums-clause-refused g c = λ clean.
    let db = (state g.S.Store c.args.connection.now).now in
    let gave = c.in_ok-walk_sums.ensures.handed clean in
    (all_told db gave.rows gave.answer has_few_votes (sym gave.took.few ∙ c.if-not-sums.false), λ have. false≢true (sym c.if-sums.false ∙ gave.took.sums ∙ all_shown db gave.rows gave.answer is_kept_sum have))

pub returns-in_err-walk_sums-clause-found : goal.returns-in_err-walk_sums-clause-found
returns-in_err-walk_sums-clause-found g c =
    looked_failed (state g.S.Store c.args.connection.now) (state g.S.Store c.walk_sums.new.connection) _ c.from_residual.result _ (λ db _. HaveOwnFew (rows_named db) × HaveOwnSums (rows_named db)) c.from_residual.ensures.0 c.in_err-walk_sums.ensures.looked

pub returns-in_err-walk_sums-clause-refused : goal.returns-in_err-walk_sums-clause-refused
returns-in_err-walk_sums-clause-refused g c =
    let db = (state g.S.Store c.args.connection.now).now in
    walk_cut (RefusesOwnSums (rows_named db)) tt tt tt (λ (a : Sums) (rows : List Row) (b : Sums). TellsSums a.kept a.few rows b.kept b.few) (ShowsSummed db) _ c.walk_sums.new.sink c.from_residual.result c.in_err-walk_sums.field-0.0
    c.from_residual.ensures.1 c.in_err-walk_sums.ensures.handed

pub returns-in_err-walk_sums-clause-disk : goal.returns-in_err-walk_sums-clause-disk
returns-in_err-walk_sums-clause-disk g c = walk_opens (state g.S.Store c.args.connection.now) (state g.S.Store c.walk_sums.new.connection) c.in_err-walk_sums.field-0.0 c.from_residual.result c.from_residual.ensures.1 c.in_err-walk_sums.ensures.disk

pub returns-then-not-sums-clause-disk : goal.returns-then-not-sums-clause-disk
returns-then-not-sums-clause-disk g c = λ clean same. absurd cc

pub returns-else-sums-clause-disk : goal.returns-else-sums-clause-disk
returns-else-sums-clause-disk g c = λ clean same. absurd cc
