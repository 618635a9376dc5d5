use Rattle.std.proofs.Common.{List, Ok, refl}
use Rattle.sqlite.specs.Held.{state}
use Rattle.sqlite.specs.Order.{Row}
use Rattle.sql_streams.specs.declared.walking.WalkFault.{WalkFault}
use Rattle.sql_decoding.specs.declared.faults.Failure.{Failure}
use Rattle.sql_statements.specs.WalkedRows.{ShowsSuggestionsOf}
use Rattle.sql_adoption.specs.LanguagesKept.{SuggestionsAreFormed, SuggestionsStand}
use Rattle.sql_adoption.specs.TookSuggestions.{TakesSuggestions}
use Rattle.sql_adoption.specs.declared.faults.OpenFault.TheVariants.{Foreign}
use Rattle.sql_adoption.specs.declared.faults.Mismatch.TheVariants.{BrokenRules}
use Rattle.sql_adoption.specs.declared.unit_sinks.Suggestions.{Suggestions}
use Rattle.sql_layouts.proofs.Looked.{walked_on, looked_failed, looked_in_vain}
use Rattle.sql_adoption.proofs.WalksCut.{suggestion_broken, suggestions_cut, suggestions_formed, suggestions_stand, two_named}
use Rattle.sql_adoption.proofs.OpensBlame.{walk_opens}
use Rattle.sql_adoption.proofs.units_kept.keep_suggestions.Goals as goal

pub returns-then-suggestions-clause-found : goal.returns-then-suggestions-clause-found
returns-then-suggestions-clause-found g c =
    let old = state g.S.Store c.args.connection.now in
    let domain = c.args.domain.now in
    let lang = c.args.lang.now in
    let rule = c.args.language.now.rule in
    walked_on old (state g.S.Store c.walk_suggestions.new.connection) {E = WalkFault Failure} _ (Ok _) _ (λ db _. SuggestionsStand db domain lang × SuggestionsAreFormed db rule domain lang) c.in_ok-walk_suggestions.ensures.looked (λ clean early is_open.
    let gave = c.in_ok-walk_suggestions.ensures.handed clean in
    let shows = two_named (λ a b. ShowsSuggestionsOf a b old.now gave.rows) _ _ domain lang c.as_str.ensures.value c.as_str-2.ensures.value gave.answer in
    (suggestions_stand old.now domain lang rule gave.rows shows _ _ gave.took.took, suggestions_formed old.now domain lang rule gave.rows shows _ _ gave.took.took c.if-suggestions.true))

pub returns-else-suggestions-clause-found : goal.returns-else-suggestions-clause-found
returns-else-suggestions-clause-found g c =
    looked_in_vain (state g.S.Store c.args.connection.now) (state g.S.Store c.walk_suggestions.new.connection) _ (Foreign BrokenRules) _
    (λ db _. SuggestionsStand db c.args.domain.now c.args.lang.now × SuggestionsAreFormed db c.args.language.now.rule c.args.domain.now c.args.lang.now) c.in_ok-walk_suggestions.ensures.looked

pub returns-else-suggestions-clause-refused : goal.returns-else-suggestions-clause-refused
returns-else-suggestions-clause-refused g c = λ clean.
    let db = (state g.S.Store c.args.connection.now).now in
    let domain = c.args.domain.now in
    let lang = c.args.lang.now in
    let gave = c.in_ok-walk_suggestions.ensures.handed clean in
    let shows = two_named (λ a b. ShowsSuggestionsOf a b db gave.rows) _ _ domain lang c.as_str.ensures.value c.as_str-2.ensures.value gave.answer in
    suggestion_broken db domain lang c.args.language.now.rule gave.rows shows _ _ gave.took.took c.if-suggestions.false refl

pub returns-in_err-walk_suggestions-clause-found : goal.returns-in_err-walk_suggestions-clause-found
returns-in_err-walk_suggestions-clause-found g c =
    looked_failed (state g.S.Store c.args.connection.now) (state g.S.Store c.walk_suggestions.new.connection) _ c.from_residual.result _
    (λ db _. SuggestionsStand db c.args.domain.now c.args.lang.now × SuggestionsAreFormed db c.args.language.now.rule c.args.domain.now c.args.lang.now) c.from_residual.ensures.0 c.in_err-walk_suggestions.ensures.looked

pub returns-in_err-walk_suggestions-clause-refused : goal.returns-in_err-walk_suggestions-clause-refused
returns-in_err-walk_suggestions-clause-refused g c =
    suggestions_cut (state g.S.Store c.args.connection.now).now c.args.domain.now c.args.lang.now _ _ c.args.language.now.rule c.as_str.ensures.value c.as_str-2.ensures.value
    (λ (a : Suggestions) (rows : List Row) (b : Suggestions). TakesSuggestions a.rule.now a.kept rows b.rule.now b.kept) _ c.walk_suggestions.new.sink c.from_residual.result c.in_err-walk_suggestions.field-0.0
    c.from_residual.ensures.1 c.in_err-walk_suggestions.ensures.handed

pub returns-in_err-walk_suggestions-clause-disk : goal.returns-in_err-walk_suggestions-clause-disk
returns-in_err-walk_suggestions-clause-disk g c = walk_opens (state g.S.Store c.args.connection.now) (state g.S.Store c.walk_suggestions.new.connection) c.in_err-walk_suggestions.field-0.0 c.from_residual.result c.from_residual.ensures.1 c.in_err-walk_suggestions.ensures.disk

pub returns-else-suggestions-clause-disk : goal.returns-else-suggestions-clause-disk
returns-else-suggestions-clause-disk g c = λ clean same. absurd cc
