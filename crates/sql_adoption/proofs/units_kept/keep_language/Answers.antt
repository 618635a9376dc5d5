use Rattle.std.proofs.Common.{Some, Ok, Err, sym, subst, ◌∙◌}
use Rattle.std.proofs.lemmas.Bool.{false≢true}
use Rattle.std.proofs.lemmas.Result.{err_from_is_err_and}
use Rattle.sqlite.specs.Held.{state}
use Rattle.office_maps.specs.OfficeIn.{lent_project}
use Rattle.office_specification.specs.declared.tally.Tally.{Tally}
use Rattle.sql_adoption.specs.FigureRows.{CountsOneMore}
use Rattle.sql_adoption.specs.FramesKept.{AreLanguageRows, RefusesEither}
use Rattle.sql_adoption.specs.LanguagesKept.{AreUnitsTold, IsLanguageKept, StandsLanguage, SuggestionsAreFormed, SuggestionsStand, walked_tally}
use Rattle.sql_adoption.specs.declared.faults.OpenFault.{OpenFault}
use Rattle.sql_adoption.specs.declared.faults.OpenFault.TheVariants.{Foreign}
use Rattle.sql_adoption.specs.declared.faults.Mismatch.TheVariants.{BrokenRules}
use Rattle.sql_layouts.proofs.Looked.{both_looked, idle_still, looked_failed, looked_in_vain, looked_on}
use Rattle.sql_adoption.proofs.LanguageTests.{are_formed, language_kept, not_whole}
use Rattle.sql_adoption.proofs.LanguagesTold.{either_less, unless_either}
use Rattle.sql_adoption.proofs.LooksBehind.{refused_behind}
use Rattle.sql_adoption.proofs.OpensBlame.{fault_opens, memory_opens, opens_behind}
use Rattle.sql_adoption.proofs.units_kept.keep_language.Goals as goal

pub keep_suggestions-requires-clause-idle : goal.keep_suggestions-requires-clause-idle
keep_suggestions-requires-clause-idle g c = idle_still (state g.S.Store c.args.connection.now) (state g.S.Store c.told_units.new.connection) {E = OpenFault} _ _ c.requires.idle c.in_ok-told.ensures.found

pub keep_suggestions-requires-clause-is_open : goal.keep_suggestions-requires-clause-is_open
keep_suggestions-requires-clause-is_open g c = c.in_ok-told.ensures.found.is_open

pub returns-clause-found : goal.returns-clause-found
returns-clause-found g c =
    let a = state g.S.Store c.args.connection.now in
    let b = state g.S.Store c.told_units.new.connection in
    let d = state g.S.Store c.keep_suggestions.new.connection in
    let project = lent_project c.args.project.now in
    let domain = c.args.domain.now in
    let lang = c.args.lang.now in
    let told = c.in_ok-told.told in
    let whole = c.is_whole.ensures.0 c.if-not-is_whole.false in
    looked_on a d {E = OpenFault} _ (Ok _) _ (λ db _. AreLanguageRows db project domain lang × CountsOneMore (Some (walked_tally db project.template domain lang)) (domain, lang) c.args.counted.now.items c.note_counted.new.counted.items)
    (both_looked a b d told (Ok _) (λ db it. AreUnitsTold db project domain lang it) (λ db _. SuggestionsStand db domain lang × SuggestionsAreFormed db c.args.language.now.rule domain lang) c.in_ok-told.ensures.found c.in_ok-keep_suggestions.ensures.found)
    (λ early is_open both. (
      language_kept a.now project domain lang c.args.language.now.rule c.requires.rule told both.0 whole.0 whole.1 both.1.0 both.1.1,
      subst (λ (t : Tally). CountsOneMore (Some t) (domain, lang) c.args.counted.now.items c.note_counted.new.counted.items) (both.0.kept whole.0).tally c.in_ok-note_counted.ensures,
    ))

pub returns-in_err-told-clause-found : goal.returns-in_err-told-clause-found
returns-in_err-told-clause-found g c =
    let project = lent_project c.args.project.now in
    looked_failed (state g.S.Store c.args.connection.now) (state g.S.Store c.told_units.new.connection) _ c.from_residual.result _
    (λ db _. AreLanguageRows db project c.args.domain.now c.args.lang.now
    × CountsOneMore (Some (walked_tally db project.template c.args.domain.now c.args.lang.now)) (c.args.domain.now, c.args.lang.now) c.args.counted.now.items c.args.counted.now.items) c.from_residual.ensures.0 c.in_err-told.ensures.found

pub returns-in_err-told-clause-refused : goal.returns-in_err-told-clause-refused
returns-in_err-told-clause-refused g c =
    let p = err_from_is_err_and c.from_residual.result c.from_residual.ensures.1 in
    let db = (state g.S.Store c.args.connection.now).now in
    rw (p.1, p.2) (λ clean. unless_either (IsLanguageKept db (lent_project c.args.project.now) c.args.domain.now c.args.lang.now) (λ (stand : StandsLanguage db c.args.domain.now c.args.lang.now). stand.units) c.in_err-told.field-0.0 (c.in_err-told.ensures.refused clean))

pub returns-then-not-is_whole-clause-found : goal.returns-then-not-is_whole-clause-found
returns-then-not-is_whole-clause-found g c =
    let project = lent_project c.args.project.now in
    looked_in_vain (state g.S.Store c.args.connection.now) (state g.S.Store c.told_units.new.connection) {E = OpenFault} _ (Foreign BrokenRules) _
    (λ db _. AreLanguageRows db project c.args.domain.now c.args.lang.now
    × CountsOneMore (Some (walked_tally db project.template c.args.domain.now c.args.lang.now)) (c.args.domain.now, c.args.lang.now) c.args.counted.now.items c.args.counted.now.items) c.in_ok-told.ensures.found

pub returns-then-not-is_whole-clause-refused : goal.returns-then-not-is_whole-clause-refused
returns-then-not-is_whole-clause-refused g c = λ clean.
    not_whole (state g.S.Store c.args.connection.now).now (lent_project c.args.project.now) c.args.domain.now c.args.lang.now c.in_ok-told.told (c.in_ok-told.ensures.found.answer clean)
    (λ whole. false≢true (sym c.if-not-is_whole.true ∙ c.is_whole.ensures.1 whole))

pub returns-in_err-keep_suggestions-clause-found : goal.returns-in_err-keep_suggestions-clause-found
returns-in_err-keep_suggestions-clause-found g c =
    let project = lent_project c.args.project.now in
    let domain = c.args.domain.now in
    let lang = c.args.lang.now in
    let a = state g.S.Store c.args.connection.now in
    let d = state g.S.Store c.keep_suggestions.new.connection in
    looked_failed a d _ c.from_residual-in_err-keep_suggestions.result _
    (λ db _. AreLanguageRows db project domain lang × CountsOneMore (Some (walked_tally db project.template domain lang)) (domain, lang) c.args.counted.now.items c.args.counted.now.items) c.from_residual-in_err-keep_suggestions.ensures.0
    (both_looked a (state g.S.Store c.told_units.new.connection) d c.in_ok-told.told (Err _) (λ db it. AreUnitsTold db project domain lang it)
    (λ db _. SuggestionsStand db domain lang × SuggestionsAreFormed db c.args.language.now.rule domain lang) c.in_ok-told.ensures.found c.in_err-keep_suggestions.ensures.found)

pub returns-in_err-keep_suggestions-clause-refused : goal.returns-in_err-keep_suggestions-clause-refused
returns-in_err-keep_suggestions-clause-refused g c =
    let p = err_from_is_err_and c.from_residual-in_err-keep_suggestions.result c.from_residual-in_err-keep_suggestions.ensures.1 in
    let project = lent_project c.args.project.now in
    let rule = c.args.language.now.rule in
    let domain = c.args.domain.now in
    let lang = c.args.lang.now in
    let a = state g.S.Store c.args.connection.now in
    rw (p.1, p.2) (refused_behind a (state g.S.Store c.told_units.new.connection) (state g.S.Store c.keep_suggestions.new.connection) c.in_ok-told.told (Err c.in_err-keep_suggestions.field-0.0) (λ db it. AreUnitsTold db project domain lang it)
    (λ db _. SuggestionsStand db domain lang × SuggestionsAreFormed db rule domain lang) c.in_ok-told.ensures.found c.in_err-keep_suggestions.ensures.found
    (λ db fault. RefusesEither (SuggestionsStand db domain lang) (SuggestionsAreFormed db rule domain lang) fault) (λ db fault. RefusesEither (StandsLanguage db domain lang) (IsLanguageKept db project domain lang) fault)
    (λ early fault told. either_less (λ (stand : StandsLanguage a.now domain lang). stand.suggestions) (λ (keep : IsLanguageKept a.now project domain lang). are_formed a.now project domain lang rule c.requires.rule keep) fault)
    c.in_err-keep_suggestions.ensures.refused)

pub returns-in_err-note_counted-clause-found : goal.returns-in_err-note_counted-clause-found
returns-in_err-note_counted-clause-found g c =
    let project = lent_project c.args.project.now in
    let domain = c.args.domain.now in
    let lang = c.args.lang.now in
    let a = state g.S.Store c.args.connection.now in
    let d = state g.S.Store c.keep_suggestions.new.connection in
    looked_failed a d {E = OpenFault} (Ok _) c.from_residual-in_err-note_counted.result _
    (λ db _. AreLanguageRows db project domain lang × CountsOneMore (Some (walked_tally db project.template domain lang)) (domain, lang) c.args.counted.now.items c.note_counted.new.counted.items) c.from_residual-in_err-note_counted.ensures.0
    (both_looked a (state g.S.Store c.told_units.new.connection) d c.in_ok-told.told (Ok _) (λ db it. AreUnitsTold db project domain lang it)
    (λ db _. SuggestionsStand db domain lang × SuggestionsAreFormed db c.args.language.now.rule domain lang) c.in_ok-told.ensures.found c.in_ok-keep_suggestions.ensures.found)

pub returns-in_err-told-clause-disk : goal.returns-in_err-told-clause-disk
returns-in_err-told-clause-disk g c = fault_opens (state g.S.Store c.args.connection.now) (state g.S.Store c.told_units.new.connection) _ c.from_residual.result c.from_residual.ensures.1 c.in_err-told.ensures.disk

pub returns-then-not-is_whole-clause-disk : goal.returns-then-not-is_whole-clause-disk
returns-then-not-is_whole-clause-disk g c = λ clean same. absurd cc

pub returns-in_err-keep_suggestions-clause-disk : goal.returns-in_err-keep_suggestions-clause-disk
returns-in_err-keep_suggestions-clause-disk g c =
    let b = state g.S.Store c.told_units.new.connection in
    let d = state g.S.Store c.keep_suggestions.new.connection in
    opens_behind (state g.S.Store c.args.connection.now) b d _ _ c.from_residual-in_err-keep_suggestions.result c.in_ok-told.ensures.found.survives c.in_err-keep_suggestions.ensures.found.survives
    (fault_opens b d _ c.from_residual-in_err-keep_suggestions.result c.from_residual-in_err-keep_suggestions.ensures.1 c.in_err-keep_suggestions.ensures.disk)

pub returns-in_err-note_counted-clause-disk : goal.returns-in_err-note_counted-clause-disk
returns-in_err-note_counted-clause-disk g c = memory_opens (state g.S.Store c.args.connection.now) (state g.S.Store c.keep_suggestions.new.connection) c.from_residual-in_err-note_counted.result c.from_residual-in_err-note_counted.ensures.1
