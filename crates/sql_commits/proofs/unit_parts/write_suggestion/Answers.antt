use Rattle.std.proofs.Common.{◌≡◌, rules, subst}
use Rattle.sqlite.specs.Held.{state}
use Rattle.units.specs.Units.{key_text}
use Rattle.po_text.specs.Texts.{Text}
use Rattle.sql_changes.specs.OnDomains.{OnDomain, SparesDomains}
use Rattle.sql_changes.specs.UnitWrites.{AddsLast}
use Rattle.sql_commits.proofs.WritesInTurn.{write_then, unseen_first}
use Rattle.sql_commits.specs.Figures.{FollowsOneMore, FollowsSuggestionAt}
use Rattle.sql_figures.specs.Figures.{FiguresStay}
use Rattle.sql_commits.proofs.FiguresInTurn.{suggestion_written}
use Rattle.sql_decoding.proofs.DiskFailures.{fails_behind, failure_told, memory_told}
use Rattle.sql_commits.proofs.unit_parts.write_suggestion.Goals as goal

-- it is counted, which no domain sees, and then added
pub returns-clause-put : goal.returns-clause-put
returns-clause-put g c =
    let old = state g.S.Store c.args.tx.now.conn.now in
    let mid = state g.S.Store c.count_suggestion.new.tx.conn.now in
    let new = state g.S.Store c.add_last.new.tx.conn.now in
    let domain = c.args.domain.now in
    let lang = c.args.lang.now in
    let s = c.args.suggestion.now in
    let Adds = λ (d l k : Text). OnDomain d (AddsLast l k s) in
    let is_domain : c.as_str.result.now ≡ domain = search rules in
    let is_lang : c.as_str-2.result.now ≡ lang = search rules in
    let is_key : c.as_str-3.result.now ≡ key_text c.args.key.now = search rules in
    write_then old mid new c.in_ok-count_suggestion.field-0 c.add_last.result SparesDomains (Adds c.as_str.result.now c.as_str-2.result.now c.as_str-3.result.now) (Adds domain lang (key_text c.args.key.now))
    (λ unseen added. unseen_first domain (AddsLast lang (key_text c.args.key.now) s) unseen
    (subst (λ (x : Text × Text × Text). Adds x.0 x.1 x.2 mid.now new.now) (λ i. (is_domain i, is_lang i, is_key i)) added))
    c.in_ok-count_suggestion.ensures.spares c.add_last.ensures.put

pub returns-clause-figures : goal.returns-clause-figures
returns-clause-figures g c =
    let old = state g.S.Store c.args.tx.now.conn.now in
    let mid = state g.S.Store c.count_suggestion.new.tx.conn.now in
    let new = state g.S.Store c.add_last.new.tx.conn.now in
    let domain = c.args.domain.now in
    let lang = c.args.lang.now in
    let key = c.args.key.now in
    let s = c.args.suggestion.now in
    write_then old mid new c.in_ok-count_suggestion.field-0 c.add_last.result (FollowsOneMore domain lang key) FiguresStay (FollowsSuggestionAt domain lang key s)
    (λ moved stays. suggestion_written domain lang old.now mid.now new.now stays key s moved) c.in_ok-count_suggestion.ensures.figures c.add_last.ensures.figures

pub returns-in_err-count_suggestion-clause-disk : goal.returns-in_err-count_suggestion-clause-disk
returns-in_err-count_suggestion-clause-disk g c =
    failure_told (state g.S.Store c.args.tx.now.conn.now) (state g.S.Store c.count_suggestion.new.tx.conn.now) _ c.from_residual.result c.from_residual.ensures.1 c.in_err-count_suggestion.ensures.disk

pub returns-in_err-text-clause-disk : goal.returns-in_err-text-clause-disk
returns-in_err-text-clause-disk g c =
    memory_told (state g.S.Store c.args.tx.now.conn.now) (state g.S.Store c.count_suggestion.new.tx.conn.now) c.from_residual-in_err-text.result c.from_residual-in_err-text.ensures.1

pub returns-clause-disk : goal.returns-clause-disk
returns-clause-disk g c =
    fails_behind (state g.S.Store c.args.tx.now.conn.now) (state g.S.Store c.count_suggestion.new.tx.conn.now) (state g.S.Store c.add_last.new.tx.conn.now) (λ _. ⊥) (λ _. ⊥) c.add_last.result c.in_ok-count_suggestion.ensures.spares.survives c.add_last.ensures.put.survives
    (c.add_last.ensures.disk)
