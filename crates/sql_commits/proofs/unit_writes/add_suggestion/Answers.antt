use Rattle.std.proofs.Common.{refl, rules, arith, w64, to_z, Ok, map, codes, subst, ◌∙◌, sym, ◌≡◌}
use Rattle.std.proofs.lemmas.Int.{to_z_pos}
use Rattle.std.specs.FinMap as maps
use Rattle.sqlite.specs.Held.{state}
use Rattle.sql_changes.specs.OnDomains.{OnDomain}
use Rattle.sql_changes.specs.UnitWrites.{AddsNumberedSuggestion}
use Rattle.sql_commits.specs.Votes.{AddsSummed, PutsVotesOn}
use Rattle.sql_commits.proofs.WritesInTurn.{write_then, adds_on_domain, write_ready}
use Rattle.po_text.specs.Texts.{Text}
use Rattle.units.specs.Units.{vote_sum}
use Rattle.sql_schema.specs.Inside.{OnRows, AreOfficeTablesOf}
use Rattle.sql_schema.specs.Keys.{first_texts}
use Rattle.sql_schema.specs.Layouts.{by_domain}
use Rattle.sql_meaning.specs.Cells.{vote_cells}
use Rattle.sql_meaning.specs.Written.{PutsRows}
use Rattle.sql_commits.specs.Figures.{AddsWithSum}
use Rattle.sql_figures.specs.Figures.{FiguresStay}
use Rattle.sql_figures.proofs.FigureSteps.{stay_added}
use Rattle.sqlite.specs.Effect.{Database}
use Rattle.sql_decoding.proofs.DiskFailures.{error_told, fails_behind, memory_told}
use Rattle.sql_commits.proofs.unit_writes.add_suggestion.Goals as goal

pub returns-clause-put : goal.returns-clause-put
returns-clause-put g c =
    let old = state g.S.Store c.args.tx.now.conn.now in
    let mid = state g.S.Store c.add_summed.new.tx.conn.now in
    let new = state g.S.Store c.put_votes.new.tx.conn.now in
    let domain = c.args.domain.now in
    let lang = c.args.lang.now in
    let key = c.args.key.now in
    let place = c.args.place in
    let s = c.args.suggestion.now in
    write_then old mid new c.in_ok-add_summed.field-0 c.put_votes.result (AddsSummed domain c.as_str.result.now lang key (to_z w64 place) c.as_str-2.result.now c.as_str-3.result.now) (PutsVotesOn domain c.as_str-4.result.now (maps.entries s.votes))
    (OnDomain domain (AddsNumberedSuggestion lang key place s))
    (adds_on_domain domain lang key c.as_str.result.now c.as_str-4.result.now c.as_str-2.result.now c.as_str-3.result.now (to_z w64 place) place s old.now mid.now new.now
    (search rules) (search rules) (search rules) (search rules) (to_z_pos w64 place (omega (arith, c.requires.fits))) c.in_ok-number.ensures.fits)
    c.in_ok-add_summed.ensures.added c.put_votes.ensures.put

-- its sum is that of its votes
pub returns-clause-figures : goal.returns-clause-figures
returns-clause-figures g c =
    let old = state g.S.Store c.args.tx.now.conn.now in
    let mid = state g.S.Store c.add_summed.new.tx.conn.now in
    let new = state g.S.Store c.put_votes.new.tx.conn.now in
    let number = c.as_str.result.now in
    let again = c.as_str-4.result.now in
    let votes = c.args.suggestion.now.votes in
    let same : again ≡ number = c.as_str-4.ensures ∙ sym c.as_str.ensures in
    let Votes = λ (n : Text). OnRows (PutsRows (codes "d_vote") first_texts (map (vote_cells n) (maps.entries votes))) in
    let Adds = AddsWithSum number (vote_sum votes) in
    let Ready = λ (before after : Database). AreOfficeTablesOf by_domain before × Adds before after in
    let added = write_ready old mid (Ok c.in_ok-add_summed.field-0) Adds c.requires.steady c.in_ok-add_summed.ensures.summed in
    write_then old mid new c.in_ok-add_summed.field-0 c.put_votes.result Ready (Votes again) FiguresStay
    (λ one put. stay_added mid.now number (vote_sum votes) votes one.0 refl one.1 (subst (λ n. Votes n mid.now new.now) same put)) added c.put_votes.ensures.rows

pub returns-in_err-number-clause-disk : goal.returns-in_err-number-clause-disk
returns-in_err-number-clause-disk g c =
    memory_told (state g.S.Store c.args.tx.now.conn.now) (state g.S.Store c.args.tx.now.conn.now) c.from_residual.result c.from_residual.ensures.1

pub returns-in_err-forms-clause-disk : goal.returns-in_err-forms-clause-disk
returns-in_err-forms-clause-disk g c =
    memory_told (state g.S.Store c.args.tx.now.conn.now) (state g.S.Store c.args.tx.now.conn.now) c.from_residual-in_err-forms.result c.from_residual-in_err-forms.ensures.1

pub returns-in_err-add_summed-clause-disk : goal.returns-in_err-add_summed-clause-disk
returns-in_err-add_summed-clause-disk g c =
    error_told (state g.S.Store c.args.tx.now.conn.now) (state g.S.Store c.add_summed.new.tx.conn.now) _ c.from_residual-in_err-add_summed.result c.from_residual-in_err-add_summed.ensures.1 c.in_err-add_summed.ensures.disk

pub returns-clause-disk : goal.returns-clause-disk
returns-clause-disk g c =
    fails_behind (state g.S.Store c.args.tx.now.conn.now) (state g.S.Store c.add_summed.new.tx.conn.now) (state g.S.Store c.put_votes.new.tx.conn.now) (λ _. ⊥) (λ _. ⊥) c.put_votes.result c.in_ok-add_summed.ensures.added.survives c.put_votes.ensures.put.survives
    (c.put_votes.ensures.disk)
