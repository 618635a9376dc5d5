use Rattle.std.proofs.Common.{Ok, rules, w64, ◌≡◌, ◌∙◌, ℤ, to_z, of_z}
use Rattle.sqlite.specs.Held.{state}
use Rattle.sql_commits.specs.Votes.{AddsSummed}
use Rattle.sql_commits.proofs.WritesInTurn.{write_ready, write_then, adds_summed}
use Rattle.units.specs.Units.{vote_sum}
use Rattle.sql_commits.specs.Figures.{PutsSum, AddsWithSum}
use Rattle.sql_commits.proofs.FiguresInTurn.{adds_with_sum}
use Rattle.sql_laws.proofs.DiskErrors.{blames_behind, told_on}
use Rattle.sql_commits.proofs.unit_writes.add_summed.Goals as goal

pub returns-clause-added : goal.returns-clause-added
returns-clause-added g c =
    let old = state g.S.Store c.args.tx.now.conn.now in
    let mid = state g.S.Store c.add_domain_suggestion.new.tx.conn.now in
    let new = state g.S.Store c.put_sum.new.tx.conn.now in
    let domain = c.args.row.domain.now in
    let number = c.args.row.number.now in
    let lang = c.args.row.lang.now in
    let key = c.args.row.key.now in
    let place = c.args.row.place in
    let suggester = c.args.row.suggester.now in
    let forms = c.args.row.forms.now in
    let added = write_ready old mid (Ok c.in_ok-add_domain_suggestion.field-0) _ c.requires.steady c.in_ok-add_domain_suggestion.ensures.added in
    write_then old mid new c.in_ok-add_domain_suggestion.field-0 c.put_sum.result _ _ (AddsSummed domain number lang key place suggester forms)
    (λ one summed. adds_summed number domain lang key place _ suggester forms old.now mid.now new.now one.0 one.1 summed)
    added c.put_sum.ensures.put

pub returns-clause-summed : goal.returns-clause-summed
returns-clause-summed g c =
    let old = state g.S.Store c.args.tx.now.conn.now in
    let mid = state g.S.Store c.add_domain_suggestion.new.tx.conn.now in
    let new = state g.S.Store c.put_sum.new.tx.conn.now in
    let number = c.args.row.number.now in
    let votes = c.args.votes.now in
    let sum : ℤ = to_z w64 (of_z w64 c.sum.result) in
    let through : sum ≡ c.sum.result = search rules in
    write_then old mid new c.in_ok-add_domain_suggestion.field-0 c.put_sum.result _ (PutsSum number sum) (AddsWithSum number (vote_sum votes))
    (adds_with_sum number _ sum (vote_sum votes) old.now mid.now new.now (through ∙ c.sum.ensures)) c.in_ok-add_domain_suggestion.ensures.added c.put_sum.ensures.put

pub returns-in_err-add_domain_suggestion-clause-disk : goal.returns-in_err-add_domain_suggestion-clause-disk
returns-in_err-add_domain_suggestion-clause-disk g c =
    told_on (state g.S.Store c.args.tx.now.conn.now) (state g.S.Store c.add_domain_suggestion.new.tx.conn.now) (state g.S.Store c.add_domain_suggestion.new.tx.conn.now) _ c.from_residual.result c.from_residual.ensures.1 c.in_err-add_domain_suggestion.ensures.disk

pub returns-clause-disk : goal.returns-clause-disk
returns-clause-disk g c =
    blames_behind (state g.S.Store c.args.tx.now.conn.now) (state g.S.Store c.add_domain_suggestion.new.tx.conn.now) (state g.S.Store c.put_sum.new.tx.conn.now) (λ _. ⊥) (λ _. ⊥) c.put_sum.result c.in_ok-add_domain_suggestion.ensures.added.survives c.put_sum.ensures.put.survives
    (c.put_sum.ensures.disk)
