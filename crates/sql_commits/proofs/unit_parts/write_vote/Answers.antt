use Rattle.std.proofs.Common.{◌≡◌, ℤ, Ok, rules, subst, w64, to_z, of_z}
use Rattle.std.proofs.lemmas.Int.{to_z-of_z}
use Rattle.sqlite.specs.Effect.{Database}
use Rattle.sqlite.specs.Held.{state}
use Rattle.sqlite.specs.declared.error.Error.{Error}
use Rattle.sql_schema.specs.Inside.{AreOfficeTablesOf}
use Rattle.sql_schema.specs.Layouts.{by_domain}
use Rattle.units.specs.Units.{key_text}
use Rattle.sql_statements.specs.DomainAnswers.{ShowsPlaceOf}
use Rattle.sql_changes.specs.OnDomains.{OnDomain}
use Rattle.sql_changes.specs.UnitWrites.{WritesVote}
use Rattle.sql_commits.specs.Figures.{FollowsVoteAt}
use Rattle.sql_commits.proofs.FiguresInTurn.{write_answered, vote_nowhere_follows}
use Rattle.sql_commits.proofs.VotesCast.{Casts, vote_nowhere, vote_written, vote_follows}
use Rattle.sql_commits.proofs.WritesInTurn.{write_then, write_told, write_ready, write_mapped}
use Rattle.sql_decoding.proofs.DiskFailures.{error_told, fails_behind, mapped_told, memory_told}
use Rattle.sql_commits.proofs.unit_parts.write_vote.Goals as goal

-- the suggestion is on the unit: the vote and the sum are written
pub returns-in-Some-clause-put : goal.returns-in-Some-clause-put
returns-in-Some-clause-put g c =
    let old = state g.S.Store c.args.tx.now.conn.now in
    let mid = state g.S.Store c.find_domain_place.new.tx.conn.now in
    let new = state g.S.Store c.put_vote_and_sum.new.tx.conn.now in
    let domain = c.args.domain.now in
    let lang = c.args.lang.now in
    let key = c.args.key.now in
    let found = c.in_ok-found.found in
    let Shown = λ (before after : Database). (after ≡ before) × ShowsPlaceOf c.as_str.result.now c.as_str-2.result.now c.as_str-3.result.now c.as_str-4.result.now before found in
    let Ready = λ (before after : Database). AreOfficeTablesOf by_domain before × Shown before after in
    let read = write_ready old mid (Ok found) Shown c.requires.steady
    (write_answered old mid {F = Error} found found (ShowsPlaceOf c.as_str.result.now c.as_str-2.result.now c.as_str-3.result.now c.as_str-4.result.now) c.in_ok-found.ensures.found) in
    let Cast = Casts c.as_str-in-Some.result.now c.as_str-in-Some-2.result.now c.args.vote.value in
    let sum : ℤ = to_z w64 (of_z w64 c.args.vote.sum) in
    let through : sum ≡ c.args.vote.sum = to_z-of_z w64 c.args.vote.sum (search rules) in
    let cast = write_mapped mid new c.put_vote_and_sum.result c.map_err.result _ (Cast sum) (Cast c.args.vote.sum) c.map_err.ensures.cases (λ made. subst (λ z. Cast z mid.now new.now) through made)
    c.put_vote_and_sum.ensures.put in
    write_then old mid new found c.map_err.result Ready (Cast c.args.vote.sum) (OnDomain domain (WritesVote lang (key_text key) c.args.vote.number c.args.vote.voter.now c.args.vote.value))
    (λ shown made. vote_written domain lang key c.args.vote.number c.args.vote.voter.now c.args.vote.value c.as_str.result.now c.as_str-2.result.now c.as_str-3.result.now c.as_str-4.result.now
    (search rules) (search rules) (search rules) (search rules) c.in_ok-number.ensures.fits found old.now mid.now shown c.in-Some.row (search rules) c.as_str-in-Some.result.now c.as_str-in-Some-2.result.now c.args.vote.sum new.now
    (search rules) (search rules) made) read cast

pub returns-in-Some-clause-figures : goal.returns-in-Some-clause-figures
returns-in-Some-clause-figures g c =
    let old = state g.S.Store c.args.tx.now.conn.now in
    let mid = state g.S.Store c.find_domain_place.new.tx.conn.now in
    let new = state g.S.Store c.put_vote_and_sum.new.tx.conn.now in
    let domain = c.args.domain.now in
    let lang = c.args.lang.now in
    let key = c.args.key.now in
    let found = c.in_ok-found.found in
    let Shown = λ (before after : Database). (after ≡ before) × ShowsPlaceOf c.as_str.result.now c.as_str-2.result.now c.as_str-3.result.now c.as_str-4.result.now before found in
    let Ready = λ (before after : Database). AreOfficeTablesOf by_domain before × Shown before after in
    let read = write_ready old mid (Ok found) Shown c.requires.steady
    (write_answered old mid {F = Error} found found (ShowsPlaceOf c.as_str.result.now c.as_str-2.result.now c.as_str-3.result.now c.as_str-4.result.now) c.in_ok-found.ensures.found) in
    let Cast = Casts c.as_str-in-Some.result.now c.as_str-in-Some-2.result.now c.args.vote.value in
    let sum : ℤ = to_z w64 (of_z w64 c.args.vote.sum) in
    let through : sum ≡ c.args.vote.sum = to_z-of_z w64 c.args.vote.sum (search rules) in
    let cast = write_mapped mid new c.put_vote_and_sum.result c.map_err.result _ (Cast sum) (Cast c.args.vote.sum) c.map_err.ensures.cases (λ made. subst (λ z. Cast z mid.now new.now) through made)
    c.put_vote_and_sum.ensures.put in
    write_then old mid new found c.map_err.result Ready (Cast c.args.vote.sum) (FollowsVoteAt domain lang key c.args.vote.number c.args.vote.voter.now c.args.vote.value c.args.vote.sum)
    (λ shown made. vote_follows domain lang key c.args.vote.number c.args.vote.voter.now c.args.vote.value c.as_str.result.now c.as_str-2.result.now c.as_str-3.result.now c.as_str-4.result.now
    (search rules) (search rules) (search rules) (search rules) c.in_ok-number.ensures.fits found old.now mid.now shown c.in-Some.row (search rules) c.as_str-in-Some.result.now c.as_str-in-Some-2.result.now c.args.vote.sum new.now
    (search rules) (search rules) made) read cast

-- elsewhere nothing is
pub returns-clause-put : goal.returns-clause-put
returns-clause-put g c =
    let old = state g.S.Store c.args.tx.now.conn.now in
    let mid = state g.S.Store c.find_domain_place.new.tx.conn.now in
    let domain = c.args.domain.now in
    let lang = c.args.lang.now in
    let key = c.args.key.now in
    let found = c.in_ok-found.found in
    let Shown = λ (before after : Database). (after ≡ before) × ShowsPlaceOf c.as_str.result.now c.as_str-2.result.now c.as_str-3.result.now c.as_str-4.result.now before found in
    let Ready = λ (before after : Database). AreOfficeTablesOf by_domain before × Shown before after in
    let read = write_ready old mid (Ok found) Shown c.requires.steady
    (write_answered old mid {F = Error} found found (ShowsPlaceOf c.as_str.result.now c.as_str-2.result.now c.as_str-3.result.now c.as_str-4.result.now) c.in_ok-found.ensures.found) in
    write_told old mid found _ Ready (OnDomain domain (WritesVote lang (key_text key) c.args.vote.number c.args.vote.voter.now c.args.vote.value))
    (λ shown. vote_nowhere domain lang key c.args.vote.number c.args.vote.voter.now c.args.vote.value c.as_str.result.now c.as_str-2.result.now c.as_str-3.result.now c.as_str-4.result.now
    (search rules) (search rules) (search rules) (search rules) c.in_ok-number.ensures.fits found old.now mid.now shown (search rules)) read

pub returns-clause-figures : goal.returns-clause-figures
returns-clause-figures g c =
    let old = state g.S.Store c.args.tx.now.conn.now in
    let mid = state g.S.Store c.find_domain_place.new.tx.conn.now in
    let found = c.in_ok-found.found in
    let Shown = λ (before after : Database). (after ≡ before) × ShowsPlaceOf c.as_str.result.now c.as_str-2.result.now c.as_str-3.result.now c.as_str-4.result.now before found in
    let read = write_answered old mid {F = Error} found found (ShowsPlaceOf c.as_str.result.now c.as_str-2.result.now c.as_str-3.result.now c.as_str-4.result.now) c.in_ok-found.ensures.found in
    write_told old mid found _ Shown (FollowsVoteAt c.args.domain.now c.args.lang.now c.args.key.now c.args.vote.number c.args.vote.voter.now c.args.vote.value c.args.vote.sum)
    (λ shown. vote_nowhere_follows c.args.domain.now c.args.lang.now c.args.key.now c.args.vote.number c.args.vote.voter.now c.args.vote.value c.args.vote.sum old.now mid.now shown.0) read

pub returns-in_err-number-clause-disk : goal.returns-in_err-number-clause-disk
returns-in_err-number-clause-disk g c =
    memory_told (state g.S.Store c.args.tx.now.conn.now) (state g.S.Store c.args.tx.now.conn.now) c.from_residual.result c.from_residual.ensures.1

pub returns-in_err-key-clause-disk : goal.returns-in_err-key-clause-disk
returns-in_err-key-clause-disk g c =
    memory_told (state g.S.Store c.args.tx.now.conn.now) (state g.S.Store c.args.tx.now.conn.now) c.from_residual-in_err-key.result c.from_residual-in_err-key.ensures.1

pub returns-in_err-found-clause-disk : goal.returns-in_err-found-clause-disk
returns-in_err-found-clause-disk g c =
    error_told (state g.S.Store c.args.tx.now.conn.now) (state g.S.Store c.find_domain_place.new.tx.conn.now) _ c.from_residual-in_err-found.result c.from_residual-in_err-found.ensures.1 c.in_err-found.ensures.disk

pub returns-in-Some-clause-disk : goal.returns-in-Some-clause-disk
returns-in-Some-clause-disk g c =
    fails_behind (state g.S.Store c.args.tx.now.conn.now) (state g.S.Store c.find_domain_place.new.tx.conn.now) (state g.S.Store c.put_vote_and_sum.new.tx.conn.now) (λ _. ⊥) (λ _. ⊥) c.map_err.result c.in_ok-found.ensures.found.survives c.put_vote_and_sum.ensures.put.survives
    (mapped_told (state g.S.Store c.find_domain_place.new.tx.conn.now) (state g.S.Store c.put_vote_and_sum.new.tx.conn.now) c.put_vote_and_sum.result c.map_err.result _ (λ e f t. t) c.map_err.ensures.cases c.put_vote_and_sum.ensures.disk)
