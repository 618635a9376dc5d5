use Rattle.std.proofs.Common.{Ok, Err, Vec, Global}
use Rattle.std.proofs.lemmas.Result.{err_from_is_err_and}
use Rattle.sqlite.specs.Effect.{Database}
use Rattle.sqlite.specs.Held.{state}
use Rattle.office_maps.specs.OfficeIn.{office_in}
use Rattle.sql_adoption.specs.FigureRows.{AreCounted, places_of}
use Rattle.sql_adoption.specs.FramesKept.{KeepsFrame, RefusesEither, StandsFrame, TestsDomains, walked_counts}
use Rattle.sql_adoption.specs.OwnedRows.{RefusesUnless}
use Rattle.sql_adoption.specs.SumsKept.{VotesStand}
use Rattle.sql_adoption.specs.WalkedOffice.{AreUnitsIn, ArePlaced, RefusesUnits}
use Rattle.sql_adoption.specs.declared.faults.OpenFault.{OpenFault}
use Rattle.sql_adoption.specs.declared.language_tallies.Counted.{Counted}
use Rattle.sql_layouts.proofs.Looked.{both_looked, idle_still, looked_failed, looked_on}
use Rattle.sql_adoption.proofs.AdoptedByWalks.{domains_refuse, placed_refuse, votes_refuse}
use Rattle.sql_adoption.proofs.LooksBehind.{refused_behind}
use Rattle.sql_adoption.proofs.OpensBlame.{after_both, fault_opens, opens_behind}
use Rattle.sql_adoption.proofs.walked_office.keep_units.Goals as goal

pub keep_domains-requires-clause-idle : goal.keep_domains-requires-clause-idle
keep_domains-requires-clause-idle g c = idle_still (state g.S.Store c.args.connection.now) (state g.S.Store c.keep_placed.new.connection) {E = OpenFault} _ _ c.requires.idle c.in_ok-keep_placed.ensures.found

pub keep_domains-requires-clause-is_open : goal.keep_domains-requires-clause-is_open
keep_domains-requires-clause-is_open g c = c.in_ok-keep_placed.ensures.found.is_open

pub keep_votes-requires-clause-idle : goal.keep_votes-requires-clause-idle
keep_votes-requires-clause-idle g c =
    let b = state g.S.Store c.keep_placed.new.connection in
    idle_still b (state g.S.Store c.keep_domains.new.connection) {E = OpenFault} _ _
    (idle_still (state g.S.Store c.args.connection.now) b {E = OpenFault} _ _ c.requires.idle c.in_ok-keep_placed.ensures.found) c.in_ok-counted.ensures.found

pub keep_votes-requires-clause-is_open : goal.keep_votes-requires-clause-is_open
keep_votes-requires-clause-is_open g c = c.in_ok-counted.ensures.found.is_open

pub returns-clause-found : goal.returns-clause-found
returns-clause-found g c =
    let a = state g.S.Store c.args.connection.now in
    let b = state g.S.Store c.keep_placed.new.connection in
    let d = state g.S.Store c.keep_domains.new.connection in
    let e = state g.S.Store c.keep_votes.new.connection in
    let frame = c.args.frame.now in
    let office = office_in frame.maps in
    let counted = c.in_ok-counted.counted in
    let Placed : Database → Type 0 = λ db. ArePlaced db in
    let Domains : Database → Vec Counted Global → Type 0 = λ db v. TestsDomains db office frame.domains.items × AreCounted (walked_counts db office) (places_of frame.domains.items frame.langs.items) v.items in
    looked_on a e {E = OpenFault} _ (Ok counted) _ (λ db v. AreUnitsIn db frame v.items)
    (both_looked a d e {E = OpenFault} counted (Ok _) (λ db v. Placed db × Domains db v) (λ db _. VotesStand db)
    (both_looked a b d {E = OpenFault} _ (Ok counted) (λ db _. Placed db) Domains c.in_ok-keep_placed.ensures.found c.in_ok-counted.ensures.found) c.in_ok-keep_votes.ensures.found)
    (λ early is_open it. record { placed = it.0.0; domains = it.0.1.0; votes = it.1; counts = it.0.1.1 })

pub returns-in_err-keep_placed-clause-found : goal.returns-in_err-keep_placed-clause-found
returns-in_err-keep_placed-clause-found g c =
    looked_failed (state g.S.Store c.args.connection.now) (state g.S.Store c.keep_placed.new.connection) _ c.from_residual.result _ (λ db (v : Vec Counted Global). AreUnitsIn db c.args.frame.now v.items) c.from_residual.ensures.0
    c.in_err-keep_placed.ensures.found

pub returns-in_err-keep_placed-clause-refused : goal.returns-in_err-keep_placed-clause-refused
returns-in_err-keep_placed-clause-refused g c =
    let p = err_from_is_err_and c.from_residual.result c.from_residual.ensures.1 in
    rw (p.1, p.2) (λ clean. placed_refuse (office_in c.args.frame.now.maps) (state g.S.Store c.args.connection.now).now c.in_err-keep_placed.field-0.0 (c.in_err-keep_placed.ensures.refused clean))

pub returns-in_err-counted-clause-found : goal.returns-in_err-counted-clause-found
returns-in_err-counted-clause-found g c =
    let a = state g.S.Store c.args.connection.now in
    let d = state g.S.Store c.keep_domains.new.connection in
    let frame = c.args.frame.now in
    let office = office_in frame.maps in
    looked_failed a d (Err c.in_err-counted.field-0.0) c.from_residual-in_err-counted.result _ (λ db (v : Vec Counted Global). AreUnitsIn db frame v.items) c.from_residual-in_err-counted.ensures.0
    (both_looked a (state g.S.Store c.keep_placed.new.connection) d {E = OpenFault} _ (Err c.in_err-counted.field-0.0) (λ db _. ArePlaced db)
    (λ db (v : Vec Counted Global). TestsDomains db office frame.domains.items × AreCounted (walked_counts db office) (places_of frame.domains.items frame.langs.items) v.items) c.in_ok-keep_placed.ensures.found
    c.in_err-counted.ensures.found)

pub returns-in_err-counted-clause-refused : goal.returns-in_err-counted-clause-refused
returns-in_err-counted-clause-refused g c =
    let p = err_from_is_err_and c.from_residual-in_err-counted.result c.from_residual-in_err-counted.ensures.1 in
    let a = state g.S.Store c.args.connection.now in
    let frame = c.args.frame.now in
    let office = office_in frame.maps in
    rw (p.1, p.2) (refused_behind a (state g.S.Store c.keep_placed.new.connection) (state g.S.Store c.keep_domains.new.connection) _ (Err c.in_err-counted.field-0.0) (λ db _. ArePlaced db)
    (λ db (v : Vec Counted Global). TestsDomains db office frame.domains.items × AreCounted (walked_counts db office) (places_of frame.domains.items frame.langs.items) v.items) c.in_ok-keep_placed.ensures.found c.in_err-counted.ensures.found
    (λ db fault. RefusesEither (StandsFrame db office) (KeepsFrame db office) fault) (λ db fault. RefusesUnits office db fault) (λ early fault placed refused. domains_refuse office a.now fault refused) c.in_err-counted.ensures.refused)

pub returns-in_err-keep_votes-clause-found : goal.returns-in_err-keep_votes-clause-found
returns-in_err-keep_votes-clause-found g c =
    let a = state g.S.Store c.args.connection.now in
    let d = state g.S.Store c.keep_domains.new.connection in
    let e = state g.S.Store c.keep_votes.new.connection in
    let frame = c.args.frame.now in
    let office = office_in frame.maps in
    let Domains : Database → Vec Counted Global → Type 0 = λ db v. TestsDomains db office frame.domains.items × AreCounted (walked_counts db office) (places_of frame.domains.items frame.langs.items) v.items in
    looked_failed a e (Err c.in_err-keep_votes.field-0.0) c.from_residual-in_err-keep_votes.result _ (λ db (v : Vec Counted Global). AreUnitsIn db frame v.items) c.from_residual-in_err-keep_votes.ensures.0
    (both_looked a d e {E = OpenFault} c.in_ok-counted.counted (Err c.in_err-keep_votes.field-0.0) (λ db v. ArePlaced db × Domains db v) (λ db _. VotesStand db)
    (both_looked a (state g.S.Store c.keep_placed.new.connection) d {E = OpenFault} _ (Ok c.in_ok-counted.counted) (λ db _. ArePlaced db) Domains c.in_ok-keep_placed.ensures.found c.in_ok-counted.ensures.found) c.in_err-keep_votes.ensures.found)

pub returns-in_err-keep_votes-clause-refused : goal.returns-in_err-keep_votes-clause-refused
returns-in_err-keep_votes-clause-refused g c =
    let p = err_from_is_err_and c.from_residual-in_err-keep_votes.result c.from_residual-in_err-keep_votes.ensures.1 in
    let a = state g.S.Store c.args.connection.now in
    let d = state g.S.Store c.keep_domains.new.connection in
    let e = state g.S.Store c.keep_votes.new.connection in
    let frame = c.args.frame.now in
    let office = office_in frame.maps in
    let Domains : Database → Vec Counted Global → Type 0 = λ db v. TestsDomains db office frame.domains.items × AreCounted (walked_counts db office) (places_of frame.domains.items frame.langs.items) v.items in
    rw (p.1, p.2) (refused_behind a d e c.in_ok-counted.counted (Err c.in_err-keep_votes.field-0.0) (λ db v. ArePlaced db × Domains db v) (λ db _. VotesStand db)
    (both_looked a (state g.S.Store c.keep_placed.new.connection) d {E = OpenFault} _ (Ok c.in_ok-counted.counted) (λ db _. ArePlaced db) Domains c.in_ok-keep_placed.ensures.found c.in_ok-counted.ensures.found) c.in_err-keep_votes.ensures.found
    (λ db fault. RefusesUnless (VotesStand db) fault) (λ db fault. RefusesUnits office db fault) (λ early fault it refused. votes_refuse office a.now fault refused) c.in_err-keep_votes.ensures.refused)

pub returns-in_err-keep_placed-clause-disk : goal.returns-in_err-keep_placed-clause-disk
returns-in_err-keep_placed-clause-disk g c = fault_opens (state g.S.Store c.args.connection.now) (state g.S.Store c.keep_placed.new.connection) _ c.from_residual.result c.from_residual.ensures.1 c.in_err-keep_placed.ensures.disk

pub returns-in_err-counted-clause-disk : goal.returns-in_err-counted-clause-disk
returns-in_err-counted-clause-disk g c =
    let b = state g.S.Store c.keep_placed.new.connection in
    let d = state g.S.Store c.keep_domains.new.connection in
    opens_behind (state g.S.Store c.args.connection.now) b d _ _ c.from_residual-in_err-counted.result c.in_ok-keep_placed.ensures.found.survives c.in_err-counted.ensures.found.survives
    (fault_opens b d _ c.from_residual-in_err-counted.result c.from_residual-in_err-counted.ensures.1 c.in_err-counted.ensures.disk)

pub returns-in_err-keep_votes-clause-disk : goal.returns-in_err-keep_votes-clause-disk
returns-in_err-keep_votes-clause-disk g c =
    let a = state g.S.Store c.args.connection.now in
    let d = state g.S.Store c.keep_domains.new.connection in
    let e = state g.S.Store c.keep_votes.new.connection in
    let before = after_both a (state g.S.Store c.keep_placed.new.connection) d _ _ c.in_ok-keep_placed.ensures.found.survives c.in_ok-counted.ensures.found.survives in
    opens_behind a d e _ _ c.from_residual-in_err-keep_votes.result before c.in_err-keep_votes.ensures.found.survives
    (fault_opens d e _ c.from_residual-in_err-keep_votes.result c.from_residual-in_err-keep_votes.ensures.1 c.in_err-keep_votes.ensures.disk)
