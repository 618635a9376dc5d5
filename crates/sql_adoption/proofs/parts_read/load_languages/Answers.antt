use Rattle.std.proofs.Common.{◌≡◌, Ok, sym, ◌∙◌}
use Rattle.sqlite.specs.Effect.{Database}
use Rattle.sqlite.specs.Held.{state}
use Rattle.office_specification.specs.Parts.{ShareTeam, AreAlikeIn}
use Rattle.office_specification.specs.declared.parts.Part.TheVariants as parts
use Rattle.office_specification.proofs.acts.PartSteps.{fewer}
use Rattle.office_maps.specs.OfficeIn.{office_in}
use Rattle.office_maps.specs.declared.office_maps.OfficeMaps.{OfficeMaps}
use Rattle.sql_schema.specs.Layouts.{rows_named}
use Rattle.sql_statements.specs.WholeOffice.{without_units}
use Rattle.sql_meaning.specs.Domains.{office_of_rows}
use Rattle.sql_decoding.specs.declared.faults.Failure.{Failure}
use Rattle.sql_decoding.proofs.DiskFailures.{failure_told, fails_behind}
use Rattle.sql_layouts.proofs.Looked.{looked_on, looked_weaker, both_looked, idle_still}
use Rattle.sql_adoption.specs.Reading.{with_seen}
use Rattle.sql_adoption.proofs.PartsRead.{none_alike, frame_alike}
use Rattle.sql_adoption.proofs.parts_read.load_languages.Goals as goal

abbrev Shares : Database → OfficeMaps → Type 0
Shares db maps = ShareTeam (office_in maps) (office_of_rows (rows_named db))

pub returns-then-not-has_domain-clause-found : goal.returns-then-not-has_domain-clause-found
returns-then-not-has_domain-clause-found g c =
    let old = state g.S.Store c.args.connection.now in
    let new = state g.S.Store c.load_shared.new.connection in
    let domain = c.args.domain.now in
    let maps = c.in_ok-maps.maps in
    looked_on old new {E = Failure} maps (Ok maps) Shares (λ db more. AreAlikeIn (parts.Languages domain) (office_in more) (office_of_rows (rows_named db))) c.in_ok-maps.ensures.found
    (λ early is_open shares. fewer (office_in maps) (office_of_rows (rows_named old.now)) domain (shares, none_alike (office_in maps) (office_of_rows (rows_named old.now)) domain shares (sym c.has_domain.ensures ∙ c.if-not-has_domain.true)))

pub returns-clause-found : goal.returns-clause-found
returns-clause-found g c =
    let old = state g.S.Store c.args.connection.now in
    let mid = state g.S.Store c.load_shared.new.connection in
    let new = state g.S.Store c.with_domain.new.connection in
    let domain = c.args.domain.now in
    let maps = c.in_ok-maps.maps in
    let seen : Database → OfficeMaps → Type 0 = (λ db more. office_in more ≡ with_seen (without_units (rows_named db)) (office_in maps) domain) in
    looked_weaker old new c.with_domain.result (λ db more. Shares db maps × seen db more) (λ db more. AreAlikeIn (parts.Languages domain) (office_in more) (office_of_rows (rows_named db)))
    (λ db more both. frame_alike (rows_named db) (office_in maps) domain both.0 (sym c.has_domain.ensures ∙ c.if-not-has_domain.false) (office_in more) both.1)
    (both_looked old mid new {E = Failure} maps c.with_domain.result Shares seen c.in_ok-maps.ensures.found c.with_domain.ensures.found)

pub with_domain-requires-clause-idle : goal.with_domain-requires-clause-idle
with_domain-requires-clause-idle g c =
    idle_still (state g.S.Store c.args.connection.now) (state g.S.Store c.load_shared.new.connection) {E = Failure} (Ok c.in_ok-maps.maps) Shares c.requires.idle c.in_ok-maps.ensures.found

pub returns-in_err-maps-clause-disk : goal.returns-in_err-maps-clause-disk
returns-in_err-maps-clause-disk g c = failure_told (state g.S.Store c.args.connection.now) (state g.S.Store c.load_shared.new.connection) _ c.from_residual.result c.from_residual.ensures.1 c.in_err-maps.ensures.disk

pub returns-clause-disk : goal.returns-clause-disk
returns-clause-disk g c =
    fails_behind (state g.S.Store c.args.connection.now) (state g.S.Store c.load_shared.new.connection) (state g.S.Store c.with_domain.new.connection) _ _ c.with_domain.result
    c.in_ok-maps.ensures.found.survives c.with_domain.ensures.found.survives c.with_domain.ensures.disk
