use Rattle.std.proofs.Common.{rules, ◌≡◌, Ok, Some, None, refl, sym, ap, subst, of_z, to_z, w64}
use Rattle.sqlite.specs.Held.{state}
use Rattle.sqlite.specs.Order.{column}
use Rattle.sqlite.specs.declared.error.Error.{Error}
use Rattle.sqlite.specs.declared.types.Value.TheVariants.{Int}
use Rattle.sql_decoding.specs.declared.faults.Failure.{Failure}
use Rattle.sql_schema.specs.Whole.{IsLookUp}
use Rattle.sql_statements.specs.RecordsInOrder.{ShowsPlace}
use Rattle.sql_meaning.specs.Values.{integer_of}
use Rattle.sql_decoding.proofs.DiskFailures.{error_told, memory_told, mild_told, needed_is}
use Rattle.sql_exports.proofs.Results.{look_up_mapped}
use Rattle.store_sql.specs.RecordsBehind.{IsPlaceOf}
use Rattle.store_sql.proofs.recorded.read_place.Goals as goal

pub returns-in_ok-place-in-Some-clause-found : goal.returns-in_ok-place-in-Some-clause-found
returns-in_ok-place-in-Some-clause-found g c =
    let old = state g.S.Store c.args.connection.now in
    let new = state g.S.Store c.look_up-found.new.connection in
    let n = c.in_ok-place-in-Some.field-0 in
    let same : to_z w64 (of_z w64 n) ≡ n = search rules in
    let holds : column c.in-Some.row 0 ≡ Int n = needed_is _ c.integer_in.result n c.in_ok-place-in-Some.ensures.value c.integer_in.ensures.shown in
    subst (λ p. IsLookUp {E = Failure} old new (Ok (Some p)) (IsPlaceOf c.args.number)) (sym same)
    (look_up_mapped old new {E = Error} (Some c.in-Some.row) (Some n) (ShowsPlace c.as_str.result.now) (IsPlaceOf c.args.number) (search rules)
    (λ clean is_open shown. (Some c.in-Some.row, subst (λ t. ShowsPlace t old.now (Some c.in-Some.row)) (search rules) shown, ap (λ v. Some (integer_of v)) (sym holds))))

pub returns-in-None-clause-found : goal.returns-in-None-clause-found
returns-in-None-clause-found g c =
    look_up_mapped (state g.S.Store c.args.connection.now) (state g.S.Store c.look_up-found.new.connection) {E = Error} None None
    (ShowsPlace c.as_str.result.now) (IsPlaceOf c.args.number) (search rules)
    (λ clean is_open shown. (None, subst (λ t. ShowsPlace t (state g.S.Store c.args.connection.now).now None) (search rules) shown, refl))

pub returns-in_err-column-clause-disk : goal.returns-in_err-column-clause-disk
returns-in_err-column-clause-disk g c = memory_told (state g.S.Store c.args.connection.now) (state g.S.Store c.args.connection.now) c.from_residual.result c.from_residual.ensures.1

pub returns-in_err-row-clause-disk : goal.returns-in_err-row-clause-disk
returns-in_err-row-clause-disk g c = error_told (state g.S.Store c.args.connection.now) (state g.S.Store c.look_up-found.new.connection) _ c.from_residual-in_err-row.result c.from_residual-in_err-row.ensures.1 c.in_err-row.ensures.disk

pub returns-in_err-place-in-Some-clause-disk : goal.returns-in_err-place-in-Some-clause-disk
returns-in_err-place-in-Some-clause-disk g c =
    mild_told (state g.S.Store c.args.connection.now) (state g.S.Store c.look_up-found.new.connection) _ c.from_residual-in_err-place-in-Some.result c.from_residual-in_err-place-in-Some.ensures.1 c.in_err-place-in-Some.ensures.told
