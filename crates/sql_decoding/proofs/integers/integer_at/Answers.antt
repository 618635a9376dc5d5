use Rattle.std.proofs.Common.{ap, false, of_z, rules, subst, sym, to_z, true, w64, ◌∙◌, ◌≡◌}
use Rattle.sqlite.specs.declared.types.Value.TheVariants.{Int}
use Rattle.sqlite.specs.Order.{column}
use Rattle.sql_decoding.specs.RowTests.{holds_integer}
use Rattle.sql_decoding.proofs.RowsTold.{handed_on}
use Rattle.sql_decoding.proofs.ColumnsTested.{fault_tells, integer_is}
use Rattle.sql_decoding.proofs.integers.integer_at.Goals as goal

pub returns-in_err-column-clause-unread : goal.returns-in_err-column-clause-unread
returns-in_err-column-clause-unread g c =
    let stands = holds_integer g.V.FromInteger.passes c.args.at c.args.row.now in
    handed_on c.from_residual.result c.in_err-column.field-0.0 stands stands c.from_residual.ensures (λ fails. fails) (c.in_err-column.ensures.unread g.V.FromInteger.passes)

pub returns-in_err-from_integer-clause-unread : goal.returns-in_err-from_integer-clause-unread
returns-in_err-from_integer-clause-unread g c =
    let passes = g.V.FromInteger.passes in
    let n = c.in_ok-column.column in
    let same : to_z w64 (of_z w64 n) ≡ n = search rules in
    let holds : column c.args.row.now c.args.at ≡ Int n = search rules in
    fault_tells c.from_residual-in_err-from_integer.result (holds_integer passes c.args.at c.args.row.now) c.in_err-from_integer.field-0.0 c.from_residual-in_err-from_integer.ensures
    (λ other. integer_is c.args.at c.args.row.now n holds passes false (subst (λ m. passes m ≡ false) same c.in_err-from_integer.ensures.falls))

pub returns-clause-stands : goal.returns-clause-stands
returns-clause-stands g c =
    let passes = g.V.FromInteger.passes in
    let n = c.in_ok-column.column in
    let same : to_z w64 (of_z w64 n) ≡ n = search rules in
    let holds : column c.args.row.now c.args.at ≡ Int n = search rules in
    integer_is c.args.at c.args.row.now n holds passes true (subst (λ m. passes m ≡ true) same c.in_ok-from_integer.ensures.stands)

pub returns-clause-shown : goal.returns-clause-shown
returns-clause-shown g c =
    let n = c.in_ok-column.column in
    let same : to_z w64 (of_z w64 n) ≡ n = search rules in
    let holds : column c.args.row.now c.args.at ≡ Int n = search rules in
    c.in_ok-from_integer.ensures.shown c.args.at c.args.row.now (holds ∙ ap Int (sym same))
