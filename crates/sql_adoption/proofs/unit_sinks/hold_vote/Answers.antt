use Rattle.std.proofs.Common.{◌≡◌, rules, refl, string_bytes}
use Rattle.std.proofs.lemmas.Bool.{and_from}
use Rattle.std.proofs.lemmas.Str.{IsUtf8-string_bytes}
use Rattle.sqlite.specs.declared.types.Value.TheVariants.{Text as Words}
use Rattle.sqlite.specs.Order.{column}
use Rattle.sql_decoding.specs.RowTests.{any_text}
use Rattle.sql_decoding.proofs.ColumnsTested.{text_stands}
use Rattle.sql_adoption.proofs.unit_sinks.hold_vote.Goals as goal

pub returns-clause-stands : goal.returns-clause-stands
returns-clause-stands c =
    let row = c.args.row.now in
    let number = string_bytes c.in_ok-number.number in
    let holds : column row 2 ≡ Words number = search rules in
    and_from _ _ (text_stands 2 row number holds any_text (IsUtf8-string_bytes c.in_ok-number.number) refl) c.in_ok-put_vote.ensures.stands
