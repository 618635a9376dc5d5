use Rattle.std.proofs.Common.{◌≡◌, rules, refl, string_bytes}
use Rattle.std.proofs.lemmas.Bool.{and_from}
use Rattle.std.proofs.lemmas.Str.{IsUtf8-string_bytes}
use Rattle.sqlite.specs.declared.types.Value.TheVariants.{Text as Words}
use Rattle.sqlite.specs.Order.{column}
use Rattle.sql_decoding.specs.RowTests.{any_text}
use Rattle.sql_decoding.proofs.ColumnsTested.{text_stands}
use Rattle.sql_adoption.proofs.unit_sinks.hold_unit.Goals as goal

pub returns-clause-stands : goal.returns-clause-stands
returns-clause-stands c =
    let row = c.args.row.now in
    let first = string_bytes c.in_ok-lang.lang in
    let second = string_bytes c.in_ok-key.key in
    let holds_first : column row 4 ≡ Words first = search rules in
    let holds_second : column row 5 ≡ Words second = search rules in
    and_from _ _ (text_stands 4 row first holds_first any_text (IsUtf8-string_bytes c.in_ok-lang.lang) refl)
    (text_stands 5 row second holds_second any_text (IsUtf8-string_bytes c.in_ok-key.key) refl)
