use Rattle.std.proofs.Common.{◌≡◌, rules, refl, sym, string_bytes}
use Rattle.std.proofs.lemmas.Bool.{and_from}
use Rattle.std.proofs.lemmas.Str.{IsUtf8-string_bytes}
use Rattle.sqlite.specs.declared.types.Value.TheVariants.{Text as Words}
use Rattle.sqlite.specs.Order.{column}
use Rattle.sql_decoding.specs.RowTests.{any_text}
use Rattle.sql_decoding.proofs.ColumnsTested.{text_stands}
use Rattle.sql_decoding.proofs.ColumnsRead.{holds_text}
use Rattle.sql_loading.proofs.unit_tables.unit_columns.Goals as goal

pub returns-clause-lang : goal.returns-clause-lang
returns-clause-lang c = sym (holds_text c.args.lang c.args.row.now (string_bytes c.in_ok-lang.lang) (search rules))

pub returns-clause-key : goal.returns-clause-key
returns-clause-key c = sym (holds_text c.args.key c.args.row.now (string_bytes c.in_ok-key.key) (search rules))

pub returns-clause-stands : goal.returns-clause-stands
returns-clause-stands c =
    let row = c.args.row.now in
    let first = string_bytes c.in_ok-lang.lang in
    let second = string_bytes c.in_ok-key.key in
    let holds_first : column row c.args.lang ≡ Words first = search rules in
    let holds_second : column row c.args.key ≡ Words second = search rules in
    and_from _ _ (text_stands c.args.lang row first holds_first any_text (IsUtf8-string_bytes c.in_ok-lang.lang) refl)
    (text_stands c.args.key row second holds_second any_text (IsUtf8-string_bytes c.in_ok-key.key) refl)
