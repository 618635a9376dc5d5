use Rattle.std.proofs.Common.{◌≡◌, rules, refl, sym, ap, ◌∙◌, string_bytes}
use Rattle.std.proofs.lemmas.Bool.{and_from}
use Rattle.std.proofs.lemmas.Str.{IsUtf8-string_bytes}
use Rattle.sqlite.specs.declared.types.Value.TheVariants.{Text as Words}
use Rattle.sqlite.specs.Order.{bytes, column}
use Rattle.sql_decoding.specs.RowTests.{any_text}
use Rattle.sql_decoding.proofs.ColumnsTested.{text_stands}
use Rattle.sql_decoding.proofs.records.record_in.Goals as goal

pub returns-clause-stands : goal.returns-clause-stands
returns-clause-stands c =
    let row = c.args.row.now in
    let content = string_bytes c.in_ok-content.content in
    let body = string_bytes c.in_ok-body.body in
    let holds_content : column row 0 ≡ Words content = search rules in
    let holds_body : column row 2 ≡ Words body = search rules in
    and_from _ _ (text_stands 0 row content holds_content any_text (IsUtf8-string_bytes c.in_ok-content.content) refl)
    (and_from _ _ c.in_ok-status.ensures.stands (text_stands 2 row body holds_body any_text (IsUtf8-string_bytes c.in_ok-body.body) refl))

pub returns-clause-shown : goal.returns-clause-shown
returns-clause-shown c =
    let content = c.from_string-2.ensures ∙ sym (ap bytes c.in_ok-content.ensures.shown) in
    let body = c.from_string.ensures ∙ sym (ap bytes c.in_ok-body.ensures.shown) in
    let reply = c.new-reply.ensures ∙ (λ i. record { status = c.in_ok-status.ensures.shown i; body = body i }) in
    λ i. record { number = c.args.number; content = content i; reply = reply i }
