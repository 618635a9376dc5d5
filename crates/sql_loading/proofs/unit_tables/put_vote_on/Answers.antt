use Rattle.std.proofs.Common.{refl, ◌≡◌, cond, rules, unwrap_or, string_bytes, sym, ap, ◌∙◌}
use Rattle.std.specs.Ordering.{is_eq}
use Rattle.std.specs.FinMap as maps
use Rattle.po_text.specs.Texts.{text_cmp}
use Rattle.units.specs.Orders.{text_total, text_IsAntisymmetric}
use Rattle.sql_schema.specs.Keys.{text_at}
use Rattle.sql_meaning.specs.Values.{vote_at}
use Rattle.sql_decoding.specs.TablesRead.{Votes, votes_of}
use Rattle.sql_decoding.proofs.ColumnsRead.{holds_text}
use Rattle.sql_loading.proofs.PutAnew.{put_stepped}
use Rattle.sql_loading.proofs.TwoTexts.{text_tie}
use Rattle.std.proofs.lemmas.Bool.{and_from}
use Rattle.sqlite.specs.declared.types.Value.TheVariants.{Text as Words}
use Rattle.sqlite.specs.Order.{column}
use Rattle.sql_decoding.specs.RowTests.{any_text}
use Rattle.sql_decoding.proofs.ColumnsTested.{text_stands}
use Rattle.sql_loading.proofs.unit_tables.put_vote_on.Goals.{in-Some, in-None}
use Rattle.sql_loading.proofs.unit_tables.put_vote_on.Goals as goal

pub returns-clause-shown : goal.returns-clause-shown
returns-clause-shown c = λ asked.
    let row = c.args.row.now in
    let all = c.args.all.now in
    let number = c.as_str.result.now in
    let read : text_at 2 row ≡ number = holds_text 2 row number (search rules) in
    let was : c.match-remove.own ≡ votes_of all number =
    elim c.match-remove.branch [
      | in-Some w ↦ w.own-is ∙ ap (λ o. unwrap_or o maps.empty) w.in-Some.ensures.value
      | in-None w ↦ w.own-is ∙ w.new-own.ensures ∙ ap (λ o. unwrap_or o maps.empty) w.in-None.ensures.value
    ] in
    let with_vote = λ (own : Votes). maps.insert own (text_at 0 row) (vote_at 1 row) in
    put_stepped text_cmp text_total text_IsAntisymmetric string_bytes all c.remove.new.self c.insert.new.self number c.in_ok-number.number c.put_vote.new.votes
    (sym c.as_str.ensures.value) c.remove.ensures.entries c.remove.ensures.updates.1 c.in_ok-insert.ensures.entries maps.empty with_vote
    (c.in_ok-put_vote.ensures.shown ∙ ap with_vote was) asked
    ∙ ap (λ b. cond b (with_vote (votes_of all asked)) (votes_of all asked)) (ap (λ t. is_eq (text_cmp asked t)) (sym c.as_str.ensures.value ∙ sym read) ∙ text_tie asked (text_at 2 row))

pub returns-clause-stands : goal.returns-clause-stands
returns-clause-stands c =
    let row = c.args.row.now in
    let number = c.as_str.result.now in
    let holds : column row 2 ≡ Words number = search rules in
    and_from _ _ (text_stands 2 row number holds any_text c.as_str.utf8 refl) c.in_ok-put_vote.ensures.stands
