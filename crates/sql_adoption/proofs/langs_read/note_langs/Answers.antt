use Rattle.std.specs.List.{list_all}
use Rattle.sql_decoding.specs.RowTests.{is_language_row}
use Rattle.sql_decoding.proofs.RowsTold.{handed_on, one_fails}
use Rattle.sql_adoption.proofs.Langs.{none_noted, lang_more, all_langs}
use Rattle.sql_adoption.proofs.langs_read.note_langs.Goals as goal

pub loop-row-init : goal.loop-row-init
loop-row-init c = none_noted c.args.rows.now c.args.langs.now.items

pub loop-row-preserved : goal.loop-row-preserved
loop-row-preserved c =
    lang_more c.args.rows.now c.loop-row.row-index c.row-item.result c.args.langs.now.items c.loop-row.langs.items c.note_lang.new.langs.items c.in_ok-lang_of.field-0 c.loop-row-test.true c.row-item.is
    c.loop-row.invariant c.in_ok-lang_of.ensures.shown c.in_ok-note_lang.ensures

pub returns-clause-noted : goal.returns-clause-noted
returns-clause-noted c = all_langs c.args.rows.now c.loop-row.row-index c.args.langs.now.items c.loop-row.langs.items c.loop-row-test.false c.loop-row.invariant

pub returns-in_err-lang_of-clause-unread : goal.returns-in_err-lang_of-clause-unread
returns-in_err-lang_of-clause-unread c =
    handed_on c.from_residual.result c.in_err-lang_of.field-0.0 (list_all is_language_row c.args.rows.now) (is_language_row c.row-item.result) c.from_residual.ensures
    (one_fails is_language_row c.args.rows.now c.loop-row.row-index c.row-item.result c.loop-row-test.true c.row-item.is) c.in_err-lang_of.ensures.unread
