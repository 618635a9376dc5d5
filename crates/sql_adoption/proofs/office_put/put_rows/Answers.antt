use Rattle.std.proofs.Common.{◌≡◌, true, ap, subst, ◌∙◌}
use Rattle.std.specs.List.{list_all}
use Rattle.office_maps.specs.OfficeIn.{office_in}
use Rattle.sql_decoding.specs.RowTests.{is_language_row, AreOfficeRows}
use Rattle.sql_decoding.proofs.RowsTold.{not_read, handed_on_of}
use Rattle.sql_meaning.specs.OfficeShown.{headers_shown}
use Rattle.sql_adoption.specs.Reading.{NotesLangs}
use Rattle.sql_adoption.proofs.PutDomains.{rows_put, all_held}
use Rattle.sql_adoption.proofs.office_put.put_rows.Goals as goal

pub returns-clause-put : goal.returns-clause-put
returns-clause-put c = rows_put c.args.domain.now c.args.rows.now c.args.maps.now c.add_domain.new.maps c.add_domain.result c.add_domain.ensures.shown c.add_domain.ensures.stands

pub returns-clause-all : goal.returns-clause-all
returns-clause-all c =
    all_held (office_in c.args.maps.now) (office_in c.add_domain.new.maps) c.args.langs.now.items c.note_langs.new.langs.items c.args.domain.now c.args.rows.now c.add_domain.result
    (subst (λ rows. NotesLangs (headers_shown rows) c.args.langs.now.items c.note_langs.new.langs.items) c.as_slice.ensures.value c.in_ok-note_langs.ensures.noted) c.add_domain.ensures.shown

pub returns-in_err-note_langs-clause-unread : goal.returns-in_err-note_langs-clause-unread
returns-in_err-note_langs-clause-unread c =
    let rows = c.as_slice.result.now in
    handed_on_of c.from_residual.result c.in_err-note_langs.field-0.0 {P = list_all is_language_row rows ≡ true} {Q = AreOfficeRows c.args.rows.now} c.from_residual.ensures
    (λ office. ap (list_all is_language_row) c.as_slice.ensures.value ∙ office.languages) (not_read (list_all is_language_row rows) c.in_err-note_langs.field-0.0 c.in_err-note_langs.ensures.unread)
