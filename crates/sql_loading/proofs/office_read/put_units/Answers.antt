use Rattle.std.proofs.Common.{fold, ◌&&◌, sym, ap, ◌∙◌}
use Rattle.std.specs.List.{list_all}
use Rattle.std.proofs.lemmas.Bool.{and_from}
use Rattle.std.specs.FinMap as maps
use Rattle.sqlite.specs.Order.{Row}
use Rattle.units.specs.Project.{place_cmp}
use Rattle.units.specs.declared.unit.Unit.{Unit}
use Rattle.sql_schema.specs.Keys.{text_at}
use Rattle.sql_meaning.specs.Meaning.{key_at}
use Rattle.sql_meaning.specs.Shown.{shown_unit}
use Rattle.sql_meaning.specs.OfficeShown.{place_shown}
use Rattle.sql_decoding.specs.TablesRead.{with_suggestions}
use Rattle.sql_loading.specs.DomainChanged.{lending}
use Rattle.sql_loading.proofs.OfficePut.{units_put}
use Rattle.sql_decoding.specs.RowTests.{is_vote_row, is_suggestion_row, is_unit_row, are_unit_tables}
use Rattle.sql_decoding.proofs.RowsTold.{first_fails, second_fails, handed_on}
use Rattle.sql_loading.proofs.office_read.put_units.Goals as goal

pub returns-clause-shown : goal.returns-clause-shown
returns-clause-shown c = λ office project is.
    let rows = c.as_slice.result.now in
    c.in_ok-put_each_unit.ensures.shown office project is
    ∙ ap (lending office c.args.domain.now) (units_put place_shown (with_suggestions c.in_ok-suggestions.suggestions) project rows
    ∙ (λ i. record project {
      units = fold (λ (m : maps.FinMap place_cmp Unit) (row : Row). maps.insert m (place_shown row) (shown_unit (key_at 8 row) (c.in_ok-suggestions.ensures.shown (text_at 7 row) (text_at 8 row) i) row)) project.units (c.as_slice.ensures.value i);
    }))

pub returns-in_err-suggestions-clause-unread : goal.returns-in_err-suggestions-clause-unread
returns-in_err-suggestions-clause-unread c =
    let rows = c.args.rows.now in
    let before = list_all is_vote_row rows.votes.items && list_all is_suggestion_row rows.suggestions.items in
    handed_on c.from_residual.result c.in_err-suggestions.field-0.0 (are_unit_tables rows) before c.from_residual.ensures (first_fails before (list_all is_unit_row rows.units.items)) c.in_err-suggestions.ensures.unread

pub returns-in_err-put_each_unit-clause-unread : goal.returns-in_err-put_each_unit-clause-unread
returns-in_err-put_each_unit-clause-unread c =
    let rows = c.args.rows.now in
    let before = list_all is_vote_row rows.votes.items && list_all is_suggestion_row rows.suggestions.items in
    handed_on c.from_residual-in_err-put_each_unit.result c.in_err-put_each_unit.field-0.0 (are_unit_tables rows) (list_all is_unit_row c.as_slice.result.now) c.from_residual-in_err-put_each_unit.ensures
    (λ fails. second_fails before (list_all is_unit_row rows.units.items) (ap (list_all is_unit_row) (sym c.as_slice.ensures.value) ∙ fails)) c.in_err-put_each_unit.ensures.unread

pub returns-clause-stands : goal.returns-clause-stands
returns-clause-stands c = and_from _ _ c.in_ok-suggestions.ensures.stands (ap (list_all is_unit_row) (sym c.as_slice.ensures.value) ∙ c.in_ok-put_each_unit.ensures.stands)
