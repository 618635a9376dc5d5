use Rattle.std.proofs.Common.{◌≡◌, true, sym, ap, subst, ◌∙◌}
use Rattle.std.specs.List.{list_all}
use Rattle.std.specs.Option.{option_map_or}
use Rattle.units.specs.Office.{empty_domain, as_project}
use Rattle.units.specs.Changes.{with_domain}
use Rattle.office_maps.specs.OfficeIn.{office_in}
use Rattle.sql_meaning.specs.OfficeShown.{template_shown, headers_shown, team_shown, policy_shown, units_shown}
use Rattle.sql_decoding.specs.RowTests.{is_member_row, is_policy_row, is_language_row, are_unit_tables, IsTemplate, AreOfficeRows}
use Rattle.sql_decoding.proofs.RowsTold.{not_read, handed_on_of}
use Rattle.sql_loading.specs.DomainChanged.{lending}
use Rattle.sql_loading.proofs.office_read.add_domain.Goals as goal

pub returns-clause-shown : goal.returns-clause-shown
returns-clause-shown c =
    let base = office_in c.args.maps.now in
    let domain = c.args.domain.now in
    let rows = c.args.rows.now.office in
    c.in_ok-put_units.ensures.shown base _ (c.in_ok-put_policy.ensures.shown domain base _ (c.in_ok-put_team.ensures.shown domain base _ (c.in_ok-put_languages.ensures.shown base _
    (c.in_ok-put_template.ensures.shown base (as_project base empty_domain) (c.in_ok-change.ensures.ok ∙ ap (with_domain base) c.in_ok-own.ensures)))))
    ∙ (λ i. lending base domain (record {
      template = template_shown (c.as_slice.ensures.value i);
      headers = headers_shown (c.as_slice-2.ensures.value i);
      units = units_shown c.args.rows.now.units;
      team = team_shown (c.as_slice-3.ensures.value i);
      policy = policy_shown rows.policy;
    }))

pub returns-in_err-put_template-clause-unread : goal.returns-in_err-put_template-clause-unread
returns-in_err-put_template-clause-unread c =
    handed_on_of c.from_residual-in_err-put_template.result c.in_err-put_template.field-0.0 {P = IsTemplate c.as_slice.result.now} {Q = AreOfficeRows c.args.rows.now} c.from_residual-in_err-put_template.ensures (λ office. subst IsTemplate (sym c.as_slice.ensures.value) office.template) c.in_err-put_template.ensures.unread

pub returns-in_err-put_languages-clause-unread : goal.returns-in_err-put_languages-clause-unread
returns-in_err-put_languages-clause-unread c =
    handed_on_of c.from_residual-in_err-put_languages.result c.in_err-put_languages.field-0.0 {P = list_all is_language_row c.as_slice-2.result.now ≡ true} {Q = AreOfficeRows c.args.rows.now} c.from_residual-in_err-put_languages.ensures (λ office. ap (list_all is_language_row) c.as_slice-2.ensures.value ∙ office.languages) (not_read (list_all is_language_row c.as_slice-2.result.now) c.in_err-put_languages.field-0.0 c.in_err-put_languages.ensures.unread)

pub returns-in_err-put_team-clause-unread : goal.returns-in_err-put_team-clause-unread
returns-in_err-put_team-clause-unread c =
    handed_on_of c.from_residual-in_err-put_team.result c.in_err-put_team.field-0.0 {P = list_all is_member_row c.as_slice-3.result.now ≡ true} {Q = AreOfficeRows c.args.rows.now} c.from_residual-in_err-put_team.ensures (λ office. ap (list_all is_member_row) c.as_slice-3.ensures.value ∙ office.members) (not_read (list_all is_member_row c.as_slice-3.result.now) c.in_err-put_team.field-0.0 c.in_err-put_team.ensures.unread)

pub returns-in_err-put_policy-clause-unread : goal.returns-in_err-put_policy-clause-unread
returns-in_err-put_policy-clause-unread c =
    handed_on_of c.from_residual-in_err-put_policy.result c.in_err-put_policy.field-0.0 {P = option_map_or is_policy_row c.args.rows.now.office.policy true ≡ true} {Q = AreOfficeRows c.args.rows.now} c.from_residual-in_err-put_policy.ensures (λ office. office.policy) (not_read (option_map_or is_policy_row c.args.rows.now.office.policy true) c.in_err-put_policy.field-0.0 c.in_err-put_policy.ensures.unread)

pub returns-in_err-put_units-clause-unread : goal.returns-in_err-put_units-clause-unread
returns-in_err-put_units-clause-unread c =
    handed_on_of c.from_residual-in_err-put_units.result c.in_err-put_units.field-0.0 {P = are_unit_tables c.args.rows.now.units ≡ true} {Q = AreOfficeRows c.args.rows.now} c.from_residual-in_err-put_units.ensures (λ office. office.units) (not_read (are_unit_tables c.args.rows.now.units) c.in_err-put_units.field-0.0 c.in_err-put_units.ensures.unread)

pub returns-clause-stands : goal.returns-clause-stands
returns-clause-stands c = record {
  members = ap (list_all is_member_row) (sym c.as_slice-3.ensures.value) ∙ c.in_ok-put_team.ensures.stands;
  policy = c.in_ok-put_policy.ensures.stands;
  template = subst IsTemplate c.as_slice.ensures.value c.in_ok-put_template.ensures.stands;
  languages = ap (list_all is_language_row) (sym c.as_slice-2.ensures.value) ∙ c.in_ok-put_languages.ensures.stands;
  units = c.in_ok-put_units.ensures.stands;
}
