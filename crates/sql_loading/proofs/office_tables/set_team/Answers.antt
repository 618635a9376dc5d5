use Rattle.std.specs.List.{list_all}
use Rattle.std.specs.Option.{option_map_or}
use Rattle.std.proofs.lemmas.Bool.{and_from}
use Rattle.office_maps.specs.OfficeIn.{office_in}
use Rattle.sql_decoding.specs.RowTests.{is_member_row, is_policy_row}
use Rattle.std.proofs.Common.{true, ◌&&◌}
use Rattle.sql_decoding.proofs.RowsTold.{first_fails, second_fails, handed_on}
use Rattle.sql_loading.proofs.office_tables.set_team.Goals as goal

pub returns-clause-shown : goal.returns-clause-shown
returns-clause-shown c = λ i. record (office_in c.args.maps.now) { team = c.in_ok-members.ensures.shown i; policy = c.in_ok-rules.ensures.shown i }

pub returns-clause-stands : goal.returns-clause-stands
returns-clause-stands c = and_from _ _ c.in_ok-members.ensures.stands c.in_ok-rules.ensures.stands

pub returns-in_err-members-clause-unread : goal.returns-in_err-members-clause-unread
returns-in_err-members-clause-unread c =
    let team = list_all is_member_row c.args.team.now in
    let policy = option_map_or is_policy_row c.args.policy.now true in
    handed_on c.from_residual.result c.in_err-members.field-0.0 (team && policy) team c.from_residual.ensures (first_fails team policy) c.in_err-members.ensures.unread

pub returns-in_err-rules-clause-unread : goal.returns-in_err-rules-clause-unread
returns-in_err-rules-clause-unread c =
    let team = list_all is_member_row c.args.team.now in
    let policy = option_map_or is_policy_row c.args.policy.now true in
    handed_on c.from_residual-in_err-rules.result c.in_err-rules.field-0.0 (team && policy) policy c.from_residual-in_err-rules.ensures (second_fails team policy) c.in_err-rules.ensures.unread
