use Rattle.std.proofs.Common.{string_bytes, sym, ap, ◌∙◌}
use Rattle.std.specs.FinMap as maps
use Rattle.std.proofs.lemmas.Result.{on_ok_weaker}
use Rattle.po_text.specs.Texts.{text_cmp}
use Rattle.units.specs.Changes.{set_role}
use Rattle.units.specs.Orders.{text_total, text_IsAntisymmetric}
use Rattle.office_maps.specs.Rows.{team_in}
use Rattle.office_maps.proofs.MapEntries.{remove-mapped}
use Rattle.office_maps.proofs.AfterChanges.{no_guest}
use Rattle.office_maps.proofs.changes.put_role.Goals as goal

pub returns-in-Guest-clause-ok : goal.returns-in-Guest-clause-ok
returns-in-Guest-clause-ok c =
    remove-mapped text_cmp string_bytes (λ role. role) text_total text_IsAntisymmetric c.args.team.now c.remove.new.self c.as_str.result.now c.remove.ensures.entries c.remove.ensures.updates.1
    ∙ (ap (maps.remove (team_in c.args.team.now)) c.as_str.ensures.value ∙ ap (λ role. set_role c.args.name.now role (team_in c.args.team.now)) (sym c.in-Guest.is))

pub returns-in_default-clause-ok : goal.returns-in_default-clause-ok
returns-in_default-clause-ok c =
    on_ok_weaker c.add_member.result
    (λ put. put ∙ (ap (λ name. maps.insert (team_in c.args.team.now) name c.args.role) c.as_str-in_default.ensures.value
    ∙ sym (no_guest c.args.name.now c.args.role (team_in c.args.team.now) c.in_default.not-Guest)))
    c.add_member.ensures.ok
