use Rattle.std.proofs.Common.{List, String, string_bytes, ap, ◌∙◌}
use Rattle.std.specs.FinMap as maps
use Rattle.std.proofs.lemmas.Result.{on_ok_weaker, on_err_weaker}
use Rattle.po_text.specs.Texts.{text_cmp}
use Rattle.units.specs.Orders.{text_total, text_IsAntisymmetric}
use Rattle.units.specs.declared.unit.Role.{Role}
use Rattle.office_maps.specs.MapEntries.{mapped}
use Rattle.office_maps.specs.Rows.{team_in}
use Rattle.office_maps.proofs.MapEntries.{insert-mapped}
use Rattle.office_maps.proofs.changes.add_member.Goals as goal

pub returns-clause-ok : goal.returns-clause-ok
returns-clause-ok c = on_ok_weaker c.put_in.result
    (λ put. insert-mapped text_cmp string_bytes (λ role. role) text_total text_IsAntisymmetric c.args.team.now c.put_in.new.map c.in_ok-own.own c.args.role put
    ∙ ap (λ name. maps.insert (team_in c.args.team.now) name c.args.role) c.in_ok-own.ensures.ok)
    c.put_in.ensures.ok

pub returns-clause-err : goal.returns-clause-err
returns-clause-err c = on_err_weaker c.put_in.result (ap (λ (rows : List (String _ × Role)). maps.from_entries {R = text_cmp} (mapped string_bytes (λ (role : Role). role) rows))) c.put_in.ensures.err
