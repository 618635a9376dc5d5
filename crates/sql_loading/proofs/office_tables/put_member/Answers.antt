use Rattle.std.proofs.Common.{◌≡◌, rules, string_bytes, sym, ◌∙◌}
use Rattle.std.specs.FinMap as maps
use Rattle.po_text.specs.Texts.{text_cmp}
use Rattle.units.specs.Orders.{text_total, text_IsAntisymmetric}
use Rattle.sql_schema.specs.Keys.{text_at}
use Rattle.office_maps.specs.Rows.{team_in}
use Rattle.office_maps.proofs.MapEntries.{insert-mapped}
use Rattle.sql_decoding.proofs.ColumnsRead.{holds_text}
use Rattle.sql_loading.proofs.office_tables.put_member.Goals as goal

pub returns-clause-shown : goal.returns-clause-shown
returns-clause-shown c =
    let row = c.args.row.now in
    let name : text_at 1 row ≡ string_bytes c.in_ok-name.name = holds_text 1 row (string_bytes c.in_ok-name.name) (search rules) in
    insert-mapped text_cmp string_bytes (λ role. role) text_total text_IsAntisymmetric c.args.team.now c.insert.new.self c.in_ok-name.name c.in_ok-role.role c.in_ok-insert.ensures.entries
    ∙ (λ i. maps.insert (team_in c.args.team.now) (sym name i) (c.in_ok-role.ensures.shown i))
