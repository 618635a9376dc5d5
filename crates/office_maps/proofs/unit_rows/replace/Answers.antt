use Rattle.std.proofs.Common.{◌≡◌, OnOk, subst}
use Rattle.std.specs.FinMap as maps
use Rattle.po_text.specs.Texts.{Text}
use Rattle.office_maps.specs.Rows.{units_in}
use Rattle.office_maps.proofs.unit_rows.replace.Goals as goal

pub returns-in-Ok-clause-ok : goal.returns-in-Ok-clause-ok
returns-in-Ok-clause-ok c =
    subst (λ (lang : Text). OnOk c.replace_at.result (units_in c.replace_at.new.units ≡ maps.insert (units_in c.args.units.now) (lang, c.args.unit.key) c.args.unit))
    c.in-Ok.ensures.other_lang c.replace_at.ensures.ok
