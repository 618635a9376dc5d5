use Rattle.std.proofs.Common.{◌≡◌, true, refl, sym, subst}
use Rattle.std.specs.Prelude.{◌↔◌}
use Rattle.sqlite.specs.Schema.{Schema}
use Rattle.sql_layouts.proofs.LayoutsTold.{behind_second, second_indexes, second_told, cons_is, told_by}
use Rattle.sql_layouts.proofs.office_tables.is_from_second.Goals as goal

-- what the constants tell is the schema of the layout
pub returns : goal.returns
returns c =
    subst (λ (s : Schema). (c.is_told.result ≡ true) ↔ (c.args.schema.now ≡ s)) (sym second_told)
    (told_by c.is_told.ensures behind_second.tables second_indexes
    (cons_is refl (cons_is refl (cons_is refl (cons_is refl (cons_is refl (cons_is refl (cons_is refl (cons_is refl (cons_is refl (cons_is refl (cons_is refl (cons_is refl (cons_is refl (cons_is refl (cons_is refl (cons_is refl (cons_is refl (cons_is refl refl))))))))))))))))))
    ((cons_is refl (cons_is refl (cons_is refl (cons_is refl (cons_is refl (cons_is refl (cons_is refl (cons_is refl (cons_is refl (cons_is refl (cons_is refl (cons_is refl (cons_is refl (cons_is refl (cons_is refl (cons_is refl (cons_is refl (cons_is refl (cons_is refl (cons_is refl refl))))))))))))))))))))))
