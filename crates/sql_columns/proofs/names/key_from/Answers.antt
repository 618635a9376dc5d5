-- The key is that of the column's parts.
use Rattle.std.proofs.Common.{◌≡◌, sym, ap, subst, ◌∙◌}
use Rattle.units.specs.Units.{key_text}
use Rattle.units.specs.KeyTexts.{HasStrings}
use Rattle.sql_columns.specs.Readings.{key_parts}
use Rattle.sql_columns.proofs.Exact.{whole_ok, whole_gives}
use Rattle.sql_columns.proofs.Keys.{parts_of_text, text_of_parts}
use Rattle.sql_columns.proofs.names.key_from.Goals as goal

pub returns-clause-ok : goal.returns-clause-ok
returns-clause-ok c = whole_ok (key_parts c.args.column.now) (λ key. c.args.column.now ≡ key_text key) (sym (text_of_parts c.args.column.now)) c.key_of_parts.result c.key_of_parts.ensures.ok

pub returns-clause-back : goal.returns-clause-back
returns-clause-back c = λ key fit e.
    let same : key_parts c.args.column.now ≡ key = ap key_parts e ∙ parts_of_text key fit in
    whole_gives (key_parts c.args.column.now) key same c.key_of_parts.result c.key_of_parts.ensures.ok (λ is. c.key_of_parts.ensures.malformed is (subst HasStrings (sym same) fit))
