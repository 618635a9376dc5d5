use Rattle.sql_schema.specs.Layouts.{made_new, made_second, made_last, from_first, from_second}
use Rattle.sql_layouts.proofs.LaidOut.{is_of, is_not_of, of_none}
use Rattle.sql_layouts.proofs.office_tables.form_of.Goals as goal

pub returns-then-is_made_new-clause-told : goal.returns-then-is_made_new-clause-told
returns-then-is_made_new-clause-told c = is_of c.args.schema.now made_new c.is_made_new.result c.is_made_new.ensures c.if-is_made_new.true

pub returns-then-is_made_second-clause-told : goal.returns-then-is_made_second-clause-told
returns-then-is_made_second-clause-told c = is_of c.args.schema.now made_second c.is_made_second.result c.is_made_second.ensures c.if-is_made_second.true

pub returns-then-is_made_last-clause-told : goal.returns-then-is_made_last-clause-told
returns-then-is_made_last-clause-told c = is_of c.args.schema.now made_last c.is_made_last.result c.is_made_last.ensures c.if-is_made_last.true

pub returns-then-is_from_first-clause-told : goal.returns-then-is_from_first-clause-told
returns-then-is_from_first-clause-told c = is_of c.args.schema.now from_first c.is_from_first.result c.is_from_first.ensures c.if-is_from_first.true

pub returns-then-is_from_second-clause-told : goal.returns-then-is_from_second-clause-told
returns-then-is_from_second-clause-told c = is_of c.args.schema.now from_second c.is_from_second.result c.is_from_second.ensures c.if-is_from_second.true

pub returns-clause-none : goal.returns-clause-none
returns-clause-none c = λ none. of_none c.args.schema.now (is_not_of c.args.schema.now made_new c.is_made_new.result c.is_made_new.ensures c.if-is_made_new.false)
    (is_not_of c.args.schema.now made_second c.is_made_second.result c.is_made_second.ensures c.if-is_made_second.false)
    (is_not_of c.args.schema.now made_last c.is_made_last.result c.is_made_last.ensures c.if-is_made_last.false)
    (is_not_of c.args.schema.now from_first c.is_from_first.result c.is_from_first.ensures c.if-is_from_first.false)
    (is_not_of c.args.schema.now from_second c.is_from_second.result c.is_from_second.ensures c.if-is_from_second.false)
