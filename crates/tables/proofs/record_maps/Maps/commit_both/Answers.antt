use Rattle.tables.proofs.Records.{one_more_record, forgotten_book}
use Rattle.tables.proofs.record_maps.Maps.commit_both.Goals as goal

pub returns-in-Ok-clause-ok : goal.returns-in-Ok-clause-ok
returns-in-Ok-clause-ok c = λ i. record {
  office = c.in-Ok.ensures.ok i;
  book = one_more_record c.args.self.now c.keep.new.records c.of.result c.args.row c.in_default.ensures.ok c.of.ensures i;
}

pub returns-in-Err-put_unit-clause-err : goal.returns-in-Err-put_unit-clause-err
returns-in-Err-put_unit-clause-err c = λ i. record {
  office = c.in-Err-put_unit.ensures.err i;
  book = forgotten_book c.args.self.now c.keep.new.records c.remove.new.self c.args.row.number c.of.result c.requires.new c.in_default.ensures.ok c.remove.ensures.entries i;
}
