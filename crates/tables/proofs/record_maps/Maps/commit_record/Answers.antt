use Rattle.std.proofs.lemmas.Result.{on_ok_weaker}
use Rattle.tables.specs.MapsMeaning.{meaning}
use Rattle.tables.proofs.Records.{one_more_record}
use Rattle.tables.proofs.record_maps.Maps.commit_record.Goals as goal

pub returns-clause-ok : goal.returns-clause-ok
returns-clause-ok c = on_ok_weaker c.keep.result
    (λ kept. λ i. record {
      office = (meaning c.args.self.now).office;
      book = one_more_record c.args.self.now c.keep.new.records c.of.result c.args.row kept c.of.ensures i;
    })
    c.keep.ensures.ok
