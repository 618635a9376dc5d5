use Rattle.std.proofs.Common.{◌≡◌, Option, OnOk, sym, subst}
use Rattle.request_book.specs.Book.{with_record}
use Rattle.office_specification.specs.declared.values.UnitWrite.{UnitWrite}
use Rattle.office_specification.specs.UnitAccess.{with_write_in}
use Rattle.units.specs.Office.{Office}
use Rattle.office_specification.proofs.domains.InDomains.{with_project-same}
use Rattle.tables.specs.MapsMeaning.{meaning}
use Rattle.tables.proofs.record_maps.Maps.commit_unit.Goals as goal

pub returns-in-None-clause-ok : goal.returns-in-None-clause-ok
returns-in-None-clause-ok c =
    subst (λ (write : Option UnitWrite). OnOk c.commit_record.result (meaning c.commit_record.new.self
    ≡ record { office = with_write_in (meaning c.args.self.now).office c.args.domain.now c.args.lang.now c.args.key.now write; book = with_record (meaning c.args.self.now).book c.args.row })) (sym c.in-None.is)
    (subst (λ (o : Office). OnOk c.commit_record.result (meaning c.commit_record.new.self ≡ record { office = o; book = with_record (meaning c.args.self.now).book c.args.row }))
    (sym (with_project-same (meaning c.args.self.now).office c.args.domain.now)) c.commit_record.ensures.ok)

pub returns-in-Some-clause-ok : goal.returns-in-Some-clause-ok
returns-in-Some-clause-ok c =
    subst (λ (write : Option UnitWrite). OnOk c.commit_write.result (meaning c.commit_write.new.self
    ≡ record { office = with_write_in (meaning c.args.self.now).office c.args.domain.now c.args.lang.now c.args.key.now write; book = with_record (meaning c.args.self.now).book c.args.row })) (sym c.in-Some.is)
    c.commit_write.ensures.ok
