use Rattle.std.proofs.Common.{◌≡◌, Option, OnOk, sym, subst}
use Rattle.request_book.specs.Book.{with_record}
use Rattle.office_specification.specs.declared.values.Change.{Change}
use Rattle.office_specification.specs.OfficeChanges.{changed_by, IsPossibleChange}
use Rattle.tables.specs.MapsMeaning.{meaning}
use Rattle.tables.proofs.record_maps.Maps.commit_office.Goals as goal

pub returns-in-None-clause-ok : goal.returns-in-None-clause-ok
returns-in-None-clause-ok c =
    subst (λ (change : Option Change). OnOk c.commit_record.result (meaning c.commit_record.new.self
    ≡ record { office = changed_by (meaning c.args.self.now).office change; book = with_record (meaning c.args.self.now).book c.args.row })) (sym c.in-None.is) c.commit_record.ensures.ok

pub commit_change-requires-clause-possible : goal.commit_change-requires-clause-possible
commit_change-requires-clause-possible c = subst (IsPossibleChange (meaning c.args.self.now).office) c.in-Some.is c.requires.possible

pub returns-in-Some-clause-ok : goal.returns-in-Some-clause-ok
returns-in-Some-clause-ok c =
    subst (λ (change : Option Change). OnOk c.commit_change.result (meaning c.commit_change.new.self
    ≡ record { office = changed_by (meaning c.args.self.now).office change; book = with_record (meaning c.args.self.now).book c.args.row })) (sym c.in-Some.is) c.commit_change.ensures.ok
