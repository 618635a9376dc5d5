use Rattle.std.proofs.Common.{◌≡◌, Some, OnOk, sym, subst, ◌∙◌}
use Rattle.request_book.specs.Book.{with_record}
use Rattle.units.specs.Office.{Office}
use Rattle.office_specification.proofs.domains.InDomains.{with_project-same}
use Rattle.tables.specs.MapsMeaning.{meaning}
use Rattle.tables.proofs.Written.{written_office, left_office}
use Rattle.tables.proofs.record_maps.Maps.commit_write.Goals as goal

pub returns-in-Some-clause-ok : goal.returns-in-Some-clause-ok
returns-in-Some-clause-ok c =
    subst (λ (o : Office). OnOk c.commit_both.result (meaning c.commit_both.new.self ≡ record { office = o; book = with_record (meaning c.args.self.now).book c.args.row }))
    ((λ i. left_office (meaning c.args.self.now).office c.args.domain.now (c.in_ok-place.ensures.lang i, c.in_ok-place.ensures.key i) (Some c.in-Some.unit))
    ∙ written_office (meaning c.args.self.now).office c.args.domain.now c.args.lang.now c.args.key.now (Some c.args.write) (Some c.in-Some.unit) (sym c.in-Some.is ∙ c.in_ok-unit.ensures))
    c.commit_both.ensures.ok

pub returns-in-None-clause-ok : goal.returns-in-None-clause-ok
returns-in-None-clause-ok c =
    subst (λ (o : Office). OnOk c.commit_record.result (meaning c.commit_record.new.self ≡ record { office = o; book = with_record (meaning c.args.self.now).book c.args.row }))
    (sym (with_project-same (meaning c.args.self.now).office c.args.domain.now)
    ∙ written_office (meaning c.args.self.now).office c.args.domain.now c.args.lang.now c.args.key.now (Some c.args.write) _ (sym c.in-None.is ∙ c.in_ok-unit.ensures))
    c.commit_record.ensures.ok
