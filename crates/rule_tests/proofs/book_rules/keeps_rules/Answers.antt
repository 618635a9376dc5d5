use Rattle.office_maps.specs.OfficeIn.{office_in}
use Rattle.rule_tests.proofs.BookTests.{rules_told, no_rules}
use Rattle.rule_tests.proofs.book_rules.keeps_rules.Goals as goal

pub returns : goal.returns
returns c = λ book are.
    rules_told (office_in c.args.maps.now) book c.args.statuses.now are c.in_ok-is_office.field-0 c.hold_all.result c.have_records-recorded.result c.in_ok-own.own c.are_statuses.result
    c.in_ok-is_office.ensures c.if-not-branch.false c.hold_all.ensures c.have_records-recorded.ensures c.in_ok-own.ensures (c.are_statuses.ensures book are)

pub returns-then-not-branch : goal.returns-then-not-branch
returns-then-not-branch c = λ book are. no_rules (office_in c.args.maps.now) book c.args.statuses.now are c.in_ok-is_office.field-0 c.in_ok-is_office.ensures c.if-not-branch.true
