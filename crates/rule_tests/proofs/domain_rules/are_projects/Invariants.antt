use Rattle.office_maps.specs.OfficeIn.{office_in}
use Rattle.rule_tests.proofs.DomainTests.{AreLeft}
use Rattle.rule_tests.proofs.domain_rules.are_projects.Given as goal

abbrev pub invariant-loop-name : goal.invariant-loop-name
invariant-loop-name l = AreLeft (office_in l.maps) l.langs l._name-iterator l.maps.domains.entries
