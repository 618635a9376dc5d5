use Rattle.std.proofs.Common.{rules, tests}
use Rattle.std.specs.Map.{values_of}
use Rattle.std.proofs.lemmas.Iterator.Search.{all_from_yields_List}
use Rattle.std.proofs.lemmas.Iterator.Consumers.{YieldsList-from_rest}
use Rattle.rule_tests.specs.Books.{is_status}
use Rattle.rule_tests.proofs.BookTests.{statuses_told}
use Rattle.rule_tests.proofs.book_rules.are_statuses.Goals as goal

pub returns : goal.returns
returns c = λ book are.
    statuses_told book c.args.statuses.now c.all.result c.values.ensures.ordered are
    (all_from_yields_List is_status _ _ c.all.result c.all.ensures.ran (YieldsList-from_rest (values_of c.args.statuses.now.entries) c.values.ensures.rest) (λ x b q k. search (rules, tests)))
