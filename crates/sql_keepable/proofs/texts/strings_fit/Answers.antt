use Rattle.std.specs.Prelude.{IsUtf8}
use Rattle.sql_keepable.proofs.Lists.{one_more, walked}
use Rattle.sql_keepable.proofs.texts.strings_fit.Goals as goal

pub loop-string-preserved : goal.loop-string-preserved
loop-string-preserved c =
    one_more IsUtf8 c.args.strings.now c.loop-string.string-index c.string-item.result c.loop-string-test.true c.string-item.is c.loop-string.invariant c.string_fits.ensures.1

pub returns : goal.returns
returns c = walked IsUtf8 c.args.strings.now c.loop-string.string-index c.loop-string-test.false c.loop-string.invariant
