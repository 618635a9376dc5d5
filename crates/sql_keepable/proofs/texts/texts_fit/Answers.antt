use Rattle.std.specs.Prelude.{IsUtf8}
use Rattle.sql_keepable.proofs.Lists.{one_more, walked}
use Rattle.sql_keepable.proofs.texts.texts_fit.Goals as goal

pub loop-text-preserved : goal.loop-text-preserved
loop-text-preserved c =
    one_more IsUtf8 c.args.texts.now c.loop-text.text-index c.text-item.result c.loop-text-test.true c.text-item.is c.loop-text.invariant c.text_fits.ensures

pub returns : goal.returns
returns c = walked IsUtf8 c.args.texts.now c.loop-text.text-index c.loop-text-test.false c.loop-text.invariant
