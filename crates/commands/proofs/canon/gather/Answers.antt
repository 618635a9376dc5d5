use Rattle.std.proofs.Common.{◌++◌, take, arith}
use Rattle.std.proofs.lemmas.Grind.{common_steps}
use Rattle.office.proofs.Streaming.{read_more}
use Rattle.commands.proofs.canon.gather.Goals as goal

pub returns-then-is_err-clause-read : goal.returns-then-is_err-clause-read
returns-then-is_err-clause-read g c =
    let inv = c.loop-room.invariant in
    let before = c.loop-room.bytes.items in
    let more = take c.in-Ok.count c.read_some.new.room in (
      before ++ more,
      record {
        cut = read_more (g.R.ByteSource.left c.args.source.now) (g.R.ByteSource.left c.loop-room.source) (g.R.ByteSource.left c.read_some.new.source) before more inv.cut c.in-Ok.ensures.ok;
        most = grind (arith, common_steps);
      },
    )
