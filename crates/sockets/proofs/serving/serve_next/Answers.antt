use Rattle.std.proofs.Common.{◌≡◌, true}
use Rattle.sockets.proofs.ConnectionLemmas.{serves_none}
use Rattle.sockets.proofs.serving.serve_next.Goals as goal

pub returns-in-Err-clause-served : goal.returns-in-Err-clause-served
returns-in-Err-clause-served g c = serves_none (g.T.Tables.is_honest c.args.desk.now) (g.T.Tables.is_whole c.args.desk.now) (g.T.Tables.is_stopped c.args.desk.now ≡ true) (g.T.Tables.may_leave c.args.desk.now) (g.T.Tables.means c.args.desk.now) _ tt
