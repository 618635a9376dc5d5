use Rattle.std.proofs.Common.{sym, ap}
use Rattle.sql_decoding.specs.ShownContexts.{shown_role}
use Rattle.sql_decoding.proofs.act_contexts.role_in.Goals as goal

pub returns-in-None-clause-shown : goal.returns-in-None-clause-shown
returns-in-None-clause-shown c = sym (ap shown_role c.in-None.is)
