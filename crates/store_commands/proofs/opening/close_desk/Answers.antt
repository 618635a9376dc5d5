use Rattle.store_commands.proofs.opening.close_desk.Goals as goal

pub returns-clause-closed : goal.returns-clause-closed
returns-clause-closed g c = record { file = c.into_connection.ensures.file; leaves = c.into_connection.ensures.leaves; settled = c.into_connection.ensures.settled }
