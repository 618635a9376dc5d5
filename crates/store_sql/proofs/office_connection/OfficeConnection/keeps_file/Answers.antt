use Rattle.std.proofs.Common.{subst}
use Rattle.sqlite.specs.Held.{Held, state}
use Rattle.sql_files.specs.Files.{KeepsFile, LeavesFiles}
use Rattle.store_sql.proofs.office_connection.OfficeConnection.keeps_file.Goals as goal
use Rattle.store_sql.specs.TablesInFile.{Flags}

pub returns-clause-file : goal.returns-clause-file
returns-clause-file g c = subst (λ (t : Held g.row.S.Denot × Flags). KeepsFile (state g.S.Store t.0)) c.self.view_is c.self.invariant.1.file

pub returns-clause-leaves : goal.returns-clause-leaves
returns-clause-leaves g c = subst (λ (t : Held g.row.S.Denot × Flags). LeavesFiles (state g.S.Store t.0)) c.self.view_is c.self.invariant.1.leaves
