use Rattle.sqlite.specs.Held.{state}
use Rattle.sql_commits.specs.Acts.{CommitsAct}
use Rattle.sql_files.proofs.Stops.{commit_keeps, commit_leaves}
use Rattle.sql_files.proofs.laws.commits_keep_files.Goals as goal

pub returns : goal.returns
returns g c = λ old new r row domain lang key write it makes keeps. (
  commit_keeps (state g.S.Store old) (state g.S.Store new) r (CommitsAct row domain lang key write) it makes keeps,
  commit_leaves (state g.S.Store old) (state g.S.Store new) r (CommitsAct row domain lang key write) it makes keeps,
)
