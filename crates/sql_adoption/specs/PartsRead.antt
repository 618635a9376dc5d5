-- What the readers of a part of an office answer. Only inner clauses and proofs cite this file.
use Rattle.std.specs.Prelude.{List, fold}
use Rattle.sqlite.specs.Effect.{Database}
use Rattle.sqlite.specs.Order.{Row}
use Rattle.units.specs.Changes.{with_domain}
use Rattle.units.specs.Office.{Office}
use Rattle.sql_schema.specs.Keys.{text_at}
use Rattle.sql_statements.specs.Answers.{ShowsPolicy}
use Rattle.sql_statements.specs.DomainAnswers.{ShowsDomains}
use Rattle.sql_statements.specs.Tables.{ShowsTeam}
use Rattle.sql_meaning.specs.OfficeShown.{team_shown, policy_shown}
use Rattle.sql_adoption.specs.declared.look_ups.SharedRows.{SharedRows}
use Rattle.sql_adoption.specs.Reading.{bare_office}

-- what all domains share
pub record ShowsShared (db : Database) (rows : SharedRows) : Type 0 where
  pub domains : ShowsDomains db rows.domains.items
  pub team : ShowsTeam db rows.team.items
  pub policy : ShowsPolicy db rows.policy

-- an office with the domains that rows name, each with nothing
abbrev pub with_named : Office → List Row → Office
with_named = fold (λ office row. with_domain office (text_at 0 row))

-- the team, the policy and the domains' names that rows show
abbrev pub shared_office : SharedRows → Office
shared_office rows = record (with_named bare_office rows.domains.items) { team = team_shown rows.team.items; policy = policy_shown rows.policy }
