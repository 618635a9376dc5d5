use Rattle.std.proofs.Common.{rules}
use Rattle.sql_columns.proofs.names.key_of_parts.Goals as goal

pub returns-in_ok-string_from-in-Some-2-clause-ok : goal.returns-in_ok-string_from-in-Some-2-clause-ok
returns-in_ok-string_from-in-Some-2-clause-ok c = search rules
