use Rattle.sql_files.proofs.Listed.{schema_read}
use Rattle.sql_files.proofs.laws.listed_schemas_are_read.Goals as goal

pub returns : goal.returns
returns c = λ form. schema_read {form = form}
