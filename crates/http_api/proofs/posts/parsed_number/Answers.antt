use Rattle.http_api.proofs.NumberLemmas.{none_at_err}
use Rattle.http_api.proofs.posts.parsed_number.Goals as goal

pub returns-in-Err : goal.returns-in-Err
returns-in-Err c = none_at_err c.in-Err.field-0 _ c.in-Err.ensures.ok
