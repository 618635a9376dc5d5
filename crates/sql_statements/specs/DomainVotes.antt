-- Which row is a voter's vote on a suggestion, and what becomes of the votes where it is taken away.
use Rattle.std.specs.Prelude.{Bool, List, ℕ, ◌&&◌, codes}
use Rattle.sqlite.specs.Order.{Row}
use Rattle.sqlite.specs.Effect.{Database}
use Rattle.sql_schema.specs.Keys.{has_text}
use Rattle.sql_statements.specs.Taken.{TakesRows}

abbrev pub is_vote_of : (number voter : List ℕ) → Row → Bool
is_vote_of number voter row = has_text 1 number row && has_text 2 voter row

abbrev pub TakesVote : (number voter : List ℕ) → Database → Database → Type 0
TakesVote number voter = TakesRows (codes "d_vote") (is_vote_of number voter)
