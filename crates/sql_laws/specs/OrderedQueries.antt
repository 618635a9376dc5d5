-- A query over one table whose rows come by one term, upwards.
use Rattle.std.specs.Prelude.{ℕ, List, [], ◌∷◌, false}
use Rattle.sqlite.specs.Collation.TheVariants.{Binary}
use Rattle.sqlite.specs.Term.{Term}
use Rattle.sqlite.specs.Query.{Query}
use Rattle.sql_laws.specs.PlainQueries.{plain_query}

abbrev pub ordered_query : ℕ → List Term → List Term → Term → Query
ordered_query tree filter project by = record (plain_query tree filter project) { order = (by, record { collation = Binary; descending = false }) ∷ [] }
