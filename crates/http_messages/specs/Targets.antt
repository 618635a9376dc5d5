-- The path and the query of a target, undecoded. RFC 3986, sections 3.3 and 3.4: a query stands behind the first `?`.
use Rattle.std.specs.Prelude.{ℕ, List, Option, Some, None, option_map}
use Rattle.http_messages.specs.Heads.{cut_at}

abbrev pub path_with : List ℕ → Option (List ℕ × List ℕ) → List ℕ
path_with target None = target
path_with target (Some parts) = parts.0

abbrev pub path_of : List ℕ → List ℕ
path_of target = path_with target (cut_at 63 target)

abbrev pub query_of : List ℕ → Option (List ℕ)
query_of target = option_map (λ parts. parts.1) (cut_at 63 target)
