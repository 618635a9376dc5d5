-- The router that has taken the routes' texts, as the crate that keeps it writes down what it took: this project's own words, for that
-- crate's own rows.
use Rattle.std.specs.Prelude.{◌≡◌, ℕ, List, [], ◌∷◌, ◌++◌, codes, Option, Some, None, ⊤}
use Rattle.matchit.specs.Rows.{RowsOf, param_token}
use Rattle.matchit.specs.Router.{RouteOf}
use Rattle.matchit.specs.Params.{walk, AllText}
use Rattle.http_messages.specs.declared.route.RouteKind.{RouteKind}
use Rattle.http_messages.specs.declared.route.RouteKind.TheVariants.{Requests, Export, Unit, Stats}
use Rattle.http_messages.specs.Routes.{Named}

-- a route's text, its tokens, and where its names stand in the text
abbrev pub route_row : List ℕ → List ℕ → List (ℕ × ℕ) → RouteKind → List ℕ × RouteOf RouteKind
route_row text pattern names kind = (pattern, record { pattern = pattern; text = text; names = names; value = kind })

abbrev pub domain_route : List ℕ → List ℕ
domain_route behind = codes "/v1/domains/" ++ (param_token ∷ (behind ++ param_token ∷ []))

abbrev pub office_rows : RowsOf (RouteOf RouteKind)
office_rows =
    route_row (codes "/v1/domains/{domain}/export/{lang}") (domain_route (codes "/export/")) ((13, 19) ∷ (29, 33) ∷ []) Export
    ∷ route_row (codes "/v1/domains/{domain}/stats/{lang}") (domain_route (codes "/stats/")) ((13, 19) ∷ (28, 32) ∷ []) Stats
    ∷ route_row (codes "/v1/export/{lang}") (codes "/v1/export/" ++ param_token ∷ []) ((12, 16) ∷ []) Export
    ∷ route_row (codes "/v1/requests/{number}") (codes "/v1/requests/" ++ param_token ∷ []) ((14, 20) ∷ []) Requests
    ∷ route_row (codes "/v1/stats/{lang}") (codes "/v1/stats/" ++ param_token ∷ []) ((11, 15) ∷ []) Stats
    ∷ route_row (codes "/v1/unit") (codes "/v1/unit") [] Unit
    ∷ []

-- a row is of the route that a path is of, and its names take the same parts, each of UTF-8
pub record Spells (path : List ℕ) (row : RouteOf RouteKind) (route : Named) : Type 0 where
  pub value : row.value ≡ route.0
  pub parts : walk row.pattern row.text path row.names 0 0 ≡ route.1
  pub text : AllText route.1

-- a row was found exactly where the path is of a route, and it is that route's
abbrev pub Finds : List ℕ → Option (RouteOf RouteKind) → Option Named → Type 0
Finds path None None = ⊤
Finds path None (Some route) = ⊥
Finds path (Some row) None = ⊥
Finds path (Some row) (Some route) = Spells path row route
