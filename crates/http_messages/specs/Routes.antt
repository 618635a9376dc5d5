-- The six routes, two of which are those of a language in a domain that the path names: which path is of which, the parts of the path
-- that it names, the method that it takes, and whether it may have a query. This project's own rule. A path is taken undecoded; a part
-- is one nonempty segment (RFC 3986, section 3.3).
use Rattle.std.specs.Prelude.{ℕ, ◌==◌, ◌-◌, nat_lt, List, [], ◌∷◌, ◌++◌, length, take, drop, map, codes, Option, Some, None, option_map, unwrap_or, Bool, true, false, if◌then◌else◌}
use Rattle.std.specs.Str.{bytes_eq}
use Rattle.http_messages.specs.declared.route.RouteKind.{RouteKind}
use Rattle.http_messages.specs.declared.route.RouteKind.TheVariants.{Requests, Export, Unit, Stats}

-- ---- the texts of the routes

-- each part that a route names stands in braces, by its name
abbrev pub route_texts : List (List ℕ × RouteKind)
route_texts =
    (codes "/v1/domains/{domain}/export/{lang}", Export)
    ∷ (codes "/v1/domains/{domain}/stats/{lang}", Stats)
    ∷ (codes "/v1/export/{lang}", Export)
    ∷ (codes "/v1/requests/{number}", Requests)
    ∷ (codes "/v1/stats/{lang}", Stats)
    ∷ (codes "/v1/unit", Unit)
    ∷ []

-- ---- paths

abbrev pub onto_first : ℕ → List (List ℕ) → List (List ℕ)
onto_first b [] = (b ∷ []) ∷ []
onto_first b (segment ∷ segments) = (b ∷ segment) ∷ segments

-- what stands before, between and behind the slashes
abbrev pub segments : List ℕ → List (List ℕ)
segments [] = [] ∷ []
segments (b ∷ bytes) = if b == 47 then [] ∷ segments bytes else onto_first b (segments bytes)

abbrev pub in_braces : List ℕ → Bool
in_braces [] = false
in_braces (b ∷ segment) = b == 123

-- what stands in the braces
abbrev pub name_in : List ℕ → List ℕ
name_in segment = take (length segment - 2) (drop 1 segment)

-- parts of a path, by their names
abbrev pub Parts : Type 0
Parts = List (List ℕ × List ℕ)

-- A path is of a route's text where it has as many segments, nonempty ones for those in braces, and else the same; behind parts that were found
-- before, its parts are those for the segments in braces.
abbrev pub parts_in : Parts → List (List ℕ) → List (List ℕ) → Option Parts
parts_in found [] [] = Some found
parts_in found [] (s ∷ path) = None
parts_in found (t ∷ text) [] = None
parts_in found (t ∷ text) (s ∷ path) =
    if in_braces t then (if nat_lt 0 (length s) then parts_in (found ++ (name_in t, s) ∷ []) text path else None)
    else (if bytes_eq s t then parts_in found text path else None)

-- a route, and the parts of a path that it names
abbrev pub Named : Type 0
Named = RouteKind × Parts

abbrev pub or_else : Option Named → Option Named → Option Named
or_else None other = other
or_else (Some route) other = Some route

-- a text's segments, and the route
abbrev pub Texts : Type 0
Texts = List (List (List ℕ) × RouteKind)

-- the first route whose text the path is of
abbrev pub first_of : Parts → Texts → List (List ℕ) → Option Named
first_of found [] path = None
first_of found ((text, kind) ∷ texts) path = or_else (option_map (λ parts. (kind, parts)) (parts_in found text path)) (first_of found texts path)

abbrev pub texts_of : List (List ℕ × RouteKind) → Texts
texts_of texts = map (λ text. (segments text.0, text.1)) texts

-- ---- the route of a path

abbrev pub part_named : List ℕ → Parts → Option (List ℕ)
part_named name [] = None
part_named name (part ∷ parts) = if bytes_eq part.0 name then Some part.1 else part_named name parts

-- the part beside the domain
abbrev pub part_name : RouteKind → List ℕ
part_name Requests = codes "number"
part_name Export = codes "lang"
part_name Unit = []
part_name Stats = codes "lang"

-- a route with the domain that its path names, if it names one, and with the part at the end of the path; a unit's route has neither
abbrev pub RoutePart : Type 0
RoutePart = RouteKind × (Option (List ℕ) × List ℕ)

abbrev pub part_of : Named → RoutePart
part_of route = (route.0, (part_named (codes "domain") route.1, unwrap_or (part_named (part_name route.0) route.1) []))

-- the route of a path
unfoldable pub named_in : List ℕ → Option Named
named_in path = first_of [] (texts_of route_texts) (segments path)

abbrev pub route_of : List ℕ → Option RoutePart
route_of path = option_map part_of (named_in path)

-- only the route of a unit has a query
abbrev pub may_have_query : RouteKind → Bool
may_have_query Requests = false
may_have_query Export = false
may_have_query Unit = true
may_have_query Stats = false

abbrev pub allowed : RoutePart → Option (List ℕ) → Option RoutePart
allowed route None = Some route
allowed route (Some query) = if may_have_query route.0 then Some route else None

-- the method that a route takes (RFC 9110, section 9.3)
abbrev pub method_of : RouteKind → List ℕ
method_of Requests = codes "POST"
method_of Export = codes "GET"
method_of Unit = codes "GET"
method_of Stats = codes "GET"
