-- Streams that are written out, and what they ask.
use Rattle.std.proofs.Common.{◌≡◌, ℕ, List, [], ◌∷◌, ◌++◌, Some, None, true, false, length, take, refl}
use Rattle.std.specs.Prelude.{codes}
use Rattle.std.specs.Str.{is_utf8, chars}
use Rattle.std.specs.Str.Lossy.{utf8_lossy, utf8_valid_len}
use lib.Utf8.{encode}
use Rattle.httparse.proofs.OnLiterals.{httparse_on_literals}
use Rattle.form_urlencoded.proofs.OnLiterals.{form_urlencoded_on_literals}
use Rattle.http_messages.specs.Cut.{head_cut}
use Rattle.http_messages.specs.Heads.{head_of}
use Rattle.http_messages.specs.declared.refusal.Refusal.TheVariants.{Malformed, TooLarge, NoRoute, Method, NoLength}
use Rattle.http_messages.specs.declared.route.RouteKind.TheVariants.{Requests, Export, Unit, Stats}
use Rattle.http_messages.specs.Targets.{path_of, query_of}
use Rattle.http_messages.specs.Routes.{named_in, route_of}
use Rattle.units.specs.Office.{main}
use Rattle.http_messages.specs.Queries.{unit_in}
use Rattle.http_messages.specs.Asked.{Asked, refused, request, export, unit, stats}
use Rattle.http_messages.specs.Streams.{Item, items_within}

-- ---- routes

requests_route : route_of (codes "/v1/requests/7") ≡ Some (Requests, (None, codes "7"))
unfolding named_in
requests_route = refl

export_route : route_of (codes "/v1/export/de") ≡ Some (Export, (None, codes "de"))
unfolding named_in
export_route = refl

export_in_domain : route_of (codes "/v1/domains/docs/export/de") ≡ Some (Export, (Some (codes "docs"), codes "de"))
unfolding named_in
export_in_domain = refl

stats_in_domain : route_of (codes "/v1/domains/docs/stats/de") ≡ Some (Stats, (Some (codes "docs"), codes "de"))
unfolding named_in
stats_in_domain = refl

no_domain : route_of (codes "/v1/domains//export/de") ≡ None
unfolding named_in
no_domain = refl

no_language_in_domain : route_of (codes "/v1/domains/docs/export/") ≡ None
unfolding named_in
no_language_in_domain = refl

stats_route : route_of (codes "/v1/stats/de") ≡ Some (Stats, (None, codes "de"))
unfolding named_in
stats_route = refl

unit_route : route_of (path_of (codes "/v1/unit?lang=de")) ≡ Some (Unit, (None, []))
unfolding named_in
unit_route = refl

no_part : route_of (codes "/v1/export/") ≡ None
unfolding named_in
no_part = refl

two_parts : route_of (codes "/v1/export/a/b") ≡ None
unfolding named_in
two_parts = refl

whole_uri : route_of (codes "http://h/v1/unit") ≡ None
unfolding named_in
whole_uri = refl

query : query_of (codes "/v1/unit?lang=de?") ≡ Some (codes "lang=de?")
query = refl

no_query : query_of (codes "/v1/unit") ≡ None
no_query = refl

-- ---- units

any_order : unit_in ((codes "id", codes "Hello") ∷ (codes "lang", codes "de") ∷ (codes "ctx", []) ∷ []) ≡ Some (main, (codes "de", record { ctx = Some []; id = codes "Hello" }))
any_order = refl

no_context : unit_in ((codes "lang", codes "de") ∷ (codes "id", []) ∷ []) ≡ Some (main, (codes "de", record { ctx = None; id = [] }))
no_context = refl

unit_in_domain : unit_in ((codes "lang", codes "de") ∷ (codes "id", []) ∷ (codes "domain", codes "docs") ∷ []) ≡ Some (codes "docs", (codes "de", record { ctx = None; id = [] }))
unit_in_domain = refl

domain_twice : unit_in ((codes "domain", codes "main") ∷ (codes "lang", codes "de") ∷ (codes "id", []) ∷ (codes "domain", codes "docs") ∷ []) ≡ None
domain_twice = refl

no_domain_name : unit_in ((codes "domain", codes "Docs") ∷ (codes "lang", codes "de") ∷ (codes "id", []) ∷ []) ≡ None
no_domain_name = refl

twice : unit_in ((codes "id", codes "Hello") ∷ (codes "lang", codes "de") ∷ (codes "id", []) ∷ []) ≡ None
twice = refl

another_name : unit_in ((codes "id", codes "Hello") ∷ (codes "lang", codes "de") ∷ (codes "x", []) ∷ []) ≡ None
another_name = refl

-- ---- streams

abbrev item : Asked → Item
item asked = record { asked = asked; last = false }

abbrev last_item : Asked → Item
last_item asked = record { asked = asked; last = true }

abbrev body : List ℕ
body = codes "{\"act\":\"translate\",\"forms\":[\"Hallo\"],\"id\":\"Hello\",\"lang\":\"de\",\"seen\":1}"

-- one message of the worked stream
abbrev post : List ℕ
post = codes "POST /v1/requests/00000000-0000-4000-8000-000000000001 HTTP/1.1\r\nX-Office-Caller: ann\r\nContent-Length: 71\r\n\r\n" ++ body

abbrev posted : Asked
posted = request (codes "00000000-0000-4000-8000-000000000001") (codes "ann" ∷ []) body

post_bytes : length post ≡ 180
post_bytes = refl

two_posts : items_within 4 (post ++ post) ≡ item posted ∷ item posted ∷ []
unfolding items_within head_cut head_of httparse_on_literals is_utf8 chars encode named_in
two_posts = refl

-- a connection's last answer says so
two_at_most : items_within 2 (post ++ (post ++ post)) ≡ item posted ∷ last_item posted ∷ []
unfolding items_within head_cut head_of httparse_on_literals is_utf8 chars encode named_in
two_at_most = refl

nothing : items_within 4 [] ≡ []
unfolding items_within
nothing = refl

-- a stream that ends in a head, or in a body
one_byte : items_within 4 (take 1 post) ≡ last_item (refused Malformed) ∷ []
unfolding items_within head_cut
one_byte = refl

all_but_one : items_within 4 (take 179 post) ≡ last_item (refused Malformed) ∷ []
unfolding items_within head_cut head_of httparse_on_literals is_utf8 chars encode named_in
all_but_one = refl

one_and_more : items_within 4 (post ++ take 179 post) ≡ item posted ∷ last_item (refused Malformed) ∷ []
unfolding items_within head_cut head_of httparse_on_literals is_utf8 chars encode named_in
one_and_more = refl

too_large : items_within 4 (codes "POST /v1/requests/1 HTTP/1.1\r\nContent-Length: 20971521\r\n\r\n") ≡ last_item (refused TooLarge) ∷ []
unfolding items_within head_cut head_of httparse_on_literals is_utf8 chars encode named_in
too_large = refl

two_lengths : items_within 4 (codes "POST /v1/requests/1 HTTP/1.1\r\nContent-Length: 2\r\nContent-Length: 2\r\n\r\n{}") ≡ last_item (refused Malformed) ∷ []
unfolding items_within head_cut head_of httparse_on_literals is_utf8 chars encode named_in
two_lengths = refl

-- no route, and another method: the next head is read
no_route : items_within 4 (codes "POST /v1/nothing HTTP/1.1\r\n\r\nGET /v1/stats/de HTTP/1.1\r\n\r\n") ≡ item (refused NoRoute) ∷ item (stats (main, codes "de")) ∷ []
unfolding items_within head_cut head_of httparse_on_literals is_utf8 chars encode named_in
no_route = refl

another_method : items_within 4 (codes "GET /v1/requests/1 HTTP/1.1\r\n\r\n") ≡ item (refused Method) ∷ []
unfolding items_within head_cut head_of httparse_on_literals is_utf8 chars encode named_in
another_method = refl

query_of_export : items_within 4 (codes "GET /v1/export/de?a HTTP/1.1\r\n\r\n") ≡ item (refused NoRoute) ∷ []
unfolding items_within head_cut head_of httparse_on_literals is_utf8 chars encode named_in
query_of_export = refl

-- a request without a length: nothing more is read
no_length : items_within 4 (codes "POST /v1/requests/1 HTTP/1.1\r\n\r\nGET /v1/stats/de HTTP/1.1\r\n\r\n") ≡ last_item (refused NoLength) ∷ []
unfolding items_within head_cut head_of httparse_on_literals is_utf8 chars encode named_in
no_length = refl

-- connections that end
closing : items_within 4 (codes "GET /v1/export/de HTTP/1.1\r\nConnection: Close\r\n\r\nGET") ≡ last_item (export (main, codes "de")) ∷ []
unfolding items_within head_cut head_of httparse_on_literals is_utf8 chars encode named_in
closing = refl

old_version : items_within 4 (codes "GET /v1/export/x HTTP/1.0\r\n\r\nGET") ≡ last_item (refused Malformed) ∷ []
unfolding items_within head_cut head_of httparse_on_literals is_utf8 chars encode named_in
old_version = refl

named_unit : items_within 4 (codes "GET /v1/unit?id=Hello+you&lang=de&ctx= HTTP/1.1\r\n\r\n") ≡ item (unit (main, (codes "de", record { ctx = Some []; id = codes "Hello you" }))) ∷ []
unfolding items_within head_cut head_of httparse_on_literals form_urlencoded_on_literals is_utf8 chars encode utf8_lossy utf8_valid_len named_in
named_unit = refl

in_domains : items_within 4 (codes "GET /v1/domains/docs/export/de HTTP/1.1\r\n\r\nGET /v1/domains/docs/stats/de HTTP/1.1\r\n\r\nGET /v1/domains/Docs/stats/de HTTP/1.1\r\n\r\n")
    ≡ item (export (codes "docs", codes "de")) ∷ item (stats (codes "docs", codes "de")) ∷ item (refused Malformed) ∷ []
unfolding items_within head_cut head_of httparse_on_literals is_utf8 chars encode named_in
in_domains = refl
