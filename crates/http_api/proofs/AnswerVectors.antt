-- Answers that are written out.
use Rattle.std.proofs.Common.{◌≡◌, ℕ, List, [], ◌∷◌, ◌++◌, true, false, length, map, refl}
use Rattle.std.specs.Prelude.{codes}
use Rattle.std.specs.List.{list_all}
use Rattle.std.specs.Fmt.{digits}
use Rattle.http_api.specs.declared.answer_bytes.Content.TheVariants.{Json}
use Rattle.http_messages.specs.declared.refusal.Refusal.TheVariants.{LongHead, Malformed, TooLarge, NoRoute, Method, NoLength, Memory}
use Rattle.http_api.specs.Statuses.{phrase, is_status}
use Rattle.http_api.specs.Answers.{answer_text, refusal_text}

-- a reply, on a connection that goes on
abbrev reply : List ℕ
reply = answer_text 200 Json (codes "{\"revision\":2,\"state\":\"translated\"}") false

reply_is : reply ≡ codes "HTTP/1.1 200 OK\r\nContent-Type: application/json\r\nContent-Length: 35\r\n\r\n{\"revision\":2,\"state\":\"translated\"}"
unfolding digits phrase
reply_is = refl

reply_bytes : length reply ≡ 106
unfolding digits phrase
reply_bytes = refl

two_replies : length (reply ++ reply) ≡ 212
unfolding digits phrase
two_replies = refl

-- the answer after which nothing is read
malformed_is : refusal_text Malformed true ≡ codes "HTTP/1.1 400 Bad Request\r\nContent-Type: application/json\r\nContent-Length: 21\r\nConnection: close\r\n\r\n{\"error\":\"malformed\"}"
unfolding digits phrase
malformed_is = refl

malformed_bytes : length (refusal_text Malformed true) ≡ 120
unfolding digits phrase
malformed_bytes = refl

reply_and_malformed : length (reply ++ refusal_text Malformed true) ≡ 226
unfolding digits phrase
reply_and_malformed = refl

long_head : refusal_text LongHead true ≡ codes "HTTP/1.1 431 Request Header Fields Too Large\r\nContent-Type: application/json\r\nContent-Length: 16\r\nConnection: close\r\n\r\n{\"error\":\"head\"}"
unfolding digits phrase
long_head = refl

too_large : refusal_text TooLarge true ≡ codes "HTTP/1.1 413 Payload Too Large\r\nContent-Type: application/json\r\nContent-Length: 21\r\nConnection: close\r\n\r\n{\"error\":\"too-large\"}"
unfolding digits phrase
too_large = refl

no_length : refusal_text NoLength true ≡ codes "HTTP/1.1 411 Length Required\r\nContent-Type: application/json\r\nContent-Length: 18\r\nConnection: close\r\n\r\n{\"error\":\"length\"}"
unfolding digits phrase
no_length = refl

method : refusal_text Method false ≡ codes "HTTP/1.1 405 Method Not Allowed\r\nContent-Type: application/json\r\nContent-Length: 18\r\n\r\n{\"error\":\"method\"}"
unfolding digits phrase
method = refl

no_route : refusal_text NoRoute false ≡ codes "HTTP/1.1 404 Not Found\r\nContent-Type: application/json\r\nContent-Length: 20\r\n\r\n{\"error\":\"no-route\"}"
unfolding digits phrase
no_route = refl

memory : refusal_text Memory false ≡ codes "HTTP/1.1 503 Service Unavailable\r\nContent-Type: application/json\r\nContent-Length: 18\r\n\r\n{\"error\":\"memory\"}"
unfolding digits phrase
memory = refl

-- the phrases of the statuses that the office answers
phrases_are : map phrase (200 ∷ 400 ∷ 403 ∷ 404 ∷ 405 ∷ 409 ∷ 411 ∷ 413 ∷ 422 ∷ 431 ∷ 503 ∷ 507 ∷ [])
    ≡ codes "OK" ∷ codes "Bad Request" ∷ codes "Forbidden" ∷ codes "Not Found" ∷ codes "Method Not Allowed" ∷ codes "Conflict" ∷ codes "Length Required"
    ∷ codes "Payload Too Large" ∷ codes "Unprocessable Entity" ∷ codes "Request Header Fields Too Large" ∷ codes "Service Unavailable"
    ∷ codes "Insufficient Storage" ∷ []
unfolding phrase
phrases_are = refl

-- what an office records was answered with one of these
recorded_statuses : list_all is_status (200 ∷ 403 ∷ 404 ∷ 409 ∷ 422 ∷ []) ≡ true
recorded_statuses = refl
