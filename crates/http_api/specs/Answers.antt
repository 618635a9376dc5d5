-- The bytes of an answer. RFC 9112, sections 2 to 5: a status line, field lines, an empty line and the body; lines end with CR LF,
-- and `: ` stands between a name and its value. Which fields an answer has is this project's own rule.
use Rattle.std.specs.Prelude.{ℕ, List, [], ◌∷◌, ◌++◌, length, codes, decimal, Bool, if◌then◌else◌}
use Rattle.hex.specs.Hex.{encode_lower}
use Rattle.http.specs.StatusCode.{code_digits}
use Rattle.http_api.specs.declared.answer_bytes.Content.{Content}
use Rattle.http_api.specs.declared.answer_bytes.Content.TheVariants.{Json, PoText}
use Rattle.http_api.specs.declared.answer_bytes.AnswerHead.{AnswerHead}
use Rattle.http_messages.specs.declared.refusal.Refusal.{Refusal}
use Rattle.http_api.specs.Statuses.{phrase}
use Rattle.http_api.specs.Refusals.{refusal_status, refusal_body}

abbrev pub line_end : List ℕ
line_end = 13 ∷ 10 ∷ []

abbrev pub status_line : ℕ → List ℕ
status_line status = codes "HTTP/1.1 " ++ (code_digits status ++ (codes " " ++ (phrase status ++ line_end)))

abbrev pub field_line : List ℕ → List ℕ → List ℕ
field_line name value = name ++ (codes ": " ++ (value ++ line_end))

abbrev pub media_type : Content → List ℕ
media_type Json = codes "application/json"
media_type (PoText digest) = codes "text/plain; charset=utf-8"

abbrev pub content_type : Content → List ℕ
content_type content = field_line (codes "Content-Type") (media_type content)

abbrev pub length_line : ℕ → List ℕ
length_line n = field_line (codes "Content-Length") (decimal n)

-- the digest of a PO text, in lower case
abbrev pub digest_line : Content → List ℕ
digest_line Json = []
digest_line (PoText digest) = field_line (codes "X-Office-SHA256") (encode_lower digest)

-- nothing more is read from the connection
abbrev pub close_line : Bool → List ℕ
close_line last = if last then field_line (codes "Connection") (codes "close") else []

-- up to where the body begins
abbrev pub head_text : AnswerHead → List ℕ
head_text head =
    status_line head.status ++ (content_type head.content ++ (length_line head.length ++ (digest_line head.content ++ (close_line head.last ++ line_end))))

abbrev pub answer_text : ℕ → Content → List ℕ → Bool → List ℕ
answer_text status content body last =
    head_text (record { status = status; content = content; length = length body; last = last }) ++ body

abbrev pub refusal_text : Refusal → Bool → List ℕ
refusal_text refusal last = answer_text (refusal_status refusal) Json (refusal_body refusal) last
