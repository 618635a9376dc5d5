-- An answer of HTTP that is a reply: one whole response (RFC 9112), with the status of a reply, whose header says that its body has the length
-- that it has, and whose body has no character that a terminal takes for more than a letter: the JSON of a reply has none. Anything else says
-- nothing of the request. This project's own rule.
use Rattle.std.specs.Prelude.{◌≡◌, ◌≤◌, ◌&&◌, ◌||◌, ◌==◌, not, ℕ, Bool, true, false, List, [], ◌∷◌, length, map, codes, decimal, IsUtf8}
use Rattle.std.specs.List.{list_any}
use Rattle.std.specs.Char.{to_ascii_lowercase, is_control}
use Rattle.std.specs.Int.{is_in_range}
use Rattle.std.specs.Str.{chars}
use Rattle.httparse.specs.Grammar.{ResponseHead, ReadsResponse, status_code}
use Rattle.httparse.specs.Spans.{name_and_value}
use Rattle.po_text.specs.Texts.{Text, text_eq}
use Rattle.request_book.specs.Replies.{Reply}

-- ---- header lines

-- the name and the value
abbrev pub Line : Type 0
Line = Text × Text

-- equal, in any case of letters
abbrev pub same_letters : Text → Text → Bool
same_letters a b = text_eq (map to_ascii_lowercase a) (map to_ascii_lowercase b)

abbrev pub is_length : Line → Bool
is_length line = same_letters line.0 (codes "content-length")

-- it gives another length than these digits, or says that the body is coded ("Transfer-Encoding")
abbrev pub is_other : Text → Line → Bool
is_other digits line = same_letters line.0 (codes "transfer-encoding") || (is_length line && not (text_eq line.1 digits))

-- a line gives the length of these digits, and no line another: several that agree are as one (RFC 9110, 8.6)
abbrev pub lines_say : Text → List Line → Bool
lines_say digits lines = list_any is_length lines && not (list_any (is_other digits) lines)

-- in decimal digits, without zeros in front
abbrev pub says_length : ℕ → List Line → Bool
says_length n lines = lines_say (decimal n) lines

-- ---- bodies

-- a character that a terminal or a reader of logs takes for more than a letter: a control character (U+0000 to U+001F, U+007F to U+009F), a mark
-- that turns the direction of writing, or a line end of Unicode
abbrev pub is_unseen : ℕ → Bool
is_unseen c = is_control c || (c == 0x61C || (is_in_range 0x200E 0x200F c || (is_in_range 0x2028 0x202E c || is_in_range 0x2066 0x2069 c)))

abbrev pub has_unseen : Text → Bool
has_unseen text = list_any is_unseen (chars text)

-- ---- replies

abbrev pub is_reply_status : ℕ → Bool
is_reply_status status = list_any (λ s. s == status) (200 ∷ 403 ∷ 404 ∷ 409 ∷ 422 ∷ [])

-- what the head says of the reply that stands behind it
pub record IsReplyBehind (head : ResponseHead) (reply : Reply) : Type 0 where
  pub status : reply.status ≡ status_code head
  pub is_one : is_reply_status (status_code head) ≡ true
  pub length : says_length (length reply.body) (map name_and_value head.fields) ≡ true
  pub text : IsUtf8 reply.body
  pub plain : has_unseen reply.body ≡ false

-- a head of at most 32 lines, and the reply's body behind it
pub record IsReplyIn (answer : List ℕ) (reply : Reply) : Type 0 where
  pub head : ResponseHead
  pub reads : ReadsResponse answer head reply.body
  pub lines : length head.fields ≤ 32
  pub behind : IsReplyBehind head reply
