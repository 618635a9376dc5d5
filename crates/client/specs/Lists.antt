-- A text as a list of requests, one in each line. This project's own rule: a line ends at each U+000A (LF) and nowhere else; what stands
-- behind the last line end is a line too, if it isn't empty.
use Rattle.std.specs.Prelude.{◌≡◌, ◌==◌, ℕ, ◌+◌, List, [], ◌∷◌, ◌++◌, length, if◌then◌else◌, IsUtf8}
use Rattle.std.specs.List.{AllZip}
use Rattle.po_text.specs.Texts.{Text}
use Rattle.request_book.specs.declared.act.Request.{Request}
use Rattle.request_book.specs.Acts.{IsRequestText}

-- the byte stands in front of the first line's
abbrev pub in_front : ℕ → List Text → List Text
in_front byte [] = (byte ∷ []) ∷ []
in_front byte (line ∷ lines) = (byte ∷ line) ∷ lines

abbrev pub lines_of : Text → List Text
lines_of [] = []
lines_of (byte ∷ text) = if byte == 10 then [] ∷ lines_of text else in_front byte (lines_of text)

abbrev pub IsRequestLine : Text → Request → Type 0
IsRequestLine line request = IsUtf8 line × IsRequestText line request

-- each line is a request's, one for one
abbrev pub AreRequests : List Text → List Request → Type 0
AreRequests lines requests = AllZip IsRequestLine lines requests

-- The line of this number, counted from 1, isn't a request's, and those in front of it are.
pub record IsFirstMalformed (lines : List Text) (number : ℕ) : Type 0 where
  pub front : List Text
  pub requests : List Request
  pub are : AreRequests front requests
  pub line : Text
  pub behind : List Text
  pub cut : lines ≡ front ++ line ∷ behind
  pub is : (request : Request) → ¬ IsRequestLine line request
  pub place : number ≡ length front + 1
