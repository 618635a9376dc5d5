-- The head that the grammar of RFC 9112 gives bytes, as the crate that reads heads writes it down, and what it says.
use Rattle.std.specs.Prelude.{◌≤◌, List, [], ℕ, length, map}
use Rattle.httparse.specs.Grammar.{RequestHead, ReadsRequest}
use Rattle.httparse.specs.Spans.{name_and_value}
use Rattle.http_messages.specs.Heads.{Head, field_limit}

-- the bytes are one whole head of so few field lines
pub record IsHead (bytes : List ℕ) (h : RequestHead) : Type 0 where
  pub whole : ReadsRequest bytes h []
  pub few : length h.fields ≤ field_limit

abbrev pub said : RequestHead → Head
said h = record { method = h.method; target = h.target; minor = h.minor; fields = map name_and_value h.fields }
