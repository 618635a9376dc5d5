-- Parts of JSON values (RFC 8259): what may be absent, and lists of numbers. This project's own words.
use Rattle.std.specs.Prelude.{ℕ, List, map, Option, Some, None}
use Rattle.serde_json.specs.Data.{Data, null, string, array}
use Rattle.serde_json.specs.View.{items_of}
use Rattle.po_text.specs.Texts.{Text}
use Rattle.request_book.specs.Words.{natural}

abbrev pub text_or_null : Option Text → Data
text_or_null None = null
text_or_null (Some text) = string text

abbrev pub naturals : List ℕ → Data
naturals numbers = array (items_of (map natural numbers))
