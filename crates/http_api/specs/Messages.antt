-- Whole messages one behind another. RFC 9112, section 9.3.
use Rattle.std.specs.Prelude.{◌≡◌, ◌<◌, ℕ, List, [], ◌∷◌, length, false, Some}
use Rattle.http_messages.specs.Asked.{Asked}
use Rattle.http_messages.specs.Streams.{Item, first_step}

-- the bytes are these messages and no more, and none of them ends the connection
pub data AreMessages : List ℕ → List Item → Type 0 where
  nothing : AreMessages [] []
  one_more : (asked : Asked) (bytes behind : List ℕ) (items : List Item) → 0 < length bytes → first_step bytes ≡ record { asked = asked; more = Some behind }
      → AreMessages behind items → AreMessages bytes (record { asked = asked; last = false } ∷ items)
