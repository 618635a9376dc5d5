-- Keys whose texts stand one behind another: this project's own rule.
use Rattle.std.specs.Prelude.{ℕ, ◌+◌, ◌-◌, ◌≤◌, List, [], length, take, drop, Option, Some, None, ⊤}
use Rattle.po_text.specs.Texts.{Text}
use Rattle.po_text.specs.declared.key.EntryKey.{EntryKey}
use Rattle.po_read.specs.Found.{key_at_hand}
use Rattle.po_read.specs.declared.place.Place.{Place}

-- the bytes between two places
abbrev pub between : ℕ → ℕ → List ℕ → List ℕ
between start end bytes = take (end - start) (drop start bytes)

-- those from a place to an end, if there is one
abbrev pub part_behind : List ℕ → ℕ → Option ℕ → Option Text
part_behind bytes start None = None
part_behind bytes start (Some end) = Some (between start end bytes)

abbrev pub key_at_place : List ℕ → Place → EntryKey
key_at_place bytes place = key_at_hand (part_behind bytes place.end place.ctx_end) (between place.start place.end bytes)

abbrev pub EndsWithin : ℕ → ℕ → Option ℕ → Type 0
EndsWithin len start None = ⊤
EndsWithin len start (Some end) = (start ≤ end) × (end ≤ len)

-- a place among so many bytes
pub record IsPlaced (len : ℕ) (place : Place) : Type 0 where
  pub order : place.start ≤ place.end
  pub within : place.end ≤ len
  pub behind : EndsWithin len place.end place.ctx_end

-- what a string that may be absent adds to bytes, and where it ends
abbrev pub bytes_of : Option Text → List ℕ
bytes_of None = []
bytes_of (Some text) = text

abbrev pub end_of : ℕ → Option Text → Option ℕ
end_of start None = None
end_of start (Some text) = Some (start + length text)
