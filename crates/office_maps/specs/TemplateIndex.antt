-- Where a template's entry of a key stands: the first one with the key. This project's own rule.
use Rattle.std.specs.Prelude.{◌≡◌, ℕ, List, Bool}
use Rattle.std.specs.List.{position_from}
use Rattle.std.specs.Ordering.{eq_by_cmp}
use Rattle.std.specs.BTreeMap.{BTreeMap, get_by}
use Rattle.po_text.specs.declared.entry.Entry.{Entry}
use Rattle.units.specs.Units.{key_cmp, key_of}
use Rattle.units.specs.declared.unit.Key.{Key}
use Rattle.office_maps.specs.declared.place.OrderedKey.{OrderedKey}

-- whether an entry has the key
abbrev pub has_key : Key → Entry → Bool
has_key key entry = eq_by_cmp key_cmp key (key_of entry)

-- the places by key are those of a search from the front
abbrev pub IsIndexOf : List Entry → BTreeMap OrderedKey ℕ → Type 0
IsIndexOf entries places = (key : Key) → get_by (λ k. key_cmp key k.key) places ≡ position_from (has_key key) 0 entries
