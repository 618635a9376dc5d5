-- What an index of a list by key finds: the first of the list with a key. This project's own words.
use Rattle.std.specs.Prelude.{◌≡◌, List, Option, find}
use Rattle.std.specs.Borrow.{Bor}
use Rattle.std.specs.Option.{option_copied}
use Rattle.std.specs.Ordering.{eq_by_cmp}
use Rattle.std.specs.BTreeMap.{BTreeMap, get_by}
use Rattle.units.specs.Units.{key_cmp}
use Rattle.units.specs.declared.unit.Key.{Key}

-- the first that has a key
abbrev pub first_with : {X : Type 0} → (X → Key) → List X → Key → Option X
first_with key_of xs key = find (λ x. eq_by_cmp key_cmp key (key_of x)) xs

abbrev pub IsIndexOf : {X : Type 0} → (X → Key) → List X → BTreeMap Key (Bor X) → Type 0
IsIndexOf key_of xs index = (key : Key) → option_copied (get_by (key_cmp key) index) ≡ first_with key_of xs key
