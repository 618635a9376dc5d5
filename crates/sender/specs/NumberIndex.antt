-- Where the request of each number stands.
use Rattle.std.specs.Prelude.{◌≡◌, ◌↔◌, ℕ, List, Option, Some, option_map, slice_get}
use Rattle.std.specs.BTreeMap.{BTreeMap, get}
use Rattle.po_text.specs.Texts.{Text, text_cmp}
use Rattle.sender.specs.declared.exchange.Exchange.{Exchange}

abbrev pub number_at : List Exchange → ℕ → Option Text
number_at exchanges place = option_map (λ exchange. exchange.request.number) (slice_get exchanges place)

-- the index has a number at a place exactly where the request there has it
abbrev pub IsNumberIndex : List Exchange → BTreeMap Text ℕ → Type 0
IsNumberIndex exchanges places = (number : Text) (place : ℕ) → (get text_cmp places number ≡ Some place) ↔ (number_at exchanges place ≡ Some number)
