-- What a stream asks: its first message, and the others.
use Rattle.std.proofs.Common.{◌≡◌, ◌<◌, ℕ, zero, suc, List, [], ◌∷◌, length, Bool, true, false, Some, None, refl, ap, ◌∙◌, arith}
use Rattle.std.specs.Prelude.{◌||◌, is_none}
use Rattle.http_messages.specs.Asked.{Asked, Asking}
use Rattle.http_messages.specs.Streams.{Item, Step, step, first_step, read_on, items_within, items_of, answer_limit}

abbrev pub item_of : Asking → Bool → Item
item_of asking last = record { asked = asking.asked; last = last }

-- no more may be answered
abbrev pub none_left : ℕ → Bool
none_left zero = true
none_left (suc left) = false

-- what is asked behind a message
abbrev pub tail_of : ℕ → Bool → List ℕ → List Item
tail_of left true more = []
tail_of zero false more = []
tail_of (suc left) false more = items_within (suc left) more

abbrev listed : ℕ → Step → List Item
listed left s =
    record { asked = s.asked; last = is_none (read_on left s.more) } ∷ elim (read_on left s.more) as (λ _. List Item) [ None ↦ [] | Some rest ↦ items_within left rest ]

listed-step : (asked : Asked) (ends : Bool) (left : ℕ) (more : List ℕ) → (let asking : Asking = record { asked = asked; ends = ends } in listed left (step asking more) ≡ item_of asking (ends || none_left left) ∷ tail_of left ends more)
listed-step asked true zero more = refl
listed-step asked true (suc left) more = refl
listed-step asked false zero more = refl
listed-step asked false (suc left) more = refl

pub items-one : (left : ℕ) (bytes : List ℕ) (asking : Asking) (more : List ℕ) → 0 < length bytes → first_step bytes ≡ step asking more → items_within (suc left) bytes ≡ item_of asking (asking.ends || none_left left) ∷ tail_of left asking.ends more
unfolding items_within
items-one left [] asking more some is = absurd (omega arith)
items-one left (b ∷ bytes) asking more some is = ap (listed left) is ∙ listed-step asking.asked asking.ends left more

pub items-none : (left : ℕ) → items_within left [] ≡ []
unfolding items_within
items-none zero = refl
items-none (suc left) = refl

pub items-full : (bytes : List ℕ) → items_within zero bytes ≡ []
unfolding items_within
items-full bytes = refl

pub items-all : (bytes : List ℕ) → items_of bytes ≡ items_within answer_limit bytes
unfolding items_of
items-all bytes = refl

pub tail-last : (left : ℕ) (ends : Bool) (more : List ℕ) → (ends || none_left left) ≡ true → tail_of left ends more ≡ []
tail-last left true more last = refl
tail-last zero false more last = refl
tail-last (suc left) false more last = let both : false ≡ true = last in absurd cc

pub tail-more : (left : ℕ) (ends : Bool) (more : List ℕ) → (ends || none_left left) ≡ false → tail_of left ends more ≡ items_within left more
tail-more left true more last = let both : true ≡ false = last in absurd cc
tail-more zero false more last = let both : true ≡ false = last in absurd cc
tail-more (suc left) false more last = refl
