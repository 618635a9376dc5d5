-- A list of strings is written one after another.
use Rattle.std.proofs.Common.{◌≡◌, ℕ, ◌+◌, ◌<◌, ◌≤◌, List, [], ◌∷◌, ◌++◌, length, get_or, map, take, sym, ap, ◌∙◌}
use Rattle.std.proofs.lemmas.List.{take_more, take_all, map-append}
use Rattle.serde_json.specs.Data.{string}
use Rattle.serde_json.specs.View.{view, items_of, items_view}
use Rattle.serde_json.specs.declared.value.Value.{Value}
use Rattle.request_book.specs.Words.{string_items}

-- one more is written
pub next_written : (vs next : List Value) (ts : List (List ℕ)) (i : ℕ) (t : List ℕ) (v : Value) → i < length ts → t ≡ get_or ts i t
    → map view vs ≡ map string (take i ts) → view v ≡ string t → next ≡ vs ++ v ∷ [] → map view next ≡ map string (take (i + 1) ts)
next_written vs next ts i t v within is written here more =
    ap (map view) more ∙ map-append view vs (v ∷ []) ∙ (λ k. written k ++ (here ∙ ap string is) k ∷ [])
    ∙ sym (map-append string (take i ts) (get_or ts i t ∷ [])) ∙ ap (map string) (sym (take_more ts i t within))

-- all are written
pub all_written : (vs : List Value) (ts : List (List ℕ)) (i : ℕ) → length ts ≤ i → map view vs ≡ map string (take i ts) → items_view vs ≡ string_items ts
all_written vs ts i past written = ap items_of (written ∙ ap (map string) (take_all i ts past))
