-- The pairs of a query, one after another.
use Rattle.std.proofs.Common.{◌≡◌, ◌<◌, ℕ, Bool, false, List, [], ◌∷◌, ◌++◌, length, map, get_or, sym, ap, ap₂, ◌∙◌, append_assoc}
use Rattle.std.specs.List.{list_all}
use Rattle.std.proofs.lemmas.List.Folds.{list_all_at, list_all-map}
use Rattle.std.specs.declared.borrow.CowStr.{CowStr}
use Rattle.std.specs.declared.alloc.Global.{Global}
use Rattle.std.specs.Cow.{cow_str_bytes}
use Rattle.http_messages.specs.Queries.{Pairs, text_of, is_known}
use Rattle.http_messages.specs.Pairs.{pairs_at}

abbrev pub decoded : List (List ℕ × List ℕ) → Pairs
decoded pairs = map (λ pair. (text_of pair.0, text_of pair.1)) pairs

-- one more pair of those that were to come
pub one_more : (done : Pairs) (left more : List (List ℕ × List ℕ)) (name value a b : List ℕ) (all : Pairs) → done ++ decoded left ≡ all → left ≡ (name, value) ∷ more
    → a ≡ text_of name → b ≡ text_of value → (done ++ (a, b) ∷ []) ++ decoded more ≡ all
one_more done left more name value a b all so_far e p q =
    append_assoc done ((a, b) ∷ []) (decoded more)
    ∙ ap₂ (λ x y. done ++ (x, y) ∷ decoded more) p q
    ∙ ap (λ pairs. done ++ decoded pairs) (sym e)
    ∙ so_far

abbrev pub Kept : Type 0
Kept = CowStr Global × CowStr Global

-- one unknown name decides
pub unknown : (pairs : List Kept) (i : ℕ) (d : Kept) → i < length pairs → is_known (cow_str_bytes (get_or pairs i d).0) ≡ false
    → false ≡ list_all (λ pair. is_known pair.0) (pairs_at pairs)
unknown pairs i d within none =
    let test : Kept → Bool = λ pair. is_known (cow_str_bytes pair.0) in
    sym (list_all-map (λ (pair : List ℕ × List ℕ). is_known pair.0) (λ (pair : Kept). (cow_str_bytes pair.0, cow_str_bytes pair.1)) pairs ∙ list_all_at test pairs i d within none)
