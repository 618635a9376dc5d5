-- Lists that two functions make the same.
use Rattle.std.proofs.Common.{◌≡◌, ℕ, ◌<◌, List, length, map, get_or, sym, ap, ◌∙◌}
use Rattle.std.proofs.lemmas.List.{get_or-map}

pub same_at : {X Y Z : Type 0} (f : X → Z) (g : Y → Z) (xs : List X) (ys : List Y) (i : ℕ) (x : X) (y : Y) → i < length xs → i < length ys → map f xs ≡ map g ys
    → f (get_or xs i x) ≡ g (get_or ys i y)
same_at f g xs ys i x y low below same =
    sym (get_or-map f xs i x (f x) low) ∙ ap (λ l. get_or l i (f x)) same ∙ get_or-map g ys i y (f x) below
