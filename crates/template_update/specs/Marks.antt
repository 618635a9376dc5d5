-- Lists with marks beside them, in their order: what is marked, and what isn't. Behind the last mark nothing is marked. This project's own words.
use Rattle.std.specs.Prelude.{List, [], ◌∷◌, Bool, true, false}

abbrev pub marked : {X : Type 0} → List X → List Bool → List X
marked [] marks = []
marked (x ∷ xs) [] = []
marked (x ∷ xs) (true ∷ marks) = x ∷ marked xs marks
marked (x ∷ xs) (false ∷ marks) = marked xs marks

abbrev pub unmarked : {X : Type 0} → List X → List Bool → List X
unmarked [] marks = []
unmarked (x ∷ xs) [] = x ∷ xs
unmarked (x ∷ xs) (true ∷ marks) = unmarked xs marks
unmarked (x ∷ xs) (false ∷ marks) = x ∷ unmarked xs marks
