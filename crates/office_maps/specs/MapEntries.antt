-- Rows of a map under the names that definitions have for them: this project's own words.
use Rattle.std.specs.Prelude.{List, map}

-- the entries with each key and each value read
abbrev pub mapped : {K X B Y : Type 0} → (K → B) → (X → Y) → List (K × X) → List (B × Y)
mapped f g es = map (λ e. (f e.0, g e.1)) es
