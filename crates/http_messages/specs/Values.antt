-- The values that the field lines of one name have, as they are found.
use Rattle.std.specs.Prelude.{◌≡◌, ◌≤◌, ℕ, List, [], ◌∷◌, length}
use Rattle.http_messages.specs.declared.lines.Values.{Values}
use Rattle.http_messages.specs.declared.lines.Values.TheVariants as found

abbrev pub AreValues : Values → List (List ℕ) → Type 0
AreValues found.None values = values ≡ []
AreValues (found.One value) values = values ≡ value.now ∷ []
AreValues found.More values = 2 ≤ length values
