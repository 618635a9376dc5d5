-- The flags of an entry, each once and `fuzzy` first, and beside the set of those that were seen: this project's own rule.
use Rattle.std.specs.Prelude.{◌≡◌, ℕ, List, [], ◌∷◌, ◌++◌, Bool, not, filter, if◌then◌else◌}
use Rattle.std.specs.List.{list_any}
use Rattle.std.specs.Str.{bytes_eq}
use Rattle.std.specs.BTreeSet.{BTreeSet, contains}
use Rattle.std.specs.Cmp.Lexicographic.{slice_cmp}
use Rattle.std.specs.Ordering.{nat_cmp}
use denote.Ref.{Bor}
use Rattle.po_text.specs.Texts.{Text}
use Rattle.po_text.specs.Valid.{fuzzy}

abbrev pub has_text : Text → List Text → Bool
has_text text texts = list_any (bytes_eq text) texts

-- each once, at the first place
abbrev pub add_once : List Text → Text → List Text
add_once texts text = if has_text text texts then texts else texts ++ text ∷ []

-- `fuzzy` to the front
abbrev pub with_fuzzy_first : List Text → List Text
with_fuzzy_first texts = if has_text fuzzy texts then fuzzy ∷ filter (λ text. not (bytes_eq fuzzy text)) texts else texts

-- the set has exactly these texts
abbrev pub AreSeen : BTreeSet (Bor (List ℕ)) → List Text → Type 0
AreSeen seen texts = (q : Bor (List ℕ)) → contains (λ x y. slice_cmp nat_cmp x.now y.now) seen q ≡ has_text q.now texts
