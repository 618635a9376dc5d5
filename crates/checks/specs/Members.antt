-- The set of a list's texts: this project's own words.
use Rattle.std.specs.Prelude.{◌≡◌, ℕ, List, Bool}
use Rattle.std.specs.BTreeSet.{BTreeSet, contains_by}
use Rattle.std.specs.List.{list_any}
use denote.Ref.{Bor}
use Rattle.po_text.specs.Texts.{Text, text_cmp, text_eq}

-- the text is in the set
abbrev pub is_member : BTreeSet (Bor (List ℕ)) → Text → Bool
is_member set text = contains_by (λ member. text_cmp text member.now) set

-- a text is in the set exactly where it is one of these
abbrev pub HasMembers : BTreeSet (Bor (List ℕ)) → List Text → Type 0
HasMembers set texts = (text : Text) → is_member set text ≡ list_any (λ y. text_eq y text) texts
