-- The key of an entry, and the strings of its message lines: the GNU gettext manual, "The Format of PO Files".
use Rattle.std.specs.Prelude.{ℕ, ◌+◌, List, [], ◌∷◌, ◌++◌, Bool, map, Option, Some, None, is_none, ◌&&◌, not, true, false}
use Rattle.std.specs.Str.{bytes_eq}
use Rattle.po_text.specs.Texts.{Text, is_empty}
use Rattle.po_text.specs.declared.entry.Entry.{Entry}
use Rattle.po_text.specs.declared.entry.Previous.{Previous}
use Rattle.po_lex.specs.declared.line.Keyword.{Keyword}
use Rattle.po_lex.specs.declared.line.Keyword.TheVariants.{Msgctxt, Msgid, MsgidPlural, Msgstr, MsgstrAt}

-- An absent context and an empty one are different.
abbrev pub Key : Type 0
Key = Option Text × Text

abbrev pub key_of : Entry → Key
key_of e = (e.ctx, e.id)

-- a string and the keyword that it is written under
abbrev pub Keyed : Type 0
Keyed = Keyword × Text

abbrev pub optional : Keyword → Option Text → List Keyed
optional keyword None = []
optional keyword (Some text) = (keyword, text) ∷ []

abbrev pub numbered : ℕ → List Text → List Keyed
numbered n [] = []
numbered n (form ∷ forms) = (MsgstrAt n, form) ∷ numbered (n + 1) forms

-- the forms, numbered from 0 beside a msgid_plural
abbrev pub keyed_forms : Option Text → List Text → List Keyed
keyed_forms None forms = map (λ form. (Msgstr, form)) forms
keyed_forms (Some plural) forms = numbered 0 forms

-- the strings of an entry's message lines, in order
abbrev pub entry_strings : Entry → List Keyed
entry_strings e = optional Msgctxt e.ctx ++ ((Msgid, e.id) ∷ (optional MsgidPlural e.plural ++ keyed_forms e.plural e.forms))

abbrev pub previous_strings : Previous → List Keyed
previous_strings p = optional Msgctxt p.ctx ++ (optional Msgid p.id ++ optional MsgidPlural p.plural)

-- an entry that can only be a header: an empty msgid, no context, no plural and not obsolete
abbrev pub is_header : Entry → Bool
is_header e = is_none e.ctx && is_empty e.id && is_none e.plural && not e.obsolete

abbrev pub is_header_key : Option Text → Text → Bool
is_header_key None [] = true
is_header_key _ _ = false

abbrev pub same_context : Option Text → Option Text → Bool
same_context None None = true
same_context (Some a) (Some b) = bytes_eq a b
same_context _ _ = false

abbrev pub same_key : Key → Key → Bool
same_key a b = same_context a.0 b.0 && bytes_eq a.1 b.1
