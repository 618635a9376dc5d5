-- Parts of JSON objects. This project's own rule.
use Rattle.std.specs.Prelude.{ℕ, List, [], ◌∷◌, Option, Some, None, ℤ, map}
use Rattle.uuid.specs.Text.{hyphenated_text, lower}
use Rattle.serde_json.specs.Data.{Data, number, unsigned, string, array, object, Items, Members, no_members, member, put}
use Rattle.serde_json.specs.Find.{of_integer}
use Rattle.serde_json.specs.View.{items_of}
use Rattle.po_text.specs.Texts.{Text}

abbrev pub natural : ℕ → Data
natural n = number (unsigned n)

abbrev pub whole : ℤ → Data
whole z = number (of_integer z)

abbrev pub string_items : List Text → Items
string_items texts = items_of (map string texts)

abbrev pub strings : List Text → Data
strings texts = array (string_items texts)

-- a number's text: hyphenated, lower case, 36 characters
abbrev pub number_text : Text → Text
number_text = hyphenated_text lower

abbrev pub number_data : Text → Data
number_data u = string (number_text u)

-- ---- objects given by their fields in the byte order of their keys

-- a key, and its value where it is there
abbrev pub Field : Type 0
Field = Text × Option Data

abbrev pub given : Text → Data → Field
given k d = (k, Some d)

abbrev pub optional : Text → Option Data → Field
optional k o = (k, o)

-- a member in front of others, where it has a value
abbrev pub with_member : Text → Option Data → Members → Members
with_member k None ms = ms
with_member k (Some d) ms = member k d ms

abbrev pub members : List Field → Members
members [] = no_members
members (f ∷ fs) = with_member f.0 f.1 (members fs)

-- ---- objects given by their fields in any order

abbrev pub Fields : Type 0
Fields = List (Text × Data)

abbrev pub with_fields : Fields → Members → Members
with_fields [] ms = ms
with_fields (f ∷ fs) ms = put f.0 f.1 (with_fields fs ms)

-- the object with these fields, in the byte order of their keys; of fields with one key the first counts
abbrev pub object_of : Fields → Data
object_of fields = object (with_fields fields no_members)
