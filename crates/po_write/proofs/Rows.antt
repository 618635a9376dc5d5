-- Rows that are known, computed by the definitions.
use Rattle.std.proofs.Common.{◌≡◌, List, [], ◌∷◌, ◌++◌, ℕ, Some, None, false, refl}
use Rattle.std.specs.Prelude.{codes, flat_map}
use Rattle.po_text.specs.declared.entry.Entry.{Entry}
use Rattle.po_write.specs.Text.{ended, entry_text, text_of, string_lines}

abbrev lines : List (List ℕ) → List ℕ
lines ls = flat_map ended ls

abbrev plain : List ℕ → List ℕ → Entry
plain id form = record {
  translator = [];
  extracted = [];
  references = [];
  flags = [];
  previous = record { ctx = None; id = None; plural = None };
  ctx = None;
  id = id;
  plural = None;
  forms = form ∷ [];
  obsolete = false;
}

-- no entries
empty_text : text_of [] ≡ []
unfolding text_of
empty_text = refl

-- the order of comments and flags
in_order : entry_text (record (plain (codes "ab") (codes "c")) { translator = codes "note" ∷ []; references = codes "a.c:1" ∷ []; flags = codes "fuzzy" ∷ codes "c-format" ∷ [] })
    ≡ lines (codes "# note" ∷ codes "#: a.c:1" ∷ codes "#, fuzzy, c-format" ∷ codes "msgid \"ab\"" ∷ codes "msgstr \"c\"" ∷ [])
unfolding entry_text string_lines
in_order = refl

-- an empty context is written, an absent one isn't
empty_context : entry_text (record (plain (codes "x") []) { ctx = Some [] }) ≡ lines (codes "msgctxt \"\"" ∷ codes "msgid \"x\"" ∷ codes "msgstr \"\"" ∷ [])
unfolding entry_text string_lines
empty_context = refl

-- a string of two lines
two_pieces : entry_text (plain (codes "x") (codes "Hello" ++ 10 ∷ (codes "World" ++ 10 ∷ [])))
    ≡ lines (codes "msgid \"x\"" ∷ codes "msgstr \"\"" ∷ codes "\"Hello\\n\"" ∷ codes "\"World\\n\"" ∷ [])
unfolding entry_text string_lines
two_pieces = refl

-- a string whose only line end is its last character
one_piece : entry_text (plain (codes "x") (codes "Hello" ++ 10 ∷ [])) ≡ lines (codes "msgid \"x\"" ∷ codes "msgstr \"Hello\\n\"" ∷ [])
unfolding entry_text string_lines
one_piece = refl

-- each of the nine escapes
all_escapes : entry_text (plain (codes "x") (9 ∷ 13 ∷ 7 ∷ 8 ∷ 12 ∷ 11 ∷ 34 ∷ 92 ∷ 10 ∷ [])) ≡ lines (codes "msgid \"x\"" ∷ codes "msgstr \"\\t\\r\\a\\b\\f\\v\\\"\\\\\\n\"" ∷ [])
unfolding entry_text string_lines
all_escapes = refl

-- an entry whose msgid_plural has changed
changed_plural : entry_text (record (plain (codes "%d file") []) {
  flags = codes "fuzzy" ∷ [];
  previous = record { ctx = None; id = Some (codes "%d file"); plural = Some (codes "%d files") };
  plural = Some (codes "%d pieces");
  forms = codes "%d Datei" ∷ codes "%d Dateien" ∷ [];
}) ≡ lines (codes "#, fuzzy" ∷ codes "#| msgid \"%d file\"" ∷ codes "#| msgid_plural \"%d files\"" ∷ codes "msgid \"%d file\"" ∷ codes "msgid_plural \"%d pieces\"" ∷ codes "msgstr[0] \"%d Datei\"" ∷ codes "msgstr[1] \"%d Dateien\"" ∷ [])
unfolding entry_text string_lines
changed_plural = refl

-- the first export
two_entries : text_of (plain [] (codes "Content-Type: text/plain; charset=UTF-8" ++ 10 ∷ (codes "Plural-Forms: nplurals=2; plural=n != 1;" ++ 10 ∷ [])) ∷ plain (codes "Hello") (codes "Hallo") ∷ [])
    ≡ lines (codes "msgid \"\"" ∷ codes "msgstr \"\"" ∷ codes "\"Content-Type: text/plain; charset=UTF-8\\n\"" ∷ codes "\"Plural-Forms: nplurals=2; plural=n != 1;\\n\"" ∷ [] ∷ codes "msgid \"Hello\"" ∷ codes "msgstr \"Hallo\"" ∷ [])
unfolding text_of entry_text string_lines
two_entries = refl
