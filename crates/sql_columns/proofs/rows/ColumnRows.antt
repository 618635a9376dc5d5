-- Columns computed by their definitions, beside texts that are written out by hand.
use Rattle.std.specs.Prelude.{◌≡◌, List, [], ◌∷◌, ◌++◌, Some, None, codes, refl}
use Rattle.serde_json.proofs.OnLiterals.{serde_json_on_literals}
use Rattle.uuid.specs.Text.{by_index}
use Rattle.po_text.specs.Texts.{Text}
use Rattle.units.specs.Openings.{demo_header, plain_entry}
use Rattle.units.specs.Units.{key_text, no_previous}
use Rattle.request_book.specs.Words.{number_text}
use Rattle.sql_columns.specs.Readings.{key_parts}
use Rattle.sql_columns.specs.Written.{texts_text, previous_text, header_text}

-- ---- lists

pub no_lines : texts_text [] ≡ codes "[]"
no_lines = refl

pub two_forms : texts_text (codes "%d Datei" ∷ codes "%d Dateien" ∷ []) ≡ codes "[\"%d Datei\",\"%d Dateien\"]"
unfolding serde_json_on_literals
two_forms = refl

-- a quote, a reverse solidus, a line end and an empty string
pub escaped_lines : texts_text (codes "say \"a\\b\"\n" ∷ [] ∷ []) ≡ codes "[\"say \\\"a\\\\b\\\"\\n\",\"\"]"
unfolding serde_json_on_literals
escaped_lines = refl

-- ---- previous strings

pub none_previous : previous_text no_previous ≡ codes "[null,null,null]"
none_previous = refl

-- an empty context isn't an absent one
pub previous_with_null : previous_text (record { ctx = Some []; id = Some (codes "%d file"); plural = None }) ≡ codes "[\"\",\"%d file\",null]"
unfolding serde_json_on_literals
previous_with_null = refl

-- ---- headers

pub header_of_demo : header_text (plain_entry [] demo_header) ≡
    codes "[[],[],[],[],[null,null,null],\"Content-Type: text/plain; charset=UTF-8\\nPlural-Forms: nplurals=2; plural=n != 1;\\n\"]"
unfolding serde_json_on_literals
header_of_demo = refl

-- ---- keys

pub key_with_context : key_text (record { ctx = Some (codes "menu"); id = codes "Open" }) ≡ codes "menu" ++ (4 ∷ codes "Open")
key_with_context = refl

-- the first U+0004 parts them
pub parted_at_the_first : key_parts (codes "a" ++ (4 ∷ (codes "b" ++ (4 ∷ codes "c")))) ≡ record { ctx = Some (codes "a"); id = codes "b" ++ (4 ∷ codes "c") }
parted_at_the_first = refl

pub key_without_context : key_parts (codes "Open") ≡ record { ctx = None; id = codes "Open" }
key_without_context = refl

-- ---- numbers

pub first_number : number_text (0 ∷ 0 ∷ 0 ∷ 0 ∷ 0 ∷ 0 ∷ 64 ∷ 0 ∷ 128 ∷ 0 ∷ 0 ∷ 0 ∷ 0 ∷ 0 ∷ 0 ∷ 1 ∷ []) ≡ codes "00000000-0000-4000-8000-000000000001"
unfolding by_index
first_number = refl
