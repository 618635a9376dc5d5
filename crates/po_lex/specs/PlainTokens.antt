-- What tokens stand for: this project's own rule.
use Rattle.std.specs.Prelude.{◌≡◌, ℕ, ◌+◌, List, ◌∷◌, ◌++◌, Result, Ok, Err, ⊤}
use Rattle.po_lex.specs.declared.fault.FaultKind.{FaultKind}
use Rattle.po_lex.specs.declared.fault.PoFault.{PoFault}
use Rattle.std.specs.Borrow.{Bor}
use Rattle.po_lex.specs.declared.line.Keyword.{Keyword}
use Rattle.po_lex.specs.declared.line.Part.{Part as PartToken}
use Rattle.po_lex.specs.declared.line.Part.TheVariants.{Begins, Continues}
use Rattle.po_lex.specs.declared.line.Line.{Line as LineToken}
use Rattle.po_lex.specs.declared.line.Line.TheVariants.{Blank, Translator, Extracted, Reference, Flags, Previous, Message}
use Rattle.po_lex.specs.declared.line.Token.{Token}
use Rattle.po_lex.specs.Escapes.{unescaped}
use Rattle.po_lex.specs.Lines.{Part, begins, continues, Line, blank, translator, extracted, reference, flags, previous, message, items_of, line_of, lines_of}

abbrev pub plain_part : PartToken → Part
plain_part (Begins keyword raw) = begins keyword (unescaped raw.now)
plain_part (Continues raw) = continues (unescaped raw.now)

abbrev pub plain_line : LineToken → Line
plain_line Blank = blank
plain_line (Translator text) = translator text.now
plain_line (Extracted text) = extracted text.now
plain_line (Reference text) = reference text.now
plain_line (Flags text) = flags (items_of text.now)
plain_line (Previous obsolete part) = previous obsolete (plain_part part)
plain_line (Message obsolete part) = message obsolete (plain_part part)

-- how a keyword is written, and the keyword
abbrev pub spelled : Bor (List ℕ) × Keyword → List ℕ × Keyword
spelled w = (w.0.now, w.1)

-- what was read, of the part or the line that was told
abbrev pub read_part : Result PartToken FaultKind → Result Part FaultKind
read_part (Ok part) = Ok (plain_part part)
read_part (Err kind) = Err kind

abbrev pub read_line : Result LineToken FaultKind → Result Line FaultKind
read_line (Ok line) = Ok (plain_line line)
read_line (Err kind) = Err kind

-- a slice of a text, with what stands before it and after it
pub record IsSliceOf (text part : List ℕ) : Type 0 where
  pub before : List ℕ
  pub after : List ℕ
  pub cut : text ≡ before ++ (part ++ after)

-- each text is a slice of the line
abbrev pub SlicesPart : List ℕ → PartToken → Type 0
SlicesPart line (Begins keyword raw) = IsSliceOf line raw.now
SlicesPart line (Continues raw) = IsSliceOf line raw.now

abbrev pub SlicesLine : List ℕ → LineToken → Type 0
SlicesLine line Blank = ⊤
SlicesLine line (Translator text) = IsSliceOf line text.now
SlicesLine line (Extracted text) = IsSliceOf line text.now
SlicesLine line (Reference text) = IsSliceOf line text.now
SlicesLine line (Flags text) = IsSliceOf line text.now
SlicesLine line (Previous obsolete part) = SlicesPart line part
SlicesLine line (Message obsolete part) = SlicesPart line part

-- a token, or the fault, of the line with this number
abbrev pub Tells : List ℕ → ℕ → Result Token PoFault → Type 0
Tells line number (Ok token) = (token.number ≡ number) × (line_of line ≡ Ok (plain_line token.line)) × SlicesLine line token.line
Tells line number (Err fault) = (fault.line ≡ number) × (line_of line ≡ Err fault.kind)

-- the text that is left, and the number of its first line
pub record Rest : Type 0 where
  pub text : List ℕ
  pub number : ℕ

-- the next line was told, and the rest is behind it
pub record IsNext (old new : Rest) (told : Result Token PoFault) : Type 0 where
  pub line : List ℕ
  pub cut : lines_of old.text ≡ line ∷ lines_of new.text
  pub number : new.number ≡ old.number + 1
  pub tells : Tells line old.number told
