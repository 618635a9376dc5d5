-- Texts that are whole lines, each of them read as a line of a known form.
use Rattle.std.proofs.Common.{◌≡◌, ℕ, List, [], ◌∷◌, ◌++◌, true, map, refl, sym, ◌∙◌, ap, append_assoc, Result, Ok}
use Rattle.std.specs.Prelude.{IsUtf8, flat_map}
use Rattle.std.specs.List.{AllByRecursion}
use Rattle.std.proofs.lemmas.Str.{IsUtf8-nil, IsUtf8-append, IsUtf8-from_is_utf8}
use Rattle.std.proofs.lemmas.List.{map-append}
use Rattle.std.specs.Str.{is_utf8, chars}
use Rattle.po_lex.specs.declared.fault.FaultKind.{FaultKind}
use Rattle.po_lex.specs.Lines.{Line, line_of, lines_of}
use Rattle.po_lex.proofs.QuotedLemmas.{has_no_lf, line_in_front}
use Rattle.po_write.specs.Text.{ended}

abbrev read_lines : List ℕ → List (Result Line FaultKind)
read_lines text = map line_of (lines_of text)

-- the text is Unicode, and in front of any other text it is read as these lines
pub record Written (text : List ℕ) (lines : List Line) : Type 0 where
  pub utf8 : IsUtf8 text
  pub read : (rest : List ℕ) → map line_of (lines_of (text ++ rest)) ≡ map Ok lines ++ map line_of (lines_of rest)

-- the bytes are one line of Unicode text, read as this line
pub record IsLine (bytes : List ℕ) (line : Line) : Type 0 where
  pub utf8 : IsUtf8 bytes
  pub no_lf : has_no_lf bytes ≡ true
  pub read : line_of bytes ≡ Ok line

pub none_written : Written [] []
none_written = record { utf8 = IsUtf8-nil; read = λ rest. refl }

pub both_written : (a b : List ℕ) (xs ys : List Line) → Written a xs → Written b ys → Written (a ++ b) (xs ++ ys)
both_written a b xs ys v w = record {
  utf8 = IsUtf8-append a b v.utf8 w.utf8;
  read = λ rest.
      ap read_lines (append_assoc a b rest) ∙ v.read (b ++ rest) ∙ ap (λ ls. map Ok xs ++ ls) (w.read rest)
      ∙ sym (append_assoc (map Ok xs) (map Ok ys) (read_lines rest)) ∙ ap (λ ls. ls ++ read_lines rest) (sym (map-append Ok xs ys));
}

lf_utf8 : IsUtf8 (10 ∷ [])
unfolding is_utf8 chars lib.Utf8.encode
lf_utf8 = IsUtf8-from_is_utf8 (10 ∷ []) refl

pub line_written : (bytes : List ℕ) (line : Line) → IsLine bytes line → Written (ended bytes) (line ∷ [])
line_written bytes line is = record {
  utf8 = IsUtf8-append bytes (10 ∷ []) is.utf8 lf_utf8;
  read = λ rest.
      ap read_lines (append_assoc bytes (10 ∷ []) rest) ∙ ap (map line_of) (line_in_front bytes rest is.no_lf)
      ∙ ap (λ l. l ∷ read_lines rest) is.read;
}

-- one line for each item
pub each_written : {X : Type 0} (P : X → Type 0) (text : X → List ℕ) (form : X → Line) → ((x : X) → P x → IsLine (text x) (form x))
    → (xs : List X) → AllByRecursion P xs → Written (flat_map (λ x. ended (text x)) xs) (map form xs)
each_written P text form one [] h = none_written
each_written P text form one (x ∷ xs) h =
    both_written (ended (text x)) (flat_map (λ x. ended (text x)) xs) (form x ∷ []) (map form xs)
    (line_written (text x) (form x) (one x h.0)) (each_written P text form one xs h.1)
