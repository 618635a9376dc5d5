-- A piece that was written is read again, and it stands in one line.
use Rattle.std.proofs.Common.{◌≡◌, ℕ, ◌≤◌, List, [], ◌∷◌, ◌++◌, Bool, true, false, not, ◌&&◌, ◌==◌, cond, refl, ◌∙◌, ap, append_assoc, Ok}
use Rattle.std.specs.List.{list_all, AllByRecursion}
use Rattle.std.proofs.lemmas.Bool.{and_from, ne_eqb}
use Rattle.std.proofs.lemmas.List.Folds.{list_all-append}
use Rattle.po_lex.specs.Reading.{◌>>=◌}
use Rattle.po_lex.specs.Escapes.{quote, with_front, raw_at, unescaped, letter_of, escaped_byte, escaped, quoted}
use Rattle.po_lex.specs.Lines.{with_byte, lines_of, piece_at}
use Rattle.po_lex.proofs.EscapeLemmas.{IsPlain, by_table, no_letter, one_read, unescaped_again}

-- what isn't escaped of a string is no control character
abbrev pub IsQuotable : List ℕ → Type 0
IsQuotable string = AllByRecursion (λ c. IsPlain c → 32 ≤ c) string

read_again : (string : List ℕ) → IsQuotable string → raw_at (escaped string ++ quote ∷ []) ≡ Ok (escaped string)
unfolding raw_at
read_again [] h = refl
read_again (c ∷ string) h =
    ap raw_at (append_assoc (escaped_byte (letter_of c) c) (escaped string) (quote ∷ []))
    ∙ one_read c (escaped string ++ quote ∷ []) h.0
    ∙ ap (with_front (escaped_byte (letter_of c) c)) (read_again string h.1)

pub piece_again : (string : List ℕ) → IsQuotable string → piece_at (quoted string) ≡ Ok string
piece_again string h = ap (λ r. r >>= λ raw. Ok (unescaped raw)) (read_again string h) ∙ ap Ok (unescaped_again string)

-- ---- one line

abbrev pub has_no_lf : List ℕ → Bool
has_no_lf line = list_all (λ b. not (b == 10)) line

pub no_lf_both : (a b : List ℕ) → has_no_lf a ≡ true → has_no_lf b ≡ true → has_no_lf (a ++ b) ≡ true
no_lf_both a b h k = list_all-append (λ b. not (b == 10)) a b ∙ and_from (has_no_lf a) (has_no_lf b) h k

byte_no_lf : (c : ℕ) → has_no_lf (escaped_byte (letter_of c) c) ≡ true
byte_no_lf c = by_table (λ c. has_no_lf (escaped_byte (letter_of c) c) ≡ true) c refl refl refl refl refl refl refl refl refl (λ h. rw (no_letter c h, ne_eqb c 10 h.lf) refl)

escaped_no_lf : (string : List ℕ) → has_no_lf (escaped string) ≡ true
escaped_no_lf [] = refl
escaped_no_lf (c ∷ string) = no_lf_both (escaped_byte (letter_of c) c) (escaped string) (byte_no_lf c) (escaped_no_lf string)

pub quoted_no_lf : (string : List ℕ) → has_no_lf (quoted string) ≡ true
quoted_no_lf string = no_lf_both (escaped string) (quote ∷ []) (escaped_no_lf string) refl

-- a line that ends, in front of the rest
pub line_in_front : (line rest : List ℕ) → has_no_lf line ≡ true → lines_of (line ++ 10 ∷ rest) ≡ line ∷ lines_of rest
unfolding lines_of
line_in_front [] rest h = refl
line_in_front (b ∷ line) rest h = by (b == 10) h (line_in_front line rest)
  where
    by : (lf : Bool) → (not lf && has_no_lf line) ≡ true → (has_no_lf line ≡ true → lines_of (line ++ 10 ∷ rest) ≡ line ∷ lines_of rest)
        → cond lf ([] ∷ lines_of (line ++ 10 ∷ rest)) (with_byte b (lines_of (line ++ 10 ∷ rest))) ≡ (b ∷ line) ∷ lines_of rest
    by true e more = let differs : false ≡ true = e in cc
    by false e more = ap (with_byte b) (more e)
