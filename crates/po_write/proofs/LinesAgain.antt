-- Each line of a canonical text is read as the line that it was written from.
use Rattle.std.proofs.Common.{◌≡◌, ◌≢◌, ℕ, ◌≤◌, ◌<◌, List, [], ◌∷◌, ◌++◌, Bool, true, false, not, ◌&&◌, ◌||◌, ◌==◌, cond, map, length, refl, sym, ◌∙◌, ap, append_assoc, subst, Ok, Option, lit<, nat_lt, arith, inl, inr}
use Rattle.std.specs.Prelude.{IsUtf8, codes, flat_map}
use Rattle.std.specs.Str.{byte, is_utf8, chars}
use Rattle.std.specs.List.{list_all, slice_split, onto_first, AllByRecursion}
use Rattle.std.proofs.lemmas.Str.{IsUtf8-nil, IsUtf8-append, IsUtf8-from_is_utf8}
use Rattle.std.proofs.lemmas.List.{append-nil}
use Rattle.std.proofs.lemmas.List.Folds.{list_all-append}
use Rattle.std.proofs.lemmas.Bool.Decides.{eqb_tells, nat_tests}
use Rattle.std.proofs.lemmas.Bool.{and_from}
use Rattle.po_lex.specs.declared.line.Keyword.{Keyword}
use Rattle.po_lex.specs.declared.line.Keyword.TheVariants.{Msgctxt, Msgid, MsgidPlural, Msgstr, MsgstrAt}
use Rattle.po_lex.specs.Reading.{◌>>=◌, is_all_white, trim}
use Rattle.po_lex.specs.Escapes.{quote, letter_of, escaped_byte, escaped, quoted}
use Rattle.po_lex.specs.Lines.{Part, begins, continues, Line, translator, extracted, reference, flags, previous, message, keyword_text, begins_with, begins_form, piece_at, part_at, is_comment_text, items_of, line_of}
use Rattle.po_lex.proofs.EscapeLemmas.{IsPlain, by_table, no_letter}
use Rattle.po_lex.proofs.QuotedLemmas.{IsQuotable, piece_again, has_no_lf, no_lf_both, quoted_no_lf}
use Rattle.po_text.specs.Strings.{is_string_byte}
use Rattle.po_text.specs.Texts.{Text}
use Rattle.po_text.specs.Valid.{IsString, IsCommentLine, IsFlag}
use Rattle.po_read.proofs.Leaves.{utf8_front, utf8_back, utf8_ascii}
use Rattle.po_read.proofs.Sound.{IsDigitKey}
use Rattle.po_write.specs.Text.{spaced, further, flags_line, message_mark, previous_mark}
use Rattle.po_write.proofs.Written.{IsLine, Written, none_written, line_written}

apart : (a b : Bool) → (a && b) ≡ true → (a ≡ true) × (b ≡ true)
apart true b h = (refl, h)
apart false b h = cc

-- ---- what stands between quotes

string_byte : (c : ℕ) → is_string_byte c ≡ true → IsPlain c → 32 ≤ c
string_byte c h p =
    let n7 : c ≢ 7 = p.bell in let n8 : c ≢ 8 = p.back in let n9 : c ≢ 9 = p.tab in let n10 : c ≢ 10 = p.lf in
    let n11 : c ≢ 11 = p.vertical in let n12 : c ≢ 12 = p.feed in let n13 : c ≢ 13 = p.cr in
    grind (arith, nat_tests)

quotable : (text : Text) → list_all is_string_byte text ≡ true → IsQuotable text
quotable [] h = tt
quotable (c ∷ text) h = let f = apart (is_string_byte c) (list_all is_string_byte text) h in (string_byte c f.0, quotable text f.1)

pub read_piece : (text : Text) → IsString text → piece_at (quoted text) ≡ Ok text
read_piece text h = piece_again text (quotable text h.1)

-- what is escaped is ASCII
abbrev Escapes8 : ℕ → Type 0
Escapes8 c = (front text : List ℕ) → IsUtf8 (front ++ c ∷ text) → ((f : List ℕ) → IsUtf8 (f ++ text) → IsUtf8 (f ++ escaped text)) → IsUtf8 (front ++ (escaped_byte (letter_of c) c ++ escaped text))

escape_utf8 : (c : ℕ) → Escapes8 c
escape_utf8 c = by_table Escapes8 c (two 10 110 (lit< tt) (lit< tt)) (two 9 116 (lit< tt) (lit< tt)) (two 13 114 (lit< tt) (lit< tt)) (two 7 97 (lit< tt) (lit< tt)) (two 8 98 (lit< tt) (lit< tt))
    (two 12 102 (lit< tt) (lit< tt)) (two 11 118 (lit< tt) (lit< tt)) (two 34 34 (lit< tt) (lit< tt)) (two 92 92 (lit< tt) (lit< tt))
    (λ p front text u more. subst (λ (letter : Option ℕ). IsUtf8 (front ++ (escaped_byte letter c ++ escaped text))) (sym (no_letter c p))
    (subst (λ t. IsUtf8 t) (append_assoc front (c ∷ []) (escaped text)) (more (front ++ c ∷ []) (subst (λ t. IsUtf8 t) (sym (append_assoc front (c ∷ []) text)) u))))
  where
    two : (k letter : ℕ) → k < 128 → letter < 128 → (front text : List ℕ) → IsUtf8 (front ++ k ∷ text) → ((f : List ℕ) → IsUtf8 (f ++ text) → IsUtf8 (f ++ escaped text)) → IsUtf8 (front ++ (92 ∷ letter ∷ escaped text))
    two k letter lowk low front text u more =
        IsUtf8-append front (92 ∷ letter ∷ escaped text) (utf8_front front text k u lowk)
        (utf8_ascii 92 (letter ∷ escaped text) (lit< tt) (utf8_ascii letter (escaped text) low (more [] (utf8_back front text k u lowk))))

escaped_onto : (text front : List ℕ) → IsUtf8 (front ++ text) → IsUtf8 (front ++ escaped text)
escaped_onto [] front u = u
escaped_onto (c ∷ text) front u = escape_utf8 c front text u (escaped_onto text)

quote_utf8 : IsUtf8 (quote ∷ [])
unfolding is_utf8 chars lib.Utf8.encode
quote_utf8 = IsUtf8-from_is_utf8 (quote ∷ []) refl

pub quoted_utf8 : (text : Text) → IsUtf8 text → IsUtf8 (quoted text)
quoted_utf8 text u = utf8_ascii quote (escaped text ++ quote ∷ []) (lit< tt) (IsUtf8-append (escaped text) (quote ∷ []) (escaped_onto text [] u) quote_utf8)

-- ---- keyword and piece, or piece, behind a mark

pub record IsBody (bytes : List ℕ) (part : Part) : Type 0 where
  pub utf8 : IsUtf8 bytes
  pub no_lf : has_no_lf bytes ≡ true
  pub read : part_at bytes ≡ Ok part
  pub black : is_all_white bytes ≡ false
  pub no_hash : begins_with (byte "#") bytes ≡ false

-- a front that is known, read by computing
record IsFront (front : List ℕ) (keyword : Keyword) : Type 0 where
  utf8 : IsUtf8 front
  no_lf : has_no_lf front ≡ true
  read : (rest : List ℕ) → part_at (front ++ quote ∷ rest) ≡ (piece_at (quote ∷ rest) >>= λ string. Ok (begins keyword string))
  black : (rest : List ℕ) → is_all_white (front ++ rest) ≡ false
  no_hash : (rest : List ℕ) → begins_with (byte "#") (front ++ rest) ≡ false

fronted : (front : List ℕ) (keyword : Keyword) → IsFront front keyword → (text : Text) → IsString text → IsBody (front ++ quoted text) (begins keyword text)
fronted front keyword is text h = record {
  utf8 = IsUtf8-append front (quoted text) is.utf8 (quoted_utf8 text h.0);
  no_lf = no_lf_both front (quoted text) is.no_lf (quoted_no_lf text);
  read = is.read (escaped text ++ quote ∷ []) ∙ ap (λ r. r >>= λ string. Ok (begins keyword string)) (read_piece text h);
  black = is.black (quoted text);
  no_hash = is.no_hash (quoted text);
}

by_digit : (P : ℕ → Type 0) (d : ℕ) → d ≤ 7 → P 0 → P 1 → P 2 → P 3 → P 4 → P 5 → P 6 → P 7 → P d
by_digit P d most p0 p1 p2 p3 p4 p5 p6 p7 =
    at 0 p0 (λ n0. at 1 p1 (λ n1. at 2 p2 (λ n2. at 3 p3 (λ n3. at 4 p4 (λ n4. at 5 p5 (λ n5. at 6 p6 (λ n6. at 7 p7 (λ n7. absurd (omega arith)))))))))
  where
    at : (k : ℕ) → P k → (d ≢ k → P d) → P d
    at k p other = elim (eqb_tells d k) [ inl h ↦ subst P (sym h.1) p | inr h ↦ other h.1 ]

abbrev Fronts : Keyword → Type 0
Fronts keyword = IsFront (keyword_text keyword ++ codes " ") keyword

keyword_front : (keyword : Keyword) → IsDigitKey keyword → Fronts keyword
unfolding part_at is_utf8 chars lib.Utf8.encode
keyword_front Msgctxt h = record { utf8 = IsUtf8-from_is_utf8 (codes "msgctxt ") refl; no_lf = refl; read = λ rest. refl; black = λ rest. refl; no_hash = λ rest. refl }
keyword_front Msgid h = record { utf8 = IsUtf8-from_is_utf8 (codes "msgid ") refl; no_lf = refl; read = λ rest. refl; black = λ rest. refl; no_hash = λ rest. refl }
keyword_front MsgidPlural h = record { utf8 = IsUtf8-from_is_utf8 (codes "msgid_plural ") refl; no_lf = refl; read = λ rest. refl; black = λ rest. refl; no_hash = λ rest. refl }
keyword_front Msgstr h = record { utf8 = IsUtf8-from_is_utf8 (codes "msgstr ") refl; no_lf = refl; read = λ rest. refl; black = λ rest. refl; no_hash = λ rest. refl }
keyword_front (MsgstrAt d) h = by_digit (λ d. Fronts (MsgstrAt d)) d h
    (record { utf8 = IsUtf8-from_is_utf8 (codes "msgstr[0] ") refl; no_lf = refl; read = λ rest. refl; black = λ rest. refl; no_hash = λ rest. refl })
    (record { utf8 = IsUtf8-from_is_utf8 (codes "msgstr[1] ") refl; no_lf = refl; read = λ rest. refl; black = λ rest. refl; no_hash = λ rest. refl })
    (record { utf8 = IsUtf8-from_is_utf8 (codes "msgstr[2] ") refl; no_lf = refl; read = λ rest. refl; black = λ rest. refl; no_hash = λ rest. refl })
    (record { utf8 = IsUtf8-from_is_utf8 (codes "msgstr[3] ") refl; no_lf = refl; read = λ rest. refl; black = λ rest. refl; no_hash = λ rest. refl })
    (record { utf8 = IsUtf8-from_is_utf8 (codes "msgstr[4] ") refl; no_lf = refl; read = λ rest. refl; black = λ rest. refl; no_hash = λ rest. refl })
    (record { utf8 = IsUtf8-from_is_utf8 (codes "msgstr[5] ") refl; no_lf = refl; read = λ rest. refl; black = λ rest. refl; no_hash = λ rest. refl })
    (record { utf8 = IsUtf8-from_is_utf8 (codes "msgstr[6] ") refl; no_lf = refl; read = λ rest. refl; black = λ rest. refl; no_hash = λ rest. refl })
    (record { utf8 = IsUtf8-from_is_utf8 (codes "msgstr[7] ") refl; no_lf = refl; read = λ rest. refl; black = λ rest. refl; no_hash = λ rest. refl })

pub keyword_body : (keyword : Keyword) (text : Text) → IsDigitKey keyword → IsString text → IsBody ((keyword_text keyword ++ codes " ") ++ quoted text) (begins keyword text)
keyword_body keyword text d h = fronted (keyword_text keyword ++ codes " ") keyword (keyword_front keyword d) text h

pub piece_body : (text : Text) → IsString text → IsBody (quoted text) (continues text)
unfolding part_at
piece_body text h = record {
  utf8 = quoted_utf8 text h.0;
  no_lf = quoted_no_lf text;
  read = ap (λ r. r >>= λ string. Ok (continues string)) (read_piece text h);
  black = refl;
  no_hash = refl;
}

-- ---- the marks of message lines and previous strings

pub message_line : (obsolete : Bool) (bytes : List ℕ) (part : Part) → IsBody bytes part → IsLine (message_mark obsolete ++ bytes) (message obsolete part)
unfolding line_of is_utf8 chars lib.Utf8.encode
message_line false bytes part b = record {
  utf8 = b.utf8;
  no_lf = b.no_lf;
  read = rw (b.black, b.no_hash, b.read) refl;
}
message_line true bytes part b = record {
  utf8 = IsUtf8-append (codes "#~ ") bytes (IsUtf8-from_is_utf8 (codes "#~ ") refl) b.utf8;
  no_lf = b.no_lf;
  read = ap (λ r. r >>= λ p. Ok (message true p)) b.read;
}

pub previous_line : (obsolete : Bool) (bytes : List ℕ) (part : Part) → IsBody bytes part → begins_form bytes ≡ false → IsLine (previous_mark obsolete ++ bytes) (previous obsolete part)
unfolding line_of is_utf8 chars lib.Utf8.encode
previous_line false bytes part b none = record {
  utf8 = IsUtf8-append (codes "#| ") bytes (IsUtf8-from_is_utf8 (codes "#| ") refl) b.utf8;
  no_lf = b.no_lf;
  read = rw (none, b.read) refl;
}
previous_line true bytes part b none = record {
  utf8 = IsUtf8-append (codes "#~| ") bytes (IsUtf8-from_is_utf8 (codes "#~| ") refl) b.utf8;
  no_lf = b.no_lf;
  read = rw (none, b.read) refl;
}

-- ---- comments

text_no_lf : (text : Text) → is_comment_text text ≡ true → has_no_lf text ≡ true
text_no_lf [] h = refl
text_no_lf (c ∷ text) h =
    let f = apart ((c == 9) || not (nat_lt c 32)) (is_comment_text text) h in
    and_from (not (c == 10)) (has_no_lf text) (other c f.0) (text_no_lf text f.1)
  where
    other : (c : ℕ) → ((c == 9) || not (nat_lt c 32)) ≡ true → not (c == 10) ≡ true
    other c h = grind (arith, nat_tests)

spaced_utf8 : (text : Text) → IsUtf8 text → IsUtf8 (spaced text)
spaced_utf8 [] u = u
spaced_utf8 (b ∷ text) u = utf8_ascii 32 (b ∷ text) (lit< tt) u

spaced_no_lf : (text : Text) → has_no_lf text ≡ true → has_no_lf (spaced text) ≡ true
spaced_no_lf [] h = h
spaced_no_lf (b ∷ text) h = h

pub translator_line : (text : Text) → IsCommentLine text → IsLine (codes "#" ++ spaced text) (translator text)
unfolding line_of
translator_line text h = record {
  utf8 = utf8_ascii 35 (spaced text) (lit< tt) (spaced_utf8 text h.0);
  no_lf = spaced_no_lf text (text_no_lf text h.1);
  read = reads text h.1;
}
  where
    reads : (text : Text) → is_comment_text text ≡ true → line_of (codes "#" ++ spaced text) ≡ Ok (translator text)
    reads [] h = refl
    reads (b ∷ text) h = rw h refl

pub extracted_line : (text : Text) → IsCommentLine text → IsLine (codes "#." ++ spaced text) (extracted text)
unfolding line_of
extracted_line text h = record {
  utf8 = utf8_ascii 35 (46 ∷ spaced text) (lit< tt) (utf8_ascii 46 (spaced text) (lit< tt) (spaced_utf8 text h.0));
  no_lf = spaced_no_lf text (text_no_lf text h.1);
  read = reads text h.1;
}
  where
    reads : (text : Text) → is_comment_text text ≡ true → line_of (codes "#." ++ spaced text) ≡ Ok (extracted text)
    reads [] h = refl
    reads (b ∷ text) h = rw h refl

pub reference_line : (text : Text) → IsCommentLine text → IsLine (codes "#:" ++ spaced text) (reference text)
unfolding line_of
reference_line text h = record {
  utf8 = utf8_ascii 35 (58 ∷ spaced text) (lit< tt) (utf8_ascii 58 (spaced text) (lit< tt) (spaced_utf8 text h.0));
  no_lf = spaced_no_lf text (text_no_lf text h.1);
  read = reads text h.1;
}
  where
    reads : (text : Text) → is_comment_text text ≡ true → line_of (codes "#:" ++ spaced text) ≡ Ok (reference text)
    reads [] h = refl
    reads (b ∷ text) h = rw h refl

-- ---- flags

abbrev is_comma : ℕ → Bool
is_comma b = b == byte ","

-- no comma in front of the first comma or the end
split_front : (item rest : List ℕ) → list_all (λ b. not (is_comma b)) item ≡ true → slice_split is_comma (item ++ 44 ∷ rest) ≡ item ∷ slice_split is_comma rest
split_front [] rest h = refl
split_front (b ∷ item) rest h = by (is_comma b) h (split_front item rest)
  where
    by : (c : Bool) → (not c && list_all (λ b. not (is_comma b)) item) ≡ true → (list_all (λ b. not (is_comma b)) item ≡ true → slice_split is_comma (item ++ 44 ∷ rest) ≡ item ∷ slice_split is_comma rest)
        → cond c ([] ∷ slice_split is_comma (item ++ 44 ∷ rest)) (onto_first b (slice_split is_comma (item ++ 44 ∷ rest))) ≡ (b ∷ item) ∷ slice_split is_comma rest
    by true e more = let differs : false ≡ true = e in cc
    by false e more = ap (onto_first b) (more e)

split_last : (item : List ℕ) → list_all (λ b. not (is_comma b)) item ≡ true → slice_split is_comma item ≡ item ∷ []
split_last [] h = refl
split_last (b ∷ item) h = by (is_comma b) h (split_last item)
  where
    by : (c : Bool) → (not c && list_all (λ b. not (is_comma b)) item) ≡ true → (list_all (λ b. not (is_comma b)) item ≡ true → slice_split is_comma item ≡ item ∷ [])
        → cond c ([] ∷ slice_split is_comma item) (onto_first b (slice_split is_comma item)) ≡ (b ∷ item) ∷ []
    by true e more = let differs : false ≡ true = e in cc
    by false e more = ap (onto_first b) (more e)

-- the items behind the mark
abbrev behind_mark : Text → List Text → List ℕ
behind_mark flag others = 32 ∷ (flag ++ flat_map further others)

items_again : (flag : Text) (others : List Text) → IsFlag flag → AllByRecursion IsFlag others → items_of (behind_mark flag others) ≡ flag ∷ others
items_again flag [] f h =
    ap (λ t. map trim (slice_split is_comma (32 ∷ t))) (append-nil flag) ∙ ap (map trim) (split_last (32 ∷ flag) f.one) ∙ ap (λ t. t ∷ []) f.trimmed
items_again flag (other ∷ others) f h =
    ap (map trim) (split_front (32 ∷ flag) (behind_mark other others) f.one) ∙ ap (λ t. t ∷ items_of (behind_mark other others)) f.trimmed
    ∙ ap (λ ts. flag ∷ ts) (items_again other others h.0 h.1)

flags_text : (flag : Text) (others : List Text) → IsFlag flag → AllByRecursion IsFlag others → is_comment_text (behind_mark flag others) ≡ true
flags_text flag [] f h = ap is_comment_text (append-nil flag) ∙ f.line.1
flags_text flag (other ∷ others) f h =
    list_all-append (λ b. (b == 9) || not (nat_lt b 32)) flag (44 ∷ behind_mark other others)
    ∙ and_from (is_comment_text flag) (is_comment_text (behind_mark other others)) f.line.1 (flags_text other others h.0 h.1)

flags_utf8 : (flag : Text) (others : List Text) → IsFlag flag → AllByRecursion IsFlag others → IsUtf8 (behind_mark flag others)
flags_utf8 flag [] f h = utf8_ascii 32 (flag ++ []) (lit< tt) (IsUtf8-append flag [] f.line.0 IsUtf8-nil)
flags_utf8 flag (other ∷ others) f h =
    utf8_ascii 32 (flag ++ (44 ∷ behind_mark other others)) (lit< tt)
    (IsUtf8-append flag (44 ∷ behind_mark other others) f.line.0 (utf8_ascii 44 (behind_mark other others) (lit< tt) (flags_utf8 other others h.0 h.1)))

some_each : (texts : List Text) → AllByRecursion IsFlag texts → list_all (λ item. nat_lt 0 (length item)) texts ≡ true
some_each [] h = refl
some_each (text ∷ texts) h = and_from (nat_lt 0 (length text)) (list_all (λ item. nat_lt 0 (length item)) texts) (let more : 0 < length text = h.0.some in grind arith) (some_each texts h.1)

flags_read : (flag : Text) (others : List Text) → IsFlag flag → AllByRecursion IsFlag others → IsLine (35 ∷ 44 ∷ behind_mark flag others) (flags (flag ∷ others))
unfolding line_of
flags_read flag others f h = record {
  utf8 = utf8_ascii 35 (44 ∷ behind_mark flag others) (lit< tt) (utf8_ascii 44 (behind_mark flag others) (lit< tt) (flags_utf8 flag others f h));
  no_lf = text_no_lf (behind_mark flag others) (flags_text flag others f h);
  read = reads (behind_mark flag others) (flag ∷ others) (flags_text flag others f h) (items_again flag others f h) (some_each (flag ∷ others) (f, h));
}
  where
    reads : (text : List ℕ) (items : List Text) → is_comment_text text ≡ true → items_of text ≡ items → list_all (λ item. nat_lt 0 (length item)) items ≡ true
        → line_of (35 ∷ 44 ∷ text) ≡ Ok (flags items)
    reads text items t e s = rw (t, e, s) refl

abbrev pub flag_lines : List Text → List Line
flag_lines [] = []
flag_lines (flag ∷ others) = flags (flag ∷ others) ∷ []

pub flags_written : (texts : List Text) → AllByRecursion IsFlag texts → Written (flags_line texts) (flag_lines texts)
flags_written [] h = none_written
flags_written (flag ∷ others) h = line_written (35 ∷ 44 ∷ behind_mark flag others) (flags (flag ∷ others)) (flags_read flag others h.0 h.1)
