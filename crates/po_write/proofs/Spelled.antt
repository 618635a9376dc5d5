-- The canonical text of a valid catalogue spells that catalogue.
use Rattle.std.proofs.Common.{◌≡◌, List, [], ◌∷◌, ◌++◌, Bool, not, map, refl, sym, ◌∙◌, ap, Ok}
use Rattle.std.specs.Prelude.{flat_map, filter}
use Rattle.std.specs.List.{AllByRecursion, AllZip}
use Rattle.std.proofs.lemmas.List.{append-nil}
use Rattle.std.proofs.lemmas.List.Elements.{filter-append}
use Rattle.po_lex.specs.Lines.{Part, Line, blank, translator, extracted, reference, flags, previous, message, line_of, lines_of}
use Rattle.po_text.specs.declared.entry.Entry.{Entry}
use Rattle.po_text.specs.Valid.{IsValid, IsValidEntry}
use Rattle.po_read.specs.Spells.{Spells, SpellsEntry, IsCommentOf, is_blank}
use Rattle.po_read.proofs.OneCatalogue.{one_catalogue}
use Rattle.po_write.specs.Text.{entry_text, text_of}
use Rattle.po_write.proofs.Written.{Written, IsLine, none_written, both_written, line_written}
use Rattle.po_write.proofs.EntryAgain.{entry_lines, entry_spelled, entry_written}

-- the lines of a catalogue
abbrev lines_written : List Entry → List Line
lines_written [] = []
lines_written (e ∷ []) = entry_lines e
lines_written (e ∷ f ∷ es) = entry_lines e ++ blank ∷ lines_written (f ∷ es)

blank_line : IsLine [] blank
unfolding line_of
blank_line = record { utf8 = none_written.utf8; no_lf = refl; read = refl }

text_written : (es : List Entry) → AllByRecursion IsValidEntry es → Written (text_of es) (lines_written es)
unfolding text_of
text_written [] valid = none_written
text_written (e ∷ []) valid = entry_written e valid.0
text_written (e ∷ f ∷ es) valid =
    both_written (entry_text e) (10 ∷ text_of (f ∷ es)) (entry_lines e) (blank ∷ lines_written (f ∷ es)) (entry_written e valid.0)
    (both_written (10 ∷ []) (text_of (f ∷ es)) (blank ∷ []) (lines_written (f ∷ es)) (line_written [] blank blank_line) (text_written (f ∷ es) valid.1))

-- ---- groups

abbrev not_blank : Line → Bool
not_blank line = not (is_blank line)

comments_stay : (obsolete : Bool) (lines : List Line) → AllByRecursion (IsCommentOf obsolete) lines → filter not_blank lines ≡ lines
comments_stay o [] h = refl
comments_stay o (blank ∷ lines) h = absurd h.0
comments_stay o (translator text ∷ lines) h = ap (λ ls. translator text ∷ ls) (comments_stay o lines h.1)
comments_stay o (extracted text ∷ lines) h = ap (λ ls. extracted text ∷ ls) (comments_stay o lines h.1)
comments_stay o (reference text ∷ lines) h = ap (λ ls. reference text ∷ ls) (comments_stay o lines h.1)
comments_stay o (flags items ∷ lines) h = ap (λ ls. flags items ∷ ls) (comments_stay o lines h.1)
comments_stay o (previous mark part ∷ lines) h = ap (λ ls. previous mark part ∷ ls) (comments_stay o lines h.1)
comments_stay o (message mark part ∷ lines) h = absurd h.0

messages_stay : (obsolete : Bool) (parts : List Part) → filter not_blank (map (message obsolete) parts) ≡ map (message obsolete) parts
messages_stay o [] = refl
messages_stay o (part ∷ parts) = ap (λ ls. message o part ∷ ls) (messages_stay o parts)

entry_stays : (lines : List Line) (e : Entry) → SpellsEntry lines e → filter not_blank lines ≡ lines
entry_stays lines e s =
    ap (filter not_blank) s.cut ∙ filter-append not_blank s.comments (map (message e.obsolete) s.parts)
    ∙ ap (λ ls. ls ++ filter not_blank (map (message e.obsolete) s.parts)) (comments_stay e.obsolete s.comments s.marks)
    ∙ ap (λ ls. s.comments ++ ls) (messages_stay e.obsolete s.parts) ∙ sym s.cut

groups_cut : (es : List Entry) → AllByRecursion IsValidEntry es → flat_map (λ group. group) (map entry_lines es) ≡ filter not_blank (lines_written es)
groups_cut [] valid = refl
groups_cut (e ∷ []) valid = append-nil (entry_lines e) ∙ sym (entry_stays (entry_lines e) e (entry_spelled e valid.0))
groups_cut (e ∷ f ∷ es) valid =
    ap (λ ls. entry_lines e ++ ls) (groups_cut (f ∷ es) valid.1)
    ∙ ap (λ ls. ls ++ filter not_blank (lines_written (f ∷ es))) (sym (entry_stays (entry_lines e) e (entry_spelled e valid.0)))
    ∙ sym (filter-append not_blank (entry_lines e) (blank ∷ lines_written (f ∷ es)))

groups_spelled : (es : List Entry) → AllByRecursion IsValidEntry es → AllZip SpellsEntry (map entry_lines es) es
groups_spelled [] valid = tt
groups_spelled (e ∷ es) valid = (entry_spelled e valid.0, groups_spelled es valid.1)

-- ---- the catalogue

nothing_behind : (lines : List Line) → map Ok lines ++ map line_of (lines_of []) ≡ map Ok lines
unfolding lines_of
nothing_behind lines = append-nil (map Ok lines)

pub spelled : (c : List Entry) → IsValid c → Spells (text_of c) c
spelled c valid =
    let written = text_written c valid.each in
    record {
      utf8 = written.utf8;
      lines = lines_written c;
      read = ap (λ t. map line_of (lines_of t)) (sym (append-nil (text_of c))) ∙ written.read [] ∙ nothing_behind (lines_written c);
      groups = map entry_lines c;
      cut = groups_cut c valid.each;
      entries = groups_spelled c valid.each;
      valid = valid;
    }

-- and no other
pub no_other : (c d : List Entry) → IsValid c → Spells (text_of c) d → d ≡ c
no_other c d valid s = one_catalogue (text_of c) d c s (spelled c valid)
