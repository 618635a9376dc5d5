-- What the reader keeps is what the tests of a line ask of the lines so far.
use Rattle.std.proofs.Common.{◌≡◌, ℕ, ◌+◌, List, [], ◌∷◌, ◌++◌, Bool, true, false, not, ◌&&◌, ◌||◌, cond, refl, sym, ◌∙◌, ap, Option, Some, None, is_some}
use Rattle.std.specs.Prelude.{flat_map}
use Rattle.std.specs.List.{fold, filter_map, cons_option}
use Rattle.std.proofs.lemmas.List.{append-nil}
use Rattle.std.proofs.lemmas.List.Sums.{fold-append}
use Rattle.std.proofs.lemmas.List.Elements.{filter_map-append}
use Rattle.std.proofs.lemmas.List.Folds.{list_any-append}
use Rattle.std.proofs.lemmas.Grind.{flat_map-append}
use Rattle.po_lex.specs.declared.fault.FaultKind.{FaultKind}
use Rattle.po_lex.specs.declared.fault.FaultKind.TheVariants as kinds
use Rattle.po_lex.specs.declared.line.Keyword.{Keyword}
use Rattle.po_lex.specs.declared.line.Keyword.TheVariants.{Msgctxt, Msgid, MsgidPlural, Msgstr, MsgstrAt}
use Rattle.po_lex.specs.Lines.{Part, begins, continues, Line, blank, translator, extracted, reference, flags, previous, message, is_form}
use Rattle.po_text.specs.Entries.{Key, Keyed, previous_strings, numbered, is_header_key}
use Rattle.po_text.specs.Texts.{Text, is_empty, last_text}
use Rattle.po_read.specs.Spells.{translator_text, extracted_text, reference_text, flag_items, add_part, strings_of, previous_part}
use Rattle.po_text.specs.Flags.{add_once}
use Rattle.po_read.specs.Faults.{message_part, strings_in, previous_in, last_keyword, key_in, key_at, has_header_key, mark_of, same_mark, has_mark, when, goes_on, last_with, string_here, is_long, string_fault, part_fault, previous_fault, order_fault, has_form}
use Rattle.po_read.specs.Drafts.{Draft, nothing, context, named, counted, single, draft_strings, draft_last, draft_key, draft_header, draft_end, last_of_three, previous_with, IsPreviousPart, IsSoundLine}
use Rattle.po_read.specs.SoFar.{SoFar, marked, has_strings, has_previous, goes_on_here, text_here, length_fault, order_fault_here, with_line, IsSoFar}
use Rattle.po_text.specs.declared.entry.Previous.{Previous}
use Rattle.po_read.proofs.Drafts.{draft_last_is, draft_step}
use Rattle.po_read.proofs.Keeping.{draft_key_is}

-- ---- what is kept answers for the lines

mark_is : (s : SoFar) (ls : List Line) → IsSoFar s ls → (m : Bool) → marked s m ≡ has_mark m ls
mark_is s ls h true = h.obsolete
mark_is s ls h false = h.unmarked

last_some : (strings : List Keyed) → is_some (last_keyword strings) ≡ not (is_empty strings)
last_some [] = refl
last_some (s ∷ []) = refl
last_some (s ∷ t ∷ strings) = last_some (t ∷ strings)

last_is : (s : SoFar) (ls : List Line) → IsSoFar s ls → draft_last s.draft ≡ last_keyword (strings_in ls)
last_is s ls h = sym (draft_last_is s.draft) ∙ ap last_keyword h.strings

pub key_is : (s : SoFar) (ls : List Line) → IsSoFar s ls → draft_key s.draft ≡ key_at ls
key_is s ls h = sym (draft_key_is s.draft) ∙ ap key_in h.strings

pub header_is : (s : SoFar) (ls : List Line) → IsSoFar s ls → draft_header s.draft ≡ has_header_key ls
header_is s ls h = ap (λ (k : Key). is_header_key k.0 k.1) (key_is s ls h)

some_is : (s : SoFar) (ls : List Line) → IsSoFar s ls → has_strings s ≡ not (is_empty (strings_in ls))
some_is s ls h = ap is_some (last_is s ls h) ∙ last_some (strings_in ls)

not_not : (b : Bool) → not (not b) ≡ b
not_not true = refl
not_not false = refl

none_is : (s : SoFar) (ls : List Line) → IsSoFar s ls → not (has_strings s) ≡ is_empty (strings_in ls)
none_is s ls h = ap not (some_is s ls h) ∙ not_not (is_empty (strings_in ls))

was_is : (s : SoFar) (ls : List Line) → IsSoFar s ls → has_previous s ≡ not (is_empty (previous_in ls))
was_is s ls h = last_some (previous_strings s.previous) ∙ ap (λ ss. not (is_empty ss)) h.previous

pub form_is : (s : SoFar) (ls : List Line) → IsSoFar s ls → is_form (draft_last s.draft) ≡ has_form ls
form_is s ls h = ap is_form (last_is s ls h)

pub goes_is : (s : SoFar) (ls : List Line) (line : Line) → IsSoFar s ls → goes_on_here s line ≡ goes_on ls line
goes_is s ls blank h = refl
goes_is s ls (translator text) h = refl
goes_is s ls (extracted text) h = refl
goes_is s ls (reference text) h = refl
goes_is s ls (flags items) h = refl
goes_is s ls (previous m (begins keyword text)) h = refl
goes_is s ls (previous m (continues text)) h = λ i. not (mark_is s ls h (not m) i) && none_is s ls h i && was_is s ls h i
goes_is s ls (message m (begins keyword text)) h = refl
goes_is s ls (message m (continues text)) h = λ i. not (mark_is s ls h (not m) i) && some_is s ls h i

-- ---- the last string

numbered_end : (k : Keyword) (text : Text) (n : ℕ) (forms : List Text) (more : Text) → last_with ((k, text) ∷ numbered n forms) more ≡ Some (last_text text forms ++ more)
numbered_end k text n [] more = refl
numbered_end k text n (form ∷ forms) more = numbered_end (MsgstrAt n) form (n + 1) forms more

end_is : (d : Draft) (more : Text) → is_some (draft_last d) ≡ true → last_with (draft_strings d) more ≡ Some (draft_end d ++ more)
end_is nothing more h = cc
end_is (context ctx) more h = refl
end_is (named None id) more h = refl
end_is (named (Some ctx) id) more h = refl
end_is (counted None id plural forms) more h = numbered_end MsgidPlural plural 0 forms more
end_is (counted (Some ctx) id plural forms) more h = numbered_end MsgidPlural plural 0 forms more
end_is (single None id form) more h = refl
end_is (single (Some ctx) id form) more h = refl

abbrev three_of : Option Text → Option Text → Option Text → Previous
three_of ctx id plural = record { ctx = ctx; id = id; plural = plural }

was_end : (ctx id plural : Option Text) (more : Text) → is_some (last_keyword (previous_strings (three_of ctx id plural))) ≡ true → last_with (previous_strings (three_of ctx id plural)) more ≡ Some (last_of_three ctx id plural ++ more)
was_end None None None more h = cc
was_end (Some c) None None more h = refl
was_end None (Some i) None more h = refl
was_end (Some c) (Some i) None more h = refl
was_end None None (Some p) more h = refl
was_end (Some c) None (Some p) more h = refl
was_end None (Some i) (Some p) more h = refl
was_end (Some c) (Some i) (Some p) more h = refl

and_right : (a b : Bool) → (a && b) ≡ true → b ≡ true
and_right true b h = h
and_right false b h = cc

-- under a test, two texts need to be the same only where it holds
under : (t u : Bool) (a b : Option Text) → t ≡ u → (t ≡ true → a ≡ b) → cond t a None ≡ cond u b None
under true true a b e h = h refl
under false false a b e h = refl
under true false a b e h = cc
under false true a b e h = cc

text_is : (s : SoFar) (ls : List Line) (line : Line) → IsSoFar s ls → text_here s line ≡ string_here ls line
text_is s ls blank h = refl
text_is s ls (translator text) h = refl
text_is s ls (extracted text) h = refl
text_is s ls (reference text) h = refl
text_is s ls (flags items) h = refl
text_is s ls (previous m (begins keyword text)) h = refl
text_is s ls (previous m (continues text)) h =
    under (goes_on_here s (previous m (continues text))) (goes_on ls (previous m (continues text))) _ _ (goes_is s ls (previous m (continues text)) h)
    (λ g. sym (was_end s.previous.ctx s.previous.id s.previous.plural text (and_right (not (marked s (not m)) && not (has_strings s)) (has_previous s) g)) ∙ ap (λ ss. last_with ss text) h.previous)
text_is s ls (message m (begins keyword text)) h = refl
text_is s ls (message m (continues text)) h =
    under (goes_on_here s (message m (continues text))) (goes_on ls (message m (continues text))) _ _ (goes_is s ls (message m (continues text)) h)
    (λ g. sym (end_is s.draft text (and_right (not (marked s (not m))) (has_strings s) g)) ∙ ap (λ ss. last_with ss text) h.strings)

pub length_is : (s : SoFar) (ls : List Line) (line : Line) → IsSoFar s ls → length_fault s line ≡ string_fault 262144 ls line
length_is s ls line h = ap (λ o. when (is_long 262144 o) kinds.Limit) (text_is s ls line h)

pub order_is : (s : SoFar) (ls : List Line) (line : Line) → IsSoFar s ls → order_fault_here s line ≡ order_fault ls line
order_is s ls blank h = ap (λ b. when b kinds.Order) (some_is s ls h)
order_is s ls (translator text) h = ap (λ b. when b kinds.Order) (some_is s ls h)
order_is s ls (extracted text) h = ap (λ b. when b kinds.Order) (some_is s ls h)
order_is s ls (reference text) h = ap (λ b. when b kinds.Order) (some_is s ls h)
order_is s ls (flags items) h = ap (λ b. when b kinds.Order) (some_is s ls h)
order_is s ls (previous m part) h = λ i. cond (mark_is s ls h (not m) i || some_is s ls h i) (Some kinds.Order) (previous_fault (last_keyword (h.previous i)) part)
order_is s ls (message m part) h = λ i. cond (mark_is s ls h (not m) i) (Some kinds.Order) (part_fault (last_is s ls h i) (header_is s ls h i) part)

-- ---- one more line

part_more : {A : Type 0} (f : Line → Option A) (ls : List Line) (line : Line) → filter_map f (ls ++ line ∷ []) ≡ filter_map f ls ++ cons_option (f line) []
part_more f ls line = filter_map-append f ls (line ∷ [])

same_part : {A : Type 0} (f : Line → Option A) (ls : List Line) (line : Line) → f line ≡ None → filter_map f ls ≡ filter_map f (ls ++ line ∷ [])
same_part f ls line none = sym (part_more f ls line ∙ ap (λ o. filter_map f ls ++ cons_option o []) none ∙ append-nil (filter_map f ls))

more_part : {A : Type 0} (f : Line → Option A) (ls : List Line) (line : Line) (x : A) → f line ≡ Some x → filter_map f ls ++ x ∷ [] ≡ filter_map f (ls ++ line ∷ [])
more_part f ls line x some = sym (part_more f ls line ∙ ap (λ o. filter_map f ls ++ cons_option o []) some)

flags_more : (ls : List Line) (line : Line) → fold add_once (fold add_once [] (flat_map flag_items ls)) (flag_items line) ≡ fold add_once [] (flat_map flag_items (ls ++ line ∷ []))
flags_more ls line =
    sym (ap (fold add_once []) (flat_map-append flag_items ls (line ∷ []) ∙ ap (λ t. flat_map flag_items ls ++ t) (append-nil (flag_items line)))
    ∙ fold-append add_once [] (flat_map flag_items ls) (flag_items line))

or_none : (b : Bool) → b ≡ (b || false)
or_none true = refl
or_none false = refl

same_marks : (m : Bool) (ls : List Line) (line : Line) → same_mark m (mark_of line) ≡ false → has_mark m ls ≡ has_mark m (ls ++ line ∷ [])
same_marks m ls line none = or_none (has_mark m ls) ∙ ap (λ b. has_mark m ls || (b || false)) (sym none) ∙ sym (list_any-append (λ l. same_mark m (mark_of l)) ls (line ∷ []))

or_true : (b : Bool) → true ≡ (b || true)
or_true true = refl
or_true false = refl

more_marks : (m : Bool) (ls : List Line) (line : Line) → same_mark m (mark_of line) ≡ true → true ≡ has_mark m (ls ++ line ∷ [])
more_marks m ls line some = or_true (has_mark m ls) ∙ ap (λ b. has_mark m ls || (b || false)) (sym some) ∙ sym (list_any-append (λ l. same_mark m (mark_of l)) ls (line ∷ []))

begun_now : (ls : List Line) (line : Line) → true ≡ not (is_empty (ls ++ line ∷ []))
begun_now [] line = refl
begun_now (l ∷ ls) line = refl

strings_same : (ls : List Line) (line : Line) → message_part line ≡ None → strings_in ls ≡ strings_in (ls ++ line ∷ [])
strings_same ls line none = ap strings_of (same_part message_part ls line none)

previous_same : (ls : List Line) (line : Line) → previous_part line ≡ None → previous_in ls ≡ previous_in (ls ++ line ∷ [])
previous_same ls line none = ap strings_of (same_part previous_part ls line none)

strings_more : (ls : List Line) (line : Line) (part : Part) → message_part line ≡ Some part → add_part (strings_in ls) part ≡ strings_in (ls ++ line ∷ [])
strings_more ls line part some = sym (ap strings_of (sym (more_part message_part ls line part some)) ∙ fold-append add_part [] (filter_map message_part ls) (part ∷ []))

previous_more_of : (ls : List Line) (line : Line) (part : Part) → previous_part line ≡ Some part → add_part (previous_in ls) part ≡ previous_in (ls ++ line ∷ [])
previous_more_of ls line part some = sym (ap strings_of (sym (more_part previous_part ls line part some)) ∙ fold-append add_part [] (filter_map previous_part ls) (part ∷ []))

-- ---- previous strings with one more part

was_step : (ctx id plural : Option Text) (part : Part) → previous_fault (last_keyword (previous_strings (three_of ctx id plural))) part ≡ None → IsPreviousPart part → previous_strings (previous_with (three_of ctx id plural) part) ≡ add_part (previous_strings (three_of ctx id plural)) part
was_step ctx id plural (begins Msgstr text) h n = absurd n
was_step ctx id plural (begins (MsgstrAt d) text) h n = absurd n
was_step None None None (begins Msgctxt text) h n = refl
was_step None None None (begins Msgid text) h n = refl
was_step None None None (begins MsgidPlural text) h n = refl
was_step None None None (continues text) h n = cc
was_step (Some c) None None (begins Msgctxt text) h n = cc
was_step (Some c) None None (begins Msgid text) h n = refl
was_step (Some c) None None (begins MsgidPlural text) h n = refl
was_step (Some c) None None (continues text) h n = refl
was_step None (Some i) None (begins Msgctxt text) h n = cc
was_step None (Some i) None (begins Msgid text) h n = cc
was_step None (Some i) None (begins MsgidPlural text) h n = refl
was_step None (Some i) None (continues text) h n = refl
was_step (Some c) (Some i) None (begins Msgctxt text) h n = cc
was_step (Some c) (Some i) None (begins Msgid text) h n = cc
was_step (Some c) (Some i) None (begins MsgidPlural text) h n = refl
was_step (Some c) (Some i) None (continues text) h n = refl
was_step None None (Some p) (begins Msgctxt text) h n = cc
was_step None None (Some p) (begins Msgid text) h n = cc
was_step None None (Some p) (begins MsgidPlural text) h n = cc
was_step None None (Some p) (continues text) h n = refl
was_step (Some c) None (Some p) (begins Msgctxt text) h n = cc
was_step (Some c) None (Some p) (begins Msgid text) h n = cc
was_step (Some c) None (Some p) (begins MsgidPlural text) h n = cc
was_step (Some c) None (Some p) (continues text) h n = refl
was_step None (Some i) (Some p) (begins Msgctxt text) h n = cc
was_step None (Some i) (Some p) (begins Msgid text) h n = cc
was_step None (Some i) (Some p) (begins MsgidPlural text) h n = cc
was_step None (Some i) (Some p) (continues text) h n = refl
was_step (Some c) (Some i) (Some p) (begins Msgctxt text) h n = cc
was_step (Some c) (Some i) (Some p) (begins Msgid text) h n = cc
was_step (Some c) (Some i) (Some p) (begins MsgidPlural text) h n = cc
was_step (Some c) (Some i) (Some p) (continues text) h n = refl

if_none : (b : Bool) (k : FaultKind) (x : Option FaultKind) → cond b (Some k) x ≡ None → (b ≡ false) × (x ≡ None)
if_none true k x h = cc
if_none false k x h = (refl, h)

pub with_line_is : (s : SoFar) (ls : List Line) (line : Line) → IsSoFar s ls → IsSoundLine line → (line ≡ blank → ⊥) → order_fault_here s line ≡ None → IsSoFar (with_line s line) (ls ++ line ∷ [])
with_line_is s ls blank h sound nb f = absurd (nb refl)
with_line_is s ls (translator text) h sound nb f = let l = translator text in record {
  translator = ap (λ t. t ++ text ∷ []) h.translator ∙ more_part translator_text ls l text refl;
  extracted = h.extracted ∙ same_part extracted_text ls l refl;
  references = h.references ∙ same_part reference_text ls l refl;
  flags = h.flags ∙ flags_more ls l;
  previous = h.previous ∙ previous_same ls l refl;
  strings = h.strings ∙ strings_same ls l refl;
  begun = begun_now ls l;
  unmarked = h.unmarked ∙ same_marks false ls l refl;
  obsolete = h.obsolete ∙ same_marks true ls l refl;
}
with_line_is s ls (extracted text) h sound nb f = let l = extracted text in record {
  translator = h.translator ∙ same_part translator_text ls l refl;
  extracted = ap (λ t. t ++ text ∷ []) h.extracted ∙ more_part extracted_text ls l text refl;
  references = h.references ∙ same_part reference_text ls l refl;
  flags = h.flags ∙ flags_more ls l;
  previous = h.previous ∙ previous_same ls l refl;
  strings = h.strings ∙ strings_same ls l refl;
  begun = begun_now ls l;
  unmarked = h.unmarked ∙ same_marks false ls l refl;
  obsolete = h.obsolete ∙ same_marks true ls l refl;
}
with_line_is s ls (reference text) h sound nb f = let l = reference text in record {
  translator = h.translator ∙ same_part translator_text ls l refl;
  extracted = h.extracted ∙ same_part extracted_text ls l refl;
  references = ap (λ t. t ++ text ∷ []) h.references ∙ more_part reference_text ls l text refl;
  flags = h.flags ∙ flags_more ls l;
  previous = h.previous ∙ previous_same ls l refl;
  strings = h.strings ∙ strings_same ls l refl;
  begun = begun_now ls l;
  unmarked = h.unmarked ∙ same_marks false ls l refl;
  obsolete = h.obsolete ∙ same_marks true ls l refl;
}
with_line_is s ls (flags items) h sound nb f = let l = flags items in record {
  translator = h.translator ∙ same_part translator_text ls l refl;
  extracted = h.extracted ∙ same_part extracted_text ls l refl;
  references = h.references ∙ same_part reference_text ls l refl;
  flags = ap (λ t. fold add_once t items) h.flags ∙ flags_more ls l;
  previous = h.previous ∙ previous_same ls l refl;
  strings = h.strings ∙ strings_same ls l refl;
  begun = begun_now ls l;
  unmarked = h.unmarked ∙ same_marks false ls l refl;
  obsolete = h.obsolete ∙ same_marks true ls l refl;
}
with_line_is s ls (previous m part) h sound nb f = by m (if_none _ _ _ f).1
  where
    by : (o : Bool) → previous_fault (last_keyword (previous_strings s.previous)) part ≡ None → IsSoFar (with_line s (previous o part)) (ls ++ previous o part ∷ [])
    by true g = let l = previous true part in record {
      translator = h.translator ∙ same_part translator_text ls l refl;
      extracted = h.extracted ∙ same_part extracted_text ls l refl;
      references = h.references ∙ same_part reference_text ls l refl;
      flags = h.flags ∙ flags_more ls l;
      previous = was_step s.previous.ctx s.previous.id s.previous.plural part g sound.0 ∙ ap (λ ss. add_part ss part) h.previous ∙ previous_more_of ls l part refl;
      strings = h.strings ∙ strings_same ls l refl;
      begun = begun_now ls l;
      unmarked = h.unmarked ∙ same_marks false ls l refl;
      obsolete = more_marks true ls l refl;
    }
    by false g = let l = previous false part in record {
      translator = h.translator ∙ same_part translator_text ls l refl;
      extracted = h.extracted ∙ same_part extracted_text ls l refl;
      references = h.references ∙ same_part reference_text ls l refl;
      flags = h.flags ∙ flags_more ls l;
      previous = was_step s.previous.ctx s.previous.id s.previous.plural part g sound.0 ∙ ap (λ ss. add_part ss part) h.previous ∙ previous_more_of ls l part refl;
      strings = h.strings ∙ strings_same ls l refl;
      begun = begun_now ls l;
      unmarked = more_marks false ls l refl;
      obsolete = h.obsolete ∙ same_marks true ls l refl;
    }
with_line_is s ls (message m part) h sound nb f = by m (if_none _ _ _ f).1
  where
    by : (o : Bool) → part_fault (draft_last s.draft) (draft_header s.draft) part ≡ None → IsSoFar (with_line s (message o part)) (ls ++ message o part ∷ [])
    by true g = let l = message true part in record {
      translator = h.translator ∙ same_part translator_text ls l refl;
      extracted = h.extracted ∙ same_part extracted_text ls l refl;
      references = h.references ∙ same_part reference_text ls l refl;
      flags = h.flags ∙ flags_more ls l;
      previous = h.previous ∙ previous_same ls l refl;
      strings = draft_step s.draft (draft_header s.draft) part g ∙ ap (λ ss. add_part ss part) h.strings ∙ strings_more ls l part refl;
      begun = begun_now ls l;
      unmarked = h.unmarked ∙ same_marks false ls l refl;
      obsolete = more_marks true ls l refl;
    }
    by false g = let l = message false part in record {
      translator = h.translator ∙ same_part translator_text ls l refl;
      extracted = h.extracted ∙ same_part extracted_text ls l refl;
      references = h.references ∙ same_part reference_text ls l refl;
      flags = h.flags ∙ flags_more ls l;
      previous = h.previous ∙ previous_same ls l refl;
      strings = draft_step s.draft (draft_header s.draft) part g ∙ ap (λ ss. add_part ss part) h.strings ∙ strings_more ls l part refl;
      begun = begun_now ls l;
      unmarked = more_marks false ls l refl;
      obsolete = h.obsolete ∙ same_marks true ls l refl;
    }
