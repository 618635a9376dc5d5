-- Where no test fails, a text spells a catalogue within the limits.
use Rattle.std.proofs.Common.{◌≡◌, ℕ, ◌+◌, ◌<◌, ◌≤◌, List, [], ◌∷◌, ◌++◌, Bool, true, false, not, ◌&&◌, cond, map, length, refl, sym, ◌∙◌, ap, subst, Option, Some, None, Result, Ok, Err, append_assoc, arith, nat_lt}
use Rattle.std.specs.Prelude.{flat_map, filter, IsUtf8}
use Rattle.std.specs.Str.{is_utf8}
use Rattle.std.specs.List.{fold, AllByRecursion, AllZip}
use Rattle.std.proofs.lemmas.Bool.{false≢true, ltb-false}
use Rattle.std.proofs.lemmas.Str.{IsUtf8-from_is_utf8}
use Rattle.std.proofs.lemmas.List.{append-nil}
use Rattle.std.proofs.lemmas.Grind.{flat_map-append}
use Rattle.po_lex.specs.declared.fault.FaultKind.{FaultKind}
use Rattle.po_lex.specs.declared.fault.FaultKind.TheVariants as kinds
use Rattle.po_lex.specs.declared.line.Keyword.TheVariants.{Msgstr}
use Rattle.po_lex.specs.Lines.{begins, continues, Line, blank, translator, extracted, reference, flags, previous, message, is_form, line_of, lines_of}
use Rattle.po_text.specs.Entries.{Key, Keyed, entry_strings, previous_strings, is_header_key}
use Rattle.po_text.specs.Texts.{Text, is_empty}
use Rattle.po_text.specs.Header.{has_charset}
use Rattle.po_text.specs.declared.entry.Entry.{Entry}
use Rattle.po_text.specs.Valid.{IsValid}
use Rattle.po_read.specs.Spells.{SpellsEntry, Spells, IsWithin, Limits, besides_header}
use Rattle.po_read.specs.Faults.{Lines, strings_in, previous_in, last_string, last_keyword, begins_entry, has_form, before, after, key_in, key_at, has_header_key, has_mark, goes_on, string_fault, header_fault, ended_fault, order_fault, entries_fault, fault_at, fault_at_end, no_lines, add_line, line_fault, or_later, fault_from, fault_of}
use Rattle.po_read.specs.Plain.{groups_of, entry_of, entries_of}
use Rattle.po_read.proofs.OneCatalogue.{entries_read, not_blank, determined}
use Rattle.po_read.proofs.Drafts.{Draft, nothing, context, named, counted, single, draft_strings, draft_last, draft_last_is, AreShort}
use Rattle.po_read.proofs.Partials.{strings_are, or_none, when_none, nil_from_empty, no_lines_yet}
use Rattle.po_text.proofs.EntryLists.{not_false, both_true}
use Rattle.po_read.proofs.Sound.{IsSoundLine}
use Rattle.po_read.proofs.Leaves.{lines_utf8, line_sound}
use Rattle.po_read.proofs.Keeping.{draft_key_is, Settled, Begun, Kept, and_false_right}
use Rattle.po_read.proofs.Growing.{grown, closed, extend, entry_with, spelled_with, valid_with, few_forms, push_entry}

-- ---- the end of an entry

pub last_single : (ctx : Option Text) (id form : Text) → last_string (draft_strings (single ctx id form)) ≡ Some (Msgstr, form)
last_single None id form = refl
last_single (Some ctx) id form = refl

ready : (most : Limits) (s : Lines) (k : Kept most s) (d : Draft) → k.current.draft ≡ d → has_form s.current ≡ true → is_form (draft_last d) ≡ true
ready most s k d e form = ap is_form (sym (ap last_keyword (strings_are most.string s.current k.current ∙ ap draft_strings e) ∙ draft_last_is d)) ∙ form

not_ready : (b : Bool) → b ≡ true → b ≡ false → ⊥
not_ready b h e = false≢true (sym e ∙ h)

close_counted : (most : Limits) (s : Lines) (k : Kept most s) (ctx : Option Text) (id plural form : Text) (forms : List Text) → k.current.draft ≡ counted ctx id plural (form ∷ forms) → Kept most (closed s)
close_counted most s k ctx id plural form forms e =
    let p = k.current in
    let strings : draft_strings p.draft ≡ draft_strings (counted ctx id plural (form ∷ forms)) = ap draft_strings e in
    let settled = subst (λ (x : Draft). Settled s.whole x p.obsolete) e k.settled in
    let begun = subst (λ (x : Draft). Begun most.entries s.whole x) e k.begun in
    let some : 0 < length (form ∷ forms) = omega arith in
    push_entry most s (entry_with most.string s.current p ctx id (Some plural) (form ∷ forms)) k (spelled_with most.string s.current p ctx id (Some plural) (form ∷ forms) strings)
    (valid_with most.string s.current p ctx id (Some plural) (form ∷ forms) strings k.sound some (few_forms most.string s.current p form forms k.sound (ap draft_last e)) (λ n. cc))
    (subst (AreShort most.string) strings p.short) p.short_was settled.0 (λ key. absurd (false≢true (sym settled.1 ∙ ap (λ (q : Key). is_header_key q.0 q.1) key))) begun

header_checked : (s : Lines) (form : Text) → header_fault s form ≡ None → s.whole ≡ [] → has_header_key s.current ≡ true → has_charset form ≡ true
header_checked s form h none key =
    let all : (is_empty s.whole && has_header_key s.current && not (has_charset form)) ≡ false = when_none _ _ h in
    not_false _ (and_false_right true (not (has_charset form)) (ap (λ b. b && not (has_charset form)) (sym (ap (λ b. b && has_header_key s.current) (ap is_empty none) ∙ key)) ∙ all) refl)

close_single : (most : Limits) (s : Lines) (k : Kept most s) (ctx : Option Text) (id form : Text) → k.current.draft ≡ single ctx id form → ended_fault s true (last_string (strings_in s.current)) ≡ None → Kept most (closed s)
close_single most s k ctx id form e ended =
    let p = k.current in
    let strings : draft_strings p.draft ≡ draft_strings (single ctx id form) = ap draft_strings e in
    let here : strings_in s.current ≡ draft_strings (single ctx id form) = strings_are most.string s.current p ∙ strings in
    let settled = subst (λ (x : Draft). Settled s.whole x p.obsolete) e k.settled in
    let begun = subst (λ (x : Draft). Begun most.entries s.whole x) e k.begun in
    let checked : header_fault s form ≡ None = ap (ended_fault s true) (sym (ap last_string here ∙ last_single ctx id form)) ∙ ended in
    let key_here : key_at s.current ≡ (ctx, id) = ap key_in here ∙ draft_key_is (single ctx id form) in
    push_entry most s (entry_with most.string s.current p ctx id None (form ∷ [])) k (spelled_with most.string s.current p ctx id None (form ∷ []) strings)
    (valid_with most.string s.current p ctx id None (form ∷ []) strings k.sound (omega arith) (omega arith) (λ _. refl))
    (subst (AreShort most.string) strings p.short) p.short_was settled
    (λ key.
    let is : is_header_key ctx id ≡ true = ap (λ (q : Key). is_header_key q.0 q.1) key in
    let first = settled.0 is in
    record { key = key; plural = refl; obsolete = first.1; charset = (header_checked s form checked first.0 (ap (λ (q : Key). is_header_key q.0 q.1) key_here ∙ is), tt) })
    begun

close : (most : Limits) (s : Lines) → Kept most s → has_form s.current ≡ true → ended_fault s true (last_string (strings_in s.current)) ≡ None → Kept most (closed s)
close most s k form ended = by k.current.draft refl
  where
    by : (d : Draft) → k.current.draft ≡ d → Kept most (closed s)
    by nothing e = absurd (not_ready _ (ready most s k nothing e form) refl)
    by (context ctx) e = absurd (not_ready _ (ready most s k (context ctx) e form) refl)
    by (named ctx id) e = absurd (not_ready _ (ready most s k (named ctx id) e form) refl)
    by (counted ctx id plural []) e = absurd (not_ready _ (ready most s k (counted ctx id plural []) e form) refl)
    by (counted ctx id plural (form ∷ forms)) e = close_counted most s k ctx id plural form forms e
    by (single ctx id form) e = close_single most s k ctx id form e ended

-- ---- one line

form_some : (strings : List Keyed) → is_form (last_keyword strings) ≡ true → is_empty strings ≡ false
form_some [] h = cc
form_some (s ∷ strings) h = refl

pub and_no : (a b : Bool) → (a && false && b) ≡ false
and_no true b = refl
and_no false b = refl

pub goes_not : (ls : List Line) (line : Line) → has_form ls ≡ true → begins_entry line ≡ true → goes_on ls line ≡ false
goes_not ls blank f b = refl
goes_not ls (translator text) f b = refl
goes_not ls (extracted text) f b = refl
goes_not ls (reference text) f b = refl
goes_not ls (flags items) f b = refl
goes_not ls (previous m (begins keyword text)) f b = refl
goes_not ls (previous m (continues text)) f b = ap (λ e. not (has_mark (not m) ls) && e && not (is_empty (previous_in ls))) (form_some (strings_in ls) f) ∙ and_no (not (has_mark (not m) ls)) (not (is_empty (previous_in ls)))
goes_not ls (message m (begins keyword text)) f b = refl
goes_not ls (message m (continues text)) f b = cc

step : (most : Limits) (s : Lines) (line : Line) → Kept most s → IsSoundLine line → not_blank line ≡ true → fault_at most s line ≡ None → Kept most (after s line)
unfolding fault_at
step most s line k sound nb h =
    let a = or_none (string_fault most.string (before s line).current line) _ h in
    let b = or_none (cond (goes_on s.current line) None (ended_fault s (begins_entry line) (last_string (strings_in s.current)))) _ a.1 in
    let c = or_none (order_fault (before s line).current line) _ b.1 in
    by (has_form s.current && begins_entry line) refl a.0 b.0 c.0 c.1
  where
    ended_here : goes_on s.current line ≡ false → cond (goes_on s.current line) None (ended_fault s (begins_entry line) (last_string (strings_in s.current))) ≡ None → ended_fault s (begins_entry line) (last_string (strings_in s.current)) ≡ None
    ended_here g e = ap (λ (t : Bool). cond t None (ended_fault s (begins_entry line) (last_string (strings_in s.current)))) (sym g) ∙ e

    by : (t : Bool) → (has_form s.current && begins_entry line) ≡ t → string_fault most.string (before s line).current line ≡ None
        → cond (goes_on s.current line) None (ended_fault s (begins_entry line) (last_string (strings_in s.current))) ≡ None → order_fault (before s line).current line ≡ None → entries_fault most.entries (before s line) line ≡ None → Kept most (after s line)
    by true e sf ef of nf =
        let both = both_true (has_form s.current) (begins_entry line) e in
        let here : before s line ≡ closed s = ap (λ (t : Bool). cond t (closed s) s) e in
        let ended : ended_fault s true (last_string (strings_in s.current)) ≡ None = ap (λ (t : Bool). ended_fault s t (last_string (strings_in s.current))) (sym both.1) ∙ ended_here (goes_not s.current line both.0 both.1) ef in
        let kept : Kept most (closed s) = close most s k both.0 ended in
        subst (λ (x : Lines). Kept most (grown x line)) (sym here)
        (extend most (closed s) line kept sound nb (ap (λ (x : Lines). string_fault most.string x.current line) (sym here) ∙ sf) (ap (λ (x : Lines). order_fault x.current line) (sym here) ∙ of)
        (ap (λ (x : Lines). entries_fault most.entries x line) (sym here) ∙ nf) (λ _. (true, refl)))
    by false e sf ef of nf =
        let here : before s line ≡ s = ap (λ (t : Bool). cond t (closed s) s) e in
        subst (λ (x : Lines). Kept most (grown x line)) (sym here)
        (extend most s line k sound nb (ap (λ (x : Lines). string_fault most.string x.current line) (sym here) ∙ sf) (ap (λ (x : Lines). order_fault x.current line) (sym here) ∙ of)
        (ap (λ (x : Lines). entries_fault most.entries x line) (sym here) ∙ nf) (λ g. (begins_entry line, ended_here g ef)))

-- ---- all lines

-- no test fails at these lines, and none at the end
abbrev pub PassesAll : Limits → Lines → List Line → Type 0
PassesAll most s [] = fault_at_end s ≡ None
PassesAll most s (line ∷ lines) = (fault_at most s line ≡ None) × PassesAll most (after s line) lines

run : (most : Limits) (s : Lines) (lines : List Line) → Kept most s → AllByRecursion IsSoundLine lines → AllByRecursion (λ line. not_blank line ≡ true) lines → PassesAll most s lines → Kept most (fold after s lines) × (fault_at_end (fold after s lines) ≡ None)
run most s [] k sound nb h = (k, h)
run most s (line ∷ lines) k sound nb h = run most (after s line) lines (step most s line k sound.0 nb.0 h.0) sound.1 nb.1 h.1

record Finished (most : Limits) (groups : List (List Line)) : Type 0 where
  entries : List Entry
  spelled : AllZip SpellsEntry groups entries
  valid : IsValid entries
  short : AllByRecursion (λ e. AreShort most.string (entry_strings e)) entries
  short_was : AllByRecursion (λ e. AreShort most.string (previous_strings e.previous)) entries
  few : besides_header entries ≤ most.entries

finish : (most : Limits) (s : Lines) → Kept most s → fault_at_end s ≡ None → Finished most (groups_of s)
unfolding fault_at_end
finish most s k h = let a = or_none (ended_fault s true (last_string (strings_in s.current))) _ h in by (is_empty s.current) a.0 (when_none _ _ a.1)
  where
    by : (t : Bool) → ended_fault s true (last_string (strings_in s.current)) ≡ None → (not t && not (has_form s.current)) ≡ false → Finished most (cond t s.whole (s.whole ++ s.current ∷ []))
    by true e f = record { entries = k.entries; spelled = k.spelled; valid = k.valid; short = k.short; short_was = k.short_was; few = k.few }
    by false e f = let c = close most s k (not_false _ f) e in record { entries = c.entries; spelled = c.spelled; valid = c.valid; short = c.short; short_was = c.short_was; few = c.few }

-- ---- the lines are those of the groups

abbrev pub flat : List (List Line) → List Line
flat groups = flat_map (λ group. group) groups

flat_push : (groups : List (List Line)) (group : List Line) → flat (groups ++ group ∷ []) ≡ flat groups ++ group
flat_push groups group = flat_map-append (λ g. g) groups (group ∷ []) ∙ ap (λ g. flat groups ++ g) (append-nil group)

flat_after : (s : Lines) (line : Line) → flat (after s line).whole ++ (after s line).current ≡ (flat s.whole ++ s.current) ++ line ∷ []
flat_after s line = by (has_form s.current && begins_entry line)
  where
    by : (t : Bool) → flat (cond t (closed s) s).whole ++ ((cond t (closed s) s).current ++ line ∷ []) ≡ (flat s.whole ++ s.current) ++ line ∷ []
    by true = ap (λ x. x ++ line ∷ []) (flat_push s.whole s.current)
    by false = sym (append_assoc (flat s.whole) s.current (line ∷ []))

flat_run : (s : Lines) (lines : List Line) → flat (fold after s lines).whole ++ (fold after s lines).current ≡ (flat s.whole ++ s.current) ++ lines
flat_run s [] = sym (append-nil (flat s.whole ++ s.current))
flat_run s (line ∷ lines) = flat_run (after s line) lines ∙ ap (λ x. x ++ lines) (flat_after s line) ∙ append_assoc (flat s.whole ++ s.current) (line ∷ []) lines

flat_groups : (s : Lines) → flat (groups_of s) ≡ flat s.whole ++ s.current
flat_groups s = by (is_empty s.current) refl
  where
    by : (t : Bool) → is_empty s.current ≡ t → flat (cond t s.whole (s.whole ++ s.current ∷ [])) ≡ flat s.whole ++ s.current
    by true e = sym (ap (λ x. flat s.whole ++ x) (nil_from_empty s.current e) ∙ append-nil (flat s.whole))
    by false e = flat_push s.whole s.current

-- ---- from texts to lines

record Reads (most : Limits) (s : Lines) (texts : List (List ℕ)) : Type 0 where
  lines : List Line
  read : map line_of texts ≡ map Ok lines
  passes : PassesAll most s (filter not_blank lines)
  same : fold add_line s (map line_of texts) ≡ fold after s (filter not_blank lines)

later_none : (n : ℕ) (a : Option FaultKind) (b : Option (ℕ × FaultKind)) → or_later n a b ≡ None → (a ≡ None) × (b ≡ None)
later_none n None b h = (refl, h)
later_none n (Some k) b h = cc

pub not_blank_line : (most : Limits) (s : Lines) (line : Line) → not_blank line ≡ true → (line_fault most s (Ok line) ≡ fault_at most s line) × (add_line s (Ok line) ≡ after s line)
not_blank_line most s blank h = cc
not_blank_line most s (translator text) h = (refl, refl)
not_blank_line most s (extracted text) h = (refl, refl)
not_blank_line most s (reference text) h = (refl, refl)
not_blank_line most s (flags items) h = (refl, refl)
not_blank_line most s (previous o part) h = (refl, refl)
not_blank_line most s (message o part) h = (refl, refl)

pub blank_line : (line : Line) → not_blank line ≡ false → line ≡ blank
blank_line blank h = refl
blank_line (translator text) h = cc
blank_line (extracted text) h = cc
blank_line (reference text) h = cc
blank_line (flags items) h = cc
blank_line (previous o part) h = cc
blank_line (message o part) h = cc

read_one : (most : Limits) (s : Lines) (text : List ℕ) (texts : List (List ℕ)) (r : Result Line FaultKind) → line_of text ≡ r → line_fault most s r ≡ None → Reads most (add_line s r) texts → Reads most s (text ∷ texts)
read_one most s text texts (Err kind) e h rest = cc
read_one most s text texts (Ok line) e h rest = by (not_blank line) refl
  where
    by : (t : Bool) → not_blank line ≡ t → Reads most s (text ∷ texts)
    by true nb =
        let is = not_blank_line most s line nb in
        let keeps : filter not_blank (line ∷ rest.lines) ≡ line ∷ filter not_blank rest.lines = ap (λ (t : Bool). cond t (line ∷ filter not_blank rest.lines) (filter not_blank rest.lines)) nb in
        record {
          lines = line ∷ rest.lines;
          read = cc (e, rest.read);
          passes = subst (PassesAll most s) (sym keeps) (sym is.0 ∙ h, subst (λ (x : Lines). PassesAll most x (filter not_blank rest.lines)) is.1 rest.passes);
          same = ap (λ (x : Result Line FaultKind). fold add_line (add_line s x) (map line_of texts)) e ∙ rest.same ∙ ap (λ (x : Lines). fold after x (filter not_blank rest.lines)) is.1 ∙ ap (fold after s) (sym keeps);
        }
    by false nb =
        let is : line ≡ blank = blank_line line nb in
        let drops : filter not_blank (line ∷ rest.lines) ≡ filter not_blank rest.lines = ap (λ (t : Bool). cond t (line ∷ filter not_blank rest.lines) (filter not_blank rest.lines)) nb in
        let stays : add_line s (Ok line) ≡ s = ap (λ (x : Line). add_line s (Ok x)) is in
        record {
          lines = line ∷ rest.lines;
          read = cc (e, rest.read);
          passes = subst (PassesAll most s) (sym drops) (subst (λ (x : Lines). PassesAll most x (filter not_blank rest.lines)) stays rest.passes);
          same = ap (λ (x : Result Line FaultKind). fold add_line (add_line s x) (map line_of texts)) e ∙ rest.same ∙ ap (λ (x : Lines). fold after x (filter not_blank rest.lines)) stays ∙ ap (fold after s) (sym drops);
        }

read_all : (most : Limits) (n : ℕ) (s : Lines) (texts : List (List ℕ)) → fault_from most n s texts ≡ None → Reads most s texts
unfolding fault_from
read_all most n s [] h = record { lines = []; read = refl; passes = (later_none n (fault_at_end s) None h).0; same = refl }
read_all most n s (text ∷ texts) h =
    let a = later_none n (line_fault most s (line_of text)) _ h in
    read_one most s text texts (line_of text) refl a.0 (read_all most (n + 1) (add_line s (line_of text)) texts a.1)

sound_lines : (texts : List (List ℕ)) (lines : List Line) → AllByRecursion (λ text. IsUtf8 text) texts → map line_of texts ≡ map Ok lines → AllByRecursion IsSoundLine lines
sound_lines [] [] u e = tt
sound_lines [] (line ∷ lines) u e = cc
sound_lines (text ∷ texts) [] u e = cc
sound_lines (text ∷ texts) (line ∷ lines) u e =
    let first : line_of text ≡ Ok line = cc in
    let others : map line_of texts ≡ map Ok lines = cc in
    (line_sound text line u.0 first, sound_lines texts lines u.1 others)

filter_all : (P : Line → Type 0) (lines : List Line) → AllByRecursion P lines → AllByRecursion P (filter not_blank lines)
filter_all P [] h = tt
filter_all P (line ∷ lines) h = by (not_blank line) (filter_all P lines h.1)
  where
    by : (t : Bool) → AllByRecursion P (filter not_blank lines) → AllByRecursion P (cond t (line ∷ filter not_blank lines) (filter not_blank lines))
    by true rest = (h.0, rest)
    by false rest = rest

filter_pass : (lines : List Line) → AllByRecursion (λ line. not_blank line ≡ true) (filter not_blank lines)
filter_pass [] = tt
filter_pass (line ∷ lines) = by (not_blank line) refl (filter_pass lines)
  where
    by : (t : Bool) → not_blank line ≡ t → AllByRecursion (λ x. not_blank x ≡ true) (filter not_blank lines) → AllByRecursion (λ x. not_blank x ≡ true) (cond t (line ∷ filter not_blank lines) (filter not_blank lines))
    by true e rest = (e, rest)
    by false e rest = rest

start : (most : Limits) → Kept most no_lines
unfolding no_lines_yet
start most = record {
  entries = [];
  spelled = tt;
  valid = record { each = tt; unique = tt; header = tt };
  short = tt;
  short_was = tt;
  few = omega arith;
  current = no_lines_yet most.string;
  sound = tt;
  settled = tt;
  begun = tt;
}

-- what no fault gives
pub record Accepted (most : Limits) (bytes : List ℕ) : Type 0 where
  pub spells : Spells bytes (entries_of bytes)
  pub within : IsWithin most bytes (entries_of bytes)

passed : (most : Limits) (bytes : List ℕ) → length bytes ≤ most.bytes → IsUtf8 bytes → fault_from most 1 no_lines (lines_of bytes) ≡ None → Accepted most bytes
unfolding entries_of
passed most bytes small u h =
    let r = read_all most 1 no_lines (lines_of bytes) h in
    let sound = sound_lines (lines_of bytes) r.lines (lines_utf8 bytes u) r.read in
    let k = run most no_lines (filter not_blank r.lines) (start most) (filter_all IsSoundLine r.lines sound) (filter_pass r.lines) r.passes in
    let s = fold after no_lines (filter not_blank r.lines) in
    let f = finish most s k.0 k.1 in
    let same : entries_of bytes ≡ f.entries = ap (λ (x : Lines). map entry_of (groups_of x)) r.same ∙ entries_read (groups_of s) f.entries f.spelled in
    record {
      spells = subst (Spells bytes) (sym same) (record { utf8 = u; lines = r.lines; read = r.read; groups = groups_of s; cut = flat_groups s ∙ flat_run no_lines (filter not_blank r.lines); entries = f.spelled; valid = f.valid });
      within = subst (IsWithin most bytes) (sym same) (record { bytes = small; entries = f.few; strings = f.short; previous = f.short_was });
    }

pub no_fault : (most : Limits) (bytes : List ℕ) → fault_of most bytes ≡ None → Accepted most bytes
unfolding fault_of
no_fault most bytes h = by (nat_lt most.bytes (length bytes)) (is_utf8 bytes) refl refl h
  where
    by : (a b : Bool) → nat_lt most.bytes (length bytes) ≡ a → is_utf8 bytes ≡ b → cond a (Some (0, kinds.Limit)) (cond (not b) (Some (0, kinds.NotUtf8)) (fault_from most 1 no_lines (lines_of bytes))) ≡ None → Accepted most bytes
    by true b e f h = cc
    by false false e f h = cc
    by false true e f h = passed most bytes (ltb-false most.bytes (length bytes) e) (IsUtf8-from_is_utf8 bytes f) h

-- ---- what is spelled is what the plain reader computes

texts_behind : (s : Lines) (texts : List (List ℕ)) (lines : List Line) → map line_of texts ≡ map Ok lines → fold add_line s (map line_of texts) ≡ fold after s (filter not_blank lines)
texts_behind s texts lines e = ap (fold add_line s) e ∙ back s lines
  where
    back : (s : Lines) (lines : List Line) → fold add_line s (map Ok lines) ≡ fold after s (filter not_blank lines)
    back s [] = refl
    back s (blank ∷ lines) = back s lines
    back s (translator text ∷ lines) = back (after s (translator text)) lines
    back s (extracted text ∷ lines) = back (after s (extracted text)) lines
    back s (reference text ∷ lines) = back (after s (reference text)) lines
    back s (flags items ∷ lines) = back (after s (flags items)) lines
    back s (previous o part ∷ lines) = back (after s (previous o part)) lines
    back s (message o part ∷ lines) = back (after s (message o part)) lines

pub plain_entries : (bytes : List ℕ) (c : List Entry) → Spells bytes c → c ≡ entries_of bytes
unfolding entries_of
plain_entries bytes c s = determined bytes c s ∙ ap (λ (x : Lines). map entry_of (groups_of x)) (sym (texts_behind no_lines (lines_of bytes) s.lines s.read))
