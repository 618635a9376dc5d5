-- Line by line, from no fault to a catalogue.
use Rattle.std.proofs.Common.{◌≡◌, ◌≢◌, ℕ, ◌-◌, ◌<◌, ◌≤◌, List, [], ◌∷◌, ◌++◌, Bool, true, false, cond, map, length, refl, sym, ◌∙◌, ap, subst, Option, Some, None, arith, suc}
use Rattle.std.specs.Prelude.{flat_map}
use Rattle.std.specs.List.{filter_map, list_any, AllByRecursion, AllZip}
use Rattle.std.proofs.lemmas.Bool.{false≢true, leb-false}
use Rattle.std.proofs.lemmas.List.{length-append}
use Rattle.po_lex.specs.declared.line.Keyword.{Keyword}
use Rattle.po_lex.specs.declared.line.Keyword.TheVariants.{Msgctxt, Msgid, MsgidPlural, Msgstr, MsgstrAt}
use Rattle.po_lex.specs.Lines.{Part, begins, continues, Line, blank, translator, extracted, reference, flags, previous, message}
use Rattle.po_text.specs.Entries.{Key, key_of, entry_strings, previous_strings, is_header_key, same_key}
use Rattle.po_text.specs.Texts.{Text, is_empty}
use Rattle.po_text.specs.declared.entry.Entry.{Entry}
use Rattle.po_text.specs.Valid.{IsValidEntry, HasHeaderKey, IsHeader, HasHeaderFirst, AllStrings, IsString, IsCommentLine}
use Rattle.po_read.specs.Spells.{SpellsEntry, translator_text, extracted_text, reference_text, flag_items, flags_kept, previous_part, Limits, besides_header, IsCommentOf}
use Rattle.po_read.specs.Faults.{Lines, strings_in, last_string, last_keyword, key_in, key_at, has_header_key, goes_on, string_fault, key_fault, ended_fault, part_fault, order_fault, count_of, entries_fault}
use Rattle.po_read.proofs.EntryLemmas.{key_read}
use Rattle.po_read.proofs.OneCatalogue.{not_blank}
use Rattle.po_read.proofs.GroupLemmas.{keys, begun, last_of, last_key, keys_of}
use Rattle.po_read.proofs.Drafts.{named, draft_strings, draft_last, draft_last_is, AreShort}
use Rattle.po_text.proofs.EntryLists.{all_push, not_false, or_false, all_left, all_right, same_key_self, unique_push}
use Rattle.po_read.proofs.Partials.{Partial, strings_are, when_none, short_here, same_obsolete, marked, push_comment, push_previous, push_message, no_lines_yet}
use Rattle.po_read.proofs.Sound.{IsDigitKey, IsSoundPart, IsSoundLine, all_texts, translator_sound, extracted_sound, reference_sound, items_sound, previous_sound, parts_sound, strings_sound, flags_sound}
use Rattle.po_read.proofs.Keeping.{draft_key, draft_key_is, IsNewKey, Settled, Begun, Kept, if_none, draft_none, new_key, settle, CountHere, begin, settled_yet, settled_marked}

-- ---- one more line of the entry

abbrev pub grown : Lines → Line → Lines
grown s line = record { whole = s.whole; current = s.current ++ line ∷ [] }

abbrev pub closed : Lines → Lines
closed s = record { whole = s.whole ++ s.current ∷ []; current = [] }

extend_comment : (most : Limits) (s : Lines) (line : Line) → Kept most s → IsSoundLine line → ((o : Bool) → IsCommentOf o line) → previous_part line ≡ None → is_empty (strings_in s.current) ≡ true → Kept most (grown s line)
unfolding push_comment
extend_comment most s line k sound c none h = record {
  entries = k.entries;
  spelled = k.spelled;
  valid = k.valid;
  short = k.short;
  short_was = k.short_was;
  few = k.few;
  current = push_comment most.string s.current line k.current c none h;
  sound = all_push IsSoundLine s.current line k.sound sound;
  settled = k.settled;
  begun = k.begun;
}

extend_previous : (most : Limits) (s : Lines) (m : Bool) (part : Part) → Kept most s → IsSoundLine (previous m part) → string_fault most.string s.current (previous m part) ≡ None → order_fault s.current (previous m part) ≡ None → Kept most (grown s (previous m part))
unfolding push_previous marked
extend_previous most s m part k sound sf of =
    let r = if_none _ _ _ of in
    let both = or_false _ _ r.0 in
    let em : is_empty (strings_in s.current) ≡ true = not_false _ both.1 in
    record {
      entries = k.entries;
      spelled = k.spelled;
      valid = k.valid;
      short = k.short;
      short_was = k.short_was;
      few = k.few;
      current = push_previous most.string s.current m part k.current both.0 em r.1 sound.0 (short_here most.string s.current (previous m part) sf);
      sound = all_push IsSoundLine s.current (previous m part) k.sound sound;
      settled = settled_yet s.whole k.current.draft m (ap is_empty (sym (strings_are most.string s.current k.current)) ∙ em);
      begun = k.begun;
    }

count_here : (most : ℕ) (s : Lines) (m : Bool) (part : Part) → entries_fault most s (message m part) ≡ None → CountHere most s.whole part
count_here most s m (continues text) h = tt
count_here most s m (begins Msgctxt text) h = tt
count_here most s m (begins Msgid text) h = leb-false most (count_of s.whole) (when_none _ _ h)
count_here most s m (begins MsgidPlural text) h = tt
count_here most s m (begins Msgstr text) h = tt
count_here most s m (begins (MsgstrAt d) text) h = tt

ended_id : (s : Lines) (b : Bool) (id : Text) → ended_fault s b (Some (Msgid, id)) ≡ key_fault s
ended_id s true id = refl
ended_id s false id = refl

last_named : (ctx : Option Text) (id : Text) → last_string (draft_strings (named ctx id)) ≡ Some (Msgid, id)
last_named None id = refl
last_named (Some ctx) id = refl

-- what a test of ended strings says, where the line doesn't go on
abbrev pub Ended : Lines → Line → Type 0
Ended s line = goes_on s.current line ≡ false → (b : Bool) × (ended_fault s b (last_string (strings_in s.current)) ≡ None)

extend_message : (most : Limits) (s : Lines) (m : Bool) (part : Part) → Kept most s → IsSoundLine (message m part) → string_fault most.string s.current (message m part) ≡ None → order_fault s.current (message m part) ≡ None
    → entries_fault most.entries s (message m part) ≡ None → Ended s (message m part) → Kept most (grown s (message m part))
unfolding push_message marked
extend_message most s m part k sound sf of ef ended =
    let p = k.current in
    let r = if_none _ _ _ of in
    let strings : strings_in s.current ≡ draft_strings p.draft = strings_are most.string s.current p in
    let last : last_keyword (strings_in s.current) ≡ draft_last p.draft = ap last_keyword strings ∙ draft_last_is p.draft in
    let key : key_at s.current ≡ draft_key p.draft = ap (λ ss. key_in ss) strings ∙ draft_key_is p.draft in
    let header : has_header_key s.current ≡ is_header_key (draft_key p.draft).0 (draft_key p.draft).1 = ap (λ (q : Key). is_header_key q.0 q.1) key in
    let fits : part_fault (draft_last p.draft) (has_header_key s.current) part ≡ None = ap (λ q. part_fault q (has_header_key s.current) part) (sym last) ∙ r.1 in
    let fits' : part_fault (draft_last p.draft) (is_header_key (draft_key p.draft).0 (draft_key p.draft).1) part ≡ None = ap (λ q. part_fault (draft_last p.draft) q part) (sym header) ∙ fits in
    let q = marked most.string s.current p m r.0 in
    record {
      entries = k.entries;
      spelled = k.spelled;
      valid = k.valid;
      short = k.short;
      short_was = k.short_was;
      few = k.few;
      current = push_message most.string s.current m (has_header_key s.current) part p r.0 r.1 (short_here most.string s.current (message m part) sf);
      sound = all_push IsSoundLine s.current (message m part) k.sound sound;
      settled = settle s.whole p.draft part m fits'
          (settled_marked s.whole p.draft p.obsolete m (λ some. same_obsolete most.string s.current p m r.0 (λ none. some (draft_none p.draft p.parts p.says.1 none))) k.settled)
          (λ ctx id keyword text de pe.
          let e = ended (ap (λ x. goes_on s.current (message m x)) pe) in
          let here : last_string (strings_in s.current) ≡ Some (Msgid, id) = ap last_string (strings ∙ ap draft_strings de) ∙ last_named ctx id in
          new_key most.string s q ctx id de (sym (ended_id s e.0 id) ∙ ap (ended_fault s e.0) (sym here) ∙ e.1));
      begun = begin most.entries s.whole p.draft part (has_header_key s.current) fits k.begun (count_here most.entries s m part ef);
    }

pub extend : (most : Limits) (s : Lines) (line : Line) → Kept most s → IsSoundLine line → not_blank line ≡ true → string_fault most.string s.current line ≡ None → order_fault s.current line ≡ None → entries_fault most.entries s line ≡ None → Ended s line
    → Kept most (grown s line)
extend most s blank k sound nb sf of ef ended = cc
extend most s (translator text) k sound nb sf of ef ended = extend_comment most s (translator text) k sound (λ _. tt) refl (not_false _ (when_none _ _ of))
extend most s (extracted text) k sound nb sf of ef ended = extend_comment most s (extracted text) k sound (λ _. tt) refl (not_false _ (when_none _ _ of))
extend most s (reference text) k sound nb sf of ef ended = extend_comment most s (reference text) k sound (λ _. tt) refl (not_false _ (when_none _ _ of))
extend most s (flags items) k sound nb sf of ef ended = extend_comment most s (flags items) k sound (λ _. tt) refl (not_false _ (when_none _ _ of))
extend most s (previous m part) k sound nb sf of ef ended = extend_previous most s m part k sound sf of
extend most s (message m part) k sound nb sf of ef ended = extend_message most s m part k sound sf of ef ended

-- ---- a whole entry

abbrev pub entry_with : (most : ℕ) (ls : List Line) → Partial most ls → Option Text → Text → Option Text → List Text → Entry
entry_with most ls p ctx id plural forms = record {
  translator = filter_map translator_text p.comments;
  extracted = filter_map extracted_text p.comments;
  references = filter_map reference_text p.comments;
  flags = flags_kept (flat_map flag_items p.comments);
  previous = p.before;
  ctx = ctx;
  id = id;
  plural = plural;
  forms = forms;
  obsolete = p.obsolete;
}

pub spelled_with : (most : ℕ) (ls : List Line) (p : Partial most ls) (ctx : Option Text) (id : Text) (plural : Option Text) (forms : List Text) → draft_strings p.draft ≡ entry_strings (entry_with most ls p ctx id plural forms)
    → SpellsEntry ls (entry_with most ls p ctx id plural forms)
spelled_with most ls p ctx id plural forms e = record {
  comments = p.comments;
  parts = p.parts;
  cut = p.cut;
  marks = p.marks;
  translator = refl;
  extracted = refl;
  references = refl;
  flags = refl;
  previous = p.was;
  messages = (p.says.0, p.says.1 ∙ e);
}

pub valid_with : (most : ℕ) (ls : List Line) (p : Partial most ls) (ctx : Option Text) (id : Text) (plural : Option Text) (forms : List Text) → draft_strings p.draft ≡ entry_strings (entry_with most ls p ctx id plural forms)
    → AllByRecursion IsSoundLine ls → 0 < length forms → length forms ≤ 8 → (plural ≡ None → length forms ≡ 1) → IsValidEntry (entry_with most ls p ctx id plural forms)
valid_with most ls p ctx id plural forms e sound some eight one =
    let all = subst (AllByRecursion IsSoundLine) p.cut sound in
    let cs = all_left IsSoundLine p.comments (map (message p.obsolete) p.parts) all in
    let ps = parts_sound p.obsolete p.parts (all_right IsSoundLine p.comments (map (message p.obsolete) p.parts) all) in
    record {
      translator = all_texts translator_text IsCommentLine translator_sound p.comments cs;
      extracted = all_texts extracted_text IsCommentLine extracted_sound p.comments cs;
      references = all_texts reference_text IsCommentLine reference_sound p.comments cs;
      flags = flags_sound (flat_map flag_items p.comments) (items_sound p.comments cs);
      strings = subst (AllStrings IsString) (p.says.1 ∙ e) (strings_sound p.parts ps);
      previous = subst (AllStrings IsString) p.was.1 (strings_sound (filter_map previous_part p.comments) (previous_sound p.comments cs));
      some = some;
      most = eight;
      single = one;
    }

digits_begun : (parts : List Part) → AllByRecursion IsSoundPart parts → AllByRecursion IsDigitKey (flat_map begun parts)
digits_begun [] h = tt
digits_begun (begins keyword text ∷ parts) h = (h.0.0, digits_begun parts h.1)
digits_begun (continues text ∷ parts) h = digits_begun parts h.1

all_last : (P : Keyword → Type 0) (ks : List Keyword) (k : Keyword) → AllByRecursion P ks → last_of ks ≡ Some k → P k
all_last P [] k h e = cc
all_last P (x ∷ []) k h e = let same : x ≡ k = cc in subst P same h.0
all_last P (x ∷ y ∷ ks) k h e = all_last P (y ∷ ks) k h.1 e

pub few_forms : (most : ℕ) (ls : List Line) (p : Partial most ls) (form : Text) (forms : List Text) → AllByRecursion IsSoundLine ls → draft_last p.draft ≡ Some (MsgstrAt (length forms)) → length (form ∷ forms) ≤ 8
few_forms most ls p form forms sound last =
    let all = subst (AllByRecursion IsSoundLine) p.cut sound in
    let ps = parts_sound p.obsolete p.parts (all_right IsSoundLine p.comments (map (message p.obsolete) p.parts) all) in
    let e : last_of (flat_map begun p.parts) ≡ Some (MsgstrAt (length forms)) = ap last_of (sym (keys_of p.parts) ∙ ap keys p.says.1) ∙ sym (last_key (draft_strings p.draft)) ∙ draft_last_is p.draft ∙ last in
    let d : length forms ≤ 7 = all_last IsDigitKey (flat_map begun p.parts) (MsgstrAt (length forms)) (digits_begun p.parts ps) e in
    omega arith

-- ---- one more entry of the catalogue

pub zip_push : (groups : List (List Line)) (es : List Entry) (g : List Line) (e : Entry) → AllZip SpellsEntry groups es → SpellsEntry g e → AllZip SpellsEntry (groups ++ g ∷ []) (es ++ e ∷ [])
zip_push [] [] g e z s = (s, tt)
zip_push [] (x ∷ es) g e z s = absurd z
zip_push (h ∷ groups) [] g e z s = absurd z
zip_push (h ∷ groups) (x ∷ es) g e z s = (z.0, zip_push groups es g e z.1 s)

pub keys_apart : (groups : List (List Line)) (es : List Entry) (key : Key) → AllZip SpellsEntry groups es → list_any (λ lines. same_key (key_at lines) key) groups ≡ false → AllByRecursion (λ other. key_of other ≢ key) es
keys_apart [] [] key z h = tt
keys_apart [] (x ∷ es) key z h = absurd z
keys_apart (g ∷ groups) [] key z h = absurd z
keys_apart (g ∷ groups) (x ∷ es) key z h =
    let r = or_false _ _ h in
    (λ e. false≢true (sym r.0 ∙ ap (λ (k : Key). same_key k key) (key_read g x z.0 ∙ e) ∙ same_key_self key), keys_apart groups es key z.1 r.1)

header_push : (groups : List (List Line)) (es : List Entry) (e : Entry) → AllZip SpellsEntry groups es → HasHeaderFirst es → (HasHeaderKey e → groups ≡ []) → (HasHeaderKey e → IsHeader e) → HasHeaderFirst (es ++ e ∷ [])
header_push [] [] e z h first header = (header, tt)
header_push [] (x ∷ es) e z h first header = absurd z
header_push (g ∷ groups) [] e z h first header = absurd z
header_push (g ∷ groups) (x ∷ es) e z h first header = (h.0, all_push (λ (other : Entry). HasHeaderKey other → ⊥) es e h.1 (λ key. some g groups (first key)))
  where
    some : (g : List Line) (groups : List (List Line)) → g ∷ groups ≡ [] → ⊥
    some g groups e = cc

pub zip_length : (groups : List (List Line)) (es : List Entry) → AllZip SpellsEntry groups es → length groups ≡ length es
zip_length [] [] z = refl
zip_length [] (x ∷ es) z = absurd z
zip_length (g ∷ groups) [] z = absurd z
zip_length (g ∷ groups) (x ∷ es) z = ap suc (zip_length groups es z.1)

pub header_same : (g : List Line) (e : Entry) → SpellsEntry g e → has_header_key g ≡ is_header_key e.ctx e.id
header_same g e s = ap (λ (k : Key). is_header_key k.0 k.1) (key_read g e s)

few_push : (most : ℕ) (groups : List (List Line)) (es : List Entry) (e : Entry) → AllZip SpellsEntry groups es → count_of groups < most → besides_header (es ++ e ∷ []) ≤ most
few_push most [] [] e z h = by (is_header_key e.ctx e.id)
  where
    by : (b : Bool) → length (e ∷ []) - cond b 1 0 ≤ most
    by true = omega arith
    by false = omega arith
few_push most [] (x ∷ es) e z h = absurd z
few_push most (g ∷ groups) [] e z h = absurd z
few_push most (g ∷ groups) (x ∷ es) e z h =
    by (is_header_key x.ctx x.id) (subst (λ (b : Bool). length (g ∷ groups) - cond b 1 0 < most) (header_same g x z.0) h) (zip_length groups es z.1)
  where
    by : (b : Bool) → length (g ∷ groups) - cond b 1 0 < most → length groups ≡ length es → length (x ∷ (es ++ e ∷ [])) - cond b 1 0 ≤ most
    by true lt same = omega (arith, length-append es (e ∷ []))
    by false lt same = omega (arith, length-append es (e ∷ []))

pub push_entry : (most : Limits) (s : Lines) (e : Entry) → Kept most s → SpellsEntry s.current e → IsValidEntry e → AreShort most.string (entry_strings e) → AreShort most.string (previous_strings e.previous)
    → IsNewKey s.whole (key_of e) e.obsolete → (HasHeaderKey e → IsHeader e) → count_of s.whole < most.entries → Kept most (closed s)
unfolding no_lines_yet
push_entry most s e k spells valid short was new header count = record {
  entries = k.entries ++ e ∷ [];
  spelled = zip_push s.whole k.entries s.current e k.spelled spells;
  valid = record {
    each = all_push IsValidEntry k.entries e k.valid.each valid;
    unique = unique_push k.entries e k.valid.unique (keys_apart s.whole k.entries (key_of e) k.spelled new.1);
    header = header_push s.whole k.entries e k.spelled k.valid.header (λ key. (new.0 (ap (λ (q : Key). is_header_key q.0 q.1) key)).0) header;
  };
  short = all_push (λ (x : Entry). AreShort most.string (entry_strings x)) k.entries e k.short short;
  short_was = all_push (λ (x : Entry). AreShort most.string (previous_strings x.previous)) k.entries e k.short_was was;
  few = few_push most.entries s.whole k.entries e k.spelled count;
  current = no_lines_yet most.string;
  sound = tt;
  settled = no_draft;
  begun = no_count;
}
  where
    no_draft : Settled (s.whole ++ s.current ∷ []) (no_lines_yet most.string).draft (no_lines_yet most.string).obsolete
    no_draft = tt

    no_count : Begun most.entries (s.whole ++ s.current ∷ []) (no_lines_yet most.string).draft
    no_count = tt
