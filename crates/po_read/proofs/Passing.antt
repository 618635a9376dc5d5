-- Where a text spells a catalogue within the limits, no test fails.
use Rattle.std.proofs.Common.{◌≡◌, ◌≢◌, ℕ, ◌+◌, ◌-◌, ◌<◌, ◌≤◌, List, [], ◌∷◌, ◌++◌, Bool, true, false, not, ◌||◌, ◌&&◌, ◌==◌, cond, map, length, refl, sym, ◌∙◌, ap, subst, Option, Some, None, is_some, Ok, append_assoc, eq-eqb, arith, nat_lt, nat_le, option_map}
use Rattle.std.specs.Prelude.{flat_map, filter}
use Rattle.std.specs.List.{fold, filter_map, list_any, AllByRecursion, AllZip}
use Rattle.std.proofs.lemmas.Bool.{false≢true, le-ltb}
use Rattle.std.proofs.lemmas.Bool.Decides.{nat_tests}
use Rattle.std.proofs.lemmas.List.{append-nil, length-append}
use Rattle.std.proofs.lemmas.List.Sums.{fold-append}
use Rattle.std.proofs.lemmas.List.Elements.{filter_map-append}
use Rattle.po_lex.specs.declared.fault.FaultKind.{FaultKind}
use Rattle.po_lex.specs.declared.fault.FaultKind.TheVariants as kinds
use Rattle.po_lex.specs.declared.line.Keyword.{Keyword}
use Rattle.po_lex.specs.declared.line.Keyword.TheVariants.{Msgctxt, Msgid, MsgidPlural, Msgstr, MsgstrAt}
use Rattle.po_lex.specs.Lines.{Part, begins, continues, Line, blank, translator, extracted, reference, flags, previous, message, is_form}
use Rattle.po_text.specs.Entries.{Key, Keyed, key_of, entry_strings, previous_strings, optional, keyed_forms, numbered, is_header_key, same_key}
use Rattle.po_text.specs.Texts.{Text, is_empty}
use Rattle.po_text.specs.Header.{has_charset}
use Rattle.po_text.specs.declared.entry.Entry.{Entry}
use Rattle.po_text.specs.Valid.{HasHeaderKey, IsValidEntry, IsHeader, HasHeaderFirst, HasUniqueKeys}
use Rattle.po_read.specs.Spells.{go_on, add_part, strings_of, BeginsFirst, SpellsStrings, SpellsEntry, IsCommentOf, previous_part, Limits}
use Rattle.po_read.specs.Faults.{Lines, strings_in, previous_in, last_string, last_keyword, last_with, begins_entry, has_form, before, after, key_in, key_at, has_header_key, has_mark, same_mark, or_else, when, goes_on, string_here, is_long, string_fault, key_fault, ended_fault, rank, part_fault, previous_fault, order_fault, is_id, count_of, entries_fault, fault_at, fault_at_end}
use Rattle.std.specs.Str.{is_utf8}
use Rattle.std.proofs.lemmas.Str.{is_utf8-from_IsUtf8}
use Rattle.po_lex.specs.Lines.{line_of, lines_of}
use Rattle.po_read.specs.Spells.{Spells, IsWithin, besides_header}
use Rattle.po_read.specs.Faults.{no_lines, add_line, line_fault, or_later, fault_from, fault_of}
use Rattle.po_read.proofs.EntryLemmas.{key_read}
use Rattle.po_read.proofs.GroupLemmas.{BeginsEntry}
use Rattle.po_read.proofs.OneCatalogue.{not_blank}
use Rattle.po_read.proofs.Drafts.{counted, draft_last_is}
use Rattle.po_read.proofs.Partials.{or_none, some_last}
use Rattle.po_read.proofs.Growing.{zip_push, zip_length, header_same}
use Rattle.po_read.proofs.Accepts.{PassesAll, flat, and_no, last_single, not_blank_line, blank_line}
use Rattle.po_read.proofs.GroupLemmas.{keys, begun, last_of, last_key, keys_of, begun_append, messages_only, map_push, entry_keys, stays, no_form_yet, strings_here, entry_has_form, entry_begins}
use Rattle.po_read.proofs.Drafts.{AreShort, IfText}
use Rattle.po_text.proofs.EntryLists.{all_push, all_left, all_right, unique_cut, key_same, header_key}
use Rattle.po_read.proofs.Keeping.{IsNewKey}
use Rattle.po_read.proofs.Growing.{grown, closed}

-- ---- tests that pass

none_or : (a b : Option FaultKind) → a ≡ None → b ≡ None → or_else a b ≡ None
none_or a b e f = ap (λ x. or_else x b) e ∙ f

no_when : (b : Bool) (k : FaultKind) → b ≡ false → when b k ≡ None
no_when b k e = ap (λ x. when x k) e

no_cond : (b : Bool) (k : FaultKind) (x : Option FaultKind) → b ≡ false → x ≡ None → cond b (Some k) x ≡ None
no_cond b k x e f = ap (λ t. cond t (Some k) x) e ∙ f

either_none : (b : Bool) (x : Option FaultKind) → x ≡ None → cond b None x ≡ None
either_none true x h = refl
either_none false x h = h

neither : (a b : Bool) → a ≡ false → b ≡ false → (a || b) ≡ false
neither a b e f = ap (λ t. t || b) e ∙ f

is_short : (most : ℕ) (o : Option Text) → IfText o (λ text. length text ≤ most) → when (is_long most o) kinds.Limit ≡ None
is_short most None h = refl
is_short most (Some text) h = no_when (nat_lt most (length text)) kinds.Limit (le-ltb most (length text) h)

if_long : (most : ℕ) (b : Bool) (o : Option Text) → IfText o (λ text. length text ≤ most) → IfText (cond b o None) (λ text. length text ≤ most)
if_long most true o h = h
if_long most false o h = tt

-- ---- lengths of strings so far

short_front : (most : ℕ) (strings : List Keyed) (more : Text) → AreShort most (go_on strings more) → AreShort most strings × IfText (last_with strings more) (λ text. length text ≤ most)
short_front most [] more h = (tt, tt)
short_front most (s ∷ []) more h = ((omega (arith, length-append s.1 more, h.0), tt), h.0)
short_front most (s ∷ t ∷ strings) more h = let r = short_front most (t ∷ strings) more h.1 in ((h.0, r.0), r.1)

short_so_far : (most : ℕ) (strings : List Keyed) (more : List Part) → AreShort most (fold add_part strings more) → AreShort most strings
short_so_far most strings [] h = h
short_so_far most strings (begins keyword text ∷ more) h = all_left (λ (s : Keyed). length s.1 ≤ most) strings ((keyword, text) ∷ []) (short_so_far most (strings ++ (keyword, text) ∷ []) more h)
short_so_far most strings (continues text ∷ more) h = (short_front most strings text (short_so_far most (go_on strings text) more h)).0

last_short : (most : ℕ) (strings : List Keyed) (keyword : Keyword) (text : Text) → AreShort most (strings ++ (keyword, text) ∷ []) → length text ≤ most
last_short most strings keyword text h = (all_right (λ (s : Keyed). length s.1 ≤ most) strings ((keyword, text) ∷ []) h).0

-- what an entry's parts give, cut at one of them
strings_cut : (done more : List Part) (part : Part) → strings_of (done ++ part ∷ more) ≡ fold add_part (add_part (strings_of done) part) more
strings_cut done more part = fold-append add_part [] done (part ∷ more)

-- strings that are whole stay
more_behind : (strings : List Keyed) (s : Keyed) (more : List Part) → (rest : List Keyed) × (fold add_part (strings ++ s ∷ []) more ≡ strings ++ rest)
more_behind strings s [] = (s ∷ [], refl)
more_behind strings s (begins keyword text ∷ more) =
    let r = more_behind (strings ++ s ∷ []) (keyword, text) more in
    (s ∷ r.0, r.1 ∙ append_assoc strings (s ∷ []) r.0)
more_behind strings s (continues text ∷ more) =
    let r = more_behind strings (s.0, s.1 ++ text) more in
    (r.0, ap (λ ss. fold add_part ss more) (go_end strings s text) ∙ r.1)
  where
    go_end : (strings : List Keyed) (s : Keyed) (text : Text) → go_on (strings ++ s ∷ []) text ≡ strings ++ (s.0, s.1 ++ text) ∷ []
    go_end [] s text = refl
    go_end (x ∷ []) s text = refl
    go_end (x ∷ y ∷ strings) s text = ap (λ ss. x ∷ ss) (go_end (y ∷ strings) s text)

-- ---- marks

other_self : (o : Bool) → same_mark (not o) (Some o) ≡ false
other_self true = refl
other_self false = refl

none_marked : (o : Bool) → same_mark o None ≡ false
none_marked true = refl
none_marked false = refl

uniform : (o : Bool) (comments : List Line) (parts : List Part) → AllByRecursion (IsCommentOf o) comments → has_mark (not o) (comments ++ map (message o) parts) ≡ false
uniform o [] [] c = refl
uniform o [] (part ∷ parts) c = neither _ _ (other_self o) (uniform o [] parts tt)
uniform o (blank ∷ comments) parts c = absurd c.0
uniform o (translator text ∷ comments) parts c = neither _ _ (none_marked (not o)) (uniform o comments parts c.1)
uniform o (extracted text ∷ comments) parts c = neither _ _ (none_marked (not o)) (uniform o comments parts c.1)
uniform o (reference text ∷ comments) parts c = neither _ _ (none_marked (not o)) (uniform o comments parts c.1)
uniform o (flags items ∷ comments) parts c = neither _ _ (none_marked (not o)) (uniform o comments parts c.1)
uniform o (previous m part ∷ comments) parts c = neither _ _ (ap (λ (b : Bool). same_mark (not o) (Some b)) c.0 ∙ other_self o) (uniform o comments parts c.1)
uniform o (message m part ∷ comments) parts c = absurd c.0

only_comments : (o : Bool) (comments : List Line) → AllByRecursion (IsCommentOf o) comments → has_mark (not o) comments ≡ false
only_comments o comments c = ap (has_mark (not o)) (sym (append-nil comments)) ∙ uniform o comments [] c

-- ---- keywords in order

last_or : Option Keyword → List Keyword → Option Keyword
last_or last [] = last
last_or last (k ∷ ks) = last_or (Some k) ks

last_or_of : (x : Keyword) (ks : List Keyword) → last_or (Some x) ks ≡ last_of (x ∷ ks)
unfolding last_or
last_or_of x [] = refl
last_or_of x (y ∷ ks) = last_or_of y ks

last_none : (ks : List Keyword) → last_or None ks ≡ last_of ks
unfolding last_or
last_none [] = refl
last_none (x ∷ ks) = last_or_of x ks

last_done : (done : List Part) → last_keyword (strings_of done) ≡ last_of (flat_map begun done)
last_done done = last_key (strings_of done) ∙ ap last_of (keys_of done)

some_last_of : (x : Keyword) (ks : List Keyword) → is_some (last_of (x ∷ ks)) ≡ true
some_last_of x [] = refl
some_last_of x (y ∷ ks) = some_last_of y ks

-- a piece goes on behind a string
some_done : (done more : List Part) (text : Text) → BeginsFirst (done ++ continues text ∷ more) → is_some (last_keyword (strings_of done)) ≡ true
some_done [] more text b = absurd b
some_done (begins k t ∷ done) more text b = ap is_some (last_done (begins k t ∷ done)) ∙ some_last_of k (flat_map begun done)
some_done (continues t ∷ done) more text b = absurd b

keys_cut : (done more : List Part) (k : Keyword) (text : Text) (strings : List Keyed) → strings_of (done ++ begins k text ∷ more) ≡ strings → keys strings ≡ flat_map begun done ++ k ∷ flat_map begun more
keys_cut done more k text strings e = ap keys (sym e) ∙ keys_of (done ++ begins k text ∷ more) ∙ begun_append done (begins k text ∷ more)

abbrev Rising : Option Keyword → List Keyword → Type 0
Rising last [] = Unit {0}
Rising last (k ∷ ks) = (nat_le (rank (Some k)) (rank last) ≡ false) × Rising (Some k) ks

rising_cut : (last : Option Keyword) (a b : List Keyword) (k : Keyword) → Rising last (a ++ k ∷ b) → nat_le (rank (Some k)) (rank (last_or last a)) ≡ false
unfolding last_or
rising_cut last [] b k h = h.0
rising_cut last (x ∷ a) b k h = rising_cut (Some x) a b k h.1

rising_before : (ctx id plural : Option Text) → Rising None (keys (optional Msgctxt ctx ++ (optional Msgid id ++ optional MsgidPlural plural)))
rising_before None None None = tt
rising_before None None (Some p) = (refl, tt)
rising_before None (Some i) None = (refl, tt)
rising_before None (Some i) (Some p) = (refl, (refl, tt))
rising_before (Some c) None None = (refl, tt)
rising_before (Some c) None (Some p) = (refl, (refl, tt))
rising_before (Some c) (Some i) None = (refl, (refl, tt))
rising_before (Some c) (Some i) (Some p) = (refl, (refl, (refl, tt)))

before_fits : (ctx id plural : Option Text) (done more : List Part) (part : Part) → SpellsStrings (done ++ part ∷ more) (optional Msgctxt ctx ++ (optional Msgid id ++ optional MsgidPlural plural)) → previous_fault (last_keyword (strings_of done)) part ≡ None
before_fits ctx id plural done more (begins k text) s =
    let cut = keys_cut done more k text _ s.1 in
    let rising = subst (Rising None) cut (rising_before ctx id plural) in
    no_when _ kinds.Order (ap (λ (l : Option Keyword). nat_le (rank (Some k)) (rank l)) (last_done done ∙ sym (last_none (flat_map begun done))) ∙ rising_cut None (flat_map begun done) (flat_map begun more) k rising)
before_fits ctx id plural done more (continues text) s = no_when _ kinds.Order (ap not (some_done done more text s.0))

abbrev Fits : Bool → Option Keyword → List Keyword → Type 0
Fits header last [] = Unit {0}
Fits header last (k ∷ ks) = ((text : Text) → part_fault last header (begins k text) ≡ None) × Fits header (Some k) ks

fits_cut : (header : Bool) (last : Option Keyword) (a b : List Keyword) (k : Keyword) → Fits header last (a ++ k ∷ b) → (text : Text) → part_fault (last_or last a) header (begins k text) ≡ None
unfolding last_or
fits_cut header last [] b k h = h.0
fits_cut header last (x ∷ a) b k h = fits_cut header (Some x) a b k h.1

same_number : (n : ℕ) → (n == n) ≡ true
same_number n = eq-eqb n n refl

numbered_fits : (header : Bool) (d : ℕ) (forms : List Text) → Fits header (Some (MsgstrAt d)) (keys (numbered (d + 1) forms))
numbered_fits header d [] = tt
numbered_fits header d (form ∷ forms) = (λ _. no_when _ kinds.Forms (ap not (same_number (d + 1))), numbered_fits header (d + 1) forms)

forms_fit : (header : Bool) (forms : List Text) → Fits header (Some MsgidPlural) (keys (numbered 0 forms))
forms_fit header [] = tt
forms_fit header (form ∷ forms) = (λ _. refl, numbered_fits header 0 forms)

one_fits : (header : Bool) (forms : List Text) → length forms ≡ 1 → Fits header (Some Msgid) (keys (map (λ form. (Msgstr, form)) forms))
one_fits header [] h = tt
one_fits header (form ∷ []) h = (λ _. refl, tt)
one_fits header (form ∷ other ∷ forms) h = absurd (omega arith)

entry_fits : (ctx : Option Text) (id : Text) (plural : Option Text) (forms : List Text) (header : Bool) → (plural ≡ None → length forms ≡ 1) → (header ≡ true → plural ≡ None) → Fits header None (keys (optional Msgctxt ctx ++ ((Msgid, id) ∷ (optional MsgidPlural plural ++ keyed_forms plural forms))))
entry_fits None id None forms header one none = (λ _. refl, one_fits header forms (one refl))
entry_fits (Some ctx) id None forms header one none = (λ _. refl, (λ _. refl, one_fits header forms (one refl)))
entry_fits None id (Some plural) forms true one none = cc (none refl)
entry_fits (Some ctx) id (Some plural) forms true one none = cc (none refl)
entry_fits None id (Some plural) forms false one none = (λ _. refl, (λ _. refl, forms_fit false forms))
entry_fits (Some ctx) id (Some plural) forms false one none = (λ _. refl, (λ _. refl, (λ _. refl, forms_fit false forms)))

key_front : (ctx : Option Text) (id : Text) (front rest tail : List Keyed) → front ++ rest ≡ optional Msgctxt ctx ++ ((Msgid, id) ∷ tail) → is_id (last_keyword front) ≡ true → key_in front ≡ (ctx, id)
key_front None id [] rest tail e h = cc
key_front None id (x ∷ front) rest tail e h = let same : x ≡ (Msgid, id) = cc in ap (λ (y : Keyed). key_in (y ∷ front)) same
key_front (Some ctx) id [] rest tail e h = cc
key_front (Some ctx) id (x ∷ []) rest tail e h = let same : x ≡ (Msgctxt, ctx) = cc in absurd (false≢true (ap (λ (y : Keyed). is_id (last_keyword (y ∷ []))) (sym same) ∙ h))
key_front (Some ctx) id (x ∷ y ∷ front) rest tail e h =
    let first : x ≡ (Msgctxt, ctx) = cc in
    let second : y ≡ (Msgid, id) = cc in
    ap (λ (z : Keyed). key_in (z ∷ y ∷ front)) first ∙ ap (λ (z : Keyed). key_in ((Msgctxt, ctx) ∷ z ∷ front)) second

id_last : (b header : Bool) → when (not b || header) kinds.Order ≡ None → b ≡ true
id_last true header h = refl
id_last false header h = cc

-- the test of a part looks at the header's key only behind a msgid
other_header : (last : Option Keyword) (a b : Bool) (k : Keyword) (text : Text) → (is_id last ≡ true → b ≡ a) → part_fault last a (begins k text) ≡ None → part_fault last b (begins k text) ≡ None
other_header last a b Msgctxt text e h = h
other_header last a b Msgid text e h = h
other_header last a b MsgidPlural text e h = ap (λ x. part_fault last x (begins MsgidPlural text)) (e (id_last (is_id last) a h)) ∙ h
other_header last a b Msgstr text e h = h
other_header last a b (MsgstrAt d) text e h = h

-- ---- what is known of an entry behind these

pub record Stands (most : Limits) (whole : List (List Line)) (e : Entry) : Type 0 where
  pub new : IsNewKey whole (key_of e) e.obsolete
  pub one : e.plural ≡ None → length e.forms ≡ 1
  pub some : 0 < length e.forms
  pub header : is_header_key e.ctx e.id ≡ true → e.plural ≡ None
  pub charset : is_header_key e.ctx e.id ≡ true → AllByRecursion (λ form. has_charset form ≡ true) e.forms
  pub short : AreShort most.string (entry_strings e)
  pub short_was : AreShort most.string (previous_strings e.previous)
  pub count : count_of whole < most.entries

fault_here : (most : Limits) (s : Lines) (line : Line) → (has_form s.current && begins_entry line) ≡ false → string_fault most.string s.current line ≡ None
    → cond (goes_on s.current line) None (ended_fault s (begins_entry line) (last_string (strings_in s.current))) ≡ None → order_fault s.current line ≡ None → entries_fault most.entries s line ≡ None → (fault_at most s line ≡ None) × (after s line ≡ grown s line)
unfolding fault_at
fault_here most s line e sf ef of nf =
    let here : before s line ≡ s = ap (λ (t : Bool). cond t (closed s) s) e in (
      none_or _ _ (ap (λ (x : Lines). string_fault most.string x.current line) here ∙ sf) (none_or _ _ ef (none_or _ _ (ap (λ (x : Lines). order_fault x.current line) here ∙ of) (ap (λ (x : Lines). entries_fault most.entries x line) here ∙ nf))),
      ap (λ (x : Lines). grown x line) here,
    )

-- ---- comment lines

abbrev group_at : List (List Line) → List Line → Lines
group_at whole lines = record { whole = whole; current = lines }

comment_strings : (o : Bool) (comments : List Line) → AllByRecursion (IsCommentOf o) comments → strings_in comments ≡ []
comment_strings o comments c = ap (λ l. strings_in l) (sym (append-nil comments)) ∙ ap strings_of (messages_only o comments [] c)

-- a line before the entry's strings ends none
none_ended : (whole : List (List Line)) (cur : List Line) (line : Line) → strings_in cur ≡ [] → cond (goes_on cur line) None (ended_fault (group_at whole cur) (begins_entry line) (last_string (strings_in cur))) ≡ None
none_ended whole cur line e = either_none (goes_on cur line) _ (ap (λ ss. ended_fault (group_at whole cur) (begins_entry line) (last_string ss)) e ∙ nothing_ended (begins_entry line))
  where
    nothing_ended : (b : Bool) → ended_fault (group_at whole cur) b None ≡ None
    nothing_ended true = refl
    nothing_ended false = refl

plain_passes : (most : Limits) (whole : List (List Line)) (o : Bool) (done : List Line) (line : Line) → AllByRecursion (IsCommentOf o) done → string_here done line ≡ None → order_fault done line ≡ when (not (is_empty (strings_in done))) kinds.Order
    → entries_fault most.entries (group_at whole done) line ≡ None → (fault_at most (group_at whole done) line ≡ None) × (after (group_at whole done) line ≡ group_at whole (done ++ line ∷ []))
plain_passes most whole o done line c here order nf =
    let none = comment_strings o done c in
    fault_here most (group_at whole done) line (ap (λ b. b && begins_entry line) (no_form_yet o done c)) (ap (λ x. when (is_long most.string x) kinds.Limit) here) (none_ended whole done line none)
    (order ∙ no_when _ kinds.Order (ap (λ (ss : List Keyed). not (is_empty ss)) none)) nf

before_strings : (done : List Line) → previous_in done ≡ strings_of (filter_map previous_part done)
before_strings done = refl

was_short : (most : ℕ) (done more : List Part) (part : Part) (strings : List Keyed) → strings_of (done ++ part ∷ more) ≡ strings → AreShort most strings → AreShort most (add_part (strings_of done) part)
was_short most done more part strings e h = short_so_far most (add_part (strings_of done) part) more (subst (AreShort most) (sym e ∙ strings_cut done more part) h)

before_here : (most : ℕ) (done : List Line) (m : Bool) (part : Part) → AreShort most (add_part (previous_in done) part) → IfText (string_here done (previous m part)) (λ text. length text ≤ most)
before_here most done m (begins k text) h = last_short most (previous_in done) k text h
before_here most done m (continues text) h = if_long most (goes_on done (previous m (continues text))) (last_with (previous_in done) text) (short_front most (previous_in done) text h).1

message_here : (most : ℕ) (cur : List Line) (m : Bool) (part : Part) → AreShort most (add_part (strings_in cur) part) → IfText (string_here cur (message m part)) (λ text. length text ≤ most)
message_here most cur m (begins k text) h = last_short most (strings_in cur) k text h
message_here most cur m (continues text) h = if_long most (goes_on cur (message m (continues text))) (last_with (strings_in cur) text) (short_front most (strings_in cur) text h).1

before_passes : (most : Limits) (whole : List (List Line)) (o : Bool) (done more : List Line) (part : Part) (e : Entry) → AllByRecursion (IsCommentOf o) done → SpellsStrings (filter_map previous_part (done ++ previous o part ∷ more)) (previous_strings e.previous) → AreShort most.string (previous_strings e.previous)
    → (fault_at most (group_at whole done) (previous o part) ≡ None) × (after (group_at whole done) (previous o part) ≡ group_at whole (done ++ previous o part ∷ []))
before_passes most whole o done more part e c s short =
    let none = comment_strings o done c in
    let cut : filter_map previous_part (done ++ previous o part ∷ more) ≡ filter_map previous_part done ++ part ∷ filter_map previous_part more = filter_map-append previous_part done (previous o part ∷ more) in
    let s' = subst (λ ps. SpellsStrings ps (previous_strings e.previous)) cut s in
    let fits = before_fits e.previous.ctx e.previous.id e.previous.plural (filter_map previous_part done) (filter_map previous_part more) part s' in
    fault_here most (group_at whole done) (previous o part) (ap (λ b. b && begins_entry (previous o part)) (no_form_yet o done c))
    (is_short most.string _ (before_here most.string done o part (was_short most.string (filter_map previous_part done) (filter_map previous_part more) part (previous_strings e.previous) s'.1 short)))
    (none_ended whole done (previous o part) none)
    (no_cond _ kinds.Order _ (neither _ _ (only_comments o done c) (ap (λ (ss : List Keyed). not (is_empty ss)) none)) fits)
    refl

comment_passes : (most : Limits) (whole : List (List Line)) (o : Bool) (done more : List Line) (line : Line) (e : Entry) → AllByRecursion (IsCommentOf o) done → IsCommentOf o line → SpellsStrings (filter_map previous_part (done ++ line ∷ more)) (previous_strings e.previous) → AreShort most.string (previous_strings e.previous)
    → (fault_at most (group_at whole done) line ≡ None) × (after (group_at whole done) line ≡ group_at whole (done ++ line ∷ []))
comment_passes most whole o done more blank e c l s short = absurd l
comment_passes most whole o done more (translator text) e c l s short = plain_passes most whole o done (translator text) c refl refl refl
comment_passes most whole o done more (extracted text) e c l s short = plain_passes most whole o done (extracted text) c refl refl refl
comment_passes most whole o done more (reference text) e c l s short = plain_passes most whole o done (reference text) c refl refl refl
comment_passes most whole o done more (flags items) e c l s short = plain_passes most whole o done (flags items) c refl refl refl
comment_passes most whole o done more (previous m part) e c l s short =
    subst (λ (b : Bool). (fault_at most (group_at whole done) (previous b part) ≡ None) × (after (group_at whole done) (previous b part) ≡ group_at whole (done ++ previous b part ∷ []))) (sym l)
    (before_passes most whole o done more part e c (subst (λ (b : Bool). SpellsStrings (filter_map previous_part (done ++ previous b part ∷ more)) (previous_strings e.previous)) l s) short)
comment_passes most whole o done more (message m part) e c l s short = absurd l

pass_comments : (most : Limits) (whole : List (List Line)) (o : Bool) (done more rest : List Line) (e : Entry) → AllByRecursion (IsCommentOf o) done → AllByRecursion (IsCommentOf o) more → SpellsStrings (filter_map previous_part (done ++ more)) (previous_strings e.previous) → AreShort most.string (previous_strings e.previous)
    → PassesAll most (group_at whole (done ++ more)) rest → PassesAll most (group_at whole done) (more ++ rest)
pass_comments most whole o done [] rest e c d s short h = subst (λ l. PassesAll most (group_at whole l) rest) (append-nil done) h
pass_comments most whole o done (line ∷ more) rest e c d s short h =
    let one = comment_passes most whole o done more line e c d.0 s short in
    let assoc : (done ++ line ∷ []) ++ more ≡ done ++ line ∷ more = append_assoc done (line ∷ []) more in (
      one.0,
      subst (λ (x : Lines). PassesAll most x (more ++ rest)) (sym one.1)
          (pass_comments most whole o (done ++ line ∷ []) more rest e (all_push (IsCommentOf o) done line c d.0) d.1 (subst (λ l. SpellsStrings (filter_map previous_part l) (previous_strings e.previous)) (sym assoc) s) short
          (subst (λ l. PassesAll most (group_at whole l) rest) (sym assoc) h)),
    )

-- ---- message lines

ended_none : (s : Lines) (b : Bool) (last : Option Keyed) → (is_id (option_map (λ (x : Keyed). x.0) last) ≡ true → key_fault s ≡ None) → (is_form (option_map (λ (x : Keyed). x.0) last) ≡ true → b ≡ false) → ended_fault s b last ≡ None
ended_none s true None k f = refl
ended_none s false None k f = refl
ended_none s true (Some x) k f = by x.0 x.1 k f
  where
    by : (keyword : Keyword) (text : Text) → (is_id (Some keyword) ≡ true → key_fault s ≡ None) → (is_form (Some keyword) ≡ true → true ≡ false) → ended_fault s true (Some (keyword, text)) ≡ None
    by Msgctxt text k f = refl
    by Msgid text k f = k refl
    by MsgidPlural text k f = refl
    by Msgstr text k f = cc (f refl)
    by (MsgstrAt d) text k f = refl
ended_none s false (Some x) k f = by x.0 x.1 k
  where
    by : (keyword : Keyword) (text : Text) → (is_id (Some keyword) ≡ true → key_fault s ≡ None) → ended_fault s false (Some (keyword, text)) ≡ None
    by Msgctxt text k = refl
    by Msgid text k = k refl
    by MsgidPlural text k = refl
    by Msgstr text k = refl
    by (MsgstrAt d) text k = refl

key_passes : (whole : List (List Line)) (cur : List Line) (e : Entry) → key_at cur ≡ key_of e → IsNewKey whole (key_of e) e.obsolete → has_mark (not e.obsolete) cur ≡ false → key_fault (group_at whole cur) ≡ None
key_passes whole cur e key new marks = no_cond _ kinds.Order _ (by (has_header_key cur) refl) (no_when _ kinds.Duplicate (ap (λ (k : Key). list_any (λ lines. same_key (key_at lines) k) whole) key ∙ new.1))
  where
    by : (b : Bool) → has_header_key cur ≡ b → (b && (not (is_empty whole) || has_mark true cur)) ≡ false
    by false x = refl
    by true x =
        let first = new.0 (ap (λ (k : Key). is_header_key k.0 k.1) (sym key) ∙ x) in
        neither _ _ (ap (λ (w : List (List Line)). not (is_empty w)) first.0) (ap (λ (b : Bool). has_mark (not b) cur) (sym first.1) ∙ marks)

form_then : (a b : Bool) → (a && b) ≡ false → a ≡ true → b ≡ false
form_then true b h e = h
form_then false b h e = cc

message_passes : (most : Limits) (whole : List (List Line)) (comments : List Line) (done more : List Part) (part : Part) (e : Entry) → AllByRecursion (IsCommentOf e.obsolete) comments → SpellsStrings (done ++ part ∷ more) (entry_strings e) → Stands most whole e
    → (fault_at most (group_at whole (comments ++ map (message e.obsolete) done)) (message e.obsolete part) ≡ None)
    × (after (group_at whole (comments ++ map (message e.obsolete) done)) (message e.obsolete part) ≡ grown (group_at whole (comments ++ map (message e.obsolete) done)) (message e.obsolete part))
message_passes most whole comments done more part e c s h =
    let o = e.obsolete in
    let cur = comments ++ map (message o) done in
    let strings : strings_in cur ≡ strings_of done = ap strings_of (messages_only o comments done c) in
    let marks : has_mark (not o) cur ≡ false = uniform o comments done c in
    let stay = stays o comments done more part c (entry_keys e (done ++ part ∷ more) s.1) in
    let short = was_short most.string done more part (entry_strings e) s.1 h.short in
    fault_here most (group_at whole cur) (message o part) stay
    (is_short most.string _ (message_here most.string cur o part (subst (λ ss. AreShort most.string (add_part ss part)) (sym strings) short)))
    (ended cur strings marks part stay s)
    (no_cond _ kinds.Order _ marks (order cur strings part s))
    (count cur part)
  where
    fits_at : (k : Keyword) (text : Text) → strings_of (done ++ begins k text ∷ more) ≡ entry_strings e → part_fault (last_keyword (strings_of done)) (is_header_key e.ctx e.id) (begins k text) ≡ None
    fits_at k text x =
        let cut = keys_cut done more k text (entry_strings e) x in
        let all = subst (Fits (is_header_key e.ctx e.id) None) cut (entry_fits e.ctx e.id e.plural e.forms (is_header_key e.ctx e.id) h.one h.header) in
        ap (λ (l : Option Keyword). part_fault l (is_header_key e.ctx e.id) (begins k text)) (last_done done ∙ sym (last_none (flat_map begun done))) ∙ fits_cut (is_header_key e.ctx e.id) None (flat_map begun done) (flat_map begun more) k all text

    key_here : (k : Keyword) (text : Text) → strings_of (done ++ begins k text ∷ more) ≡ entry_strings e → is_id (last_keyword (strings_of done)) ≡ true → key_in (strings_of done) ≡ key_of e
    key_here k text x i =
        let behind = more_behind (strings_of done) (k, text) more in
        key_front e.ctx e.id (strings_of done) behind.0 (optional MsgidPlural e.plural ++ keyed_forms e.plural e.forms) (sym behind.1 ∙ sym (strings_cut done more (begins k text)) ∙ x) i

    order : (cur : List Line) → strings_in cur ≡ strings_of done → (p : Part) → SpellsStrings (done ++ p ∷ more) (entry_strings e) → part_fault (last_keyword (strings_in cur)) (has_header_key cur) p ≡ None
    order cur strings (begins k text) x =
        ap (λ (ss : List Keyed). part_fault (last_keyword ss) (has_header_key cur) (begins k text)) strings
        ∙ other_header (last_keyword (strings_of done)) (is_header_key e.ctx e.id) (has_header_key cur) k text (λ i. ap (λ (q : Key). is_header_key q.0 q.1) (ap key_in strings ∙ key_here k text x.1 i)) (fits_at k text x.1)
    order cur strings (continues text) x = ap (λ (ss : List Keyed). part_fault (last_keyword ss) (has_header_key cur) (continues text)) strings ∙ no_when _ kinds.Order (ap not (some_done done more text x.0))

    ended : (cur : List Line) → strings_in cur ≡ strings_of done → has_mark (not e.obsolete) cur ≡ false → (p : Part) → (has_form cur && begins_entry (message e.obsolete p)) ≡ false → SpellsStrings (done ++ p ∷ more) (entry_strings e)
        → cond (goes_on cur (message e.obsolete p)) None (ended_fault (group_at whole cur) (begins_entry (message e.obsolete p)) (last_string (strings_in cur))) ≡ None
    ended cur strings marks (begins k text) stay x =
        ended_none (group_at whole cur) (begins_entry (message e.obsolete (begins k text))) (last_string (strings_in cur))
        (λ i. key_passes whole cur e (ap key_in strings ∙ key_here k text x.1 (ap (λ (ss : List Keyed). is_id (last_keyword ss)) (sym strings) ∙ i)) h.new marks)
        (form_then (has_form cur) (begins_entry (message e.obsolete (begins k text))) stay)
    ended cur strings marks (continues text) stay x =
        let some : is_empty (strings_in cur) ≡ false = some_last (strings_in cur) (ap (λ (ss : List Keyed). is_some (last_keyword ss)) strings ∙ some_done done more text x.0) in
        let on : goes_on cur (message e.obsolete (continues text)) ≡ true = rw (marks, some) refl in
        ap (λ (t : Bool). cond t None (ended_fault (group_at whole cur) false (last_string (strings_in cur)))) on

    below : count_of whole < most.entries → nat_le most.entries (count_of whole) ≡ false
    below lt = grind (arith, nat_tests)

    count : (cur : List Line) (p : Part) → entries_fault most.entries (group_at whole cur) (message e.obsolete p) ≡ None
    count cur (continues text) = refl
    count cur (begins Msgctxt text) = refl
    count cur (begins Msgid text) = no_when (nat_le most.entries (count_of whole)) kinds.Limit (below h.count)
    count cur (begins MsgidPlural text) = refl
    count cur (begins Msgstr text) = refl
    count cur (begins (MsgstrAt d) text) = refl

pass_messages : (most : Limits) (whole : List (List Line)) (comments : List Line) (done more : List Part) (rest : List Line) (e : Entry) → AllByRecursion (IsCommentOf e.obsolete) comments → SpellsStrings (done ++ more) (entry_strings e) → Stands most whole e
    → PassesAll most (group_at whole (comments ++ map (message e.obsolete) (done ++ more))) rest → PassesAll most (group_at whole (comments ++ map (message e.obsolete) done)) (map (message e.obsolete) more ++ rest)
pass_messages most whole comments done [] rest e c s h p = subst (λ ps. PassesAll most (group_at whole (comments ++ map (message e.obsolete) ps)) rest) (append-nil done) p
pass_messages most whole comments done (part ∷ more) rest e c s h p =
    let one = message_passes most whole comments done more part e c s h in
    let assoc : (done ++ part ∷ []) ++ more ≡ done ++ part ∷ more = append_assoc done (part ∷ []) more in
    let here : (comments ++ map (message e.obsolete) done) ++ message e.obsolete part ∷ [] ≡ comments ++ map (message e.obsolete) (done ++ part ∷ []) =
    append_assoc comments (map (message e.obsolete) done) (message e.obsolete part ∷ []) ∙ ap (λ l. comments ++ l) (sym (map_push e.obsolete done part)) in (
      one.0,
      subst (λ (x : Lines). PassesAll most x (map (message e.obsolete) more ++ rest)) (sym (one.1 ∙ ap (group_at whole) here))
          (pass_messages most whole comments (done ++ part ∷ []) more rest e c (subst (λ ps. SpellsStrings ps (entry_strings e)) (sym assoc) s) h
          (subst (λ ps. PassesAll most (group_at whole (comments ++ map (message e.obsolete) ps)) rest) (sym assoc) p)),
    )

pass_group : (most : Limits) (whole : List (List Line)) (group rest : List Line) (e : Entry) → SpellsEntry group e → Stands most whole e → PassesAll most (group_at whole group) rest → PassesAll most (group_at whole []) (group ++ rest)
pass_group most whole group rest e s h p =
    let messages = map (message e.obsolete) s.parts in
    let at_messages = pass_messages most whole s.comments [] s.parts rest e s.marks s.messages h (subst (λ l. PassesAll most (group_at whole l) rest) s.cut p) in
    let at_comments = pass_comments most whole e.obsolete [] s.comments (messages ++ rest) e tt s.marks s.previous h.short_was (subst (λ l. PassesAll most (group_at whole l) (messages ++ rest)) (append-nil s.comments) at_messages) in
    subst (λ l. PassesAll most (group_at whole []) l) (sym (append_assoc s.comments messages rest) ∙ ap (λ l. l ++ rest) (sym s.cut)) at_comments

-- ---- the end of an entry

numbered_ended : (s : Lines) (last : Option Keyed) (d : ℕ) → option_map (λ (x : Keyed). x.0) last ≡ Some (MsgstrAt d) → ended_fault s true last ≡ None
numbered_ended s None d h = cc
numbered_ended s (Some x) d h = by x.0 x.1 h
  where
    by : (keyword : Keyword) (text : Text) → (let o : Option Keyword = Some keyword in o) ≡ Some (MsgstrAt d) → ended_fault s true (Some (keyword, text)) ≡ None
    by Msgctxt text h = cc
    by Msgid text h = cc
    by MsgidPlural text h = cc
    by Msgstr text h = cc
    by (MsgstrAt n) text h = refl

and_none : (b : Bool) → (b && false) ≡ false
and_none true = refl
and_none false = refl

charset_checked : (whole : List (List Line)) (group : List Line) (ctx : Option Text) (id form : Text) (b : Bool) → is_header_key ctx id ≡ b → has_header_key group ≡ is_header_key ctx id → (is_header_key ctx id ≡ true → has_charset form ≡ true) → (is_empty whole && has_header_key group && not (has_charset form)) ≡ false
charset_checked whole group ctx id form true e key charset = ap (λ (t : Bool). is_empty whole && has_header_key group && not t) (charset e) ∙ and_none (is_empty whole && has_header_key group)
charset_checked whole group ctx id form false e key charset = ap (λ (t : Bool). is_empty whole && t && not (has_charset form)) (key ∙ e) ∙ and_no (is_empty whole) (not (has_charset form))

group_ended : (most : Limits) (whole : List (List Line)) (group : List Line) (e : Entry) → SpellsEntry group e → Stands most whole e → ended_fault (group_at whole group) true (last_string (strings_in group)) ≡ None
group_ended most whole group e s h =
    ap (λ (ss : List Keyed). ended_fault (group_at whole group) true (last_string ss)) (strings_here group e s) ∙ by e.ctx e.id e.plural e.forms h.one h.some h.charset (header_same group e s)
  where
    by : (ctx : Option Text) (id : Text) (plural : Option Text) (forms : List Text) → (plural ≡ None → length forms ≡ 1) → 0 < length forms → (is_header_key ctx id ≡ true → AllByRecursion (λ form. has_charset form ≡ true) forms) → has_header_key group ≡ is_header_key ctx id
        → ended_fault (group_at whole group) true (last_string (optional Msgctxt ctx ++ ((Msgid, id) ∷ (optional MsgidPlural plural ++ keyed_forms plural forms)))) ≡ None
    by ctx id None [] one some charset key = absurd (omega arith)
    by ctx id None (form ∷ other ∷ forms) one some charset key = absurd (omega (arith, one refl))
    by ctx id None (form ∷ []) one some charset key = ap (ended_fault (group_at whole group) true) (last_single ctx id form) ∙ no_when _ kinds.Charset (charset_checked whole group ctx id form (is_header_key ctx id) refl key (λ k. (charset k).0))
    by ctx id (Some plural) [] one some charset key = absurd (omega arith)
    by ctx id (Some plural) (form ∷ forms) one some charset key = numbered_ended (group_at whole group) _ (length forms) (draft_last_is (counted ctx id plural (form ∷ forms)))

fault_end : (most : Limits) (whole : List (List Line)) (group : List Line) (e : Entry) → SpellsEntry group e → Stands most whole e → fault_at_end (group_at whole group) ≡ None
unfolding fault_at_end
fault_end most whole group e s h = none_or _ _ (group_ended most whole group e s h) (no_when _ kinds.Order (ap (λ (t : Bool). not (is_empty group) && not t) (entry_has_form group e s h.some) ∙ and_none (not (is_empty group))))

shift : (most : Limits) (s : Lines) (line : Line) (rest : List Line) → has_form s.current ≡ true → begins_entry line ≡ true → ended_fault s true (last_string (strings_in s.current)) ≡ None → PassesAll most (closed s) (line ∷ rest) → PassesAll most s (line ∷ rest)
unfolding fault_at
shift most s line rest form starts ended p =
    let here : before s line ≡ closed s = ap (λ (t : Bool). cond (t && begins_entry line) (closed s) s) form ∙ ap (λ (t : Bool). cond t (closed s) s) starts in
    let a = or_none (string_fault most.string [] line) _ p.0 in
    let b = or_none (cond (goes_on [] line) None (ended_fault (closed s) (begins_entry line) None)) _ a.1 in
    let c = or_none (order_fault [] line) _ b.1 in
    let e : ended_fault s (begins_entry line) (last_string (strings_in s.current)) ≡ None = ap (λ (t : Bool). ended_fault s t (last_string (strings_in s.current))) starts ∙ ended in (
      none_or _ _ (ap (λ (x : Lines). string_fault most.string x.current line) here ∙ a.0)
          (none_or _ _ (either_none (goes_on s.current line) _ e) (none_or _ _ (ap (λ (x : Lines). order_fault x.current line) here ∙ c.0) (ap (λ (x : Lines). entries_fault most.entries x line) here ∙ c.1))),
      subst (λ (x : Lines). PassesAll most x rest) (ap (λ (x : Lines). grown x line) (sym here)) p.1,
    )

-- ---- all groups

abbrev AllStand : Limits → List (List Line) → List (List Line) → List Entry → Type 0
AllStand most whole (group ∷ groups) (e ∷ es) = Stands most whole e × AllStand most (whole ++ group ∷ []) groups es
AllStand most whole _ _ = Unit {0}

pass_groups : (most : Limits) (whole groups : List (List Line)) (es : List Entry) → AllZip SpellsEntry groups es → AllStand most whole groups es → PassesAll most (group_at whole []) (flat groups)
unfolding fault_at_end
pass_groups most whole [] [] z h = refl
pass_groups most whole [] (e ∷ es) z h = absurd z
pass_groups most whole (g ∷ groups) [] z h = absurd z
pass_groups most whole (g ∷ groups) (e ∷ es) z h = pass_group most whole g (flat groups) e z.0 h.0 (rest groups es z.1 h.1 (pass_groups most (whole ++ g ∷ []) groups es z.1 h.1))
  where
    begun_line : (group more : List Line) → BeginsEntry group → PassesAll most (group_at (whole ++ g ∷ []) []) (group ++ more) → PassesAll most (group_at whole g) (group ++ more)
    begun_line [] more b p = absurd b
    begun_line (line ∷ lines) more b p = shift most (group_at whole g) line (lines ++ more) (entry_has_form g e z.0 h.0.some) b (group_ended most whole g e z.0 h.0) p

    rest : (groups : List (List Line)) (es : List Entry) → AllZip SpellsEntry groups es → AllStand most (whole ++ g ∷ []) groups es → PassesAll most (group_at (whole ++ g ∷ []) []) (flat groups) → PassesAll most (group_at whole g) (flat groups)
    rest [] [] y k p = fault_end most whole g e z.0 h.0
    rest [] (x ∷ es) y k p = absurd y
    rest (group ∷ groups) [] y k p = absurd y
    rest (group ∷ groups) (x ∷ es) y k p = begun_line group (flat groups) (entry_begins group x y.0) p

-- ---- what a valid catalogue gives

none_same : (groups : List (List Line)) (done : List Entry) (e : Entry) → AllZip SpellsEntry groups done → AllByRecursion (λ x. key_of e ≢ key_of x) done → list_any (λ lines. same_key (key_at lines) (key_of e)) groups ≡ false
none_same [] [] e z h = refl
none_same [] (x ∷ done) e z h = absurd z
none_same (g ∷ groups) [] e z h = absurd z
none_same (g ∷ groups) (x ∷ done) e z h = neither _ _ (by (same_key (key_at g) (key_of e)) refl) (none_same groups done e z.1 h.1)
  where
    by : (b : Bool) → same_key (key_at g) (key_of e) ≡ b → b ≡ false
    by true k = absurd (h.0 (sym (key_same (key_at g) (key_of e) k) ∙ key_read g x z.0))
    by false k = refl

first_header : (groups : List (List Line)) (done es : List Entry) (e : Entry) → AllZip SpellsEntry groups done → HasHeaderFirst (done ++ e ∷ es) → HasHeaderKey e → (groups ≡ []) × IsHeader e
first_header [] [] es e z h key = (refl, h.0 key)
first_header [] (x ∷ done) es e z h key = absurd z
first_header (g ∷ groups) [] es e z h key = absurd z
first_header (g ∷ groups) (x ∷ done) es e z h key = absurd ((all_right (λ (other : Entry). HasHeaderKey other → ⊥) done (e ∷ es) h.1).0 key)

few_cut : (most : ℕ) (groups : List (List Line)) (done es : List Entry) (e : Entry) → 0 < most → AllZip SpellsEntry groups done → besides_header (done ++ e ∷ es) ≤ most → count_of groups < most
few_cut most [] [] es e some z h = some
few_cut most [] (x ∷ done) es e some z h = absurd z
few_cut most (g ∷ groups) [] es e some z h = absurd z
few_cut most (g ∷ groups) (x ∷ done) es e some z h = subst (λ (b : Bool). length (g ∷ groups) - cond b 1 0 < most) (sym (header_same g x z.0)) (by (is_header_key x.ctx x.id) (zip_length groups done z.1) h)
  where
    by : (b : Bool) → length groups ≡ length done → length (x ∷ (done ++ e ∷ es)) - cond b 1 0 ≤ most → length (g ∷ groups) - cond b 1 0 < most
    by true same le = omega (arith, length-append done (e ∷ es))
    by false same le = omega (arith, length-append done (e ∷ es))

-- what is left of a catalogue behind these entries
record Rest (most : Limits) (done es : List Entry) : Type 0 where
  unique : HasUniqueKeys (done ++ es)
  header : HasHeaderFirst (done ++ es)
  few : besides_header (done ++ es) ≤ most.entries
  each : AllByRecursion IsValidEntry es
  short : AllByRecursion (λ e. AreShort most.string (entry_strings e)) es
  short_was : AllByRecursion (λ e. AreShort most.string (previous_strings e.previous)) es

all_stand : (most : Limits) (whole groups : List (List Line)) (done es : List Entry) → 0 < most.entries → AllZip SpellsEntry whole done → AllZip SpellsEntry groups es → Rest most done es → AllStand most whole groups es
all_stand most whole [] es done some z y r = tt
all_stand most whole (g ∷ groups) done [] some z y r = absurd y
all_stand most whole (g ∷ groups) done (e ∷ es) some z y r = (stands, all_stand most (whole ++ g ∷ []) groups (done ++ e ∷ []) es some (zip_push whole done g e z y.0) y.1 behind)
  where
    assoc : (done ++ e ∷ []) ++ es ≡ done ++ e ∷ es
    assoc = append_assoc done (e ∷ []) es

    behind : Rest most (done ++ e ∷ []) es
    behind = record { unique = subst HasUniqueKeys (sym assoc) r.unique; header = subst HasHeaderFirst (sym assoc) r.header; few = subst (λ l. besides_header l ≤ most.entries) (sym assoc) r.few; each = r.each.1; short = r.short.1; short_was = r.short_was.1 }

    header_of : is_header_key e.ctx e.id ≡ true → (whole ≡ []) × IsHeader e
    header_of key = first_header whole done es e z r.header (header_key e.ctx e.id key)

    stands : Stands most whole e
    stands = record {
      new = (λ key. ((header_of key).0, (header_of key).1.obsolete), none_same whole done e z (unique_cut done es e r.unique));
      one = r.each.0.single;
      some = r.each.0.some;
      header = λ key. (header_of key).1.plural;
      charset = λ key. (header_of key).1.charset;
      short = r.short.0;
      short_was = r.short_was.0;
      count = few_cut most.entries whole done es e some z r.few;
    }

-- ---- from lines to texts

passes_texts : (most : Limits) (n : ℕ) (s : Lines) (texts : List (List ℕ)) (lines : List Line) → map line_of texts ≡ map Ok lines → PassesAll most s (filter not_blank lines) → fault_from most n s texts ≡ None
unfolding fault_from
passes_texts most n s [] [] e p = later_ends n (fault_at_end s) p
  where
    later_ends : (n : ℕ) (a : Option FaultKind) → a ≡ None → or_later n a None ≡ None
    later_ends n a h = ap (λ x. or_later n x None) h
passes_texts most n s [] (line ∷ lines) e p = cc
passes_texts most n s (text ∷ texts) [] e p = cc
passes_texts most n s (text ∷ texts) (line ∷ lines) e p = by (not_blank line) refl p (λ t q. passes_texts most (n + 1) t texts lines others q)
  where
    first : line_of text ≡ Ok line
    first = cc

    others : map line_of texts ≡ map Ok lines
    others = cc

    by : (b : Bool) → not_blank line ≡ b → PassesAll most s (cond b (line ∷ filter not_blank lines) (filter not_blank lines)) → ((t : Lines) → PassesAll most t (filter not_blank lines) → fault_from most (n + 1) t texts ≡ None)
        → or_later n (line_fault most s (line_of text)) (fault_from most (n + 1) (add_line s (line_of text)) texts) ≡ None
    by true nb q rest =
        let is = not_blank_line most s line nb in
        let none : line_fault most s (line_of text) ≡ None = ap (line_fault most s) first ∙ is.0 ∙ q.0 in
        let next : add_line s (line_of text) ≡ after s line = ap (add_line s) first ∙ is.1 in
        ap (λ x. or_later n x (fault_from most (n + 1) (add_line s (line_of text)) texts)) none ∙ ap (λ (t : Lines). fault_from most (n + 1) t texts) next ∙ rest (after s line) q.1
    by false nb q rest =
        let is : line ≡ blank = blank_line line nb in
        let read : line_of text ≡ Ok blank = first ∙ ap Ok is in
        let none : line_fault most s (line_of text) ≡ None = ap (line_fault most s) read in
        let next : add_line s (line_of text) ≡ s = ap (add_line s) read in
        ap (λ x. or_later n x (fault_from most (n + 1) (add_line s (line_of text)) texts)) none ∙ ap (λ (t : Lines). fault_from most (n + 1) t texts) next ∙ rest s q

pub spelled_passes : (most : Limits) (bytes : List ℕ) (c : List Entry) → 0 < most.entries → Spells bytes c → IsWithin most bytes c → fault_of most bytes ≡ None
unfolding fault_of
spelled_passes most bytes c some s w =
    let stand = all_stand most [] s.groups [] c some tt s.entries (record { unique = s.valid.unique; header = s.valid.header; few = w.entries; each = s.valid.each; short = w.strings; short_was = w.previous }) in
    let all : PassesAll most no_lines (filter not_blank s.lines) = subst (λ l. PassesAll most no_lines l) s.cut (pass_groups most [] s.groups c s.entries stand) in
    let from : fault_from most 1 no_lines (lines_of bytes) ≡ None = passes_texts most 1 no_lines (lines_of bytes) s.lines s.read all in
    let small : nat_lt most.bytes (length bytes) ≡ false = le-ltb most.bytes (length bytes) w.bytes in
    let text : is_utf8 bytes ≡ true = is_utf8-from_IsUtf8 bytes s.utf8 in
    rw (small, text) from
