-- What the reader keeps of whole entries is what the tests ask of them, and an entry that ends is the one that its lines spell.
use Rattle.std.proofs.Common.{◌≡◌, ℕ, ◌+◌, ◌-◌, List, [], ◌∷◌, ◌++◌, Bool, true, false, not, ◌&&◌, ◌||◌, cond, map, length, refl, sym, ◌∙◌, ap, subst, Option, Some, None, is_some, suc, arith, nat_le, ◌⊎◌, inl, inr}
use Rattle.std.specs.List.{list_any}
use Rattle.std.proofs.lemmas.List.{length-map, map-append}
use Rattle.po_lex.specs.declared.fault.FaultKind.{FaultKind}
use Rattle.po_lex.specs.declared.fault.FaultKind.TheVariants as kinds
use Rattle.po_lex.specs.declared.line.Keyword.{Keyword}
use Rattle.po_lex.specs.declared.line.Keyword.TheVariants.{Msgctxt, Msgid, MsgidPlural, Msgstr, MsgstrAt}
use Rattle.po_lex.specs.Lines.{begins, continues, Line, blank, translator, extracted, reference, flags, previous, message, is_form}
use Rattle.po_text.specs.Entries.{Key, numbered, previous_strings, is_header_key, same_key}
use Rattle.po_text.specs.Texts.{Text, is_empty}
use Rattle.po_text.specs.Header.{has_charset}
use Rattle.po_read.specs.Spells.{limits}
use Rattle.po_text.specs.Flags.{with_fuzzy_first}
use Rattle.po_read.specs.Faults.{Lines, strings_in, previous_in, last_string, key_at, has_header_key, when, key_fault, header_fault, ended_fault, count_of, entries_fault, has_form, begins_entry, before, after, fault_at, fault_at_end, or_else, string_fault, goes_on, order_fault, last_with, is_long}
use Rattle.po_read.specs.Plain.{groups_of, entry_of, string_with, forms_in}
use Rattle.po_read.specs.Found.{key_at_hand, has_key, count_in}
use Rattle.po_read.specs.Drafts.{Draft, nothing, context, named, counted, single, draft_of, draft_strings, draft_last, draft_key, whole_of, previous_end, IsSoundLine}
use Rattle.po_read.specs.SoFar.{SoFar, so_far, IsEntry, IsSoFar, key_in_hand, Reads, HandsOn, key_fault_here, header_fault_here, ended_draft, ended_here, entries_here, IsClosed, IsHanded, end_fault, front_fault, length_fault, order_fault_here, with_line, marked, has_strings, has_previous}
use Rattle.po_text.specs.declared.entry.Entry.{Entry}
use Rattle.po_text.specs.declared.entry.Previous.{Previous}
use Rattle.po_read.specs.declared.reading.Reader.{Reader}
use Rattle.po_read.proofs.Accepts.{last_single, goes_not}
use Rattle.po_text.proofs.EntryLists.{both_true}
use Rattle.po_read.proofs.Growing.{closed}
use Rattle.po_read.proofs.Following.{key_is, form_is, length_is, goes_is, order_is, with_line_is}

empty_map : (groups : List (List Line)) → is_empty (map key_in_hand groups) ≡ is_empty groups
empty_map [] = refl
empty_map (g ∷ groups) = refl

first_is : (r : Reader) (s : Lines) → Reads r s → is_empty r.keys ≡ is_empty s.whole
first_is r s h = ap is_empty h.keys ∙ empty_map s.whole

-- the keys of whole entries are those of their lines
keys_are : (groups : List (List Line)) (ctx : Option Text) (id : Text) → has_key ctx id (map key_in_hand groups) ≡ list_any (λ lines. same_key (key_at lines) (ctx, id)) groups
keys_are [] ctx id = refl
keys_are (g ∷ groups) ctx id = ap (λ b. same_key (key_at g) (ctx, id) || b) (keys_are groups ctx id)

-- ---- the tests of a string that has ended

last_named : (ctx : Option Text) (id : Text) → last_string (draft_strings (named ctx id)) ≡ Some (Msgid, id)
last_named None id = refl
last_named (Some ctx) id = refl

-- a numbered form, or the string before them, which has no test of its own
abbrev IsQuiet : Keyword → Type 0
IsQuiet MsgidPlural = Unit {0}
IsQuiet (MsgstrAt d) = Unit {0}
IsQuiet _ = ⊥

quiet : (s : Lines) (b : Bool) (k : Keyword) (text : Text) → IsQuiet k → ended_fault s b (Some (k, text)) ≡ None
quiet s true Msgctxt text q = absurd q
quiet s false Msgctxt text q = absurd q
quiet s true Msgid text q = absurd q
quiet s false Msgid text q = absurd q
quiet s true MsgidPlural text q = refl
quiet s false MsgidPlural text q = refl
quiet s true Msgstr text q = absurd q
quiet s false Msgstr text q = absurd q
quiet s true (MsgstrAt d) text q = refl
quiet s false (MsgstrAt d) text q = refl

quiet_numbered : (s : Lines) (b : Bool) (k : Keyword) (text : Text) (n : ℕ) (forms : List Text) → IsQuiet k → ended_fault s b (last_string ((k, text) ∷ numbered n forms)) ≡ None
quiet_numbered s b k text n [] q = quiet s b k text q
quiet_numbered s b k text n (form ∷ forms) q = quiet_numbered s b (MsgstrAt n) form (n + 1) forms tt

ended_id : (s : Lines) (b : Bool) (id : Text) → ended_fault s b (Some (Msgid, id)) ≡ key_fault s
ended_id s true id = refl
ended_id s false id = refl

none_ended : (s : Lines) (b : Bool) → ended_fault s b None ≡ None
none_ended s true = refl
none_ended s false = refl

context_ended : (s : Lines) (b : Bool) (ctx : Text) → ended_fault s b (Some (Msgctxt, ctx)) ≡ None
context_ended s true ctx = refl
context_ended s false ctx = refl

key_tested : (r : Reader) (s : Lines) (ctx : Option Text) (id : Text) → Reads r s → draft_of r.current.message ≡ named ctx id → key_fault_here r ctx id ≡ key_fault s
key_tested r s ctx id h e =
    let key : (let k : Key = (ctx, id) in k) ≡ key_at s.current = ap draft_key (sym e) ∙ key_is (so_far r.current) s.current h.current in
    let header : is_header_key ctx id ≡ has_header_key s.current = ap (λ (k : Key). is_header_key k.0 k.1) key in
    let found : has_key ctx id r.keys ≡ list_any (λ lines. same_key (key_at lines) (key_at s.current)) s.whole = ap (has_key ctx id) h.keys ∙ keys_are s.whole ctx id ∙ ap (λ (k : Key). list_any (λ lines. same_key (key_at lines) k) s.whole) key in
    λ i. cond (header i && (not (first_is r s h i) || h.current.obsolete i)) (Some kinds.Order) (when (found i) kinds.Duplicate)

header_tested : (r : Reader) (s : Lines) (ctx : Option Text) (id form : Text) → Reads r s → draft_of r.current.message ≡ single ctx id form → header_fault_here r ctx id form ≡ header_fault s form
header_tested r s ctx id form h e =
    let key : (let k : Key = (ctx, id) in k) ≡ key_at s.current = ap draft_key (sym e) ∙ key_is (so_far r.current) s.current h.current in
    let header : is_header_key ctx id ≡ has_header_key s.current = ap (λ (k : Key). is_header_key k.0 k.1) key in
    λ i. when (first_is r s h i && header i && not (has_charset form)) kinds.Charset

pub ended_is : (r : Reader) (s : Lines) (b : Bool) → Reads r s → ended_here r b ≡ ended_fault s b (last_string (strings_in s.current))
ended_is r s b h = by (draft_of r.current.message) refl b ∙ ap (λ ss. ended_fault s b (last_string ss)) h.current.strings
  where
    by : (d : Draft) → draft_of r.current.message ≡ d → (b : Bool) → ended_draft r b d ≡ ended_fault s b (last_string (draft_strings d))
    by nothing e true = refl
    by nothing e false = refl
    by (context ctx) e true = refl
    by (context ctx) e false = refl
    by (named ctx id) e true = key_tested r s ctx id h e ∙ ap (ended_fault s true) (sym (last_named ctx id))
    by (named ctx id) e false = key_tested r s ctx id h e ∙ ap (ended_fault s false) (sym (last_named ctx id))
    by (counted None id plural forms) e true = sym (quiet_numbered s true MsgidPlural plural 0 forms tt)
    by (counted None id plural forms) e false = sym (quiet_numbered s false MsgidPlural plural 0 forms tt)
    by (counted (Some ctx) id plural forms) e true = sym (quiet_numbered s true MsgidPlural plural 0 forms tt)
    by (counted (Some ctx) id plural forms) e false = sym (quiet_numbered s false MsgidPlural plural 0 forms tt)
    by (single ctx id form) e true = header_tested r s ctx id form h e ∙ ap (ended_fault s true) (sym (last_single ctx id form))
    by (single ctx id form) e false = ap (ended_fault s false) (sym (last_single ctx id form))

-- ---- the number of entries

count_is : (groups : List (List Line)) → count_in (map key_in_hand groups) ≡ count_of groups
count_is [] = refl
count_is (g ∷ groups) = by (has_header_key g)
  where
    by : (b : Bool) → cond b (length (map key_in_hand groups)) (length (map key_in_hand groups) + 1) ≡ suc (length groups) - cond b 1 0
    by true = let n : length (map key_in_hand groups) ≡ length groups = length-map groups key_in_hand in omega arith
    by false = let n : length (map key_in_hand groups) ≡ length groups = length-map groups key_in_hand in omega arith

entries_at : (r : Reader) (s : Lines) → Reads r s → when (nat_le 50000 (count_in r.keys)) kinds.Limit ≡ when (nat_le 50000 (count_of s.whole)) kinds.Limit
entries_at r s h = ap (λ n. when (nat_le 50000 n) kinds.Limit) (ap count_in h.keys ∙ count_is s.whole)

pub entries_is : (r : Reader) (s : Lines) (line : Line) → Reads r s → entries_here r line ≡ entries_fault 50000 s line
entries_is r s blank h = refl
entries_is r s (translator text) h = refl
entries_is r s (extracted text) h = refl
entries_is r s (reference text) h = refl
entries_is r s (flags items) h = refl
entries_is r s (previous m part) h = refl
entries_is r s (message m (continues text)) h = refl
entries_is r s (message m (begins Msgctxt text)) h = refl
entries_is r s (message m (begins Msgid text)) h = entries_at r s h
entries_is r s (message m (begins MsgidPlural text)) h = refl
entries_is r s (message m (begins Msgstr text)) h = refl
entries_is r s (message m (begins (MsgstrAt d) text)) h = refl

-- ---- an entry that ends

forms_numbered : (n : ℕ) (forms : List Text) → forms_in (numbered n forms) ≡ forms
forms_numbered n [] = refl
forms_numbered n (form ∷ forms) = ap (λ fs. form ∷ fs) (forms_numbered (n + 1) forms)

plural_of : (ctx : Option Text) (id : Text) (plural : Option Text) (forms : List Text) → is_form (draft_last (whole_of ctx id plural forms)) ≡ true → plural ≡ string_with 3 (draft_strings (whole_of ctx id plural forms))
plural_of None id (Some plural) forms h = refl
plural_of (Some ctx) id (Some plural) forms h = refl
plural_of None id None (form ∷ []) h = refl
plural_of (Some ctx) id None (form ∷ []) h = refl
plural_of ctx id None [] h = cc
plural_of ctx id None (form ∷ other ∷ forms) h = cc

forms_of : (ctx : Option Text) (id : Text) (plural : Option Text) (forms : List Text) → is_form (draft_last (whole_of ctx id plural forms)) ≡ true → forms ≡ forms_in (draft_strings (whole_of ctx id plural forms))
forms_of None id (Some plural) forms h = sym (forms_numbered 0 forms)
forms_of (Some ctx) id (Some plural) forms h = sym (forms_numbered 0 forms)
forms_of None id None (form ∷ []) h = refl
forms_of (Some ctx) id None (form ∷ []) h = refl
forms_of ctx id None [] h = cc
forms_of ctx id None (form ∷ other ∷ forms) h = cc

key_of_whole : (ctx : Option Text) (id : Text) (plural : Option Text) (forms : List Text) → is_form (draft_last (whole_of ctx id plural forms)) ≡ true → (let k : Key = (ctx, id) in k) ≡ draft_key (whole_of ctx id plural forms)
key_of_whole ctx id (Some plural) forms h = refl
key_of_whole ctx id None (form ∷ []) h = refl
key_of_whole ctx id None [] h = cc
key_of_whole ctx id None (form ∷ other ∷ forms) h = cc

three : (ctx id plural : Option Text) → (string_with 1 (previous_strings (record { ctx = ctx; id = id; plural = plural })) ≡ ctx) × (string_with 2 (previous_strings (record { ctx = ctx; id = id; plural = plural })) ≡ id)
    × (string_with 3 (previous_strings (record { ctx = ctx; id = id; plural = plural })) ≡ plural)
three None None None = (refl, refl, refl)
three (Some c) None None = (refl, refl, refl)
three None (Some i) None = (refl, refl, refl)
three (Some c) (Some i) None = (refl, refl, refl)
three None None (Some p) = (refl, refl, refl)
three (Some c) None (Some p) = (refl, refl, refl)
three None (Some i) (Some p) = (refl, refl, refl)
three (Some c) (Some i) (Some p) = (refl, refl, refl)

pub entry_is : (s : SoFar) (lines : List Line) (e : Entry) → IsSoFar s lines → IsEntry s e → is_form (draft_last s.draft) ≡ true → e ≡ entry_of lines
unfolding entry_of
entry_is s lines e h w form =
    let form' : is_form (draft_last (whole_of e.ctx e.id e.plural e.forms)) ≡ true = ap (λ (d : Draft). is_form (draft_last d)) (sym w.strings) ∙ form in
    let strings : draft_strings (whole_of e.ctx e.id e.plural e.forms) ≡ strings_in lines = ap draft_strings (sym w.strings) ∙ h.strings in
    let key : (let k : Key = (e.ctx, e.id) in k) ≡ key_at lines = key_of_whole e.ctx e.id e.plural e.forms form' ∙ ap draft_key (sym w.strings) ∙ key_is s lines h in
    let was = three s.previous.ctx s.previous.id s.previous.plural in
    let translator = w.translator ∙ h.translator in
    let extracted = w.extracted ∙ h.extracted in
    let references = w.references ∙ h.references in
    let flags = w.flags ∙ ap with_fuzzy_first h.flags in
    let ctx : e.previous.ctx ≡ string_with 1 (previous_in lines) = ap (λ (p : Previous). p.ctx) w.previous ∙ sym was.0 ∙ ap (string_with 1) h.previous in
    let id : e.previous.id ≡ string_with 2 (previous_in lines) = ap (λ (p : Previous). p.id) w.previous ∙ sym was.1 ∙ ap (string_with 2) h.previous in
    let plural : e.previous.plural ≡ string_with 3 (previous_in lines) = ap (λ (p : Previous). p.plural) w.previous ∙ sym was.2 ∙ ap (string_with 3) h.previous in
    let own_plural : e.plural ≡ string_with 3 (strings_in lines) = plural_of e.ctx e.id e.plural e.forms form' ∙ ap (string_with 3) strings in
    let own_forms : e.forms ≡ forms_in (strings_in lines) = forms_of e.ctx e.id e.plural e.forms form' ∙ ap forms_in strings in
    let obsolete = w.obsolete ∙ h.obsolete in
    λ i. record {
      translator = translator i;
      extracted = extracted i;
      references = references i;
      flags = flags i;
      previous = record { ctx = ctx i; id = id i; plural = plural i };
      ctx = (key i).0;
      id = (key i).1;
      plural = own_plural i;
      forms = own_forms i;
      obsolete = obsolete i;
    }

-- ---- an entry that has ended

key_of_lines : (lines : List Line) → key_at_hand (entry_of lines).ctx (entry_of lines).id ≡ key_in_hand lines
unfolding entry_of
key_of_lines lines = refl

pub closed_is : (old new : Reader) (entry : Entry) (s : Lines) → Reads old s → IsClosed old new entry → is_form (draft_last (draft_of old.current.message)) ≡ true → Reads new (closed s)
closed_is old new entry s h c form =
    let e : entry ≡ entry_of s.current = entry_is (so_far old.current) s.current entry h.current c.was form in
    let key : key_at_hand entry.ctx entry.id ≡ key_in_hand s.current = ap (λ (x : Entry). key_at_hand x.ctx x.id) e ∙ key_of_lines s.current in
    record {
      keys = c.keys ∙ (λ i. h.keys i ++ key i ∷ []) ∙ sym (map-append key_in_hand s.whole (s.current ∷ []));
      current = c.current;
    }

-- what a sink takes in two parts it takes
abbrev pub TakesMore : (S : Type 0) → (S → List Entry → S → Type 0) → Type 0
TakesMore S Took = (a b c : S) (xs ys : List Entry) → Took a xs b → Took b ys c → Took a (xs ++ ys) c

pub closed_hands : {S : Type 0} (Took : S → List Entry → S → Type 0) → TakesMore S Took → (first sink sink' : S) (old new : Reader) (s : Lines) → HandsOn Took first old sink s → IsHanded Took old new sink sink' → is_form (draft_last (draft_of old.current.message)) ≡ true → HandsOn Took first new sink' (closed s)
closed_hands Took more first sink sink' old new s h c form =
    let e : c.entry ≡ entry_of s.current = entry_is (so_far old.current) s.current c.entry h.reads.current c.closed.was form in
    record {
      reads = closed_is old new c.entry s h.reads c.closed form;
      took = subst (λ (es : List Entry). Took first es sink') ((λ i. map entry_of s.whole ++ e i ∷ []) ∙ sym (map-append entry_of s.whole (s.current ∷ []))) (more first sink sink' (map entry_of s.whole) (c.entry ∷ []) h.took c.took);
    }

-- ---- a line

some_of : (k : Option Keyword) → is_form k ≡ true → is_some k ≡ true
some_of None g = cc
some_of (Some k) g = refl

form_some : (s : SoFar) → is_form (draft_last s.draft) ≡ true → has_strings s ≡ true
form_some s g = some_of (draft_last s.draft) g

not_here : (a b c : Bool) → b ≡ true → (a && not b && c) ≡ false
not_here true b c e = ap (λ t. not t && c) e
not_here false b c e = refl

first_length : (new old : SoFar) (line : Line) → IsSoFar new [] → is_form (draft_last old.draft) ≡ true → begins_entry line ≡ true → length_fault new line ≡ length_fault old line
first_length new old blank h f b = refl
first_length new old (translator text) h f b = refl
first_length new old (extracted text) h f b = refl
first_length new old (reference text) h f b = refl
first_length new old (flags items) h f b = refl
first_length new old (previous m (begins keyword text)) h f b = refl
first_length new old (previous m (continues text)) h f b =
    length_is new [] (previous m (continues text)) h
    ∙ ap (λ t. when (is_long 262144 (cond t (Some (previous_end old.previous ++ text)) None)) kinds.Limit) (sym (not_here (not (marked old (not m))) (has_strings old) (has_previous old) (form_some old f)))
first_length new old (message m (begins keyword text)) h f b = refl
first_length new old (message m (continues text)) h f b = cc

pub closed_length : (old new : Reader) (entry : Entry) (line : Line) → IsClosed old new entry → is_form (draft_last (draft_of old.current.message)) ≡ true → begins_entry line ≡ true → length_fault (so_far new.current) line ≡ length_fault (so_far old.current) line
closed_length old new entry line c f b = first_length (so_far new.current) (so_far old.current) line c.current f b

-- the lines where an entry ends
closes : (r : Reader) (s : Lines) (line : Line) → Reads r s → is_form (draft_last (draft_of r.current.message)) ≡ true → begins_entry line ≡ true → closed s ≡ before s line
closes r s line h f b =
    let form : has_form s.current ≡ true = sym (form_is (so_far r.current) s.current h.current) ∙ f in
    sym (ap (λ t. cond (t && begins_entry line) (closed s) s) form ∙ ap (λ t. cond t (closed s) s) b)

pub closed_before : (old new : Reader) (entry : Entry) (line : Line) → IsClosed old new entry → is_form (draft_last (draft_of old.current.message)) ≡ true → begins_entry line ≡ true → (s : Lines) → Reads old s → Reads new (before s line)
closed_before old new entry line c f b s h = subst (λ (x : Lines). Reads new x) (closes old s line h f b) (closed_is old new entry s h c f)

pub handed_before : {S : Type 0} (Took : S → List Entry → S → Type 0) → TakesMore S Took → (sink sink' : S) (old new : Reader) (line : Line) → IsHanded Took old new sink sink' → is_form (draft_last (draft_of old.current.message)) ≡ true → begins_entry line ≡ true
    → (first : S) (s : Lines) → HandsOn Took first old sink s → HandsOn Took first new sink' (before s line)
handed_before Took more sink sink' old new line c f b first s h = subst (λ (x : Lines). HandsOn Took first new sink' x) (closes old s line h.reads f b) (closed_hands Took more first sink sink' old new s h c f)

-- and where none does
goes_before : (r : Reader) (line : Line) (s : Lines) → (begins_entry line && is_form (draft_last (draft_of r.current.message))) ≡ false → Reads r s → s ≡ before s line
goes_before r line s apart h =
    let form : has_form s.current ≡ is_form (draft_last (draft_of r.current.message)) = sym (form_is (so_far r.current) s.current h.current) in
    sym (ap (λ t. cond (t && begins_entry line) (closed s) s) form ∙ ap (λ t. cond t (closed s) s) (and_swap (is_form (draft_last (draft_of r.current.message))) (begins_entry line) ∙ apart))
  where
    and_swap : (a b : Bool) → (a && b) ≡ (b && a)
    and_swap true true = refl
    and_swap true false = refl
    and_swap false true = refl
    and_swap false false = refl

pub not_closed : (r : Reader) (line : Line) → (begins_entry line && is_form (draft_last (draft_of r.current.message))) ≡ false → (s : Lines) → Reads r s → Reads r (before s line)
not_closed r line apart s h = subst (λ (x : Lines). Reads r x) (goes_before r line s apart h) h

pub none_handed : {S : Type 0} (Took : S → List Entry → S → Type 0) (sink : S) (r : Reader) (line : Line) → (begins_entry line && is_form (draft_last (draft_of r.current.message))) ≡ false → (first : S) (s : Lines) → HandsOn Took first r sink s → HandsOn Took first r sink (before s line)
none_handed Took sink r line apart first s h = subst (λ (x : Lines). HandsOn Took first r sink x) (goes_before r line s apart h.reads) h

front_is : (r : Reader) (s : Lines) (line : Line) → Reads r s → front_fault r line ≡ or_else (string_fault 262144 s.current line) (cond (goes_on s.current line) None (ended_fault s (begins_entry line) (last_string (strings_in s.current))))
front_is r s line h = λ i. or_else (length_is (so_far r.current) s.current line h.current i) (cond (goes_is (so_far r.current) s.current line h.current i) None (ended_is r s (begins_entry line) h i))

at : (s : Lines) (l : Line) → has_form s.current ≡ true → begins_entry l ≡ true → string_fault 262144 [] l ≡ string_fault 262144 s.current l
at s blank f b = refl
at s (translator text) f b = refl
at s (extracted text) f b = refl
at s (reference text) f b = refl
at s (flags items) f b = refl
at s (previous m (begins keyword text)) f b = refl
at s (previous m (continues text)) f b = ap (λ t. when (is_long 262144 (cond t (last_with (previous_in s.current) text) None)) kinds.Limit) (sym (goes_not s.current (previous m (continues text)) f refl))
at s (message m (begins keyword text)) f b = refl
at s (message m (continues text)) f b = cc

-- the string test is the same where an entry has ended
before_length : (s : Lines) (line : Line) → string_fault 262144 (before s line).current line ≡ string_fault 262144 s.current line
before_length s line = by (has_form s.current && begins_entry line) refl
  where
    by : (t : Bool) → (has_form s.current && begins_entry line) ≡ t → string_fault 262144 (cond t (closed s) s).current line ≡ string_fault 262144 s.current line
    by true e = let both = both_true (has_form s.current) (begins_entry line) e in at s line both.0 both.1
    by false e = refl

or_assoc : (a b c : Option FaultKind) → or_else (or_else a b) c ≡ or_else a (or_else b c)
or_assoc None b c = refl
or_assoc (Some k) b c = refl

pub added : (here new : Reader) (s : Lines) (line : Line) → Reads here (before s line) → IsSoundLine line → (line ≡ blank → ⊥) → order_fault_here (so_far here.current) line ≡ None → so_far new.current ≡ with_line (so_far here.current) line → new.keys ≡ here.keys → Reads new (after s line)
added here new s line h sound nb f c e = record {
  keys = e ∙ h.keys;
  current = subst (λ (x : SoFar). IsSoFar x ((before s line).current ++ line ∷ [])) (sym c) (with_line_is (so_far here.current) (before s line).current line h.current sound nb f);
}

-- the tests of a line, in the two parts between which an entry ends
fault_front : (old : Reader) (s : Lines) (line : Line) → Reads old s → fault_at limits s line ≡ or_else (front_fault old line) (or_else (order_fault (before s line).current line) (entries_fault 50000 (before s line) line))
unfolding fault_at
fault_front old s line h =
    ap (λ (x : Option FaultKind). or_else x (or_else (cond (goes_on s.current line) None (ended_fault s (begins_entry line) (last_string (strings_in s.current)))) (or_else (order_fault (before s line).current line) (entries_fault 50000 (before s line) line)))) (before_length s line)
    ∙ sym (or_assoc (string_fault 262144 s.current line) (cond (goes_on s.current line) None (ended_fault s (begins_entry line) (last_string (strings_in s.current)))) (or_else (order_fault (before s line).current line) (entries_fault 50000 (before s line) line)))
    ∙ ap (λ (x : Option FaultKind). or_else x (or_else (order_fault (before s line).current line) (entries_fault 50000 (before s line) line))) (sym (front_is old s line h))

fault_back : (here : Reader) (s : Lines) (line : Line) → Reads here (before s line) → or_else (order_fault_here (so_far here.current) line) (entries_here here line) ≡ or_else (order_fault (before s line).current line) (entries_fault 50000 (before s line) line)
fault_back here s line k = λ i. or_else (order_is (so_far here.current) (before s line).current line k.current i) (entries_is here (before s line) line k i)

pub front_told : (old : Reader) (line : Line) (kind : FaultKind) → (front_fault old line ≡ Some kind) ⊎ (kind ≡ kinds.Memory) → (s : Lines) → Reads old s → (fault_at limits s line ≡ Some kind) ⊎ (kind ≡ kinds.Memory)
front_told old line kind (inl e) s h = inl (fault_front old s line h ∙ ap (λ (x : Option FaultKind). or_else x (or_else (order_fault (before s line).current line) (entries_fault 50000 (before s line) line))) e)
front_told old line kind (inr m) s h = inr m

abbrev Follows : Reader → Reader → Line → Type 0
Follows old here line = (s : Lines) → Reads old s → Reads here (before s line)

back_is : (old here : Reader) (line : Line) (o : Option FaultKind) → front_fault old line ≡ None → o ≡ or_else (order_fault_here (so_far here.current) line) (entries_here here line) → Follows old here line → (s : Lines) → Reads old s → fault_at limits s line ≡ o
back_is old here line o none e f s h =
    fault_front old s line h ∙ ap (λ (x : Option FaultKind). or_else x (or_else (order_fault (before s line).current line) (entries_fault 50000 (before s line) line))) none ∙ sym (fault_back here s line (f s h)) ∙ sym e

pub entry_told : (old here : Reader) (line : Line) (kind : FaultKind) → front_fault old line ≡ None → Some kind ≡ or_else (order_fault_here (so_far here.current) line) (entries_here here line) → ((s : Lines) → Reads old s → Reads here (before s line))
    → (s : Lines) → Reads old s → (fault_at limits s line ≡ Some kind) ⊎ (kind ≡ kinds.Memory)
entry_told old here line kind none e f s h = inl (back_is old here line (Some kind) none e f s h)

pub entry_read : {S : Type 0} (Took : S → List Entry → S → Type 0) (sink sink' : S) (old here new : Reader) (line : Line) → front_fault old line ≡ None → None ≡ or_else (order_fault_here (so_far here.current) line) (entries_here here line) → ((s : Lines) → Reads old s → Reads here (before s line))
    → ((first : S) (s : Lines) → HandsOn Took first old sink s → HandsOn Took first here sink' (before s line)) → IsSoundLine line → (line ≡ blank → ⊥)
    → so_far new.current ≡ with_line (so_far here.current) line → new.keys ≡ here.keys → (first : S) (s : Lines) → HandsOn Took first old sink s → (fault_at limits s line ≡ None) × HandsOn Took first new sink' (after s line)
entry_read Took sink sink' old here new line none e f hands sound nb c ks first s h =
    let passes : order_fault_here (so_far here.current) line ≡ None = first_none (order_fault_here (so_far here.current) line) (entries_here here line) (sym e) in
    let now = hands first s h in
    (back_is old here line None none e f s h.reads, record { reads = added here new s line now.reads sound nb passes c ks; took = now.took })
  where
    first_none : (a b : Option FaultKind) → or_else a b ≡ None → a ≡ None
    first_none None b g = refl
    first_none (Some k) b g = cc

-- ---- the end of the text

end_none : (r : Reader) (s : Lines) → Reads r s → end_fault (so_far r.current) ≡ when (not (is_empty s.current) && not (has_form s.current)) kinds.Order
end_none r s h = by r.current.begun ∙ (λ i. when (h.current.begun i && not (form_is (so_far r.current) s.current h.current i)) kinds.Order)
  where
    by : (b : Bool) → cond b (when (not (is_form (draft_last (draft_of r.current.message)))) kinds.Order) None ≡ when (b && not (is_form (draft_last (draft_of r.current.message)))) kinds.Order
    by true = refl
    by false = refl

end_is : (r : Reader) (s : Lines) → Reads r s → fault_at_end s ≡ or_else (ended_here r true) (end_fault (so_far r.current))
unfolding fault_at_end
end_is r s h = sym (λ i. or_else (ended_is r s true h i) (end_none r s h i))

pub ended_told : (r : Reader) (kind : FaultKind) → (ended_here r true ≡ Some kind) ⊎ (kind ≡ kinds.Memory) → (s : Lines) → Reads r s → (fault_at_end s ≡ Some kind) ⊎ (kind ≡ kinds.Memory)
ended_told r kind (inl e) s h = inl (end_is r s h ∙ ap (λ (x : Option FaultKind). or_else x (end_fault (so_far r.current))) e)
ended_told r kind (inr m) s h = inr m

pub end_told : (r : Reader) (kind : FaultKind) → ended_here r true ≡ None → Some kind ≡ end_fault (so_far r.current) → (s : Lines) → Reads r s → (fault_at_end s ≡ Some kind) ⊎ (kind ≡ kinds.Memory)
end_told r kind none e s h = inl (end_is r s h ∙ ap (λ (x : Option FaultKind). or_else x (end_fault (so_far r.current))) none ∙ sym e)

end_passes : (r : Reader) → ended_here r true ≡ None → None ≡ end_fault (so_far r.current) → (s : Lines) → Reads r s → fault_at_end s ≡ None
end_passes r none e s h = end_is r s h ∙ ap (λ (x : Option FaultKind). or_else x (end_fault (so_far r.current))) none ∙ sym e

some_form : (s : Lines) → has_form s.current ≡ true → is_empty s.current ≡ false
some_form s f = by s.current f
  where
    by : (ls : List Line) → has_form ls ≡ true → is_empty ls ≡ false
    by [] g = cc
    by (l ∷ ls) g = refl

pub end_closed : {S : Type 0} (Took : S → List Entry → S → Type 0) → TakesMore S Took → (sink sink' : S) (r new : Reader) → ended_here r true ≡ None → None ≡ end_fault (so_far r.current) → IsHanded Took r new sink sink' → is_form (draft_last (draft_of r.current.message)) ≡ true
    → (first : S) (s : Lines) → HandsOn Took first r sink s → (fault_at_end s ≡ None) × Took first (map entry_of (groups_of s)) sink'
end_closed Took more sink sink' r new none e c f first s h =
    let some : is_empty s.current ≡ false = some_form s (sym (form_is (so_far r.current) s.current h.reads.current) ∙ f) in
    (end_passes r none e s h.reads, subst (λ (es : List Entry). Took first es sink') (ap (λ b. map entry_of (cond b s.whole (s.whole ++ s.current ∷ []))) (sym some)) (closed_hands Took more first sink sink' r new s h c f).took)

pub end_open : {S : Type 0} (Took : S → List Entry → S → Type 0) (sink : S) (r : Reader) → ended_here r true ≡ None → None ≡ end_fault (so_far r.current) → is_form (draft_last (draft_of r.current.message)) ≡ false
    → (first : S) (s : Lines) → HandsOn Took first r sink s → (fault_at_end s ≡ None) × Took first (map entry_of (groups_of s)) sink
end_open Took sink r none e f first s h =
    let begun : r.current.begun ≡ false = by r.current.begun (is_form (draft_last (draft_of r.current.message))) f (sym e) in
    let nothing : is_empty s.current ≡ true = flip (is_empty s.current) (sym h.reads.current.begun ∙ begun) in
    (end_passes r none e s h.reads, subst (λ (es : List Entry). Took first es sink) (ap (λ b. map entry_of (cond b s.whole (s.whole ++ s.current ∷ []))) (sym nothing)) h.took)
  where
    by : (b t : Bool) → t ≡ false → cond b (when (not t) kinds.Order) None ≡ None → b ≡ false
    by false t g k = refl
    by true true g k = cc
    by true false g k = cc

    flip : (b : Bool) → not b ≡ false → b ≡ true
    flip true g = refl
    flip false g = cc
