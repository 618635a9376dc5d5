-- The lines of an entry stay together.
use Rattle.std.proofs.Common.{◌≡◌, ℕ, ◌+◌, List, [], ◌∷◌, ◌++◌, Bool, true, false, ◌&&◌, map, refl, sym, ◌∙◌, ap, subst, append_assoc, Option, Some, None, ◌<◌, length, arith, ◌⊎◌, inl, inr}
use Rattle.std.specs.Prelude.{flat_map}
use Rattle.std.specs.List.{fold, filter_map, AllByRecursion, AllZip}
use Rattle.std.proofs.lemmas.List.{append-nil}
use Rattle.std.proofs.lemmas.List.Sums.{fold-append}
use Rattle.po_lex.specs.declared.line.Keyword.{Keyword}
use Rattle.po_lex.specs.declared.line.Keyword.TheVariants.{Msgctxt, Msgid, MsgidPlural, Msgstr, MsgstrAt}
use Rattle.po_lex.specs.Lines.{Part, begins, continues, Line, blank, translator, extracted, reference, flags, previous, message, is_form}
use Rattle.po_text.specs.Entries.{Keyed, entry_strings, optional, keyed_forms, numbered}
use Rattle.po_text.specs.Texts.{Text}
use Rattle.po_text.specs.declared.entry.Entry.{Entry}
use Rattle.po_read.specs.Spells.{go_on, add_part, strings_of, SpellsEntry, IsCommentOf, BeginsFirst}
use Rattle.po_read.specs.Plain.{groups_of}
use Rattle.po_text.proofs.EntryLists.{all_push}
use Rattle.po_read.specs.Faults.{Lines, message_part, strings_in, last_keyword, begins_entry, has_form, after, no_lines}

abbrev pub keys : List Keyed → List Keyword
keys strings = map (λ string. string.0) strings

abbrev pub begun : Part → List Keyword
begun (begins keyword text) = keyword ∷ []
begun (continues text) = []

keys_append : (a b : List Keyed) → keys (a ++ b) ≡ keys a ++ keys b
keys_append [] b = refl
keys_append (s ∷ a) b = ap (λ ks. s.0 ∷ ks) (keys_append a b)

keys_go_on : (strings : List Keyed) (more : Text) → keys (go_on strings more) ≡ keys strings
keys_go_on [] more = refl
keys_go_on (s ∷ []) more = refl
keys_go_on (s ∷ t ∷ strings) more = ap (λ ks. s.0 ∷ ks) (keys_go_on (t ∷ strings) more)

keys_add : (strings : List Keyed) (p : Part) → keys (add_part strings p) ≡ keys strings ++ begun p
keys_add strings (begins keyword text) = keys_append strings ((keyword, text) ∷ [])
keys_add strings (continues text) = keys_go_on strings text ∙ sym (append-nil (keys strings))

keys_fold : (strings : List Keyed) (ps : List Part) → keys (fold add_part strings ps) ≡ keys strings ++ flat_map begun ps
keys_fold strings [] = sym (append-nil (keys strings))
keys_fold strings (p ∷ ps) = keys_fold (add_part strings p) ps ∙ ap (λ ks. ks ++ flat_map begun ps) (keys_add strings p) ∙ append_assoc (keys strings) (begun p) (flat_map begun ps)

-- the keywords of strings are those that were begun
pub keys_of : (ps : List Part) → keys (strings_of ps) ≡ flat_map begun ps
keys_of ps = keys_fold [] ps

abbrev pub last_of : List Keyword → Option Keyword
last_of [] = None
last_of (k ∷ []) = Some k
last_of (k ∷ l ∷ ks) = last_of (l ∷ ks)

pub last_key : (strings : List Keyed) → last_keyword strings ≡ last_of (keys strings)
last_key [] = refl
last_key (s ∷ []) = refl
last_key (s ∷ t ∷ strings) = last_key (t ∷ strings)

-- ---- forms stand last

abbrev pub NoForms : List Keyword → Type 0
NoForms ks = AllByRecursion (λ k. is_form (Some k) ≡ false) ks

abbrev pub AllForms : List Keyword → Type 0
AllForms ks = AllByRecursion (λ k. is_form (Some k) ≡ true) ks

-- behind a form only forms stand
behind_forms : (front a f rest : List Keyword) (k : Keyword) → NoForms a → AllForms f → a ++ f ≡ front ++ k ∷ rest → is_form (last_of front) ≡ true → is_form (Some k) ≡ true
behind_forms [] a f rest k n all e h = cc
behind_forms (x ∷ []) [] [] rest k n all e h = cc
behind_forms (x ∷ []) [] (y ∷ []) rest k n all e h = cc
behind_forms (x ∷ []) [] (y ∷ z ∷ f) rest k n all e h = let same : z ≡ k = cc in subst (λ (u : Keyword). is_form (Some u) ≡ true) same all.1.0
behind_forms (x ∷ []) (y ∷ a) f rest k n all e h = let same : y ≡ x = cc in cc (n.0, h, ap (λ (u : Keyword). is_form (Some u)) same)
behind_forms (x ∷ y ∷ front) [] [] rest k n all e h = cc
behind_forms (x ∷ y ∷ front) [] (z ∷ f) rest k n all e h = behind_forms (y ∷ front) [] f rest k n all.1 (cc) h
behind_forms (x ∷ y ∷ front) (z ∷ a) f rest k n all e h = behind_forms (y ∷ front) a f rest k n.1 all (cc) h

forms_plain : (forms : List Text) → AllForms (keys (map (λ form. (Msgstr, form)) forms))
forms_plain [] = tt
forms_plain (form ∷ forms) = (refl, forms_plain forms)

forms_numbered : (n : ℕ) (forms : List Text) → AllForms (keys (numbered n forms))
forms_numbered n [] = tt
forms_numbered n (form ∷ forms) = (refl, forms_numbered (n + 1) forms)

forms_keyed : (plural : Option Text) (forms : List Text) → AllForms (keys (keyed_forms plural forms))
forms_keyed None forms = forms_plain forms
forms_keyed (Some plural) forms = forms_numbered 0 forms

-- the keywords in front of an entry's forms
abbrev pub front_keys : Option Text → Option Text → List Keyword
front_keys None None = Msgid ∷ []
front_keys None (Some plural) = Msgid ∷ MsgidPlural ∷ []
front_keys (Some ctx) None = Msgctxt ∷ Msgid ∷ []
front_keys (Some ctx) (Some plural) = Msgctxt ∷ Msgid ∷ MsgidPlural ∷ []

front_no_forms : (ctx plural : Option Text) → NoForms (front_keys ctx plural)
front_no_forms None None = (refl, tt)
front_no_forms None (Some plural) = (refl, (refl, tt))
front_no_forms (Some ctx) None = (refl, (refl, tt))
front_no_forms (Some ctx) (Some plural) = (refl, (refl, (refl, tt)))

pub entry_keys_of : (ctx plural : Option Text) (id : Text) (forms : List Text) → keys (optional Msgctxt ctx ++ ((Msgid, id) ∷ (optional MsgidPlural plural ++ keyed_forms plural forms))) ≡ front_keys ctx plural ++ keys (keyed_forms plural forms)
entry_keys_of None None id forms = refl
entry_keys_of None (Some plural) id forms = refl
entry_keys_of (Some ctx) None id forms = refl
entry_keys_of (Some ctx) (Some plural) id forms = refl

-- ---- the lines

pub messages_only : (obsolete : Bool) (comments : List Line) (ps : List Part) → AllByRecursion (IsCommentOf obsolete) comments → filter_map message_part (comments ++ map (message obsolete) ps) ≡ ps
messages_only obsolete [] [] h = refl
messages_only obsolete [] (p ∷ ps) h = ap (λ qs. p ∷ qs) (messages_only obsolete [] ps tt)
messages_only obsolete (blank ∷ comments) ps h = absurd h.0
messages_only obsolete (translator text ∷ comments) ps h = messages_only obsolete comments ps h.1
messages_only obsolete (extracted text ∷ comments) ps h = messages_only obsolete comments ps h.1
messages_only obsolete (reference text ∷ comments) ps h = messages_only obsolete comments ps h.1
messages_only obsolete (flags items ∷ comments) ps h = messages_only obsolete comments ps h.1
messages_only obsolete (previous mark part ∷ comments) ps h = messages_only obsolete comments ps h.1
messages_only obsolete (message mark part ∷ comments) ps h = absurd h.0

-- the entry so far has a form exactly where the last keyword is one
form_so_far : (obsolete : Bool) (comments : List Line) (ps : List Part) → AllByRecursion (IsCommentOf obsolete) comments → has_form (comments ++ map (message obsolete) ps) ≡ is_form (last_of (flat_map begun ps))
form_so_far obsolete comments ps h =
    ap (λ qs. is_form (last_keyword (strings_of qs))) (messages_only obsolete comments ps h)
    ∙ ap is_form (last_key (strings_of ps) ∙ ap last_of (keys_of ps))

pub begun_append : (ps qs : List Part) → flat_map begun (ps ++ qs) ≡ flat_map begun ps ++ flat_map begun qs
begun_append [] qs = refl
begun_append (p ∷ ps) qs = ap (λ ks. begun p ++ ks) (begun_append ps qs) ∙ sym (append_assoc (begun p) (flat_map begun ps) (flat_map begun qs))

pub map_push : (obsolete : Bool) (ps : List Part) (p : Part) → map (message obsolete) (ps ++ p ∷ []) ≡ map (message obsolete) ps ++ message obsolete p ∷ []
map_push obsolete [] p = refl
map_push obsolete (q ∷ ps) p = ap (λ ls. message obsolete q ∷ ls) (map_push obsolete ps p)

and_false : (b : Bool) → (b && false) ≡ false
and_false true = refl
and_false false = refl

after_same : (so_far : Lines) (line : Line) → (has_form so_far.current && begins_entry line) ≡ false → after so_far line ≡ record { whole = so_far.whole; current = so_far.current ++ line ∷ [] }
after_same so_far line e = rw e refl

-- what an entry's keywords are
pub record AreEntryKeys (ks : List Keyword) : Type 0 where
  pub front : List Keyword
  pub forms : List Keyword
  pub none : NoForms front
  pub all : AllForms forms
  pub cut : front ++ forms ≡ ks

-- a key's line doesn't follow a form
no_key_behind : (done more : List Part) (k : Keyword) (text : Text) → is_form (Some k) ≡ false → AreEntryKeys (flat_map begun (done ++ begins k text ∷ more)) → (b : Bool) → is_form (last_of (flat_map begun done)) ≡ b → b ≡ false
no_key_behind done more k text key h false e = refl
no_key_behind done more k text key h true e =
    let form : is_form (Some k) ≡ true = behind_forms (flat_map begun done) h.front h.forms (flat_map begun more) k h.none h.all (h.cut ∙ begun_append done (begins k text ∷ more)) e in
    cc

pub stays : (obsolete : Bool) (comments : List Line) (done more : List Part) (p : Part) → AllByRecursion (IsCommentOf obsolete) comments → AreEntryKeys (flat_map begun (done ++ p ∷ more))
    → (has_form (comments ++ map (message obsolete) done) && begins_entry (message obsolete p)) ≡ false
stays obsolete comments done more (continues text) c h = and_false _
stays obsolete comments done more (begins Msgctxt text) c h = ap (λ b. b && true) (form_so_far obsolete comments done c ∙ no_key_behind done more Msgctxt text refl h _ refl)
stays obsolete comments done more (begins Msgid text) c h = ap (λ b. b && true) (form_so_far obsolete comments done c ∙ no_key_behind done more Msgid text refl h _ refl)
stays obsolete comments done more (begins MsgidPlural text) c h = and_false _
stays obsolete comments done more (begins Msgstr text) c h = and_false _
stays obsolete comments done more (begins (MsgstrAt d) text) c h = and_false _

messages_stay : (whole : List (List Line)) (obsolete : Bool) (comments : List Line) (done more : List Part) → AllByRecursion (IsCommentOf obsolete) comments → AreEntryKeys (flat_map begun (done ++ more))
    → fold after (record { whole = whole; current = comments ++ map (message obsolete) done }) (map (message obsolete) more) ≡ record { whole = whole; current = comments ++ map (message obsolete) (done ++ more) }
messages_stay whole obsolete comments done [] c h = ap (λ ps. record { whole = whole; current = comments ++ map (message obsolete) ps }) (sym (append-nil done))
messages_stay whole obsolete comments done (p ∷ more) c h =
    ap (λ (s : Lines). fold after s (map (message obsolete) more))
    (after_same _ _ (stays obsolete comments done more p c h)
    ∙ ap (λ ls. record { whole = whole; current = ls }) (append_assoc comments (map (message obsolete) done) (message obsolete p ∷ []) ∙ ap (λ ls. comments ++ ls) (sym (map_push obsolete done p))))
    ∙ messages_stay whole obsolete comments (done ++ p ∷ []) more c (subst (λ ps. AreEntryKeys (flat_map begun ps)) (sym (append_assoc done (p ∷ []) more)) h)
    ∙ ap (λ ps. record { whole = whole; current = comments ++ map (message obsolete) ps }) (append_assoc done (p ∷ []) more)

pub no_form_yet : (obsolete : Bool) (comments : List Line) → AllByRecursion (IsCommentOf obsolete) comments → has_form comments ≡ false
no_form_yet obsolete comments c = ap has_form (sym (append-nil comments)) ∙ form_so_far obsolete comments [] c

comments_stay : (whole : List (List Line)) (obsolete : Bool) (done more : List Line) → AllByRecursion (IsCommentOf obsolete) done → AllByRecursion (IsCommentOf obsolete) more
    → fold after (record { whole = whole; current = done }) more ≡ record { whole = whole; current = done ++ more }
comments_stay whole obsolete done [] d m = ap (λ ls. record { whole = whole; current = ls }) (sym (append-nil done))
comments_stay whole obsolete done (line ∷ more) d m =
    ap (λ (s : Lines). fold after s more) (after_same _ _ (ap (λ b. b && begins_entry line) (no_form_yet obsolete done d)))
    ∙ comments_stay whole obsolete (done ++ line ∷ []) more (all_push (IsCommentOf obsolete) done line d m.0) m.1
    ∙ ap (λ ls. record { whole = whole; current = ls }) (append_assoc done (line ∷ []) more)

pub entry_keys : (e : Entry) (parts : List Part) → strings_of parts ≡ entry_strings e → AreEntryKeys (flat_map begun parts)
entry_keys e parts h = record {
  front = front_keys e.ctx e.plural;
  forms = keys (keyed_forms e.plural e.forms);
  none = front_no_forms e.ctx e.plural;
  all = forms_keyed e.plural e.forms;
  cut = sym (entry_keys_of e.ctx e.plural e.id e.forms) ∙ ap keys (sym h) ∙ keys_of parts;
}

-- the lines that spell an entry stay together, behind whole entries
pub entry_stays : (whole : List (List Line)) (lines : List Line) (e : Entry) → SpellsEntry lines e → fold after (record { whole = whole; current = [] }) lines ≡ record { whole = whole; current = lines }
entry_stays whole lines e s =
    ap (λ ls. fold after (record { whole = whole; current = [] }) ls) s.cut
    ∙ fold-append after (record { whole = whole; current = [] }) s.comments (map (message e.obsolete) s.parts)
    ∙ ap (λ (t : Lines). fold after t (map (message e.obsolete) s.parts)) (comments_stay whole e.obsolete [] s.comments tt s.marks ∙ ap (λ ls. record { whole = whole; current = ls }) (sym (append-nil s.comments)))
    ∙ messages_stay whole e.obsolete s.comments [] s.parts s.marks (entry_keys e s.parts s.messages.1)
    ∙ ap (λ ls. record { whole = whole; current = ls }) (sym s.cut)

-- ---- the next entry

-- the strings of a group that spells an entry are the entry's
pub strings_here : (lines : List Line) (e : Entry) → SpellsEntry lines e → strings_in lines ≡ entry_strings e
strings_here lines e s = ap (λ ls. strings_in ls) s.cut ∙ ap strings_of (messages_only e.obsolete s.comments s.parts s.marks) ∙ s.messages.1

forms_last : (a f : List Keyword) → AllForms f → (f ≡ [] → ⊥) → is_form (last_of (a ++ f)) ≡ true
forms_last [] [] all some = absurd (some refl)
forms_last [] (k ∷ []) all some = all.0
forms_last [] (k ∷ l ∷ f) all some = forms_last [] (l ∷ f) all.1 (λ e. cc)
forms_last (x ∷ []) [] all some = absurd (some refl)
forms_last (x ∷ []) (k ∷ f) all some = forms_last [] (k ∷ f) all some
forms_last (x ∷ y ∷ a) f all some = forms_last (y ∷ a) f all some

keyed_some : (plural : Option Text) (forms : List Text) → 0 < length forms → keys (keyed_forms plural forms) ≡ [] → ⊥
keyed_some None [] h e = absurd (omega arith)
keyed_some None (form ∷ forms) h e = cc
keyed_some (Some plural) [] h e = absurd (omega arith)
keyed_some (Some plural) (form ∷ forms) h e = cc

-- a group that spells an entry has a form
pub entry_has_form : (lines : List Line) (e : Entry) → SpellsEntry lines e → 0 < length e.forms → has_form lines ≡ true
entry_has_form lines e s some =
    ap (λ ss. is_form (last_keyword ss)) (strings_here lines e s)
    ∙ ap is_form (last_key (entry_strings e) ∙ ap last_of (entry_keys_of e.ctx e.plural e.id e.forms))
    ∙ forms_last (front_keys e.ctx e.plural) (keys (keyed_forms e.plural e.forms)) (forms_keyed e.plural e.forms) (keyed_some e.plural e.forms some)

comment_begins : (obsolete : Bool) (line : Line) → IsCommentOf obsolete line → begins_entry line ≡ true
comment_begins obsolete blank h = absurd h
comment_begins obsolete (translator text) h = refl
comment_begins obsolete (extracted text) h = refl
comment_begins obsolete (reference text) h = refl
comment_begins obsolete (flags items) h = refl
comment_begins obsolete (previous mark part) h = refl
comment_begins obsolete (message mark part) h = absurd h

-- the first of an entry's keywords is a key's
front_first : (ctx plural : Option Text) (rest more : List Keyword) (k : Keyword) → front_keys ctx plural ++ rest ≡ k ∷ more → (Msgid ≡ k) ⊎ (Msgctxt ≡ k)
front_first None None rest more k e = inl cc
front_first None (Some plural) rest more k e = inl cc
front_first (Some ctx) None rest more k e = inr cc
front_first (Some ctx) (Some plural) rest more k e = inr cc

front_some : (ctx plural : Option Text) (rest : List Keyword) → front_keys ctx plural ++ rest ≡ [] → ⊥
front_some None None rest e = cc
front_some None (Some plural) rest e = cc
front_some (Some ctx) None rest e = cc
front_some (Some ctx) (Some plural) rest e = cc

key_begins : (obsolete : Bool) (k : Keyword) (text : Text) → (Msgid ≡ k) ⊎ (Msgctxt ≡ k) → begins_entry (message obsolete (begins k text)) ≡ true
key_begins obsolete k text (inl e) = ap (λ (u : Keyword). begins_entry (message obsolete (begins u text))) (sym e)
key_begins obsolete k text (inr e) = ap (λ (u : Keyword). begins_entry (message obsolete (begins u text))) (sym e)

-- the first of these lines begins an entry
abbrev pub BeginsEntry : List Line → Type 0
BeginsEntry [] = ⊥
BeginsEntry (line ∷ lines) = begins_entry line ≡ true

first_line : (obsolete : Bool) (comments : List Line) (parts : List Part) (ctx plural : Option Text) (rest : List Keyword) → AllByRecursion (IsCommentOf obsolete) comments → BeginsFirst parts
    → front_keys ctx plural ++ rest ≡ flat_map begun parts → BeginsEntry (comments ++ map (message obsolete) parts)
first_line obsolete [] [] ctx plural rest c b e = absurd (front_some ctx plural rest e)
first_line obsolete [] (begins k text ∷ parts) ctx plural rest c b e = key_begins obsolete k text (front_first ctx plural rest (flat_map begun parts) k e)
first_line obsolete [] (continues text ∷ parts) ctx plural rest c b e = absurd b
first_line obsolete (line ∷ comments) parts ctx plural rest c b e = comment_begins obsolete line c.0

pub entry_begins : (lines : List Line) (e : Entry) → SpellsEntry lines e → BeginsEntry lines
unfolding entry_keys
entry_begins lines e s = subst BeginsEntry (sym s.cut)
    (first_line e.obsolete s.comments s.parts e.ctx e.plural (keys (keyed_forms e.plural e.forms)) s.marks s.messages.0 (entry_keys e s.parts s.messages.1).cut)

-- behind an entry that has a form, the next one's lines are a new group
begun_anew : (whole : List (List Line)) (prior lines : List Line) → has_form prior ≡ true → BeginsEntry lines → fold after (record { whole = whole; current = prior }) lines ≡ fold after (record { whole = whole ++ prior ∷ []; current = [] }) lines
begun_anew whole prior [] h b = absurd b
begun_anew whole prior (line ∷ lines) h b = rw (h, b) refl

-- each has at least one form
abbrev pub HaveForms : List Entry → Type 0
HaveForms es = AllByRecursion (λ e. 0 < length e.forms) es

groups_behind : (whole : List (List Line)) (prior : List Line) (groups : List (List Line)) (es : List Entry) → has_form prior ≡ true → AllZip SpellsEntry groups es → HaveForms es
    → groups_of (fold after (record { whole = whole; current = prior }) (flat_map (λ group. group) groups)) ≡ whole ++ prior ∷ groups
groups_behind whole [] [] [] h z f = cc
groups_behind whole (line ∷ prior) [] [] h z f = refl
groups_behind whole prior [] (e ∷ es) h z f = absurd z
groups_behind whole prior (g ∷ groups) [] h z f = absurd z
groups_behind whole prior (g ∷ groups) (e ∷ es) h z f =
    ap groups_of (fold-append after (record { whole = whole; current = prior }) g (flat_map (λ group. group) groups)
    ∙ ap (λ (s : Lines). fold after s (flat_map (λ group. group) groups)) (begun_anew whole prior g h (entry_begins g e z.0) ∙ entry_stays (whole ++ prior ∷ []) g e z.0))
    ∙ groups_behind (whole ++ prior ∷ []) g groups es (entry_has_form g e z.0 f.0) z.1 f.1
    ∙ append_assoc whole (prior ∷ []) (g ∷ groups)

-- However a text's lines are cut into groups that spell entries, it is the cut that the tests of faults make.
pub one_cut : (groups : List (List Line)) (es : List Entry) → AllZip SpellsEntry groups es → HaveForms es → groups_of (fold after no_lines (flat_map (λ group. group) groups)) ≡ groups
one_cut [] [] z f = refl
one_cut [] (e ∷ es) z f = absurd z
one_cut (g ∷ groups) [] z f = absurd z
one_cut (g ∷ groups) (e ∷ es) z f =
    ap groups_of (fold-append after no_lines g (flat_map (λ group. group) groups) ∙ ap (λ (s : Lines). fold after s (flat_map (λ group. group) groups)) (entry_stays [] g e z.0))
    ∙ groups_behind [] g groups es (entry_has_form g e z.0 f.0) z.1 f.1
