-- What the tests of each line keep: whole entries that make a valid catalogue, and an entry that may go on.
use Rattle.std.proofs.Common.{◌≡◌, ℕ, ◌<◌, ◌≤◌, List, [], ◌∷◌, Bool, true, false, not, ◌&&◌, cond, refl, sym, ◌∙◌, ap, subst, Option, Some, None}
use Rattle.std.specs.List.{list_any, AllByRecursion, AllZip}
use Rattle.std.proofs.lemmas.Bool.{false≢true}
use Rattle.po_lex.specs.declared.fault.FaultKind.{FaultKind}
use Rattle.po_lex.specs.declared.line.Keyword.{Keyword}
use Rattle.po_lex.specs.declared.line.Keyword.TheVariants.{Msgctxt, Msgid, MsgidPlural, Msgstr, MsgstrAt}
use Rattle.po_lex.specs.Lines.{Part, begins, continues, Line}
use Rattle.po_text.specs.Entries.{Key, entry_strings, previous_strings, is_header_key, same_key}
use Rattle.po_text.specs.Texts.{Text, is_empty}
use Rattle.po_text.specs.declared.entry.Entry.{Entry}
use Rattle.po_text.specs.Valid.{IsValid}
use Rattle.po_read.specs.Spells.{SpellsEntry, strings_of, Limits, besides_header}
use Rattle.po_read.specs.Faults.{Lines, key_in, key_at, has_header_key, key_fault, part_fault, count_of}
pub use Rattle.po_read.specs.Drafts.{draft_key}
use Rattle.po_read.proofs.Drafts.{Draft, nothing, context, named, counted, single, draft_strings, draft_last, draft_with, AreShort}
use Rattle.po_read.proofs.Partials.{Partial, strings_are, when_none, same_obsolete}
use Rattle.po_text.proofs.EntryLists.{or_false}
use Rattle.po_read.proofs.Sound.{IsSoundLine}

-- ---- keys

pub draft_key_is : (d : Draft) → key_in (draft_strings d) ≡ draft_key d
draft_key_is nothing = refl
draft_key_is (context ctx) = refl
draft_key_is (named None id) = refl
draft_key_is (named (Some ctx) id) = refl
draft_key_is (counted None id plural forms) = refl
draft_key_is (counted (Some ctx) id plural forms) = refl
draft_key_is (single None id form) = refl
draft_key_is (single (Some ctx) id form) = refl

-- a key that may stand behind these entries
abbrev pub IsNewKey : List (List Line) → Key → Bool → Type 0
IsNewKey whole key obsolete = (is_header_key key.0 key.1 ≡ true → (whole ≡ []) × (obsolete ≡ false)) × (list_any (λ lines. same_key (key_at lines) key) whole ≡ false)

-- the key has been tested
abbrev pub Settled : List (List Line) → Draft → Bool → Type 0
Settled whole (counted ctx id plural forms) obsolete = IsNewKey whole (ctx, id) obsolete × (is_header_key ctx id ≡ false)
Settled whole (single ctx id form) obsolete = IsNewKey whole (ctx, id) obsolete
Settled whole _ obsolete = Unit {0}

-- one more entry may stand behind these
abbrev pub Begun : ℕ → List (List Line) → Draft → Type 0
Begun most whole nothing = Unit {0}
Begun most whole (context ctx) = Unit {0}
Begun most whole _ = count_of whole < most

pub record Kept (most : Limits) (s : Lines) : Type 0 where
  pub entries : List Entry
  pub spelled : AllZip SpellsEntry s.whole entries
  pub valid : IsValid entries
  pub short : AllByRecursion (λ e. AreShort most.string (entry_strings e)) entries
  pub short_was : AllByRecursion (λ e. AreShort most.string (previous_strings e.previous)) entries
  pub few : besides_header entries ≤ most.entries
  pub current : Partial most.string s.current
  pub sound : AllByRecursion IsSoundLine s.current
  pub settled : Settled s.whole current.draft current.obsolete
  pub begun : Begun most.entries s.whole current.draft

-- ---- the tests of keys

empty_or_more : {A : Type 0} (xs : List A) → not (is_empty xs) ≡ false → xs ≡ []
empty_or_more [] h = refl
empty_or_more (x ∷ xs) h = cc

pub if_none : (b : Bool) (k : FaultKind) (x : Option FaultKind) → cond b (Some k) x ≡ None → (b ≡ false) × (x ≡ None)
if_none true k x h = cc
if_none false k x h = (refl, h)

pub and_false_right : (a b : Bool) → (a && b) ≡ false → a ≡ true → b ≡ false
and_false_right true b h e = h
and_false_right false b h e = cc

pub draft_none : (d : Draft) (parts : List Part) → strings_of parts ≡ draft_strings d → parts ≡ [] → is_empty (draft_strings d) ≡ true
draft_none d parts s none = ap is_empty (sym s) ∙ ap (λ ps. is_empty (strings_of ps)) none

pub new_key : (most : ℕ) (s : Lines) (p : Partial most s.current) (ctx : Option Text) (id : Text) → p.draft ≡ named ctx id → key_fault s ≡ None → IsNewKey s.whole (ctx, id) p.obsolete
new_key most s p ctx id d h =
    let key : key_at s.current ≡ (ctx, id) = ap key_in (strings_are most s.current p) ∙ draft_key_is p.draft ∙ ap draft_key d in
    let r = if_none _ _ _ h in
    let some : p.parts ≡ [] → ⊥ = λ none. named_some ctx id (ap (λ x. is_empty (draft_strings x)) (sym d) ∙ draft_none p.draft p.parts p.says.1 none) in (
      λ header.
          let here : has_header_key s.current ≡ true = ap (λ (k : Key). is_header_key k.0 k.1) key ∙ header in
          let both = or_false _ _ (and_false_right _ _ r.0 here) in
          (empty_or_more s.whole both.0, same_obsolete most s.current p false both.1 some),
      ap (λ (k : Key). list_any (λ lines. same_key (key_at lines) k) s.whole) (sym key) ∙ when_none _ _ r.1,
    )
  where
    named_some : (ctx : Option Text) (id : Text) → is_empty (draft_strings (named ctx id)) ≡ true → ⊥
    named_some None id e = false≢true e
    named_some (Some ctx) id e = false≢true e

-- ---- one more part

pub settle : (whole : List (List Line)) (d : Draft) (part : Part) (obsolete : Bool) → part_fault (draft_last d) (is_header_key (draft_key d).0 (draft_key d).1) part ≡ None → Settled whole d obsolete
    → ((ctx : Option Text) (id : Text) (k : Keyword) (text : Text) → d ≡ named ctx id → part ≡ begins k text → IsNewKey whole (ctx, id) obsolete) → Settled whole (draft_with d part) obsolete
settle whole nothing (continues text) o h s k = tt
settle whole (context ctx) (continues text) o h s k = tt
settle whole (named ctx id) (continues text) o h s k = tt
settle whole (counted ctx id plural []) (continues text) o h s k = s
settle whole (counted ctx id plural (form ∷ forms)) (continues text) o h s k = s
settle whole (single ctx id form) (continues text) o h s k = s
settle whole nothing (begins Msgctxt text) o h s k = tt
settle whole nothing (begins Msgid text) o h s k = tt
settle whole nothing (begins MsgidPlural text) o h s k = cc
settle whole nothing (begins Msgstr text) o h s k = cc
settle whole nothing (begins (MsgstrAt n) text) o h s k = cc
settle whole (context ctx) (begins Msgctxt text) o h s k = cc
settle whole (context ctx) (begins Msgid text) o h s k = tt
settle whole (context ctx) (begins MsgidPlural text) o h s k = cc
settle whole (context ctx) (begins Msgstr text) o h s k = cc
settle whole (context ctx) (begins (MsgstrAt n) text) o h s k = cc
settle whole (named ctx id) (begins Msgctxt text) o h s k = cc
settle whole (named ctx id) (begins Msgid text) o h s k = cc
settle whole (named ctx id) (begins MsgidPlural text) o h s k = (k ctx id MsgidPlural text refl refl, when_none _ _ h)
settle whole (named ctx id) (begins Msgstr text) o h s k = k ctx id Msgstr text refl refl
settle whole (named ctx id) (begins (MsgstrAt n) text) o h s k = cc
settle whole (counted ctx id plural forms) (begins Msgctxt text) o h s k = cc
settle whole (counted ctx id plural []) (begins Msgid text) o h s k = cc
settle whole (counted ctx id plural (form ∷ forms)) (begins Msgid text) o h s k = cc
settle whole (counted ctx id plural []) (begins MsgidPlural text) o h s k = cc
settle whole (counted ctx id plural (form ∷ forms)) (begins MsgidPlural text) o h s k = cc
settle whole (counted ctx id plural []) (begins Msgstr text) o h s k = cc
settle whole (counted ctx id plural (form ∷ forms)) (begins Msgstr text) o h s k = cc
settle whole (counted ctx id plural forms) (begins (MsgstrAt n) text) o h s k = s
settle whole (single ctx id form) (begins Msgctxt text) o h s k = cc
settle whole (single ctx id form) (begins Msgid text) o h s k = cc
settle whole (single ctx id form) (begins MsgidPlural text) o h s k = cc
settle whole (single ctx id form) (begins Msgstr text) o h s k = cc
settle whole (single ctx id form) (begins (MsgstrAt n) text) o h s k = cc

abbrev pub CountHere : ℕ → List (List Line) → Part → Type 0
CountHere most whole (begins Msgid text) = count_of whole < most
CountHere most whole _ = Unit {0}

pub begin : (most : ℕ) (whole : List (List Line)) (d : Draft) (part : Part) (header : Bool) → part_fault (draft_last d) header part ≡ None → Begun most whole d → CountHere most whole part → Begun most whole (draft_with d part)
begin most whole nothing (continues text) x h b c = tt
begin most whole (context ctx) (continues text) x h b c = tt
begin most whole (named ctx id) (continues text) x h b c = b
begin most whole (counted ctx id plural []) (continues text) x h b c = b
begin most whole (counted ctx id plural (form ∷ forms)) (continues text) x h b c = b
begin most whole (single ctx id form) (continues text) x h b c = b
begin most whole nothing (begins Msgctxt text) x h b c = tt
begin most whole nothing (begins Msgid text) x h b c = c
begin most whole nothing (begins MsgidPlural text) x h b c = cc
begin most whole nothing (begins Msgstr text) x h b c = cc
begin most whole nothing (begins (MsgstrAt n) text) x h b c = cc
begin most whole (context ctx) (begins Msgctxt text) x h b c = cc
begin most whole (context ctx) (begins Msgid text) x h b c = c
begin most whole (context ctx) (begins MsgidPlural text) x h b c = cc
begin most whole (context ctx) (begins Msgstr text) x h b c = cc
begin most whole (context ctx) (begins (MsgstrAt n) text) x h b c = cc
begin most whole (named ctx id) (begins Msgctxt text) x h b c = cc
begin most whole (named ctx id) (begins Msgid text) x h b c = cc
begin most whole (named ctx id) (begins MsgidPlural text) x h b c = b
begin most whole (named ctx id) (begins Msgstr text) x h b c = b
begin most whole (named ctx id) (begins (MsgstrAt n) text) x h b c = cc
begin most whole (counted ctx id plural forms) (begins Msgctxt text) x h b c = cc
begin most whole (counted ctx id plural []) (begins Msgid text) x h b c = cc
begin most whole (counted ctx id plural (form ∷ forms)) (begins Msgid text) x h b c = cc
begin most whole (counted ctx id plural []) (begins MsgidPlural text) x h b c = cc
begin most whole (counted ctx id plural (form ∷ forms)) (begins MsgidPlural text) x h b c = cc
begin most whole (counted ctx id plural []) (begins Msgstr text) x h b c = cc
begin most whole (counted ctx id plural (form ∷ forms)) (begins Msgstr text) x h b c = cc
begin most whole (counted ctx id plural forms) (begins (MsgstrAt n) text) x h b c = b
begin most whole (single ctx id form) (begins Msgctxt text) x h b c = cc
begin most whole (single ctx id form) (begins Msgid text) x h b c = cc
begin most whole (single ctx id form) (begins MsgidPlural text) x h b c = cc
begin most whole (single ctx id form) (begins Msgstr text) x h b c = cc
begin most whole (single ctx id form) (begins (MsgstrAt n) text) x h b c = cc

-- nothing is settled before there is a string
pub settled_yet : (whole : List (List Line)) (d : Draft) (obsolete : Bool) → is_empty (draft_strings d) ≡ true → Settled whole d obsolete
settled_yet whole nothing o e = tt
settled_yet whole (context ctx) o e = tt
settled_yet whole (named ctx id) o e = tt
settled_yet whole (counted None id plural forms) o e = absurd (false≢true e)
settled_yet whole (counted (Some ctx) id plural forms) o e = absurd (false≢true e)
settled_yet whole (single None id form) o e = absurd (false≢true e)
settled_yet whole (single (Some ctx) id form) o e = absurd (false≢true e)

-- a mark that the entry may have is its mark, or nothing is settled
pub settled_marked : (whole : List (List Line)) (d : Draft) (a b : Bool) → ((is_empty (draft_strings d) ≡ true → ⊥) → a ≡ b) → Settled whole d a → Settled whole d b
settled_marked whole nothing a b e s = tt
settled_marked whole (context ctx) a b e s = tt
settled_marked whole (named ctx id) a b e s = tt
settled_marked whole (counted None id plural forms) a b e s = subst (Settled whole (counted None id plural forms)) (e false≢true) s
settled_marked whole (counted (Some ctx) id plural forms) a b e s = subst (Settled whole (counted (Some ctx) id plural forms)) (e false≢true) s
settled_marked whole (single None id form) a b e s = subst (Settled whole (single None id form)) (e false≢true) s
settled_marked whole (single (Some ctx) id form) a b e s = subst (Settled whole (single (Some ctx) id form)) (e false≢true) s
