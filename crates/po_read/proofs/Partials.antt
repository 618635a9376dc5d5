-- Lines of an entry that may go on: what the tests of a line keep.
use Rattle.std.proofs.Common.{◌≡◌, ℕ, ◌≤◌, List, [], ◌∷◌, ◌++◌, Bool, true, false, not, ◌||◌, cond, map, length, refl, sym, ◌∙◌, ap, subst, Option, Some, None, is_some, append_assoc}
use Rattle.std.specs.Prelude.{flat_map}
use Rattle.std.specs.List.{filter_map, AllByRecursion}
use Rattle.std.proofs.lemmas.Bool.{ltb-false, false≢true}
use Rattle.std.proofs.lemmas.List.{append-nil}
use Rattle.std.proofs.lemmas.List.Sums.{fold-append}
use Rattle.std.proofs.lemmas.List.Elements.{filter_map-append}
use Rattle.po_lex.specs.declared.fault.FaultKind.{FaultKind}
use Rattle.po_lex.specs.Lines.{Part, begins, continues, Line, blank, translator, extracted, reference, flags, previous, message}
use Rattle.po_text.specs.Entries.{Keyed, previous_strings}
use Rattle.po_text.specs.Texts.{Text, is_empty}
use Rattle.po_text.specs.declared.entry.Previous.{Previous}
use Rattle.po_text.specs.Valid.{AllStrings}
use Rattle.po_read.specs.Spells.{add_part, strings_of, BeginsFirst, SpellsStrings, IsCommentOf, previous_part}
use Rattle.po_read.specs.Faults.{strings_in, previous_in, last_keyword, last_with, has_mark, same_mark, mark_of, or_else, when, goes_on, string_here, is_long, string_fault, part_fault, previous_fault}
use Rattle.po_read.proofs.GroupLemmas.{keys, begun, keys_of, messages_only, map_push}
use Rattle.po_read.proofs.EntryLemmas.{without}
use Rattle.po_read.proofs.Drafts.{Draft, nothing, draft_strings, draft_last, draft_last_is, draft_with, draft_step, IsPreviousPart, previous_step, AreShort, IfText, all_go_on}
use Rattle.po_text.proofs.EntryLists.{all_push, or_false, not_false}

pub record Partial (most : ℕ) (ls : List Line) : Type 0 where
  pub obsolete : Bool
  pub comments : List Line
  pub parts : List Part
  pub before : Previous
  pub draft : Draft
  pub cut : ls ≡ comments ++ map (message obsolete) parts
  pub marks : AllByRecursion (IsCommentOf obsolete) comments
  pub was : SpellsStrings (filter_map previous_part comments) (previous_strings before)
  pub says : SpellsStrings parts (draft_strings draft)
  pub short : AreShort most (draft_strings draft)
  pub short_was : AreShort most (previous_strings before)

pub strings_are : (most : ℕ) (ls : List Line) (p : Partial most ls) → strings_in ls ≡ draft_strings p.draft
strings_are most ls p = ap (λ l. strings_in l) p.cut ∙ ap strings_of (messages_only p.obsolete p.comments p.parts p.marks) ∙ p.says.1

pub before_are : (most : ℕ) (ls : List Line) (p : Partial most ls) → previous_in ls ≡ previous_strings p.before
before_are most ls p = ap (λ l. previous_in l) p.cut ∙ ap strings_of (without previous_part (λ _ _. refl) p.obsolete p.comments p.parts) ∙ p.was.1

-- ---- tests that pass

pub or_none : (a b : Option FaultKind) → or_else a b ≡ None → (a ≡ None) × (b ≡ None)
or_none None b h = (refl, h)
or_none (Some k) b h = cc

pub when_none : (b : Bool) (k : FaultKind) → when b k ≡ None → b ≡ false
when_none true k h = cc
when_none false k h = refl

pub nil_from_empty : {A : Type 0} (xs : List A) → is_empty xs ≡ true → xs ≡ []
nil_from_empty [] h = refl
nil_from_empty (x ∷ xs) h = cc

pub some_last : (strings : List Keyed) → is_some (last_keyword strings) ≡ true → is_empty strings ≡ false
some_last [] h = cc
some_last (s ∷ strings) h = refl

pub short_here : (most : ℕ) (ls : List Line) (line : Line) → string_fault most ls line ≡ None → IfText (string_here ls line) (λ text. length text ≤ most)
short_here most ls line h = by (string_here ls line) (when_none _ _ h)
  where
    by : (o : Option Text) → is_long most o ≡ false → IfText o (λ text. length text ≤ most)
    by None e = tt
    by (Some text) e = ltb-false most (length text) e

-- ---- parts

pub no_parts : (parts : List Part) (strings : List Keyed) → SpellsStrings parts strings → is_empty strings ≡ true → parts ≡ []
no_parts [] strings s e = refl
no_parts (continues text ∷ parts) strings s e = absurd s.0
no_parts (begins k text ∷ parts) strings s e =
    let none : strings_of (begins k text ∷ parts) ≡ [] = s.1 ∙ nil_from_empty strings e in
    let same : keys [] ≡ flat_map begun (begins k text ∷ parts) = sym (ap keys none) ∙ keys_of (begins k text ∷ parts) in
    cc

still_first : (parts : List Part) (part : Part) → BeginsFirst parts → (parts ≡ [] → BeginsFirst (part ∷ [])) → BeginsFirst (parts ++ part ∷ [])
still_first [] part b h = h refl
still_first (begins k text ∷ parts) part b h = tt
still_first (continues text ∷ parts) part b h = absurd b

pub spells_push : (parts : List Part) (part : Part) (strings more : List Keyed) → SpellsStrings parts strings → more ≡ add_part strings part → (is_empty strings ≡ true → BeginsFirst (part ∷ [])) → SpellsStrings (parts ++ part ∷ []) more
spells_push parts part strings more s e b =
    (still_first parts part s.0 (λ none. b (ap is_empty (sym s.1) ∙ ap (λ ps. is_empty (strings_of ps)) none)), fold-append add_part [] parts (part ∷ []) ∙ ap (λ t. add_part t part) s.1 ∙ sym e)

pub message_begins : (strings : List Keyed) (header : Bool) (part : Part) → part_fault (last_keyword strings) header part ≡ None → is_empty strings ≡ true → BeginsFirst (part ∷ [])
message_begins strings header (begins k text) h e = tt
message_begins strings header (continues text) h e = absurd (false≢true (sym (some_last strings (not_false _ (when_none _ _ h))) ∙ e))

pub before_begins : (strings : List Keyed) (part : Part) → previous_fault (last_keyword strings) part ≡ None → is_empty strings ≡ true → BeginsFirst (part ∷ [])
before_begins strings (begins k text) h e = tt
before_begins strings (continues text) h e = absurd (false≢true (sym (some_last strings (not_false _ (when_none _ _ h))) ∙ e))

pub message_short : (P : Text → Type 0) (ls : List Line) (m header : Bool) (part : Part) → has_mark (not m) ls ≡ false → part_fault (last_keyword (strings_in ls)) header part ≡ None → IfText (string_here ls (message m part)) P
    → AllStrings P (strings_in ls) → AllStrings P (add_part (strings_in ls) part)
message_short P ls m header (begins k text) hm h t all = all_push (λ (s : Keyed). P s.1) (strings_in ls) (k, text) all t
message_short P ls m header (continues text) hm h t all =
    let ne : is_empty (strings_in ls) ≡ false = some_last (strings_in ls) (not_false _ (when_none _ _ h)) in
    let g : goes_on ls (message m (continues text)) ≡ true = rw (hm, ne) refl in
    all_go_on P (strings_in ls) text all (subst (λ (b : Bool). IfText (cond b (last_with (strings_in ls) text) None) P) g t)

pub before_short : (P : Text → Type 0) (ls : List Line) (m : Bool) (part : Part) → has_mark (not m) ls ≡ false → is_empty (strings_in ls) ≡ true → previous_fault (last_keyword (previous_in ls)) part ≡ None → IfText (string_here ls (previous m part)) P
    → AllStrings P (previous_in ls) → AllStrings P (add_part (previous_in ls) part)
before_short P ls m (begins k text) hm em h t all = all_push (λ (s : Keyed). P s.1) (previous_in ls) (k, text) all t
before_short P ls m (continues text) hm em h t all =
    let ne : is_empty (previous_in ls) ≡ false = some_last (previous_in ls) (not_false _ (when_none _ _ h)) in
    let g : goes_on ls (previous m (continues text)) ≡ true = rw (hm, em, ne) refl in
    all_go_on P (previous_in ls) text all (subst (λ (b : Bool). IfText (cond b (last_with (previous_in ls) text) None) P) g t)

-- ---- marks

same_none : (o : Bool) → same_mark o None ≡ false
same_none true = refl
same_none false = refl

same_self : (o : Bool) → same_mark o (Some o) ≡ true
same_self true = refl
same_self false = refl

-- lines without their own mark may have either
marks_free : (o m : Bool) (comments : List Line) (parts : List Part) → AllByRecursion (IsCommentOf o) comments → has_mark o (comments ++ map (message o) parts) ≡ false → AllByRecursion (IsCommentOf m) comments × (parts ≡ [])
marks_free o m [] [] c h = (tt, refl)
marks_free o m [] (part ∷ parts) c h = absurd (false≢true (sym (or_false _ _ h).0 ∙ same_self o))
marks_free o m (blank ∷ comments) parts c h = absurd c.0
marks_free o m (translator text ∷ comments) parts c h = let r = marks_free o m comments parts c.1 (or_false _ _ h).1 in ((tt, r.0), r.1)
marks_free o m (extracted text ∷ comments) parts c h = let r = marks_free o m comments parts c.1 (or_false _ _ h).1 in ((tt, r.0), r.1)
marks_free o m (reference text ∷ comments) parts c h = let r = marks_free o m comments parts c.1 (or_false _ _ h).1 in ((tt, r.0), r.1)
marks_free o m (flags items ∷ comments) parts c h = let r = marks_free o m comments parts c.1 (or_false _ _ h).1 in ((tt, r.0), r.1)
marks_free o m (previous mark part ∷ comments) parts c h = absurd (false≢true (sym (or_false _ _ h).0 ∙ ap (λ (b : Bool). same_mark o (Some b)) c.0 ∙ same_self o))
marks_free o m (message mark part ∷ comments) parts c h = absurd c.0

pub remark : (o m : Bool) (comments : List Line) (parts : List Part) → AllByRecursion (IsCommentOf o) comments → has_mark (not m) (comments ++ map (message o) parts) ≡ false → AllByRecursion (IsCommentOf m) comments × (map (message o) parts ≡ map (message m) parts)
remark true true comments parts c h = (c, refl)
remark false false comments parts c h = (c, refl)
remark true false comments parts c h = let r = marks_free true false comments parts c h in (r.0, ap (map (message true)) r.1 ∙ sym (ap (map (message false)) r.1))
remark false true comments parts c h = let r = marks_free false true comments parts c h in (r.0, ap (map (message false)) r.1 ∙ sym (ap (map (message true)) r.1))

unfoldable pub marked : (most : ℕ) (ls : List Line) (p : Partial most ls) (m : Bool) → has_mark (not m) ls ≡ false → Partial most ls
marked most ls p m h =
    let r = remark p.obsolete m p.comments p.parts p.marks (ap (has_mark (not m)) (sym p.cut) ∙ h) in
    record p { obsolete = m; cut = p.cut ∙ ap (λ t. p.comments ++ t) r.1; marks = r.0 }

-- ---- one more line

-- behind no message lines
pub comments_end : (o : Bool) (ls comments : List Line) (parts : List Part) (line : Line) → ls ≡ comments ++ map (message o) parts → parts ≡ [] → ls ++ line ∷ [] ≡ (comments ++ line ∷ []) ++ map (message o) parts
comments_end o ls comments parts line cut none =
    let e : map (message o) parts ≡ [] = ap (map (message o)) none in
    ap (λ l. l ++ line ∷ []) (cut ∙ ap (λ t. comments ++ t) e ∙ append-nil comments) ∙ sym (ap (λ t. (comments ++ line ∷ []) ++ t) e ∙ append-nil (comments ++ line ∷ []))

pub none_yet : (most : ℕ) (ls : List Line) (p : Partial most ls) → is_empty (strings_in ls) ≡ true → p.parts ≡ []
none_yet most ls p h = no_parts p.parts (draft_strings p.draft) p.says (ap is_empty (sym (strings_are most ls p)) ∙ h)

unfoldable pub push_comment : (most : ℕ) (ls : List Line) (line : Line) → Partial most ls → ((o : Bool) → IsCommentOf o line) → previous_part line ≡ None → is_empty (strings_in ls) ≡ true → Partial most (ls ++ line ∷ [])
push_comment most ls line p c none h = record {
  obsolete = p.obsolete;
  comments = p.comments ++ line ∷ [];
  parts = p.parts;
  before = p.before;
  draft = p.draft;
  cut = comments_end p.obsolete ls p.comments p.parts line p.cut (none_yet most ls p h);
  marks = all_push (IsCommentOf p.obsolete) p.comments line p.marks (c p.obsolete);
  was = subst (λ ps. SpellsStrings ps (previous_strings p.before)) (sym (filter_map-append previous_part p.comments (line ∷ []) ∙ rw none (append-nil (filter_map previous_part p.comments)))) p.was;
  says = p.says;
  short = p.short;
  short_was = p.short_was;
}

unfoldable pub push_previous : (most : ℕ) (ls : List Line) (m : Bool) (part : Part) → Partial most ls → has_mark (not m) ls ≡ false → is_empty (strings_in ls) ≡ true → previous_fault (last_keyword (previous_in ls)) part ≡ None → IsPreviousPart part
    → IfText (string_here ls (previous m part)) (λ text. length text ≤ most) → Partial most (ls ++ previous m part ∷ [])
unfolding marked
push_previous most ls m part q hm em h n t =
    let p = marked most ls q m hm in
    let here : previous_in ls ≡ previous_strings p.before = before_are most ls p in
    let step = previous_step p.before part (ap (λ ss. previous_fault (last_keyword ss) part) (sym here) ∙ h) n in
    record {
      obsolete = m;
      comments = p.comments ++ previous m part ∷ [];
      parts = p.parts;
      before = step.0;
      draft = p.draft;
      cut = comments_end m ls p.comments p.parts (previous m part) p.cut (none_yet most ls p em);
      marks = all_push (IsCommentOf m) p.comments (previous m part) p.marks refl;
      was = subst (λ ps. SpellsStrings ps (previous_strings step.0)) (sym (filter_map-append previous_part p.comments (previous m part ∷ [])))
          (spells_push (filter_map previous_part p.comments) part (previous_strings p.before) (previous_strings step.0) p.was step.1 (before_begins (previous_strings p.before) part (ap (λ ss. previous_fault (last_keyword ss) part) (sym here) ∙ h)));
      says = p.says;
      short = p.short;
      short_was = subst (AreShort most) (ap (λ ss. add_part ss part) here ∙ sym step.1) (before_short (λ text. length text ≤ most) ls m part hm em h t (subst (AreShort most) (sym here) p.short_was));
    }

unfoldable pub push_message : (most : ℕ) (ls : List Line) (m header : Bool) (part : Part) → Partial most ls → has_mark (not m) ls ≡ false → part_fault (last_keyword (strings_in ls)) header part ≡ None
    → IfText (string_here ls (message m part)) (λ text. length text ≤ most) → Partial most (ls ++ message m part ∷ [])
unfolding marked
push_message most ls m header part q hm h t =
    let p = marked most ls q m hm in
    let here : strings_in ls ≡ draft_strings p.draft = strings_are most ls p in
    let last : last_keyword (strings_in ls) ≡ draft_last p.draft = ap last_keyword here ∙ draft_last_is p.draft in
    let step = draft_step p.draft header part (ap (λ k. part_fault k header part) (sym last) ∙ h) in
    record {
      obsolete = m;
      comments = p.comments;
      parts = p.parts ++ part ∷ [];
      before = p.before;
      draft = draft_with p.draft part;
      cut = ap (λ l. l ++ message m part ∷ []) p.cut ∙ append_assoc p.comments (map (message m) p.parts) (message m part ∷ []) ∙ ap (λ l. p.comments ++ l) (sym (map_push m p.parts part));
      marks = p.marks;
      was = p.was;
      says = spells_push p.parts part (draft_strings p.draft) (draft_strings (draft_with p.draft part)) p.says step (message_begins (draft_strings p.draft) header part (ap (λ ss. part_fault (last_keyword ss) header part) (sym here) ∙ h));
      short = subst (AreShort most) (ap (λ ss. add_part ss part) here ∙ sym step) (message_short (λ text. length text ≤ most) ls m header part hm h t (subst (AreShort most) (sym here) p.short));
      short_was = p.short_was;
    }

own_mark : (o : Bool) (comments : List Line) (part : Part) (parts : List Part) → has_mark o (comments ++ map (message o) (part ∷ parts)) ≡ true
own_mark o [] part parts = ap (λ b. b || has_mark o (map (message o) parts)) (same_self o)
own_mark o (line ∷ comments) part parts = ap (λ b. same_mark o (mark_of line) || b) (own_mark o comments part parts) ∙ or_true (same_mark o (mark_of line))
  where
    or_true : (b : Bool) → (b || true) ≡ true
    or_true true = refl
    or_true false = refl

-- where there is a message line, its mark is the entry's
pub same_obsolete : (most : ℕ) (ls : List Line) (p : Partial most ls) (m : Bool) → has_mark (not m) ls ≡ false → (p.parts ≡ [] → ⊥) → p.obsolete ≡ m
same_obsolete most ls p m h some = by p.obsolete m p.parts (ap (has_mark (not m)) (sym p.cut) ∙ h) some
  where
    by : (o m : Bool) (parts : List Part) → has_mark (not m) (p.comments ++ map (message o) parts) ≡ false → (parts ≡ [] → ⊥) → o ≡ m
    by true true parts h some = refl
    by false false parts h some = refl
    by o m [] h some = absurd (some refl)
    by true false (part ∷ parts) h some = absurd (false≢true (sym h ∙ own_mark true p.comments part parts))
    by false true (part ∷ parts) h some = absurd (false≢true (sym h ∙ own_mark false p.comments part parts))

unfoldable pub no_lines_yet : (most : ℕ) → Partial most []
no_lines_yet most = record {
  obsolete = false;
  comments = [];
  parts = [];
  before = record { ctx = None; id = None; plural = None };
  draft = nothing;
  cut = refl;
  marks = tt;
  was = (tt, refl);
  says = (tt, refl);
  short = tt;
  short_was = tt;
}
