-- The entry that lines spell is the one that the plain reader makes of them.
use Rattle.std.proofs.Common.{◌≡◌, ℕ, ◌+◌, List, [], ◌∷◌, ◌++◌, Bool, true, false, ◌||◌, map, refl, sym, ◌∙◌, ap, Option, Some, None}
use Rattle.std.specs.Prelude.{flat_map}
use Rattle.std.specs.List.{filter_map, cons_option, AllByRecursion}
use Rattle.po_lex.specs.declared.line.Keyword.TheVariants.{Msgctxt, Msgid, MsgidPlural, Msgstr}
use Rattle.po_lex.specs.Lines.{Part, Line, blank, translator, extracted, reference, flags, previous, message}
use Rattle.po_text.specs.Entries.{previous_strings, optional, keyed_forms, numbered}
use Rattle.po_text.specs.Texts.{Text}
use Rattle.po_text.specs.declared.entry.Entry.{Entry}
use Rattle.po_read.specs.Spells.{strings_of, SpellsEntry, IsCommentOf, translator_text, extracted_text, reference_text, flag_items, flags_kept, previous_part}
use Rattle.po_read.specs.Faults.{strings_in, previous_in, key_in, key_at, has_mark, same_mark, mark_of}
use Rattle.po_read.specs.Plain.{string_with, forms_in, entry_of}
use Rattle.po_read.proofs.GroupLemmas.{strings_here}

-- ---- what is taken from comment lines isn't in message lines

pub without : {A : Type 0} (f : Line → Option A) → ((obsolete : Bool) (p : Part) → f (message obsolete p) ≡ None) → (obsolete : Bool) (comments : List Line) (ps : List Part) → filter_map f (comments ++ map (message obsolete) ps) ≡ filter_map f comments
without f none obsolete [] [] = refl
without f none obsolete [] (p ∷ ps) = rw (none obsolete p) (without f none obsolete [] ps)
without f none obsolete (line ∷ comments) ps = ap (cons_option (f line)) (without f none obsolete comments ps)

pub items_without : (obsolete : Bool) (comments : List Line) (ps : List Part) → flat_map flag_items (comments ++ map (message obsolete) ps) ≡ flat_map flag_items comments
items_without obsolete [] [] = refl
items_without obsolete [] (p ∷ ps) = items_without obsolete [] ps
items_without obsolete (line ∷ comments) ps = ap (λ items. flag_items line ++ items) (items_without obsolete comments ps)

-- ---- marks

other_marks : (comments : List Line) (ps : List Part) → AllByRecursion (IsCommentOf false) comments → has_mark true (comments ++ map (message false) ps) ≡ false
other_marks [] [] c = refl
other_marks [] (p ∷ ps) c = other_marks [] ps tt
other_marks (blank ∷ comments) ps c = absurd c.0
other_marks (translator text ∷ comments) ps c = other_marks comments ps c.1
other_marks (extracted text ∷ comments) ps c = other_marks comments ps c.1
other_marks (reference text ∷ comments) ps c = other_marks comments ps c.1
other_marks (flags items ∷ comments) ps c = other_marks comments ps c.1
other_marks (previous mark part ∷ comments) ps c = ap (λ b. b || has_mark true (comments ++ map (message false) ps)) (marked mark c.0) ∙ other_marks comments ps c.1
  where
    marked : (mark : Bool) → mark ≡ false → same_mark true (Some mark) ≡ false
    marked mark e = rw e refl
other_marks (message mark part ∷ comments) ps c = absurd c.0

or_true : (b : Bool) → (b || true) ≡ true
or_true true = refl
or_true false = refl

own_mark : (comments : List Line) (p : Part) (ps : List Part) → has_mark true (comments ++ map (message true) (p ∷ ps)) ≡ true
own_mark [] p ps = refl
own_mark (line ∷ comments) p ps = ap (λ b. same_mark true (mark_of line) || b) (own_mark comments p ps) ∙ or_true (same_mark true (mark_of line))

-- ---- strings

key_of_strings : (ctx plural : Option Text) (id : Text) (forms : List Text) → key_in (optional Msgctxt ctx ++ ((Msgid, id) ∷ (optional MsgidPlural plural ++ keyed_forms plural forms))) ≡ (ctx, id)
key_of_strings None plural id forms = refl
key_of_strings (Some ctx) plural id forms = refl

forms_of_plain : (forms : List Text) → forms_in (map (λ form. (Msgstr, form)) forms) ≡ forms
forms_of_plain [] = refl
forms_of_plain (form ∷ forms) = ap (λ fs. form ∷ fs) (forms_of_plain forms)

forms_of_numbered : (n : ℕ) (forms : List Text) → forms_in (numbered n forms) ≡ forms
forms_of_numbered n [] = refl
forms_of_numbered n (form ∷ forms) = ap (λ fs. form ∷ fs) (forms_of_numbered (n + 1) forms)

forms_of_strings : (ctx plural : Option Text) (id : Text) (forms : List Text) → forms_in (optional Msgctxt ctx ++ ((Msgid, id) ∷ (optional MsgidPlural plural ++ keyed_forms plural forms))) ≡ forms
forms_of_strings None None id forms = forms_of_plain forms
forms_of_strings None (Some plural) id forms = forms_of_numbered 0 forms
forms_of_strings (Some ctx) None id forms = forms_of_plain forms
forms_of_strings (Some ctx) (Some plural) id forms = forms_of_numbered 0 forms

no_plural : (forms : List Text) → string_with 3 (map (λ form. (Msgstr, form)) forms) ≡ None
no_plural [] = refl
no_plural (form ∷ forms) = no_plural forms

plural_of_strings : (ctx plural : Option Text) (id : Text) (forms : List Text) → string_with 3 (optional Msgctxt ctx ++ ((Msgid, id) ∷ (optional MsgidPlural plural ++ keyed_forms plural forms))) ≡ plural
plural_of_strings None None id forms = no_plural forms
plural_of_strings None (Some plural) id forms = refl
plural_of_strings (Some ctx) None id forms = no_plural forms
plural_of_strings (Some ctx) (Some plural) id forms = refl

previous_of_strings : (ctx id plural : Option Text) → let strings = optional Msgctxt ctx ++ (optional Msgid id ++ optional MsgidPlural plural) in
    (string_with 1 strings ≡ ctx) × ((string_with 2 strings ≡ id) × (string_with 3 strings ≡ plural))
previous_of_strings None None None = (refl, (refl, refl))
previous_of_strings None None (Some p) = (refl, (refl, refl))
previous_of_strings None (Some i) None = (refl, (refl, refl))
previous_of_strings None (Some i) (Some p) = (refl, (refl, refl))
previous_of_strings (Some c) None None = (refl, (refl, refl))
previous_of_strings (Some c) None (Some p) = (refl, (refl, refl))
previous_of_strings (Some c) (Some i) None = (refl, (refl, refl))
previous_of_strings (Some c) (Some i) (Some p) = (refl, (refl, refl))

-- ---- the entry

mark_is : (e : Entry) (comments : List Line) (parts : List Part) (obsolete : Bool) → AllByRecursion (IsCommentOf obsolete) comments → (parts ≡ [] → ⊥) → has_mark true (comments ++ map (message obsolete) parts) ≡ obsolete
mark_is e comments parts false c some = other_marks comments parts c
mark_is e comments [] true c some = absurd (some refl)
mark_is e comments (p ∷ parts) true c some = own_mark comments p parts

no_strings : (ctx plural : Option Text) (id : Text) (forms : List Text) → [] ≡ optional Msgctxt ctx ++ ((Msgid, id) ∷ (optional MsgidPlural plural ++ keyed_forms plural forms)) → ⊥
no_strings None plural id forms e = cc
no_strings (Some ctx) plural id forms e = cc

-- what spells an entry spells no other: it is the plain reader's
pub entry_read : (lines : List Line) (e : Entry) → SpellsEntry lines e → entry_of lines ≡ e
unfolding entry_of
entry_read lines e s =
    let strings = strings_here lines e s in
    let before : previous_in lines ≡ previous_strings e.previous =
    ap (λ ls. previous_in ls) s.cut ∙ ap strings_of (without previous_part (λ _ _. refl) e.obsolete s.comments s.parts) ∙ s.previous.1 in
    let was = previous_of_strings e.previous.ctx e.previous.id e.previous.plural in
    let some : s.parts ≡ [] → ⊥ = λ none. no_strings e.ctx e.plural e.id e.forms (ap strings_of (sym none) ∙ s.messages.1) in
    let e1 : filter_map translator_text lines ≡ e.translator = ap (filter_map translator_text) s.cut ∙ without translator_text (λ _ _. refl) e.obsolete s.comments s.parts ∙ s.translator in
    let e2 : filter_map extracted_text lines ≡ e.extracted = ap (filter_map extracted_text) s.cut ∙ without extracted_text (λ _ _. refl) e.obsolete s.comments s.parts ∙ s.extracted in
    let e3 : filter_map reference_text lines ≡ e.references = ap (filter_map reference_text) s.cut ∙ without reference_text (λ _ _. refl) e.obsolete s.comments s.parts ∙ s.references in
    let e4 : flags_kept (flat_map flag_items lines) ≡ e.flags = ap (λ ls. flags_kept (flat_map flag_items ls)) s.cut ∙ ap flags_kept (items_without e.obsolete s.comments s.parts) ∙ s.flags in
    let e5 : string_with 1 (previous_in lines) ≡ e.previous.ctx = ap (string_with 1) before ∙ was.0 in
    let e6 : string_with 2 (previous_in lines) ≡ e.previous.id = ap (string_with 2) before ∙ was.1.0 in
    let e7 : string_with 3 (previous_in lines) ≡ e.previous.plural = ap (string_with 3) before ∙ was.1.1 in
    let e8 : key_at lines ≡ (e.ctx, e.id) = ap key_in strings ∙ key_of_strings e.ctx e.plural e.id e.forms in
    let e9 : string_with 3 (strings_in lines) ≡ e.plural = ap (string_with 3) strings ∙ plural_of_strings e.ctx e.plural e.id e.forms in
    let e10 : forms_in (strings_in lines) ≡ e.forms = ap forms_in strings ∙ forms_of_strings e.ctx e.plural e.id e.forms in
    let e11 : has_mark true lines ≡ e.obsolete = ap (has_mark true) s.cut ∙ mark_is e s.comments s.parts e.obsolete s.marks some in
    rw (e1, e2, e3, e4, e5, e6, e7, e8, e9, e10, e11) refl

-- the key of what lines spell
pub key_read : (lines : List Line) (e : Entry) → SpellsEntry lines e → key_at lines ≡ (e.ctx, e.id)
key_read lines e s = ap key_in (strings_here lines e s) ∙ key_of_strings e.ctx e.plural e.id e.forms
