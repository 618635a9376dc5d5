-- A text spells at most one catalogue.
use Rattle.std.proofs.Common.{◌≡◌, ℕ, List, [], ◌∷◌, Bool, map, refl, sym, ◌∙◌, ap, Result, Ok, Err, not}
use Rattle.std.specs.List.{fold, filter, AllByRecursion, AllZip}
use Rattle.po_lex.specs.declared.fault.FaultKind.{FaultKind}
use Rattle.po_lex.specs.Lines.{Line}
use Rattle.po_text.specs.declared.entry.Entry.{Entry}
use Rattle.po_text.specs.Valid.{IsValidEntry}
use Rattle.po_read.specs.Spells.{Spells, SpellsEntry, is_blank}
use Rattle.po_read.specs.Faults.{after, no_lines}
use Rattle.po_read.specs.Plain.{groups_of, entry_of}
use Rattle.po_read.proofs.GroupLemmas.{HaveForms, one_cut}
use Rattle.po_read.proofs.EntryLemmas.{entry_read}

have_forms : (es : List Entry) → AllByRecursion IsValidEntry es → HaveForms es
have_forms [] h = tt
have_forms (e ∷ es) h = (h.0.some, have_forms es h.1)

pub entries_read : (groups : List (List Line)) (es : List Entry) → AllZip SpellsEntry groups es → map entry_of groups ≡ es
entries_read [] [] z = refl
entries_read [] (e ∷ es) z = absurd z
entries_read (g ∷ groups) [] z = absurd z
entries_read (g ∷ groups) (e ∷ es) z =
    let first : entry_of g ≡ e = entry_read g e z.0 in
    let others : map entry_of groups ≡ es = entries_read groups es z.1 in
    cc

-- the line, if there is one
abbrev values : List (Result Line FaultKind) → List Line
values [] = []
values (Ok line ∷ rest) = line ∷ values rest
values (Err kind ∷ rest) = values rest

values_back : (lines : List Line) → values (map Ok lines) ≡ lines
values_back [] = refl
values_back (line ∷ lines) = ap (λ ls. line ∷ ls) (values_back lines)

abbrev pub not_blank : Line → Bool
not_blank line = not (is_blank line)

-- the catalogue of these lines
abbrev pub of_lines : List Line → List Entry
of_lines lines = map entry_of (groups_of (fold after no_lines (filter not_blank lines)))

pub determined : (bytes : List ℕ) (c : List Entry) (s : Spells bytes c) → c ≡ of_lines s.lines
determined bytes c s =
    sym (entries_read s.groups c s.entries)
    ∙ ap (map entry_of) (sym (one_cut s.groups c s.entries (have_forms c s.valid.each)))
    ∙ ap (λ ls. map entry_of (groups_of (fold after no_lines ls))) s.cut

pub one_catalogue : (bytes : List ℕ) (a b : List Entry) → Spells bytes a → Spells bytes b → a ≡ b
one_catalogue bytes a b s t =
    let same : s.lines ≡ t.lines = sym (values_back s.lines) ∙ ap values (sym s.read ∙ t.read) ∙ values_back t.lines in
    determined bytes a s ∙ ap of_lines same ∙ sym (determined bytes b t)
