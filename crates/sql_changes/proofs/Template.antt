-- What the entries that are put into an empty table make of the template.
use Rattle.std.proofs.Common.{◌≡◌, inl, inr, ℕ, ◌+◌, ◌<◌, ℤ, pos, List, [], ◌∷◌, ◌++◌, map, true, Option, Some, None, unwrap_or, append-nil, refl, sym, ap, subst, ◌∙◌, arith, codes}
use Rattle.std.proofs.lemmas.Int.{ints}
use Rattle.std.proofs.lemmas.List.{append_assoc}
use Rattle.std.specs.Cmp.{int_cmp_total, int_cmp_is}
use Rattle.std.specs.Ordering.{int_cmp}
use Rattle.std.specs.declared.cmp.Ordering.TheVariants.{Greater}
use Rattle.std.specs.FinMap as maps
use Rattle.std.specs.FinMap.{int_cmp-IsAntisymmetric}
use Rattle.std.specs.FinMap.Entries.{by_order}
use Rattle.sqlite.specs.declared.types.Value.{Value}
use Rattle.sqlite.specs.declared.types.Value.TheVariants.{Int}
use Rattle.sqlite.specs.Order.{Row}
use Rattle.sqlite_trees.specs.View.{is_int}
use Rattle.sqlite_rules.specs.Lists.{Has}
use Rattle.sqlite_rules.proofs.ListLemmas.{has_either}
use Rattle.sqlite_rules.proofs.TableLemmas.{int_is}
use Rattle.sql_laws.specs.RowMaps.{map_of}
use Rattle.po_text.specs.declared.entry.Entry.{Entry}
use Rattle.po_text.specs.Texts.{Text}
use Rattle.units.specs.KeyTexts.{HasStrings}
use Rattle.units.specs.Projects.{IsTemplateEntry}
use Rattle.units.specs.Units.{key_of}
use Rattle.sql_columns.specs.Readings.{texts_read}
use Rattle.sql_columns.specs.Written.{texts_text}
use Rattle.sql_columns.proofs.Keys.{parts_of_text}
use Rattle.sql_columns.proofs.Readers.{texts_found}
use Rattle.sql_schema.specs.Keys.{row_number}
use Rattle.sql_schema.specs.Rows.{text_or_null}
use Rattle.sql_meaning.specs.Values.{integer_of, integer_at, text_or_null_at}
use Rattle.sql_meaning.specs.Meaning.{entry_of_row, template_in}
use Rattle.sql_meaning.proofs.Lookups.{AreOneKey, puts}
use Rattle.sql_meaning.proofs.RowsPut.{no_entries}
use Rattle.sql_changes.specs.Commits.{entry_row, PutsEntry, PutsEntries}
use Rattle.sql_changes.proofs.Changed.{Spares, spares_same, spares_both}
use Rattle.sql_schema.specs.Layouts.{NamedRows}
use Rattle.sql_meaning.specs.RowKeys.{AreOfficeRows}

-- ---- an entry reads back

texts_back : (ts : List Text) → unwrap_or (texts_read (texts_text ts)) [] ≡ ts
texts_back ts = ap (λ o. unwrap_or o []) (texts_found (texts_text ts) ts refl)

plural_back : (o : Option Text) → text_or_null_at 0 (text_or_null o ∷ []) ≡ o
plural_back None = refl
plural_back (Some t) = refl

pub entry_back : (place : ℕ) (entry : Entry) → HasStrings (key_of entry) → IsTemplateEntry entry → entry_of_row (entry_row place entry) ≡ entry
entry_back place entry strings plain =
    let key = parts_of_text (key_of entry) strings in
    let extracted = texts_back entry.extracted in
    let references = texts_back entry.references in
    let flags = texts_back entry.flags in
    let plural = plural_back entry.plural in
    λ i. record {
      translator = sym plain.uncommented i;
      extracted = extracted i;
      references = references i;
      flags = flags i;
      previous = sym plain.unchanged i;
      ctx = (key i).ctx;
      id = (key i).id;
      plural = plural i;
      forms = sym plain.unworked i;
      obsolete = sym plain.current i;
    }

none_left : (rows : List Row) → ((x : Row) → Has rows x → ⊥) → rows ≡ []
none_left [] none = refl
none_left (x ∷ rows) none = absurd (none x (inl refl))

-- ---- entries by their places

abbrev HasRowid : Row → Type 0
HasRowid row = is_int (row_number row) ≡ true

number_is : (v : Value) → is_int v ≡ true → v ≡ Int (integer_of v)
number_is v whole = let is = int_is v whole in is ∙ ap Int (sym (ap integer_of is))

by_rowid : AreOneKey row_number (integer_at 0) HasRowid
by_rowid = record {
  forth = λ r s reads_r reads_s e. ap integer_of e;
  back = λ r s reads_r reads_s e. number_is (row_number r) reads_r ∙ ap Int e ∙ sym (number_is (row_number s) reads_s);
}

abbrev pub ByPlace : Type 0
ByPlace = maps.FinMap int_cmp Entry

abbrev pub by_place : List Row → ByPlace
by_place rows = map_of int_cmp (integer_at 0) entry_of_row rows

abbrev pub numbered : ℕ → List Entry → List (ℤ × Entry)
numbered place [] = []
numbered place (e ∷ more) = (pos place, e) ∷ numbered (place + 1) more

-- each place is below this one
abbrev AreBelow : ℕ → List (ℤ × Entry) → Type 0
AreBelow place es = (e : ℤ × Entry) → Has es e → (n : ℕ) × (e.0 ≡ pos n) × (n < place)

-- one more place at the end
put_last : (place : ℕ) (entry : Entry) (es : List (ℤ × Entry)) → AreBelow place es → maps.put int_cmp (pos place) entry es ≡ es ++ (pos place, entry) ∷ []
put_last place entry [] below = refl
put_last place entry (e ∷ es) below =
    let it = below e (inl refl) in
    let less : it.0 < place = it.2 in
    let above : Greater ≡ int_cmp (pos place) (pos it.0) = int_cmp_is (pos place) (pos it.0) Greater (omega (arith, ints, less)) in
    ap (λ k. by_order (int_cmp (pos place) k) ((pos place, entry) ∷ e ∷ es) ((e.0, entry) ∷ es) (e ∷ maps.put int_cmp (pos place) entry es)) it.1
    ∙ ap (λ o. by_order o ((pos place, entry) ∷ e ∷ es) ((e.0, entry) ∷ es) (e ∷ maps.put int_cmp (pos place) entry es)) (sym above)
    ∙ ap (λ l. e ∷ l) (put_last place entry es (λ f there. below f (inr there)))

below_next : (place : ℕ) (entry : Entry) (es : List (ℤ × Entry)) → AreBelow place es → AreBelow (place + 1) (es ++ (pos place, entry) ∷ [])
below_next place entry es below e there = elim (has_either es ((pos place, entry) ∷ []) e there) [
  | inl before ↦ let it = below e before in let less : it.0 < place = it.2 in (it.0, it.1, omega (arith, less))
  | inr last ↦ elim last [ inl is ↦ (place, ap (λ (f : ℤ × Entry). f.0) is, omega arith) | inr none ↦ absurd none ]
]

pub numbered_values : (place : ℕ) (es : List Entry) → map (λ (e : ℤ × Entry). e.1) (numbered place es) ≡ es
numbered_values place [] = refl
numbered_values place (e ∷ more) = ap (λ rest. e ∷ rest) (numbered_values (place + 1) more)

-- ---- the table

-- one entry more
module _ (place : ℕ) (entry : Entry) (old new : NamedRows) (ready : AreOfficeRows old) (put : PutsEntry place entry old new) (plain : IsTemplateEntry entry) where
  has_rowid : HasRowid put.0.0.row
  has_rowid = ap (λ row. is_int (row_number row)) put.0.0.is_row

  inserted : by_place (new (codes "template")) ≡ maps.insert (by_place (old (codes "template"))) (pos place) entry
  inserted =
      puts row_number (integer_at 0) HasRowid int_cmp int_cmp_total int_cmp-IsAntisymmetric entry_of_row (old (codes "template")) (new (codes "template")) put.0.0.row (λ r there. ap is_int (ready.typed.entry_places r there)) has_rowid
      (λ r s in_r in_s e. ready.keyed.one_entry r s in_r in_s (ap integer_of e)) by_rowid put.0.0.put
      ∙ ap (λ row. maps.insert (by_place (old (codes "template"))) (integer_at 0 row) (entry_of_row row)) put.0.0.is_row
      ∙ ap (maps.insert (by_place (old (codes "template"))) (pos place)) (entry_back place entry put.1 plain)

  one_more : AreBelow place (maps.entries (by_place (old (codes "template"))))
      → maps.entries (by_place (new (codes "template"))) ≡ maps.entries (by_place (old (codes "template"))) ++ (pos place, entry) ∷ []
  one_more below =
      ap maps.entries inserted ∙ maps.entries-insert int_cmp_total (by_place (old (codes "template"))) (pos place) entry
      ∙ put_last place entry (maps.entries (by_place (old (codes "template")))) below

entries_put : (place : ℕ) (es : List Entry) (old new : NamedRows) → AreOfficeRows old → PutsEntries place es old new → ((e : Entry) → Has es e → IsTemplateEntry e)
    → AreBelow place (maps.entries (by_place (old (codes "template"))))
    → maps.entries (by_place (new (codes "template"))) ≡ maps.entries (by_place (old (codes "template"))) ++ numbered place es
entries_put place [] old new ready is plain below = ap (λ (d : NamedRows). maps.entries (by_place (d (codes "template")))) is ∙ sym (append-nil _)
entries_put place (e ∷ more) old new ready (mid, put, rest) plain below =
    let was = maps.entries (by_place (old (codes "template"))) in
    let now = one_more place e old mid ready put (plain e (inl refl)) below in
    let next : AreBelow (place + 1) (maps.entries (by_place (mid (codes "template")))) = subst (AreBelow (place + 1)) (sym now) (below_next place e was below) in
    entries_put (place + 1) more mid new put.0.1 rest (λ f there. plain f (inr there)) next
    ∙ ap (λ l. l ++ numbered (place + 1) more) now ∙ append_assoc was ((pos place, e) ∷ []) (numbered (place + 1) more)

pub template_put : (es : List Entry) (old new : NamedRows) → AreOfficeRows old → ((x : Row) → Has (old (codes "template")) x → ⊥) → PutsEntries 0 es old new
    → ((e : Entry) → Has es e → IsTemplateEntry e) → template_in new ≡ es
template_put es old new ready empty made plain =
    let none : maps.entries (by_place (old (codes "template"))) ≡ [] = ap (λ rows. maps.entries (by_place rows)) (none_left (old (codes "template")) empty) ∙ no_entries int_cmp Entry in
    let below : AreBelow 0 (maps.entries (by_place (old (codes "template")))) = subst (AreBelow 0) (sym none) (λ e there. absurd there) in
    ap (map (λ (e : ℤ × Entry). e.1)) (entries_put 0 es old new ready made plain below ∙ ap (λ l. l ++ numbered 0 es) none) ∙ numbered_values 0 es

pub entries_spare : (place : ℕ) (es : List Entry) (old new : NamedRows) → PutsEntries place es old new → Spares (codes "template") old new
entries_spare place [] old new is = spares_same (codes "template") old new is
entries_spare place (e ∷ more) old new (mid, put, rest) = spares_both (codes "template") old mid new put.0.0.others (entries_spare (place + 1) more mid new rest)

-- what entries leave is as a schema asks
pub entries_ready : (place : ℕ) (es : List Entry) (old new : NamedRows) → AreOfficeRows old → PutsEntries place es old new → AreOfficeRows new
entries_ready place [] old new ready is = subst AreOfficeRows (sym is) ready
entries_ready place (e ∷ more) old new ready (mid, put, rest) = entries_ready (place + 1) more mid new put.0.1 rest
