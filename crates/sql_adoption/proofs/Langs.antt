-- The languages of rows, noted one after the other.
use Rattle.std.proofs.Common.{◌≡◌, inl, inr, ◌+◌, ◌<◌, ◌≤◌, ℕ, Bool, true, false, cond, List, [], ◌∷◌, ◌++◌, length, take, get_or, Some, is_some, refl, sym, ap, subst, ◌∙◌}
use Rattle.std.specs.Prelude.{Contains}
use Rattle.std.specs.List.{list_any}
use Rattle.std.specs.Ordering.{eq_by_cmp}
use Rattle.std.specs.Cmp.Lexicographic.{bytes_decides}
use Rattle.std.specs.FinMap as maps
use Rattle.std.proofs.lemmas.Bool.{false≢true}
use Rattle.std.proofs.lemmas.List.{take_all}
use Rattle.std.proofs.lemmas.List.Elements.{Contains-push, Contains-append_left, Contains-append_right}
use Rattle.sqlite.specs.Order.{Row}
use Rattle.sqlite_rules.specs.Lists.{Has}
use Rattle.sqlite_rules.proofs.ListLemmas.{some_has}
use Rattle.po_text.specs.Texts.{Text, text_cmp, text_eq}
use Rattle.po_text.specs.declared.entry.Entry.{Entry}
use Rattle.units.specs.Orders.{text_total}
use Rattle.office_specification.proofs.domains.InDomains.{equal_domains}
use Rattle.sql_schema.specs.Keys.{text_at}
use Rattle.sql_meaning.specs.Shown.{shown_header}
use Rattle.sql_meaning.specs.OfficeShown.{headers_shown}
use Rattle.sql_decoding.proofs.RowsSoFar.{one_more}
use Rattle.sql_adoption.specs.Reading.{NotesLang, NotesLangs}

contained : {X : Type 0} (xs : List X) (x : X) → Has xs x → Contains xs x
contained [] x there = absurd there
contained (y ∷ xs) x (inl same) = subst (Contains (y ∷ xs)) (sym same) (Contains-append_left (y ∷ []) xs y (Contains-push [] y))
contained (y ∷ xs) x (inr later) = Contains-append_right (y ∷ []) xs x (contained xs x later)

-- a language that was noted already, or is noted now
pub noted_before : (lang : Text) (langs new : List Text) → new ≡ langs → list_any (λ y. text_eq y lang) langs ≡ true → NotesLang lang langs new
noted_before lang langs new is known = subst (NotesLang lang langs) (sym is) (record {
  here =
      let it = some_has (λ y. text_eq y lang) langs known in
      contained langs lang (subst (Has langs) ((bytes_decides it.0 lang).0 it.2) it.1);
  kept = λ other there. there;
})

pub noted_now : (lang : Text) (langs new : List Text) → new ≡ langs ++ lang ∷ [] → NotesLang lang langs new
noted_now lang langs new is = subst (NotesLang lang langs) (sym is) (record { here = Contains-push langs lang; kept = Contains-append_left langs (lang ∷ []) })

-- ---- those of rows

pub none_noted : (rows : List Row) (langs : List Text) → NotesLangs (headers_shown (take 0 rows)) langs langs
none_noted rows langs = record { all = λ lang there. absurd (false≢true (sym (ap is_some (maps.get-empty {X = Entry} text_cmp lang)) ∙ there)); kept = λ other there. there }

module _ (rows : List Row) (i : ℕ) where
  pub lang_more : (row : Row) (first old new : List Text) (lang : Text) → i < length rows → row ≡ get_or rows i row → NotesLangs (headers_shown (take i rows)) first old
      → lang ≡ text_at 2 row → NotesLang lang old new → NotesLangs (headers_shown (take (i + 1) rows)) first new
  lang_more row first old new lang within is so_far same notes =
      subst (λ headers. NotesLangs headers first new) (sym put) (record { all = all_of; kept = λ other there. notes.kept other (so_far.kept other there) })
    where
      before : maps.FinMap text_cmp Entry
      before = headers_shown (take i rows)

      put : headers_shown (take (i + 1) rows) ≡ maps.insert before (text_at 2 row) (shown_header row)
      put = one_more rows i row within is (λ (m : maps.FinMap text_cmp Entry) r. maps.insert m (text_at 2 r) (shown_header r)) maps.empty

      all_of : (other : Text) → maps.contains_key (maps.insert before (text_at 2 row) (shown_header row)) other ≡ true → Contains new other
      all_of other there = by (eq_by_cmp text_cmp other (text_at 2 row)) refl (sym (ap is_some (maps.get-insert text_total before (text_at 2 row) (shown_header row) other)) ∙ there)
        where
          by : (t : Bool) → eq_by_cmp text_cmp other (text_at 2 row) ≡ t → is_some (cond t (Some (shown_header row)) (maps.get before other)) ≡ true → Contains new other
          by true t h = subst (Contains new) (same ∙ sym (equal_domains other (text_at 2 row) t)) notes.here
          by false t h = notes.kept other (so_far.all other h)

  pub all_langs : (first langs : List Text) → length rows ≤ i → NotesLangs (headers_shown (take i rows)) first langs → NotesLangs (headers_shown rows) first langs
  all_langs first langs past so_far = subst (λ rs. NotesLangs (headers_shown rs) first langs) (take_all i rows past) so_far
