-- What one row makes of the team, the policy, the template, the headers and the units that the tables stand for.
use Rattle.std.proofs.Common.{◌≡◌, inl, inr, ℤ, pos, List, [], ◌∷◌, length, map, filter, arith, Some, unwrap_or, refl, sym, ap, subst, ◌∙◌, codes}
use Rattle.std.specs.declared.cmp.Ordering.{Ordering}
use Rattle.std.specs.Cmp.{IsTotalOrder, int_cmp_total}
use Rattle.std.specs.Ordering.{int_cmp}
use Rattle.std.specs.FinMap as maps
use Rattle.std.specs.FinMap.{IsAntisymmetric, int_cmp-IsAntisymmetric}
use Rattle.sqlite.specs.declared.types.Value.TheVariants.{Int, Text as Words}
use Rattle.sqlite.specs.Order.{Row}
use Rattle.sqlite_rules.specs.Lists.{Has}
use Rattle.sql_laws.specs.RowMaps.{OneEach, IsPut, map_of}
use Rattle.sql_laws.proofs.RowMaps.{map_of-put, one_each_put}
use Rattle.po_text.specs.declared.entry.Entry.{Entry}
use Rattle.po_text.specs.Texts.{Text, text_cmp}
use Rattle.units.specs.KeyTexts.{HasStrings}
use Rattle.units.specs.Orders.{text_total, text_IsAntisymmetric}
use Rattle.units.specs.Units.{key_text}
use Rattle.units.specs.Openings.{plain_entry, closed_policy}
use Rattle.units.specs.declared.unit.Role.{Role}
use Rattle.units.specs.declared.unit.Role.TheVariants.{Guest, Translator, Reviewer, Manager}
use Rattle.units.specs.declared.unit.Unit.{Unit}
use Rattle.sql_columns.specs.Numbers.{role_number}
use Rattle.sql_columns.specs.Written.{ArePrevious, IsHeaderEntry, header_text}
use Rattle.sql_columns.proofs.Readers.{header_found}
use Rattle.sql_schema.specs.Keys.{text_at, first_text, first_texts, row_number, has_text, is_on_unit}
use Rattle.sql_schema.specs.Inside.{PutsIn, HoldsValues}
use Rattle.sql_meaning.specs.Cells.{unit_cells}
use Rattle.sql_meaning.specs.Values.{integer_at, role_at, texts_at, vote_at}
use Rattle.sql_meaning.specs.Meaning.{number_at, team_in, policy_of, policy_in, entry_of_row, template_in, header_of_row, headers_in, units_in, suggestions_in}
use Rattle.sql_meaning.proofs.UnitsKept.{unit_placed}
use Rattle.sql_schema.proofs.Layouts.{names_differ}
use Rattle.sql_schema.specs.Layouts.{NamedRows}

-- ---- the first row of a table

none_of_length : {A : Type 0} (xs : List A) → length xs ≡ 0 → xs ≡ []
none_of_length [] e = refl
none_of_length (x ∷ xs) e = absurd (omega arith)

pub no_entries : {K : Type 0} (R : K → K → Ordering) (X : Type 0) → maps.entries (maps.empty {X = X} {R = R}) ≡ []
no_entries R X = none_of_length _ (sym (maps.len-entries (maps.empty {X = X} {R = R})) ∙ maps.len-empty R X)

no_row : {A : Type 0} (old : List Row) (x : Row) → old ≡ [] → Has old x → A
no_row old x none there = absurd (subst (λ rows. Has rows x) none there)

module _ {K Q X : Type 0} (R : Q → Q → Ordering) (total : IsTotalOrder R) (same : IsAntisymmetric R) (key : Row → K) (place : Row → Q) (value : Row → X) where
  pub first_row : (old new : List Row) (row : Row) → old ≡ [] → IsPut key old new row → map_of R place value new ≡ maps.insert maps.empty (place row) (value row)
  first_row old new row none it = map_of-put R total same place value [] new row (λ r s in_r in_s e. absurd in_r) (record {
    only = λ x there. elim (it.only x there) [ inl is ↦ inl is | inr was ↦ no_row old x none was.0 ];
    here = it.here;
    kept = λ x there differ. absurd there;
  })

pub one_of_none : {K : Type 0} (key : Row → K) (rows : List Row) → rows ≡ [] → OneEach key rows
one_of_none key rows none r s in_r in_s e = no_row rows r none in_r

-- ---- team

role_back : (role : Role) (n : ℤ) → role_number role ≡ Some n → role_at 0 (Int n ∷ []) ≡ role
role_back Guest n e = absurd cc
role_back Translator n e = let is : pos 1 ≡ n = cc in ap (λ m. role_at 0 (Int m ∷ [])) (sym is)
role_back Reviewer n e = let is : pos 2 ≡ n = cc in ap (λ m. role_at 0 (Int m ∷ [])) (sym is)
role_back Manager n e = let is : pos 3 ≡ n = cc in ap (λ m. role_at 0 (Int m ∷ [])) (sym is)

module _ (old new : NamedRows) (name : Text) (role : Role) (n : ℤ) (written : role_number role ≡ Some n) (one : OneEach first_text (old (codes "team")))
    (made : PutsIn (codes "team") first_text (HoldsValues (Words name ∷ Int n ∷ [])) old new) where
  pub team_put : team_in new ≡ maps.insert (team_in old) name role
  team_put =
      map_of-put text_cmp text_total text_IsAntisymmetric first_text (role_at 2) (old (codes "team")) (new (codes "team")) made.row one made.put
      ∙ ap (λ row. maps.insert (team_in old) (first_text row) (role_at 2 row)) made.is_row.1
      ∙ ap (maps.insert (team_in old) name) (role_back role n written)

  pub one_member_each : OneEach first_text (new (codes "team"))
  one_member_each = one_each_put text_cmp text_total text_IsAntisymmetric first_text (role_at 2) (old (codes "team")) (new (codes "team")) made.row one made.put

-- ---- policy

pub policy_first : (old new : NamedRows) (cells : Row) → old (codes "policy") ≡ [] → integer_at 0 cells ≡ pos 1 → PutsIn (codes "policy") row_number (λ row. row ≡ cells) old new
    → policy_in new ≡ policy_of cells
policy_first old new cells none at_one made =
    ap (λ m. unwrap_or (maps.get m (pos 1)) closed_policy)
    (first_row int_cmp int_cmp_total int_cmp-IsAntisymmetric row_number (integer_at 0) policy_of (old (codes "policy")) (new (codes "policy")) made.row none made.put
    ∙ ap (λ row. maps.insert maps.empty (integer_at 0 row) (policy_of row)) made.is_row
    ∙ ap (λ k. maps.insert maps.empty k (policy_of cells)) at_one)
    ∙ ap (λ o. unwrap_or o closed_policy) (maps.get-insert int_cmp_total maps.empty (pos 1) (policy_of cells) (pos 1))

-- ---- template

pub template_first : (old new : NamedRows) (cells : Row) → old (codes "template") ≡ [] → PutsIn (codes "template") row_number (λ row. row ≡ cells) old new
    → template_in new ≡ entry_of_row cells ∷ []
template_first old new cells none made =
    ap maps.values
    (first_row int_cmp int_cmp_total int_cmp-IsAntisymmetric row_number (integer_at 0) entry_of_row (old (codes "template")) (new (codes "template")) made.row none made.put
    ∙ ap (λ row. maps.insert maps.empty (integer_at 0 row) (entry_of_row row)) made.is_row)
    ∙ only_value (integer_at 0 cells) (entry_of_row cells)
  where
    only_value : (k : ℤ) (v : Entry) → maps.values (maps.insert (maps.empty {X = Entry} {R = int_cmp}) k v) ≡ v ∷ []
    only_value k v = ap (λ es. map (λ (e : ℤ × Entry). e.1) es) (maps.entries-insert int_cmp_total maps.empty k v ∙ ap (maps.put int_cmp k v) (no_entries int_cmp Entry))

-- ---- language

pub header_put : (old new : NamedRows) (lang : Text) (header : Entry) (column rule : Text) → IsHeaderEntry header → column ≡ header_text header → OneEach first_text (old (codes "language"))
    → PutsIn (codes "language") first_text (HoldsValues (Words lang ∷ Words column ∷ Words rule ∷ [])) old new → headers_in new ≡ maps.insert (headers_in old) lang header
header_put old new lang header column rule fits written one made =
    map_of-put text_cmp text_total text_IsAntisymmetric first_text header_of_row (old (codes "language")) (new (codes "language")) made.row one made.put
    ∙ ap (λ row. maps.insert (headers_in old) (first_text row) (header_of_row row)) made.is_row.1
    ∙ ap (λ o. maps.insert (headers_in old) lang (unwrap_or o (plain_entry [] []))) (header_found column header fits written)

-- ---- unit

-- the row of a unit whose suggestions are those that stand there already
module _ (old new : NamedRows) (lang : Text) (unit : Unit) (strings : HasStrings unit.key) (previous : ArePrevious unit.previous)
    (suggested : suggestions_in old lang (key_text unit.key) ≡ unit.suggestions) (one : OneEach first_texts (old (codes "unit")))
    (made : PutsIn (codes "unit") first_texts (HoldsValues (unit_cells lang unit)) old new) where
  same_suggestions : new (codes "suggestion") ≡ old (codes "suggestion")
  same_suggestions = made.others (codes "suggestion") (names_differ refl)

  same_votes : new (codes "vote") ≡ old (codes "vote")
  same_votes = made.others (codes "vote") (names_differ refl)

  suggestions_still : (l k : Text) → suggestions_in new l k ≡ suggestions_in old l k
  suggestions_still l k = λ i.
      maps.values (map_of int_cmp (integer_at 4) (λ row. record {
        number = number_at 1 row;
        suggester = text_at 5 row;
        forms = texts_at 6 row;
        votes = map_of text_cmp (text_at 2) (vote_at 3) (filter (has_text 1 (text_at 1 row)) (same_votes i));
      }) (filter (is_on_unit l k) (same_suggestions i)))

  pub unit_put : units_in new ≡ maps.insert (units_in old) (lang, unit.key) unit
  unit_put =
      unit_placed old new lang unit made.row strings previous one made.is_row made.put (suggestions_still lang (key_text unit.key) ∙ suggested) (λ l k differ. suggestions_still l k)
