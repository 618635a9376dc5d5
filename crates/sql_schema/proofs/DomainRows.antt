-- The tables by domains, wherever a layout has them: what their columns of texts hold, and that rows of one key are one row.
use Rattle.std.proofs.Common.{◌≡◌, ℕ, ℤ, List, [], ◌∷◌, ◌++◌, ◌&&◌, true, codes, refl, ap, ◌∙◌}
use Rattle.std.proofs.lemmas.Bool.{and_parts, and_from}
use Rattle.std.specs.Ordering.{is_eq}
use Rattle.std.specs.Cmp.{eq_by_cmp_equiv}
use Rattle.sqlite.specs.declared.types.Value.{Value}
use Rattle.sqlite.specs.declared.types.Value.TheVariants.{Int}
use Rattle.sqlite.specs.Order.{Row, column, value_cmp}
use Rattle.sqlite_value.specs.Keys.{plain, first_key}
use Rattle.sqlite_value.proofs.OrderLemmas.{value_cmp_total}
use Rattle.sqlite_schema.specs.Rules.{agree}
use Rattle.sqlite_rules.specs.Edit.{id_in}
use Rattle.sqlite_rules.specs.Lists.{Has}
use Rattle.sqlite.specs.Effect.{Database, IsDatabase}
use Rattle.sql_laws.proofs.RowMaps.{text_ties_itself}
use Rattle.sql_laws.proofs.Comparisons.{ints_compared, agree-texts}
use Rattle.sql_schema.specs.Schema.{domain_table, d_template_table, d_language_table, d_unit_table, d_suggestion_table, d_vote_table, d_vote_sum_table, d_tally_table}
use Rattle.sql_schema.specs.Layouts.{by_domain, Layout, made_last, from_first, from_second, HasLayoutOf, rows_named}
use Rattle.sql_schema.specs.Keys.{text_at, key_texts, first_text, first_three, domain_place}
use Rattle.sql_schema.proofs.Layouts.{domain_placed, d_template_placed, d_language_placed, d_unit_placed, d_suggestion_placed, d_vote_placed, d_vote_sum_placed, d_tally_placed}
use Rattle.sql_schema.proofs.TextKeys.{IsKeyed, holds_text, holds_int, one_of_key}
use Rattle.sql_schema.proofs.TextLists.{AreTextsAt, HoldTexts, one_of_texts}
use Rattle.sql_schema.proofs.TableRows.{OneEachOver}

-- rows of one key are one row, in a database of an office by domains
abbrev pub OneEachOf : {K : Type 0} → List ℕ → (Row → K) → Type 0
OneEachOf = OneEachOver by_domain

-- a column holds integers
abbrev HoldsInts : List ℕ → ℕ → Type 0
HoldsInts name place = (db : Database) → HasLayoutOf by_domain db → IsDatabase db → (row : Row) → Has (rows_named db name) row → column row place ≡ Int (id_in (column row place))

-- a key of one text
one_text : (name : List ℕ) → OneEachOf name (key_texts (1 ∷ [])) → OneEachOf name first_text
one_text name one db has sound apart r s in_r in_s e = one db has sound apart r s in_r in_s (λ i. e i ∷ [])

-- ---- keys of texts and an integer

agree-ints : (r s : Row) (p : ℕ) (m n : ℤ) → column r p ≡ Int m → column s p ≡ Int n → agree plain (p ∷ []) r (p ∷ []) s ≡ (is_eq (value_cmp (Int m) (Int n)) && true)
unfolding first_key
agree-ints r s p m n of_r of_s = rw (of_r, of_s) (ap (λ b. b && true) (ints_compared (Int m) (Int n) refl refl))

-- rows of equal texts and one integer agree
pub agree_so : (places : List ℕ) (p : ℕ) (r s : Row) (m n : ℤ) → AreTextsAt places r → AreTextsAt places s → column r p ≡ Int m → column s p ≡ Int n → key_texts places r ≡ key_texts places s → m ≡ n
    → agree plain (places ++ p ∷ []) r (places ++ p ∷ []) s ≡ true
agree_so [] p r s m n in_r in_s of_r of_s texts same =
    agree-ints r s p m n of_r of_s ∙ and_from _ _ (rw same ((eq_by_cmp_equiv value_cmp_total).refl (Int n))) refl
agree_so (place ∷ places) p r s m n in_r in_s of_r of_s texts same =
    let first : text_at place r ≡ text_at place s = cc in
    let rest : key_texts places r ≡ key_texts places s = cc in
    let one : agree plain (place ∷ []) r (place ∷ []) s ≡ true =
    agree-texts r s place place (text_at place r) (text_at place s) in_r.0 in_s.0 ∙ and_from _ _ (rw first (text_ties_itself (text_at place s))) refl in
    and_from _ _ (and_parts _ _ one).0 (agree_so places p r s m n in_r.1 in_s.1 of_r of_s rest same)

-- ---- domain

pub domain_names : HoldTexts by_domain (codes "domain") (1 ∷ [])
domain_names = ((λ db has sound row there. holds_text domain_table domain_placed 0 (codes "name") refl db has sound row there refl), tt)

domain_keyed : (layout : Layout by_domain) → IsKeyed layout domain_table (1 ∷ [])
domain_keyed made_last = record { index = _; found = refl; order = refl }
domain_keyed from_first = record { index = _; found = refl; order = refl }
domain_keyed from_second = record { index = _; found = refl; order = refl }

pub one_domain : OneEachOf (codes "domain") (key_texts (1 ∷ []))
one_domain = one_of_texts domain_table domain_placed (1 ∷ []) domain_keyed domain_names

pub one_domain_name : OneEachOf (codes "domain") first_text
one_domain_name = one_text (codes "domain") one_domain

-- ---- d_language

pub d_language_texts : HoldTexts by_domain (codes "d_language") (1 ∷ 2 ∷ [])
d_language_texts = (
  (λ db has sound row there. holds_text d_language_table d_language_placed 0 (codes "domain") refl db has sound row there refl),
  (
    (λ db has sound row there. holds_text d_language_table d_language_placed 1 (codes "lang") refl db has sound row there refl),
    tt,
  ),
)

d_language_keyed : (layout : Layout by_domain) → IsKeyed layout d_language_table (1 ∷ 2 ∷ [])
d_language_keyed made_last = record { index = _; found = refl; order = refl }
d_language_keyed from_first = record { index = _; found = refl; order = refl }
d_language_keyed from_second = record { index = _; found = refl; order = refl }

pub one_d_language : OneEachOf (codes "d_language") (key_texts (1 ∷ 2 ∷ []))
one_d_language = one_of_texts d_language_table d_language_placed (1 ∷ 2 ∷ []) d_language_keyed d_language_texts

-- ---- d_template: the key of an entry in its domain

pub d_entry_texts : HoldTexts by_domain (codes "d_template") (1 ∷ 3 ∷ [])
d_entry_texts = (
  (λ db has sound row there. holds_text d_template_table d_template_placed 0 (codes "domain") refl db has sound row there refl),
  (
    (λ db has sound row there. holds_text d_template_table d_template_placed 2 (codes "key") refl db has sound row there refl),
    tt,
  ),
)

pub d_entry_places : HoldsInts (codes "d_template") 2
d_entry_places db has sound row there = holds_int d_template_table d_template_placed 1 (codes "place") refl db has sound row there refl

d_entry_keyed : (layout : Layout by_domain) → IsKeyed layout d_template_table (1 ∷ 3 ∷ [])
d_entry_keyed made_last = record { index = _; found = refl; order = refl }
d_entry_keyed from_first = record { index = _; found = refl; order = refl }
d_entry_keyed from_second = record { index = _; found = refl; order = refl }

pub one_d_entry : OneEachOf (codes "d_template") (key_texts (1 ∷ 3 ∷ []))
one_d_entry = one_of_texts d_template_table d_template_placed (1 ∷ 3 ∷ []) d_entry_keyed d_entry_texts

-- its place there
pub d_entry_place_keyed : (layout : Layout by_domain) → IsKeyed layout d_template_table (1 ∷ 2 ∷ [])
d_entry_place_keyed made_last = record { index = _; found = refl; order = refl }
d_entry_place_keyed from_first = record { index = _; found = refl; order = refl }
d_entry_place_keyed from_second = record { index = _; found = refl; order = refl }

pub one_d_entry_place : OneEachOf (codes "d_template") domain_place
one_d_entry_place db has sound apart r s in_r in_s e =
    let names : text_at 1 r ≡ text_at 1 s = ap (λ (p : List ℕ × Value). p.0) e in
    let place : column r 2 ≡ column s 2 = ap (λ (p : List ℕ × Value). p.1) e in
    one_of_key d_template_table d_template_placed (1 ∷ 2 ∷ []) d_entry_place_keyed db has sound apart r s in_r in_s
    (agree_so (1 ∷ []) 2 r s _ _ (d_entry_texts.0 db has sound r in_r, tt) (d_entry_texts.0 db has sound s in_s, tt) (d_entry_places db has sound r in_r) (d_entry_places db has sound s in_s)
    (λ i. names i ∷ []) (ap id_in place))

-- ---- d_unit

pub d_unit_texts : HoldTexts by_domain (codes "d_unit") (1 ∷ 2 ∷ 3 ∷ [])
d_unit_texts = (
  (λ db has sound row there. holds_text d_unit_table d_unit_placed 0 (codes "domain") refl db has sound row there refl),
  (
    (λ db has sound row there. holds_text d_unit_table d_unit_placed 1 (codes "lang") refl db has sound row there refl),
    (
      (λ db has sound row there. holds_text d_unit_table d_unit_placed 2 (codes "key") refl db has sound row there refl),
      tt,
    ),
  ),
)

d_unit_keyed : (layout : Layout by_domain) → IsKeyed layout d_unit_table (1 ∷ 2 ∷ 3 ∷ [])
d_unit_keyed made_last = record { index = _; found = refl; order = refl }
d_unit_keyed from_first = record { index = _; found = refl; order = refl }
d_unit_keyed from_second = record { index = _; found = refl; order = refl }

pub one_d_unit : OneEachOf (codes "d_unit") first_three
one_d_unit = one_of_texts d_unit_table d_unit_placed (1 ∷ 2 ∷ 3 ∷ []) d_unit_keyed d_unit_texts

-- ---- d_suggestion, d_vote, d_vote_sum

pub d_suggestion_texts : HoldTexts by_domain (codes "d_suggestion") (1 ∷ [])
d_suggestion_texts = ((λ db has sound row there. holds_text d_suggestion_table d_suggestion_placed 0 (codes "number") refl db has sound row there refl), tt)

d_suggestion_keyed : (layout : Layout by_domain) → IsKeyed layout d_suggestion_table (1 ∷ [])
d_suggestion_keyed made_last = record { index = _; found = refl; order = refl }
d_suggestion_keyed from_first = record { index = _; found = refl; order = refl }
d_suggestion_keyed from_second = record { index = _; found = refl; order = refl }

pub one_d_suggestion : OneEachOf (codes "d_suggestion") (key_texts (1 ∷ []))
one_d_suggestion = one_of_texts d_suggestion_table d_suggestion_placed (1 ∷ []) d_suggestion_keyed d_suggestion_texts

pub one_d_number : OneEachOf (codes "d_suggestion") first_text
one_d_number = one_text (codes "d_suggestion") one_d_suggestion

-- the unit of a suggestion, and its place there
pub d_suggestion_units : HoldTexts by_domain (codes "d_suggestion") (2 ∷ 3 ∷ 4 ∷ [])
d_suggestion_units = (
  (λ db has sound row there. holds_text d_suggestion_table d_suggestion_placed 1 (codes "domain") refl db has sound row there refl),
  (
    (λ db has sound row there. holds_text d_suggestion_table d_suggestion_placed 2 (codes "lang") refl db has sound row there refl),
    (
      (λ db has sound row there. holds_text d_suggestion_table d_suggestion_placed 3 (codes "key") refl db has sound row there refl),
      tt,
    ),
  ),
)

pub d_suggestion_places : HoldsInts (codes "d_suggestion") 5
d_suggestion_places db has sound row there = holds_int d_suggestion_table d_suggestion_placed 4 (codes "place") refl db has sound row there refl

pub d_suggestion_place_keyed : (layout : Layout by_domain) → IsKeyed layout d_suggestion_table (2 ∷ 3 ∷ 4 ∷ 5 ∷ [])
d_suggestion_place_keyed made_last = record { index = _; found = refl; order = refl }
d_suggestion_place_keyed from_first = record { index = _; found = refl; order = refl }
d_suggestion_place_keyed from_second = record { index = _; found = refl; order = refl }

pub d_vote_texts : HoldTexts by_domain (codes "d_vote") (1 ∷ 2 ∷ [])
d_vote_texts = (
  (λ db has sound row there. holds_text d_vote_table d_vote_placed 0 (codes "number") refl db has sound row there refl),
  (
    (λ db has sound row there. holds_text d_vote_table d_vote_placed 1 (codes "voter") refl db has sound row there refl),
    tt,
  ),
)

d_vote_keyed : (layout : Layout by_domain) → IsKeyed layout d_vote_table (1 ∷ 2 ∷ [])
d_vote_keyed made_last = record { index = _; found = refl; order = refl }
d_vote_keyed from_first = record { index = _; found = refl; order = refl }
d_vote_keyed from_second = record { index = _; found = refl; order = refl }

pub one_d_vote : OneEachOf (codes "d_vote") (key_texts (1 ∷ 2 ∷ []))
one_d_vote = one_of_texts d_vote_table d_vote_placed (1 ∷ 2 ∷ []) d_vote_keyed d_vote_texts

pub d_vote_sum_texts : HoldTexts by_domain (codes "d_vote_sum") (1 ∷ [])
d_vote_sum_texts = ((λ db has sound row there. holds_text d_vote_sum_table d_vote_sum_placed 0 (codes "number") refl db has sound row there refl), tt)

d_vote_sum_keyed : (layout : Layout by_domain) → IsKeyed layout d_vote_sum_table (1 ∷ [])
d_vote_sum_keyed made_last = record { index = _; found = refl; order = refl }
d_vote_sum_keyed from_first = record { index = _; found = refl; order = refl }
d_vote_sum_keyed from_second = record { index = _; found = refl; order = refl }

pub one_d_vote_sum : OneEachOf (codes "d_vote_sum") (key_texts (1 ∷ []))
one_d_vote_sum = one_of_texts d_vote_sum_table d_vote_sum_placed (1 ∷ []) d_vote_sum_keyed d_vote_sum_texts

pub one_d_sum : OneEachOf (codes "d_vote_sum") first_text
one_d_sum = one_text (codes "d_vote_sum") one_d_vote_sum

-- ---- d_tally

pub d_tally_texts : HoldTexts by_domain (codes "d_tally") (1 ∷ 2 ∷ [])
d_tally_texts = (
  (λ db has sound row there. holds_text d_tally_table d_tally_placed 0 (codes "domain") refl db has sound row there refl),
  (
    (λ db has sound row there. holds_text d_tally_table d_tally_placed 1 (codes "lang") refl db has sound row there refl),
    tt,
  ),
)

d_tally_keyed : (layout : Layout by_domain) → IsKeyed layout d_tally_table (1 ∷ 2 ∷ [])
d_tally_keyed made_last = record { index = _; found = refl; order = refl }
d_tally_keyed from_first = record { index = _; found = refl; order = refl }
d_tally_keyed from_second = record { index = _; found = refl; order = refl }

pub one_d_tally : OneEachOf (codes "d_tally") (key_texts (1 ∷ 2 ∷ []))
one_d_tally = one_of_texts d_tally_table d_tally_placed (1 ∷ 2 ∷ []) d_tally_keyed d_tally_texts
