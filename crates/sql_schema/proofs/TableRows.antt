-- The tables of an office, wherever a layout has them: what their columns of texts hold, and that rows of one key are one row.
use Rattle.std.proofs.Common.{◌≡◌, ℕ, ℤ, List, [], ◌∷◌, ◌&&◌, codes, Bool, true, refl, ◌∙◌}
use Rattle.std.proofs.lemmas.Bool.{and_from}
use Rattle.std.specs.Ordering.{is_eq, nat_cmp}
use Rattle.std.specs.Cmp.{eq_by_cmp_equiv}
use Rattle.std.specs.Cmp.Lexicographic.{slice_cmp}
use Rattle.sqlite.specs.declared.types.Value.TheVariants.{Int, Text}
use Rattle.sqlite.specs.Order.{Row, column, value_cmp}
use Rattle.sqlite_value.specs.Keys.{plain, first_key}
use Rattle.sqlite_value.proofs.OrderLemmas.{value_cmp_total}
use Rattle.sqlite_schema.specs.Rules.{agree}
use Rattle.sqlite_rules.specs.Edit.{id_in}
use Rattle.sqlite_rules.specs.Lists.{Has}
use Rattle.sqlite.specs.Effect.{Database, IsDatabase}
use Rattle.sql_laws.specs.RowMaps.{OneEach}
use Rattle.sql_laws.specs.ApartRows.{AreApart}
use Rattle.sql_laws.proofs.Comparisons.{texts_compared, ints_compared, agree-texts}
use Rattle.sql_laws.proofs.RowMaps.{text_ties_itself}
use Rattle.sql_schema.specs.Schema.{record_table, team_table, template_table, language_table, unit_table, suggestion_table, vote_table, vote_sum_table}
use Rattle.sql_schema.specs.Layouts.{Form, for_main, Layout, made_new, made_second, made_last, from_first, from_second, HasLayoutOf, rows_named}
use Rattle.sql_schema.specs.Keys.{text_at, first_text, first_texts, second_text}
use Rattle.sql_schema.proofs.Layouts.{record_placed, team_placed, template_placed, language_placed, unit_placed, suggestion_placed, vote_placed, vote_sum_placed}
use Rattle.sql_schema.proofs.TextKeys.{HoldsTextsOf, IsKeyed, holds_text, holds_int, one_of_key, one_first_text, one_first_texts}

-- rows of one key are one row, in a database of an office
abbrev pub OneEachOver : {K : Type 0} → Form → List ℕ → (Row → K) → Type 0
OneEachOver form name key = (db : Database) → HasLayoutOf form db → IsDatabase db → AreApart (rows_named db name) → OneEach key (rows_named db name)

-- ---- record

pub record_numbers : {form : Form} → HoldsTextsOf form (codes "record") 1
record_numbers db has sound row there = holds_text record_table record_placed 0 (codes "number") refl db has sound row there refl

pub record_keyed : {form : Form} (layout : Layout form) → IsKeyed layout record_table (1 ∷ [])
record_keyed made_new = record { index = _; found = refl; order = refl }
record_keyed made_second = record { index = _; found = refl; order = refl }
record_keyed made_last = record { index = _; found = refl; order = refl }
record_keyed from_first = record { index = _; found = refl; order = refl }
record_keyed from_second = record { index = _; found = refl; order = refl }

pub one_record : {form : Form} → OneEachOver form (codes "record") first_text
one_record db has sound apart = one_first_text record_table record_placed record_keyed db has sound apart (record_numbers db has sound)

-- ---- team

pub member_names : {form : Form} → HoldsTextsOf form (codes "team") 1
member_names db has sound row there = holds_text team_table team_placed 0 (codes "name") refl db has sound row there refl

pub team_keyed : {form : Form} (layout : Layout form) → IsKeyed layout team_table (1 ∷ [])
team_keyed made_new = record { index = _; found = refl; order = refl }
team_keyed made_second = record { index = _; found = refl; order = refl }
team_keyed made_last = record { index = _; found = refl; order = refl }
team_keyed from_first = record { index = _; found = refl; order = refl }
team_keyed from_second = record { index = _; found = refl; order = refl }

pub one_member : {form : Form} → OneEachOver form (codes "team") first_text
one_member db has sound apart = one_first_text team_table team_placed team_keyed db has sound apart (member_names db has sound)

-- ---- template

pub entry_keys : {figures : Bool} → HoldsTextsOf (for_main figures) (codes "template") 2
entry_keys db has sound row there = holds_text template_table template_placed 1 (codes "key") refl db has sound row there refl

pub entry_keyed : {figures : Bool} (layout : Layout (for_main figures)) → IsKeyed layout template_table (2 ∷ [])
entry_keyed made_new = record { index = _; found = refl; order = refl }
entry_keyed made_second = record { index = _; found = refl; order = refl }

-- a place is a row's number, and a key is one entry's too
pub one_entry : {figures : Bool} → OneEachOver (for_main figures) (codes "template") second_text
one_entry db has sound apart r s in_r in_s e =
    one_of_key template_table template_placed (2 ∷ []) entry_keyed db has sound apart r s in_r in_s
    (agree-texts r s 2 2 (second_text r) (second_text s) (entry_keys db has sound r in_r) (entry_keys db has sound s in_s) ∙ and_from _ _ (rw e (text_ties_itself (second_text s))) refl)

-- ---- language

pub language_codes : {figures : Bool} → HoldsTextsOf (for_main figures) (codes "language") 1
language_codes db has sound row there = holds_text language_table language_placed 0 (codes "lang") refl db has sound row there refl

pub language_keyed : {figures : Bool} (layout : Layout (for_main figures)) → IsKeyed layout language_table (1 ∷ [])
language_keyed made_new = record { index = _; found = refl; order = refl }
language_keyed made_second = record { index = _; found = refl; order = refl }

pub one_language : {figures : Bool} → OneEachOver (for_main figures) (codes "language") first_text
one_language db has sound apart = one_first_text language_table language_placed language_keyed db has sound apart (language_codes db has sound)

-- ---- unit

pub unit_langs : {figures : Bool} → HoldsTextsOf (for_main figures) (codes "unit") 1
unit_langs db has sound row there = holds_text unit_table unit_placed 0 (codes "lang") refl db has sound row there refl

pub unit_keys : {figures : Bool} → HoldsTextsOf (for_main figures) (codes "unit") 2
unit_keys db has sound row there = holds_text unit_table unit_placed 1 (codes "key") refl db has sound row there refl

pub unit_keyed : {figures : Bool} (layout : Layout (for_main figures)) → IsKeyed layout unit_table (1 ∷ 2 ∷ [])
unit_keyed made_new = record { index = _; found = refl; order = refl }
unit_keyed made_second = record { index = _; found = refl; order = refl }

pub one_unit : {figures : Bool} → OneEachOver (for_main figures) (codes "unit") first_texts
one_unit db has sound apart = one_first_texts unit_table unit_placed unit_keyed db has sound apart (unit_langs db has sound) (unit_keys db has sound)

-- ---- suggestion

pub suggestion_numbers : {figures : Bool} → HoldsTextsOf (for_main figures) (codes "suggestion") 1
suggestion_numbers db has sound row there = holds_text suggestion_table suggestion_placed 0 (codes "number") refl db has sound row there refl

pub suggestion_langs : {figures : Bool} → HoldsTextsOf (for_main figures) (codes "suggestion") 2
suggestion_langs db has sound row there = holds_text suggestion_table suggestion_placed 1 (codes "lang") refl db has sound row there refl

pub suggestion_keys : {figures : Bool} → HoldsTextsOf (for_main figures) (codes "suggestion") 3
suggestion_keys db has sound row there = holds_text suggestion_table suggestion_placed 2 (codes "key") refl db has sound row there refl

pub suggestion_keyed : {figures : Bool} (layout : Layout (for_main figures)) → IsKeyed layout suggestion_table (1 ∷ [])
suggestion_keyed made_new = record { index = _; found = refl; order = refl }
suggestion_keyed made_second = record { index = _; found = refl; order = refl }

pub one_suggestion : {figures : Bool} → OneEachOver (for_main figures) (codes "suggestion") first_text
one_suggestion db has sound apart = one_first_text suggestion_table suggestion_placed suggestion_keyed db has sound apart (suggestion_numbers db has sound)

pub suggestion_places : {figures : Bool} (db : Database) → HasLayoutOf (for_main figures) db → IsDatabase db → (row : Row) → Has (rows_named db (codes "suggestion")) row → column row 4 ≡ Int (id_in (column row 4))
suggestion_places db has sound row there = holds_int suggestion_table suggestion_placed 3 (codes "place") refl db has sound row there refl

pub suggestion_place_keyed : {figures : Bool} (layout : Layout (for_main figures)) → IsKeyed layout suggestion_table (2 ∷ 3 ∷ 4 ∷ [])
suggestion_place_keyed made_new = record { index = _; found = refl; order = refl }
suggestion_place_keyed made_second = record { index = _; found = refl; order = refl }

-- two texts and an integer agree where they are equal
agree_three : (r s : Row) (a b p q : List ℕ) (m n : ℤ) → column r 2 ≡ Text a → column s 2 ≡ Text b → column r 3 ≡ Text p → column s 3 ≡ Text q
    → column r 4 ≡ Int m → column s 4 ≡ Int n
    → agree plain (2 ∷ 3 ∷ 4 ∷ []) r (2 ∷ 3 ∷ 4 ∷ []) s
    ≡ (is_eq (slice_cmp nat_cmp a b) && (is_eq (slice_cmp nat_cmp p q) && (is_eq (value_cmp (Int m) (Int n)) && true)))
unfolding first_key
agree_three r s a b p q m n r2 s2 r3 s3 r4 s4 = rw (r2, s2, r3, s3, r4, s4, texts_compared a b, texts_compared p q, ints_compared (Int m) (Int n) refl refl) refl

-- suggestions at one place of one unit are one
pub one_place : {figures : Bool} (db : Database) → HasLayoutOf (for_main figures) db → IsDatabase db → AreApart (rows_named db (codes "suggestion"))
    → (r s : Row) → Has (rows_named db (codes "suggestion")) r → Has (rows_named db (codes "suggestion")) s → text_at 2 r ≡ text_at 2 s → text_at 3 r ≡ text_at 3 s
    → id_in (column r 4) ≡ id_in (column s 4) → r ≡ s
one_place db has sound apart r s in_r in_s lang key place =
    let same_lang : is_eq (slice_cmp nat_cmp (text_at 2 r) (text_at 2 s)) ≡ true = rw lang (text_ties_itself (text_at 2 s)) in
    let same_key : is_eq (slice_cmp nat_cmp (text_at 3 r) (text_at 3 s)) ≡ true = rw key (text_ties_itself (text_at 3 s)) in
    let same_place : is_eq (value_cmp (Int (id_in (column r 4))) (Int (id_in (column s 4)))) ≡ true = rw place ((eq_by_cmp_equiv value_cmp_total).refl (Int (id_in (column s 4)))) in
    one_of_key suggestion_table suggestion_placed (2 ∷ 3 ∷ 4 ∷ []) suggestion_place_keyed db has sound apart r s in_r in_s
    (agree_three r s (text_at 2 r) (text_at 2 s) (text_at 3 r) (text_at 3 s) _ _ (suggestion_langs db has sound r in_r) (suggestion_langs db has sound s in_s)
    (suggestion_keys db has sound r in_r) (suggestion_keys db has sound s in_s) (suggestion_places db has sound r in_r) (suggestion_places db has sound s in_s)
    ∙ and_from _ _ same_lang (and_from _ _ same_key (and_from _ _ same_place refl)))

-- ---- vote

pub vote_numbers : {figures : Bool} → HoldsTextsOf (for_main figures) (codes "vote") 1
vote_numbers db has sound row there = holds_text vote_table vote_placed 0 (codes "number") refl db has sound row there refl

pub vote_voters : {figures : Bool} → HoldsTextsOf (for_main figures) (codes "vote") 2
vote_voters db has sound row there = holds_text vote_table vote_placed 1 (codes "voter") refl db has sound row there refl

pub vote_keyed : {figures : Bool} (layout : Layout (for_main figures)) → IsKeyed layout vote_table (1 ∷ 2 ∷ [])
vote_keyed made_new = record { index = _; found = refl; order = refl }
vote_keyed made_second = record { index = _; found = refl; order = refl }

pub one_vote : {figures : Bool} → OneEachOver (for_main figures) (codes "vote") first_texts
one_vote db has sound apart = one_first_texts vote_table vote_placed vote_keyed db has sound apart (vote_numbers db has sound) (vote_voters db has sound)

-- ---- a sum of votes

pub sum_numbers : HoldsTextsOf (for_main true) (codes "vote_sum") 1
sum_numbers db has sound row there = holds_text vote_sum_table vote_sum_placed 0 (codes "number") refl db has sound row there refl

pub sum_keyed : (layout : Layout (for_main true)) → IsKeyed layout vote_sum_table (1 ∷ [])
sum_keyed made_second = record { index = _; found = refl; order = refl }

pub one_sum : OneEachOver (for_main true) (codes "vote_sum") first_text
one_sum db has sound apart = one_first_text vote_sum_table vote_sum_placed sum_keyed db has sound apart (sum_numbers db has sound)
