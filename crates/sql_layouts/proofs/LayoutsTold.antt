-- The schemas of the layouts behind other tables, each table and each index in its tree. A tree is counted from all that is there before it, which
-- costs too much where whole schemas are compared: so it is counted here, table by table.
use Rattle.std.proofs.Common.{◌≡◌, ◌+◌, Bool, true, List, [], ◌∷◌, ◌++◌, ℕ, codes, fold, refl, sym, ap, subst, ◌∙◌}
use Rattle.std.specs.Prelude.{◌↔◌}
use Rattle.std.proofs.lemmas.List.{append_assoc, append-nil}
use Rattle.std.specs.Fmt.{digits}
use Rattle.sqlite.specs.Schema.{Schema}
use Rattle.sqlite.specs.Change.{automatics, created, next_tree}
use Rattle.sqlite.specs.Table.{Table}
use Rattle.sqlite_schema.specs.declared.schema.Index.{Index}
use Rattle.sqlite_value.specs.Keys.{plain}
use Rattle.sql_schema.specs.Layouts.{from_first, from_second, schema_of}
use Rattle.sql_schema.specs.Schema.{record_table, team_table, policy_table, template_table, language_table, unit_table, suggestion_table, vote_table, vote_sum_table, tally_table, domain_table, d_template_table, d_language_table, d_unit_table, d_suggestion_table, d_vote_table, d_vote_sum_table, d_tally_table}

-- a table in this tree
abbrev at : ℕ → Table → Table
at tree table = record table { tree = tree }

-- the indexes of its keys, behind it
abbrev keys : Table → List Index
keys table = automatics table 0 (table.tree + 1) table.uniques

abbrev all_keys : List Table → List Index
all_keys [] = []
all_keys (table ∷ tables) = keys table ++ all_keys tables

abbrev laid_out : List Table → Schema
laid_out tables = record { tables = tables; indexes = all_keys tables; views = [] }

all_keys_more : (tables : List Table) (table : Table) → all_keys (tables ++ table ∷ []) ≡ all_keys tables ++ keys table
all_keys_more [] table = append-nil (keys table)
all_keys_more (first ∷ tables) table = ap (λ more. keys first ++ more) (all_keys_more tables table) ∙ sym (append_assoc (keys first) (all_keys tables) (keys table))

-- ---- what constants tell, part by part: to compare them whole costs too much

pub cons_is : {X : Type 0} {x y : X} {xs ys : List X} → x ≡ y → xs ≡ ys → x ∷ xs ≡ y ∷ ys
cons_is head tail = λ i. head i ∷ tail i

pub told_by : {r : Bool} {schema : Schema} {tables : List Table} {indexes : List Index} → (r ≡ true) ↔ (schema ≡ record { tables = tables; indexes = indexes; views = [] })
    → (ts : List Table) (is : List Index) → tables ≡ ts → indexes ≡ is → (r ≡ true) ↔ (schema ≡ record { tables = ts; indexes = is; views = [] })
told_by {r} {schema} tells ts is same_tables same_indexes =
    subst (λ s. (r ≡ true) ↔ (schema ≡ s)) (λ i. record { tables = same_tables i; indexes = same_indexes i; views = [] }) tells

-- ---- one more table

created_next : (tables : List Table) (table : Table) (tree : ℕ) → next_tree (laid_out tables) ≡ tree → created (laid_out tables) table ≡ laid_out (tables ++ at tree table ∷ [])
created_next tables table tree is =
    (λ i. record { tables = tables ++ at (is i) table ∷ []; indexes = all_keys tables ++ keys (at (is i) table); views = [] })
    ∙ (λ i. record { tables = tables ++ at tree table ∷ []; indexes = sym (all_keys_more tables (at tree table)) i; views = [] })

-- ---- all of them

abbrev Numbered : Type 0
Numbered = List (ℕ × Table)

-- each has the next tree
abbrev AreNext : List Table → Numbered → Type 0
AreNext tables [] = Unit {0}
AreNext tables (n ∷ more) = (next_tree (laid_out tables) ≡ n.0) × AreNext (tables ++ at n.0 n.1 ∷ []) more

abbrev bare : Numbered → List Table
bare [] = []
bare (n ∷ more) = n.1 ∷ bare more

abbrev placed_so : Numbered → List Table
placed_so [] = []
placed_so (n ∷ more) = at n.0 n.1 ∷ placed_so more

created_all : (tables : List Table) (all : Numbered) → AreNext tables all → fold created (laid_out tables) (bare all) ≡ laid_out (tables ++ placed_so all)
created_all tables [] next = ap laid_out (sym (append-nil tables))
created_all tables (n ∷ more) next =
    ap (λ s. fold created s (bare more)) (created_next tables n.1 n.0 next.0)
    ∙ (created_all (tables ++ at n.0 n.1 ∷ []) more next.1 ∙ ap laid_out (append_assoc tables (at n.0 n.1 ∷ []) (placed_so more)))

-- ---- behind the tables of the first form

abbrev numbered_first : Numbered
numbered_first =
    (0, record_table) ∷ (2, team_table) ∷ (4, policy_table) ∷ (5, template_table) ∷ (7, language_table) ∷ (9, unit_table) ∷ (11, suggestion_table) ∷
    (14, vote_table) ∷ (16, domain_table) ∷ (18, d_template_table) ∷ (21, d_language_table) ∷ (23, d_unit_table) ∷ (25, d_suggestion_table) ∷
    (28, d_vote_table) ∷ (30, d_vote_sum_table) ∷ (32, d_tally_table) ∷ []

abbrev pub behind_first : Schema
behind_first = laid_out (
    at 0 record_table ∷ at 2 team_table ∷ at 4 policy_table ∷ at 5 template_table ∷ at 7 language_table ∷ at 9 unit_table ∷ at 11 suggestion_table ∷
    at 14 vote_table ∷ at 16 domain_table ∷ at 18 d_template_table ∷ at 21 d_language_table ∷ at 23 d_unit_table ∷ at 25 d_suggestion_table ∷
    at 28 d_vote_table ∷ at 30 d_vote_sum_table ∷ at 32 d_tally_table ∷ [])

first_is : schema_of from_first ≡ behind_first
first_is = created_all [] numbered_first (refl, (refl, (refl, (refl, (refl, (refl, (refl, (refl, (refl, (refl, (refl, (refl, (refl, (refl, (refl, (refl, tt))))))))))))))))

-- ---- behind the tables of the second form

abbrev numbered_second : Numbered
numbered_second =
    (0, record_table) ∷ (2, team_table) ∷ (4, policy_table) ∷ (5, template_table) ∷ (7, language_table) ∷ (9, unit_table) ∷ (11, suggestion_table) ∷
    (14, vote_table) ∷ (16, vote_sum_table) ∷ (18, tally_table) ∷ (20, domain_table) ∷ (22, d_template_table) ∷ (25, d_language_table) ∷
    (27, d_unit_table) ∷ (29, d_suggestion_table) ∷ (32, d_vote_table) ∷ (34, d_vote_sum_table) ∷ (36, d_tally_table) ∷ []

abbrev pub behind_second : Schema
behind_second = laid_out (
    at 0 record_table ∷ at 2 team_table ∷ at 4 policy_table ∷ at 5 template_table ∷ at 7 language_table ∷ at 9 unit_table ∷ at 11 suggestion_table ∷
    at 14 vote_table ∷ at 16 vote_sum_table ∷ at 18 tally_table ∷ at 20 domain_table ∷ at 22 d_template_table ∷ at 25 d_language_table ∷
    at 27 d_unit_table ∷ at 29 d_suggestion_table ∷ at 32 d_vote_table ∷ at 34 d_vote_sum_table ∷ at 36 d_tally_table ∷ [])

second_is : schema_of from_second ≡ behind_second
second_is = created_all [] numbered_second (refl, (refl, (refl, (refl, (refl, (refl, (refl, (refl, (refl, (refl, (refl, (refl, (refl, (refl, (refl, (refl, (refl, (refl, tt))))))))))))))))))

-- ---- the indexes, each with its name

abbrev key_at : ℕ → ℕ → List ℕ → List ℕ → Index
key_at tree table name columns = record { name = name; tree = tree; table = table; columns = columns; order = plain; is_unique = true }

abbrev pub first_indexes : List Index
first_indexes =
    key_at 1 0 (codes "sqlite_autoindex_record_1") (1 ∷ []) ∷
    key_at 3 2 (codes "sqlite_autoindex_team_1") (1 ∷ []) ∷
    key_at 6 5 (codes "sqlite_autoindex_template_1") (2 ∷ []) ∷
    key_at 8 7 (codes "sqlite_autoindex_language_1") (1 ∷ []) ∷
    key_at 10 9 (codes "sqlite_autoindex_unit_1") (1 ∷ 2 ∷ []) ∷
    key_at 12 11 (codes "sqlite_autoindex_suggestion_1") (1 ∷ []) ∷
    key_at 13 11 (codes "sqlite_autoindex_suggestion_2") (2 ∷ 3 ∷ 4 ∷ []) ∷
    key_at 15 14 (codes "sqlite_autoindex_vote_1") (1 ∷ 2 ∷ []) ∷
    key_at 17 16 (codes "sqlite_autoindex_domain_1") (1 ∷ []) ∷
    key_at 19 18 (codes "sqlite_autoindex_d_template_1") (1 ∷ 2 ∷ []) ∷
    key_at 20 18 (codes "sqlite_autoindex_d_template_2") (1 ∷ 3 ∷ []) ∷
    key_at 22 21 (codes "sqlite_autoindex_d_language_1") (1 ∷ 2 ∷ []) ∷
    key_at 24 23 (codes "sqlite_autoindex_d_unit_1") (1 ∷ 2 ∷ 3 ∷ []) ∷
    key_at 26 25 (codes "sqlite_autoindex_d_suggestion_1") (1 ∷ []) ∷
    key_at 27 25 (codes "sqlite_autoindex_d_suggestion_2") (2 ∷ 3 ∷ 4 ∷ 5 ∷ []) ∷
    key_at 29 28 (codes "sqlite_autoindex_d_vote_1") (1 ∷ 2 ∷ []) ∷
    key_at 31 30 (codes "sqlite_autoindex_d_vote_sum_1") (1 ∷ []) ∷
    key_at 33 32 (codes "sqlite_autoindex_d_tally_1") (1 ∷ 2 ∷ []) ∷
    []

first_keys : behind_first.indexes ≡ first_indexes
unfolding digits
first_keys = refl

pub first_told : schema_of from_first ≡ record { tables = behind_first.tables; indexes = first_indexes; views = [] }
first_told = first_is ∙ (λ i. record { tables = behind_first.tables; indexes = first_keys i; views = [] })

abbrev pub second_indexes : List Index
second_indexes =
    key_at 1 0 (codes "sqlite_autoindex_record_1") (1 ∷ []) ∷
    key_at 3 2 (codes "sqlite_autoindex_team_1") (1 ∷ []) ∷
    key_at 6 5 (codes "sqlite_autoindex_template_1") (2 ∷ []) ∷
    key_at 8 7 (codes "sqlite_autoindex_language_1") (1 ∷ []) ∷
    key_at 10 9 (codes "sqlite_autoindex_unit_1") (1 ∷ 2 ∷ []) ∷
    key_at 12 11 (codes "sqlite_autoindex_suggestion_1") (1 ∷ []) ∷
    key_at 13 11 (codes "sqlite_autoindex_suggestion_2") (2 ∷ 3 ∷ 4 ∷ []) ∷
    key_at 15 14 (codes "sqlite_autoindex_vote_1") (1 ∷ 2 ∷ []) ∷
    key_at 17 16 (codes "sqlite_autoindex_vote_sum_1") (1 ∷ []) ∷
    key_at 19 18 (codes "sqlite_autoindex_tally_1") (1 ∷ []) ∷
    key_at 21 20 (codes "sqlite_autoindex_domain_1") (1 ∷ []) ∷
    key_at 23 22 (codes "sqlite_autoindex_d_template_1") (1 ∷ 2 ∷ []) ∷
    key_at 24 22 (codes "sqlite_autoindex_d_template_2") (1 ∷ 3 ∷ []) ∷
    key_at 26 25 (codes "sqlite_autoindex_d_language_1") (1 ∷ 2 ∷ []) ∷
    key_at 28 27 (codes "sqlite_autoindex_d_unit_1") (1 ∷ 2 ∷ 3 ∷ []) ∷
    key_at 30 29 (codes "sqlite_autoindex_d_suggestion_1") (1 ∷ []) ∷
    key_at 31 29 (codes "sqlite_autoindex_d_suggestion_2") (2 ∷ 3 ∷ 4 ∷ 5 ∷ []) ∷
    key_at 33 32 (codes "sqlite_autoindex_d_vote_1") (1 ∷ 2 ∷ []) ∷
    key_at 35 34 (codes "sqlite_autoindex_d_vote_sum_1") (1 ∷ []) ∷
    key_at 37 36 (codes "sqlite_autoindex_d_tally_1") (1 ∷ 2 ∷ []) ∷
    []

second_keys : behind_second.indexes ≡ second_indexes
unfolding digits
second_keys = refl

pub second_told : schema_of from_second ≡ record { tables = behind_second.tables; indexes = second_indexes; views = [] }
second_told = second_is ∙ (λ i. record { tables = behind_second.tables; indexes = second_keys i; views = [] })
