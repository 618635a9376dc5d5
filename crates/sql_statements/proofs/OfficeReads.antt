-- What is read of the team, of the languages and of the policy.
use Rattle.std.proofs.Common.{◌≡◌, ℕ, List, [], ◌∷◌, codes, Bool, true, ◌&&◌, pos, refl, sym, ap, subst, ◌∙◌}
use Rattle.std.proofs.Math.Bool.{and-true}
use Rattle.std.proofs.lemmas.Bool.{and_parts}
use Rattle.std.specs.Ordering.{is_eq, int_cmp}
use Rattle.std.specs.Cmp.{eq_by_cmp_equiv, ranked_equal, int_ranks}
use Rattle.sqlite_value.proofs.OrderLemmas.{value_cmp_total, value_cmp-Int}
use Rattle.sqlite.specs.Collation.TheVariants.{Binary}
use Rattle.sqlite.specs.declared.types.Value.{Value}
use Rattle.sqlite.specs.declared.types.Value.TheVariants.{Int, Text}
use Rattle.sqlite.specs.Order.{value_cmp}
use Rattle.sqlite.specs.Listing.{understood}
use Rattle.sqlite.specs.Term.{Term, lit, col, op2}
use Rattle.sqlite_sql.specs.declared.ops.CompareOp.TheVariants as compare
use Rattle.sqlite_sql.specs.declared.ops.BinaryOp.TheVariants as by
use Rattle.sqlite_tied.specs.Compute.{everything}
use Rattle.sqlite_trees.specs.View.{is_int}
use Rattle.sqlite_rules.specs.Edit.{id_in}
use Rattle.sqlite_rules.proofs.TableLemmas.{int_is}
use Rattle.sql_laws.proofs.Comparisons.{ints_compared}
use Rattle.sql_schema.specs.Inside.{ShowsKey}
use Rattle.sql_schema.specs.Keys.{first_text, row_number, columns}
use Rattle.sql_schema.proofs.TableRows.{member_names}
use Rattle.sql_schema.proofs.Queries.{IsQueryOf, ReadsLastOf, AreTestsOf, is_given, reads_all, reads_key, reads_by_text}
use Rattle.sql_schema.specs.Layouts.{Form, made_new, made_second, made_last, from_first, from_second}
use Rattle.sql_schema.proofs.Layouts.{team_placed, policy_placed}
use Rattle.sql_schema.specs.Schema.{team_table, policy_table}
use Rattle.sql_statements.proofs.ReadsUnread.{IsAcceptedBy, IsUnreadBy, unread_by}

-- ---- a member's role

abbrev member_text : List ℕ
member_text = codes "SELECT role FROM team WHERE name = ?1"

member_is : {form : Form} → IsQueryOf form member_text team_table (is_given 1 0 ∷ []) (2 ∷ []) (codes "role" ∷ [])
unfolding understood everything
member_is made_new = record { command = refl; own_tables = refl; plain = (refl, refl) }
member_is made_second = record { command = refl; own_tables = refl; plain = (refl, refl) }
member_is made_last = record { command = refl; own_tables = refl; plain = (refl, refl) }
member_is from_first = record { command = refl; own_tables = refl; plain = (refl, refl) }
member_is from_second = record { command = refl; own_tables = refl; plain = (refl, refl) }

pub finds_member : {form : Form} (name : List ℕ) → ReadsLastOf form member_text (Text name ∷ []) (ShowsKey (codes "team") first_text (columns (2 ∷ [])) name)
finds_member = reads_by_text member_text team_table team_placed 1 (2 ∷ []) _ member_is member_names

member_accepted : {form : Form} (name : List ℕ) → IsAcceptedBy form member_text (Text name ∷ [])
unfolding understood everything
member_accepted name made_new = refl
member_accepted name made_second = refl
member_accepted name made_last = refl
member_accepted name from_first = refl
member_accepted name from_second = refl

pub member_unread : {form : Form} (name : List ℕ) → IsUnreadBy form member_text (Text name ∷ [])
member_unread name = unread_by member_text (Text name ∷ []) _ _ member_is (member_accepted name)

-- ---- the policy

abbrev policy_text : List ℕ
policy_text = codes "SELECT schema, reviews, guests_suggest, voting, accept_at, placeholders, line_ends FROM policy WHERE one = 1"

abbrev policy_terms : List Term
policy_terms = op2 (by.Compare compare.Eq Binary) (col 1 0) (lit (Int (pos 1))) ∷ []

policy_is : {form : Form} → IsQueryOf form policy_text policy_table policy_terms (2 ∷ 3 ∷ 4 ∷ 5 ∷ 6 ∷ 7 ∷ 8 ∷ [])
    (codes "schema" ∷ codes "reviews" ∷ codes "guests_suggest" ∷ codes "voting" ∷ codes "accept_at" ∷ codes "placeholders" ∷ codes "line_ends" ∷ [])
unfolding understood everything
policy_is made_new = record { command = refl; own_tables = refl; plain = (refl, refl) }
policy_is made_second = record { command = refl; own_tables = refl; plain = (refl, refl) }
policy_is made_last = record { command = refl; own_tables = refl; plain = (refl, refl) }
policy_is from_first = record { command = refl; own_tables = refl; plain = (refl, refl) }
policy_is from_second = record { command = refl; own_tables = refl; plain = (refl, refl) }

policy_accepted : {form : Form} → IsAcceptedBy form policy_text []
unfolding understood everything
policy_accepted made_new = refl
policy_accepted made_second = refl
policy_accepted made_last = refl
policy_accepted from_first = refl
policy_accepted from_second = refl

pub policy_unread : {form : Form} → IsUnreadBy form policy_text []
policy_unread = unread_by policy_text [] _ _ policy_is policy_accepted

-- the policy's row has the rowid 1
abbrev is_one : Value → Bool
is_one v = is_int v && is_eq (value_cmp v (Int (pos 1)))

one_from_test : (v : Value) → is_one v ≡ true → v ≡ Int (pos 1)
one_from_test v e =
    let both = and_parts _ _ e in
    let whole = int_is v both.0 in
    let tied : is_eq (int_cmp (id_in v) (pos 1)) ≡ true = subst (λ o. is_eq o ≡ true) (value_cmp-Int (id_in v) (pos 1)) (subst (λ w. is_eq (value_cmp w (Int (pos 1))) ≡ true) whole both.1) in
    whole ∙ ap Int ((ranked_equal (id_in v) (pos 1) (int_cmp (id_in v) (pos 1)) (int_ranks (id_in v) (pos 1))).0 tied)

test_from_one : (v : Value) → v ≡ Int (pos 1) → is_one v ≡ true
test_from_one v e = rw e ((eq_by_cmp_equiv value_cmp_total).refl (Int (pos 1)))

policy_tests : {form : Form} → AreTestsOf form (codes "policy") [] policy_terms (λ row. is_one (row_number row))
policy_tests db has sound tables row there =
    let whole : is_int (row_number row) ≡ true = (tables (codes "policy") (policy_placed has.0).own).ints row there in
    and-true _ ∙ ints_compared (row_number row) (Int (pos 1)) whole refl ∙ sym (ap (λ b. b && is_eq (value_cmp (row_number row) (Int (pos 1)))) whole)

pub finds_policy : {form : Form} → ReadsLastOf form policy_text [] (ShowsKey (codes "policy") row_number (columns (2 ∷ 3 ∷ 4 ∷ 5 ∷ 6 ∷ 7 ∷ 8 ∷ [])) (Int (pos 1)))
finds_policy = reads_key (codes "policy") (λ row. is_one (row_number row)) (columns (2 ∷ 3 ∷ 4 ∷ 5 ∷ 6 ∷ 7 ∷ 8 ∷ [])) row_number (Int (pos 1))
    (λ row. one_from_test (row_number row)) (λ row. test_from_one (row_number row)) policy_text []
    (reads_all policy_text policy_table policy_placed policy_terms (2 ∷ 3 ∷ 4 ∷ 5 ∷ 6 ∷ 7 ∷ 8 ∷ []) _ policy_is [] (λ row. is_one (row_number row)) policy_tests)
