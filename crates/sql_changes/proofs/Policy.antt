-- What the policy's row that is put makes of the policy.
use Rattle.std.proofs.Common.{◌≡◌, pos, [], ◌∷◌, Bool, true, false, unwrap_or, refl, sym, ap, ◌∙◌, codes}
use Rattle.std.specs.Cmp.{int_cmp_total}
use Rattle.std.specs.Ordering.{int_cmp}
use Rattle.std.specs.FinMap as maps
use Rattle.std.specs.FinMap.{int_cmp-IsAntisymmetric}
use Rattle.sqlite.specs.declared.types.Value.{Value}
use Rattle.sqlite.specs.declared.types.Value.TheVariants.{Int}
use Rattle.sqlite.specs.Order.{Row}
use Rattle.sqlite_trees.specs.View.{is_int}
use Rattle.sqlite_rules.proofs.TableLemmas.{int_is}
use Rattle.sql_laws.specs.RowMaps.{OneEach, map_of}
use Rattle.units.specs.Openings.{closed_policy}
use Rattle.units.specs.declared.unit.Policy.{Policy}
use Rattle.sql_columns.specs.Numbers.{flag_number}
use Rattle.sql_schema.specs.Keys.{row_number}
use Rattle.sql_meaning.specs.Values.{integer_of, integer_at, flag_at}
use Rattle.sql_meaning.specs.Meaning.{policy_of, policy_in}
use Rattle.sql_meaning.proofs.Lookups.{AreOneKey, puts}
use Rattle.sql_changes.specs.Commits.{policy_row, PutsPolicy}
use Rattle.sql_schema.specs.Layouts.{NamedRows}
use Rattle.sql_meaning.specs.RowKeys.{HoldsIntegers}

abbrev HasRowid : Row → Type 0
HasRowid row = is_int (row_number row) ≡ true

number_is : (v : Value) → is_int v ≡ true → v ≡ Int (integer_of v)
number_is v whole = let is = int_is v whole in is ∙ ap Int (sym (ap integer_of is))

by_rowid : AreOneKey row_number (integer_at 0) HasRowid
by_rowid = record {
  forth = λ r s reads_r reads_s e. ap integer_of e;
  back = λ r s reads_r reads_s e. number_is (row_number r) reads_r ∙ ap Int e ∙ sym (number_is (row_number s) reads_s);
}

flag_back : (b : Bool) → flag_at 0 (Int (flag_number b) ∷ []) ≡ b
flag_back true = refl
flag_back false = refl

policy_back : (policy : Policy) → policy_of (policy_row policy) ≡ policy
policy_back policy = λ i. record {
  reviews = flag_back policy.reviews i;
  guests_suggest = flag_back policy.guests_suggest i;
  voting = flag_back policy.voting i;
  accept_at = policy.accept_at;
  placeholders = flag_back policy.placeholders i;
  line_ends = flag_back policy.line_ends i;
}

abbrev by_number : NamedRows → maps.FinMap int_cmp Policy
by_number db = map_of int_cmp (integer_at 0) policy_of (db (codes "policy"))

pub policy_put : (old new : NamedRows) (policy : Policy) → OneEach (integer_at 0) (old (codes "policy")) → HoldsIntegers 0 (old (codes "policy")) → PutsPolicy policy old new → policy_in new ≡ policy
policy_put old new policy one numbers made =
    let has_rowid : HasRowid made.row = ap (λ row. is_int (row_number row)) made.is_row in
    ap (λ m. unwrap_or (maps.get m (pos 1)) closed_policy)
    (puts row_number (integer_at 0) HasRowid int_cmp int_cmp_total int_cmp-IsAntisymmetric policy_of (old (codes "policy")) (new (codes "policy")) made.row (λ r there. ap is_int (numbers r there)) has_rowid
    (λ r s in_r in_s e. one r s in_r in_s (ap integer_of e)) by_rowid made.put
    ∙ ap (λ row. maps.insert (by_number old) (integer_at 0 row) (policy_of row)) made.is_row)
    ∙ ap (λ o. unwrap_or o closed_policy) (maps.get-insert int_cmp_total (by_number old) (pos 1) (policy_of (policy_row policy)) (pos 1))
    ∙ policy_back policy
