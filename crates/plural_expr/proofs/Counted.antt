-- The test over n = 0, 1, .., 999, as far as it has come.
use Rattle.std.proofs.Common.{◌≡◌, ◌≢◌, ℕ, zero, suc, ◌+◌, ◌-◌, ◌<◌, ◌≤◌, List, [], ◌∷◌, ◌++◌, length, get_or, set, filter, Bool, true, false, Option, Some, None, Ok, refl, sym, ap, ◌∙◌, arith, add-zero, length-append, inl, inr}
use Rattle.std.specs.Prelude.{if◌then◌else◌}
use Rattle.std.specs.List.{range_with_len}
use Rattle.std.proofs.lemmas.Bool.{cases_eq, eq-eqb, lt-ltb, ne_eqb}
use Rattle.std.proofs.lemmas.List.{get_or-set_same, get_or-set_other}
use Rattle.std.proofs.lemmas.List.Elements.{filter-append}
use Rattle.plural_expr.specs.declared.fault.PluralFault.{PluralFault}
use Rattle.plural_expr.specs.Trees.{Tree, variable, number, parens, negated, binary, choice, depth}
use Rattle.plural_expr.specs.Values.{Value, Rule, is_value, value_of, served_by}
use Rattle.plural_expr.specs.Faults.{value_fault, first_fault, values_fault}
use Rattle.plural_expr.proofs.Tested.{first_none}

pub depth_some : (t : Tree) → 1 ≤ depth t
depth_some variable = omega arith
depth_some (number k) = omega arith
depth_some (parens t) = omega arith
depth_some (negated t) = omega arith
depth_some (binary o a b) = omega arith
depth_some (choice c a b) = omega arith

-- the numbers up to one, and those from it on
range_split : (a m k : ℕ) → range_with_len a (m + k) ≡ range_with_len a m ++ range_with_len (a + m) k
range_split a zero k =
    let left : 0 + k ≡ k = omega arith in
    let right : a ≡ a + 0 = omega arith in
    ap (range_with_len a) left ∙ ap (λ b. range_with_len b k) right
range_split a (suc m) k =
    let left : suc m + k ≡ suc (m + k) = omega arith in
    let right : a + 1 + m ≡ a + suc m = omega arith in
    ap (range_with_len a) left ∙ (ap (λ ns. a ∷ ns) (range_split (a + 1) m k) ∙ ap (λ b. a ∷ (range_with_len (a + 1) m ++ range_with_len b k)) right)

range_more : (n : ℕ) → range_with_len 0 (n + 1) ≡ range_with_len 0 n ++ n ∷ []
range_more n = let same : 0 + n ≡ n = omega arith in range_split 0 n 1 ∙ ap (λ m. range_with_len 0 n ++ m ∷ []) same

-- ---- the faults up to n

unfoldable pub fault_upto : Rule → ℕ → Option PluralFault
fault_upto rule n = first_fault rule (range_with_len 0 n)

later_fault : (rule : Rule) (xs ys : List ℕ) → first_fault rule xs ≡ None → first_fault rule (xs ++ ys) ≡ first_fault rule ys
later_fault rule [] ys e = refl
later_fault rule (x ∷ xs) ys e =
    let parts = first_none (value_fault rule.count x (value_of rule.tree x)) (first_fault rule xs) e in
    rw (parts.0, first_fault) (later_fault rule xs ys parts.1)

pub fault_start : (rule : Rule) → fault_upto rule 0 ≡ None
unfolding fault_upto
fault_start rule = refl

no_fault_here : (rule : Rule) (n : ℕ) → value_fault rule.count n (value_of rule.tree n) ≡ None → first_fault rule (n ∷ []) ≡ None
no_fault_here rule n here = rw (here, first_fault) refl

pub fault_next : (rule : Rule) (n : ℕ) → fault_upto rule n ≡ None → value_fault rule.count n (value_of rule.tree n) ≡ None → fault_upto rule (n + 1) ≡ None
unfolding fault_upto
fault_next rule n e here = ap (first_fault rule) (range_more n) ∙ (later_fault rule (range_with_len 0 n) (n ∷ []) e ∙ no_fault_here rule n here)

pub fault_end : (rule : Rule) (n : ℕ) → n ≡ 1000 → fault_upto rule n ≡ None → values_fault rule ≡ None
unfolding fault_upto values_fault
fault_end rule n whole e = ap (λ k. first_fault rule (range_with_len 0 k)) (sym whole) ∙ e

some_fault_here : (rule : Rule) (n : ℕ) (ns : List ℕ) (fault : PluralFault) → value_fault rule.count n (value_of rule.tree n) ≡ Some fault → first_fault rule (n ∷ ns) ≡ Some fault
some_fault_here rule n ns fault here = rw (here, first_fault) refl

fault_within : (rule : Rule) (n k : ℕ) (fault : PluralFault) → first_fault rule (range_with_len 0 n) ≡ None → value_fault rule.count n (value_of rule.tree n) ≡ Some fault
    → first_fault rule (range_with_len 0 (n + suc k)) ≡ Some fault
fault_within rule n k fault e here =
    let same : 0 + n ≡ n = omega arith in
    ap (first_fault rule) (range_split 0 n (suc k))
    ∙ (later_fault rule (range_with_len 0 n) (range_with_len (0 + n) (suc k)) e
    ∙ (ap (λ m. first_fault rule (range_with_len m (suc k))) same
    ∙ some_fault_here rule n (range_with_len (n + 1) k) fault here))

pub fault_here : (rule : Rule) (n : ℕ) (fault : PluralFault) → n < 1000 → fault_upto rule n ≡ None → value_fault rule.count n (value_of rule.tree n) ≡ Some fault → values_fault rule ≡ Some fault
unfolding fault_upto values_fault
fault_here rule n fault low e here =
    let whole : n + suc (999 - n) ≡ 1000 = omega arith in
    ap (λ t. first_fault rule (range_with_len 0 t)) (sym whole) ∙ fault_within rule n (999 - n) fault e here

-- ---- how many the form serves up to n

unfoldable pub served_upto : Tree → ℕ → ℕ → ℕ
served_upto tree n form = length (filter (λ m. is_value form (value_of tree m)) (range_with_len 0 n))

pub served_start : (tree : Tree) (form : ℕ) → served_upto tree 0 form ≡ 0
unfolding served_upto
served_start tree form = refl

pub served_end : (rule : Rule) (n form : ℕ) → n ≡ 1000 → served_upto rule.tree n form ≡ length (served_by rule form)
unfolding served_upto served_by
served_end rule n form whole = ap (λ k. length (filter (λ m. is_value form (value_of rule.tree m)) (range_with_len 0 k))) whole

counted_more : (p : ℕ → Bool) (n : ℕ) → length (filter p (range_with_len 0 (n + 1))) ≡ length (filter p (range_with_len 0 n)) + length (filter p (n ∷ []))
counted_more p n =
    ap (λ ns. length (filter p ns)) (range_more n)
    ∙ (ap length (filter-append p (range_with_len 0 n) (n ∷ []))
    ∙ length-append (filter p (range_with_len 0 n)) (filter p (n ∷ [])))

pub served_here : (tree : Tree) (n form : ℕ) → value_of tree n ≡ Ok form → served_upto tree (n + 1) form ≡ served_upto tree n form + 1
unfolding served_upto
served_here tree n form v =
    let yes : is_value form (value_of tree n) ≡ true = ap (is_value form) v ∙ eq-eqb form form refl in
    counted_more (λ m. is_value form (value_of tree m)) n
    ∙ ap (λ b. length (filter (λ m. is_value form (value_of tree m)) (range_with_len 0 n)) + length (if b then (n ∷ []) else [])) yes

pub served_others : (tree : Tree) (n form other : ℕ) → value_of tree n ≡ Ok form → form ≢ other → served_upto tree (n + 1) other ≡ served_upto tree n other
unfolding served_upto
served_others tree n form other v apart =
    let no : is_value other (value_of tree n) ≡ false = ap (is_value other) v ∙ ne_eqb form other apart in
    counted_more (λ m. is_value other (value_of tree m)) n
    ∙ (ap (λ b. length (filter (λ m. is_value other (value_of tree m)) (range_with_len 0 n)) + length (if b then (n ∷ []) else [])) no
    ∙ add-zero _)

-- ---- a step of the count

pub no_value_fault : (count n form : ℕ) (v : Value) → v ≡ Ok form → form < count → value_fault count n v ≡ None
no_value_fault count n form v e low = rw e (rw (lt-ltb form count low) refl)

pub few_next : (served : List ℕ) (at n : ℕ) → at < length served → ((form : ℕ) → get_or served form 0 ≤ n)
    → (form : ℕ) → get_or (set served at (get_or served at 0 + 1)) form 0 ≤ n + 1
few_next served at n low few form =
    elim (cases_eq form at) [
      | inl same ↦ rw same (rw (get_or-set_same served at (get_or served at 0 + 1) 0 low) (omega (arith, few at)))
      | inr other ↦ rw (get_or-set_other served at form (get_or served at 0 + 1) 0 other) (omega (arith, few form))
    ]

pub counts_next : (tree : Tree) (served : List ℕ) (at n : ℕ) → at < length served → value_of tree n ≡ Ok at → ((form : ℕ) → get_or served form 0 ≡ served_upto tree n form)
    → (form : ℕ) → get_or (set served at (get_or served at 0 + 1)) form 0 ≡ served_upto tree (n + 1) form
counts_next tree served at n low v counts form =
    elim (cases_eq form at) [
      | inl same ↦ rw same (rw (get_or-set_same served at (get_or served at 0 + 1) 0 low) (ap (λ k. k + 1) (counts at) ∙ sym (served_here tree n at v)))
      | inr other ↦ rw (get_or-set_other served at form (get_or served at 0 + 1) 0 other) (counts form ∙ sym (served_others tree n at form v (λ e. other (sym e))))
    ]
