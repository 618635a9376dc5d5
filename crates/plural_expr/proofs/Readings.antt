-- The computed reading of a text and the tests over the relation of the grammar are one.
use Rattle.std.proofs.Common.{◌≡◌, ◌≢◌, ℕ, zero, suc, ◌+◌, ◌<◌, ◌≤◌, List, length, Option, Some, None, Result, Ok, Err, IfOk, IfErr, IsErr, MatchOption, MatchResult, ◌⊎◌, inl, inr, refl, sym, ap, subst, ◌∙◌, arith}
use Rattle.std.specs.List.{range_with_len}
use Rattle.std.proofs.lemmas.Bool.{cases_eq, cases_lt, lt-ltb, le-ltb}
use Rattle.plural_expr.specs.declared.fault.PluralFault.{PluralFault}
use Rattle.plural_expr.specs.declared.fault.PluralFault.TheVariants as faults
use Rattle.plural_expr.specs.declared.token.Token.{Token}
use Rattle.plural_expr.specs.declared.token.Token.TheVariants.{Number}
use Rattle.plural_expr.specs.Trees.{Tree, depth, SpellsRule}
use Rattle.plural_expr.specs.Values.{Value, Rule, value_of}
use Rattle.plural_expr.specs.Plain.{rule_of}
use Rattle.plural_expr.specs.Faults.{IsCount, IsForm, IsNoForm, IsCounted, IsTestedBelow, IsRuleOf, IsFaultOf, count_of, value_fault, first_fault, values_fault, rule_tested, rule_counted, rule_read, reading_of}
use Rattle.plural_expr.proofs.Grammar.{rule_spelled, spelled_rule}
use Rattle.plural_expr.proofs.Tested.{none_at, form_in_range}
use Rattle.plural_expr.proofs.Counted.{fault_upto, fault_here}

none_some : (fault : PluralFault) → ◌≡◌ {A = Option PluralFault} None (Some fault) → ⊥
none_some fault e = cc

some_same : (f g : PluralFault) → Some f ≡ Some g → f ≡ g
some_same f g e = cc

nothing_read : (written : Token) (tree : Tree) → ◌≡◌ {A = Option (Token × Tree)} None (Some (written, tree)) → ⊥
nothing_read written tree e = cc

-- ---- what is computed passes and fails the tests

abbrev Told : List ℕ → Result Rule PluralFault → Type 0
Told text r = MatchResult r (λ rule. IsRuleOf text rule) (λ fault. IsFaultOf text fault)

-- the first n with a fault
record IsFirst (rule : Rule) (a len : ℕ) (fault : PluralFault) : Type 0 where
  at : ℕ
  low : a ≤ at
  high : at < a + len
  before : (m : ℕ) → a ≤ m → m < at → value_fault rule.count m (value_of rule.tree m) ≡ None
  here : value_fault rule.count at (value_of rule.tree at) ≡ Some fault

first_some : (o p : Option PluralFault) (fault : PluralFault) → elim o as (λ _. Option PluralFault) [ Some found ↦ Some found | None ↦ p ] ≡ Some fault → (o ≡ Some fault) ⊎ ((o ≡ None) × (p ≡ Some fault))
first_some None p fault e = inr (refl, e)
first_some (Some found) p fault e = inl e

fault_found : (rule : Rule) (a len : ℕ) (fault : PluralFault) → first_fault rule (range_with_len a len) ≡ Some fault → IsFirst rule a len fault
fault_found rule a zero fault e = cc
fault_found rule a (suc len) fault e =
    elim (first_some (value_fault rule.count a (value_of rule.tree a)) (first_fault rule (range_with_len (a + 1) len)) fault e) [
      | inl here ↦ record { at = a; low = omega arith; high = omega arith; before = λ m low high. absurd (omega arith); here = here }
      | inr later ↦
          let rest = fault_found rule (a + 1) len fault later.1 in
          record {
            at = rest.at;
            low = omega (arith, rest.low);
            high = omega (arith, rest.high);
            before = λ m low high. elim (cases_eq a m) [
              | inl same ↦ subst (λ k. value_fault rule.count k (value_of rule.tree k) ≡ None) same later.0
              | inr other ↦ rest.before m (omega arith) high
            ];
            here = rest.here;
          }
    ]

abbrev HasFault : ℕ → ℕ → Value → PluralFault → Type 0
HasFault count n v fault = ((fault ≡ faults.Faults n) × IsErr v) ⊎ ((fault ≡ faults.Range n) × IsNoForm count v)

fault_is : (count n : ℕ) (v : Value) (fault : PluralFault) → value_fault count n v ≡ Some fault → HasFault count n v fault
fault_is count n (Err e) fault h = inl (cc, refl)
fault_is count n (Ok k) fault h =
    elim (cases_lt k count) [
      | inl low ↦ absurd (none_some fault (rw (lt-ltb k count low) at h))
      | inr high ↦ inr (sym (some_same (faults.Range n) fault (rw (le-ltb k count high) at h)), high)
    ]

told_fault : (text : List ℕ) (count n : ℕ) (tree : Tree) (fault : PluralFault) → n < 1000 → IsTestedBelow n text count tree → HasFault count n (value_of tree n) fault → IsFaultOf text fault
told_fault text count n tree fault low tested (inl h) = subst (λ f. IsFaultOf text f) (sym h.0) (low, (count, (tree, (tested, h.1))))
told_fault text count n tree fault low tested (inr h) = subst (λ f. IsFaultOf text f) (sym h.0) (low, (count, (tree, (tested, h.1))))

told_values : (text : List ℕ) (rule : Rule) → IsCounted text rule.count rule.tree → depth rule.tree ≤ 32 → (o : Option PluralFault) → first_fault rule (range_with_len 0 1000) ≡ o
    → Told text (elim o as (λ _. Result Rule PluralFault) [ None ↦ Ok rule | Some fault ↦ Err fault ])
told_values text rule counted shallow None e =
    record { counted = counted; shallow = shallow; values = λ m low. form_in_range rule.count m (value_of rule.tree m) (none_at rule 0 1000 m e (omega arith) (omega arith)) }
told_values text rule counted shallow (Some fault) e =
    let first = fault_found rule 0 1000 fault e in
    told_fault text rule.count first.at rule.tree fault (omega (arith, first.high))
    (record { counted = counted; shallow = shallow; values = λ m low. form_in_range rule.count m (value_of rule.tree m) (first.before m (omega arith) low) })
    (fault_is rule.count first.at (value_of rule.tree first.at) fault first.here)

told_tree : (text : List ℕ) (rule : Rule) → IsCounted text rule.count rule.tree → Told text (rule_tested rule)
unfolding values_fault
told_tree text rule counted =
    elim (cases_lt 32 (depth rule.tree)) [
      | inl deep ↦ rw (lt-ltb 32 (depth rule.tree) deep) (inr (rule.count, (rule.tree, (counted, deep))))
      | inr shallow ↦ rw (le-ltb 32 (depth rule.tree) shallow) (told_values text rule counted shallow (values_fault rule) refl)
    ]

number_told : (k : ℕ) → MatchOption (count_of (Number k)) (¬ (IsCount (Number k))) (λ j. (Number k ≡ Number j) × IsCount (Number j))
number_told k =
    elim (cases_lt 0 k) [
      | inl some ↦ elim (cases_lt k 9) [
        | inl few ↦ rw (lt-ltb 0 k some) (rw (lt-ltb k 9 few) (refl, (some, omega arith)))
        | inr many ↦ rw (lt-ltb 0 k some) (rw (le-ltb k 9 many) (λ h. omega (arith, h.1)))
      ]
      | inr none ↦ rw (le-ltb 0 k none) (λ h. omega (arith, h.0))
    ]

count_told : (written : Token) → MatchOption (count_of written) (¬ (IsCount written)) (λ k. (written ≡ Number k) × IsCount (Number k))
count_told (Number k) = number_told k
count_told _ = λ h. h

told_counted : (text : List ℕ) (written : Token) (tree : Tree) → length text ≤ 512 → SpellsRule text written tree
    → (o : Option ℕ) → MatchOption o (¬ (IsCount written)) (λ k. (written ≡ Number k) × IsCount (Number k))
    → Told text (elim o as (λ _. Result Rule PluralFault) [ None ↦ Err faults.Count | Some count ↦ rule_tested (record { count = count; tree = tree }) ])
told_counted text written tree short spelled None h = (short, (written, (tree, (spelled, h))))
told_counted text written tree short spelled (Some count) h =
    told_tree text (record { count = count; tree = tree })
    (record { short = short; spelled = subst (λ w. SpellsRule text w tree) h.0 spelled; counted = h.1 })

told_read : (text : List ℕ) → length text ≤ 512 → (o : Option (Token × Tree)) → rule_of text ≡ o → Told text (rule_read o)
told_read text short None e = (short, λ written tree spelled. nothing_read written tree (sym e ∙ spelled_rule text written tree spelled))
told_read text short (Some (written, tree)) e = told_counted text written tree short (rule_spelled text written tree e) (count_of written) (count_told written)

told : (text : List ℕ) → Told text (reading_of text)
unfolding reading_of
told text =
    elim (cases_lt 512 (length text)) [
      | inl long ↦ rw (lt-ltb 512 (length text) long) (inl long)
      | inr short ↦ rw (le-ltb 512 (length text) short) (told_read text short (rule_of text) refl)
    ]

pub reading_rule : (text : List ℕ) (rule : Rule) → reading_of text ≡ Ok rule → IsRuleOf text rule
reading_rule text rule e = subst (Told text) e (told text)

pub reading_fault : (text : List ℕ) (fault : PluralFault) → reading_of text ≡ Err fault → IsFaultOf text fault
reading_fault text fault e = subst (Told text) e (told text)

-- ---- what passes and fails the tests is computed so

none_all : (rule : Rule) (a len : ℕ) → ((m : ℕ) → a ≤ m → m < a + len → value_fault rule.count m (value_of rule.tree m) ≡ None) → first_fault rule (range_with_len a len) ≡ None
none_all rule a zero h = refl
none_all rule a (suc len) h = rw (h a (omega arith) (omega arith), first_fault) (none_all rule (a + 1) len (λ m low high. h m (omega arith) (omega arith)))

no_value_fault : (count n : ℕ) (v : Value) → IsForm count v → value_fault count n v ≡ None
no_value_fault count n (Err e) h = absurd h
no_value_fault count n (Ok k) h = rw (lt-ltb k count h) refl

some_value_fault : (count n : ℕ) (v : Value) → IsErr v → value_fault count n v ≡ Some (faults.Faults n)
some_value_fault count n (Err e) h = refl
some_value_fault count n (Ok k) h = cc

some_value_range : (count n : ℕ) (v : Value) → IsNoForm count v → value_fault count n v ≡ Some (faults.Range n)
some_value_range count n (Err e) h = absurd h
some_value_range count n (Ok k) h = rw (le-ltb k count h) refl

count_again : (count : ℕ) → IsCount (Number count) → count_of (Number count) ≡ Some count
count_again count h = let few : count < 9 = omega (arith, h.1) in rw (lt-ltb 0 count h.0) (rw (lt-ltb count 9 few) refl)

no_count_again : (written : Token) → ¬ (IsCount written) → count_of written ≡ None
no_count_again (Number k) h =
    elim (cases_lt 0 k) [
      | inl some ↦ elim (cases_lt k 9) [ inl few ↦ absurd (h (some, omega arith)) | inr many ↦ rw (lt-ltb 0 k some) (rw (le-ltb k 9 many) refl) ]
      | inr none ↦ rw (le-ltb 0 k none) refl
    ]
no_count_again _ h = refl

pub read_long : (text : List ℕ) → 512 < length text → reading_of text ≡ Err faults.Depth
unfolding reading_of
read_long text long = rw (lt-ltb 512 (length text) long) refl

read_short : (text : List ℕ) → length text ≤ 512 → reading_of text ≡ rule_read (rule_of text)
unfolding reading_of
read_short text short = rw (le-ltb 512 (length text) short) refl

pub read_nothing : (text : List ℕ) → length text ≤ 512 → None ≡ rule_of text → reading_of text ≡ Err faults.Syntax
read_nothing text short e = read_short text short ∙ ap rule_read (sym e)

pub read_counted : (text : List ℕ) (written : Token) (tree : Tree) (r : Result Rule PluralFault) → length text ≤ 512 → Some (written, tree) ≡ rule_of text → r ≡ rule_counted written tree → reading_of text ≡ r
read_counted text written tree r short e h = read_short text short ∙ (ap rule_read (sym e) ∙ sym h)

tested_again : (rule : Rule) (o : Option ℕ) → o ≡ Some rule.count
    → elim o as (λ _. Result Rule PluralFault) [ None ↦ Err faults.Count | Some count ↦ rule_tested (record { count = count; tree = rule.tree }) ] ≡ rule_tested rule
tested_again rule o e = ap (λ (p : Option ℕ). elim p as (λ _. Result Rule PluralFault) [ None ↦ Err faults.Count | Some count ↦ rule_tested (record { count = count; tree = rule.tree }) ]) e

no_count_read : (tree : Tree) (written : Token) (o : Option ℕ) → o ≡ None
    → elim o as (λ _. Result Rule PluralFault) [ None ↦ Err faults.Count | Some count ↦ rule_tested (record { count = count; tree = tree }) ] ≡ Err faults.Count
no_count_read tree written o e = ap (λ (p : Option ℕ). elim p as (λ _. Result Rule PluralFault) [ None ↦ Err faults.Count | Some count ↦ rule_tested (record { count = count; tree = tree }) ]) e

no_rule_read : (text : List ℕ) → length text ≤ 512 → (o : Option (Token × Tree)) → rule_of text ≡ o → ((written : Token) (tree : Tree) → ¬ (SpellsRule text written tree)) → reading_of text ≡ Err faults.Syntax
no_rule_read text short None e none = read_nothing text short (sym e)
no_rule_read text short (Some (written, tree)) e none = absurd (none written tree (rule_spelled text written tree e))

read_tested : (text : List ℕ) (rule : Rule) (r : Result Rule PluralFault) → IsCounted text rule.count rule.tree → rule_tested rule ≡ r → reading_of text ≡ r
read_tested text rule r counted e =
    read_short text counted.short
    ∙ (ap rule_read (spelled_rule text (Number rule.count) rule.tree counted.spelled)
    ∙ (tested_again rule (count_of (Number rule.count)) (count_again rule.count counted.counted) ∙ e))

values_again : (rule : Rule) (o : Option PluralFault) → depth rule.tree ≤ 32 → values_fault rule ≡ o → rule_tested rule ≡ elim o as (λ _. Result Rule PluralFault) [ None ↦ Ok rule | Some fault ↦ Err fault ]
values_again rule o shallow e =
    rw (le-ltb 32 (depth rule.tree) shallow) (ap (λ (p : Option PluralFault). elim p as (λ _. Result Rule PluralFault) [ None ↦ Ok rule | Some fault ↦ Err fault ]) e)

values_none : (rule : Rule) → ((m : ℕ) → m < 1000 → IsForm rule.count (value_of rule.tree m)) → values_fault rule ≡ None
unfolding values_fault
values_none rule h = none_all rule 0 1000 (λ m low high. no_value_fault rule.count m (value_of rule.tree m) (h m (omega arith)))

fault_so_far : (rule : Rule) (n : ℕ) → ((m : ℕ) → m < n → IsForm rule.count (value_of rule.tree m)) → fault_upto rule n ≡ None
unfolding fault_upto
fault_so_far rule n h = none_all rule 0 n (λ m low high. no_value_fault rule.count m (value_of rule.tree m) (h m (omega arith)))

pub rule_reading : (text : List ℕ) (rule : Rule) → IsRuleOf text rule → reading_of text ≡ Ok rule
rule_reading text rule h = read_tested text rule (Ok rule) h.counted (values_again rule None h.shallow (values_none rule h.values))

reading_at : (text : List ℕ) (n count : ℕ) (tree : Tree) (fault : PluralFault) → n < 1000 → IsTestedBelow n text count tree → value_fault count n (value_of tree n) ≡ Some fault → reading_of text ≡ Err fault
reading_at text n count tree fault low h here =
    let rule : Rule = record { count = count; tree = tree } in
    read_tested text rule (Err fault) h.counted (values_again rule (Some fault) h.shallow (fault_here rule n fault low (fault_so_far rule n h.values) here))

pub fault_reading : (text : List ℕ) (fault : PluralFault) → IsFaultOf text fault → reading_of text ≡ Err fault
fault_reading text faults.Syntax h = no_rule_read text h.0 (rule_of text) refl h.1
fault_reading text faults.Count (short, (written, (tree, (spelled, none)))) =
    read_short text short ∙ (ap rule_read (spelled_rule text written tree spelled) ∙ no_count_read tree written (count_of written) (no_count_again written none))
fault_reading text faults.Depth (inl long) = read_long text long
fault_reading text faults.Depth (inr (count, (tree, (counted, deep)))) = read_tested text (record { count = count; tree = tree }) (Err faults.Depth) counted (rw (lt-ltb 32 (depth tree) deep) refl)
fault_reading text (faults.Faults n) (low, (count, (tree, (tested, fails)))) = reading_at text n count tree (faults.Faults n) low tested (some_value_fault count n (value_of tree n) fails)
fault_reading text (faults.Range n) (low, (count, (tree, (tested, above)))) = reading_at text n count tree (faults.Range n) low tested (some_value_range count n (value_of tree n) above)
fault_reading text faults.Memory h = absurd h

-- ---- what the reading says of a result

pub says_rule : (text : List ℕ) (r : Result Rule PluralFault) → reading_of text ≡ r → IfOk r (λ rule. IsRuleOf text rule)
says_rule text (Ok rule) e = reading_rule text rule e
says_rule text (Err fault) e = tt

pub says_fault : (text : List ℕ) (r : Result Rule PluralFault) → reading_of text ≡ r → IfErr r (λ fault. fault ≢ faults.Memory → IsFaultOf text fault)
says_fault text (Ok rule) e = tt
says_fault text (Err fault) e = λ _. reading_fault text fault e

pub says_read : (text : List ℕ) (r : Result Rule PluralFault) → reading_of text ≡ r → IfOk r (λ rule. reading_of text ≡ Ok rule)
says_read text (Ok rule) e = e
says_read text (Err fault) e = tt

pub says_read_fault : (text : List ℕ) (r : Result Rule PluralFault) → reading_of text ≡ r → IfErr r (λ fault. fault ≢ faults.Memory → reading_of text ≡ Err fault)
says_read_fault text (Ok rule) e = tt
says_read_fault text (Err fault) e = λ _. e
