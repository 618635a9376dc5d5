-- The first test that a text fails as a plural rule. The tests and their order are this project's own: at most 512 bytes,
-- the grammar (GNU gettext manual, "Plural forms"), nplurals, the depth, and the values at n = 0, 1, .., 999.
-- First they stand over the relation of the grammar, and then as a program that computes the answer; that the two agree is a law.
use Rattle.std.specs.Prelude.{◌≡◌, ◌<◌, ◌≤◌, ◌⊎◌, ℕ, List, [], ◌∷◌, ◌&&◌, nat_lt, length, Option, Some, None, Result, Ok, Err, IsErr, if◌then◌else◌}
use Rattle.std.specs.List.{range_with_len}
use Rattle.plural_expr.specs.declared.fault.EvalFault.{EvalFault}
use Rattle.plural_expr.specs.declared.fault.EvalFault.TheVariants as eval_faults
use Rattle.plural_expr.specs.declared.fault.PluralFault.{PluralFault}
use Rattle.plural_expr.specs.declared.fault.PluralFault.TheVariants as faults
use Rattle.plural_expr.specs.declared.token.Token.{Token}
use Rattle.plural_expr.specs.declared.token.Token.TheVariants.{Number}
use Rattle.plural_expr.specs.Trees.{Tree, depth, SpellsRule}
use Rattle.plural_expr.specs.Values.{Value, Rule, value_of}
use Rattle.plural_expr.specs.Plain.{rule_of}

-- ---- the tests, over the relation of the grammar

-- how many forms a rule may have
abbrev pub form_limit : ℕ
form_limit = 8

-- one digit from 1 to 8
abbrev pub IsCount : Token → Type 0
IsCount (Number k) = (0 < k) × (k ≤ form_limit)
IsCount _ = ⊥

-- a value that is a form's number, and one that is above them
abbrev pub IsForm : ℕ → Value → Type 0
IsForm count (Ok k) = k < count
IsForm count (Err e) = ⊥

abbrev pub IsNoForm : ℕ → Value → Type 0
IsNoForm count (Ok k) = count ≤ k
IsNoForm count (Err e) = ⊥

-- a text of at most 512 bytes of the grammar, with this count of forms and this tree
pub record IsCounted (text : List ℕ) (count : ℕ) (tree : Tree) : Type 0 where
  pub short : length text ≤ 512
  pub spelled : SpellsRule text (Number count) tree
  pub counted : IsCount (Number count)

-- it is not too deep, and at each number below n the value is a form's number
pub record IsTestedBelow (n : ℕ) (text : List ℕ) (count : ℕ) (tree : Tree) : Type 0 where
  pub counted : IsCounted text count tree
  pub shallow : depth tree ≤ 32
  pub values : (m : ℕ) → m < n → IsForm count (value_of tree m)

-- the text is a rule that passes all tests
abbrev pub IsRuleOf : List ℕ → Rule → Type 0
IsRuleOf text rule = IsTestedBelow 1000 text rule.count rule.tree

-- the first test that the text fails
abbrev pub IsFaultOf : List ℕ → PluralFault → Type 0
IsFaultOf text faults.Syntax = (length text ≤ 512) × ((written : Token) (tree : Tree) → ¬ (SpellsRule text written tree))
IsFaultOf text faults.Count = (length text ≤ 512) × ((written : Token) × ((tree : Tree) × (SpellsRule text written tree × ¬ (IsCount written))))
IsFaultOf text faults.Depth = (512 < length text) ⊎ ((count : ℕ) × ((tree : Tree) × (IsCounted text count tree × (32 < depth tree))))
IsFaultOf text (faults.Faults n) = (n < 1000) × ((count : ℕ) × ((tree : Tree) × (IsTestedBelow n text count tree × IsErr (value_of tree n))))
IsFaultOf text (faults.Range n) = (n < 1000) × ((count : ℕ) × ((tree : Tree) × (IsTestedBelow n text count tree × IsNoForm count (value_of tree n))))
IsFaultOf text faults.Memory = ⊥

-- ---- the same, computed

abbrev pub count_of : Token → Option ℕ
count_of (Number k) = if nat_lt 0 k && nat_lt k 9 then Some k else None
count_of _ = None

abbrev pub value_fault : ℕ → ℕ → Value → Option PluralFault
value_fault count n (Ok k) = if nat_lt k count then None else Some (faults.Range n)
value_fault count n (Err e) = Some (faults.Faults n)

-- the first n of the list with a fault
abbrev pub first_fault : Rule → List ℕ → Option PluralFault
first_fault rule [] = None
first_fault rule (n ∷ ns) = elim (value_fault rule.count n (value_of rule.tree n)) [ Some fault ↦ Some fault | None ↦ first_fault rule ns ]

-- the first n in 0..999 with a fault
unfoldable pub values_fault : Rule → Option PluralFault
values_fault rule = first_fault rule (range_with_len 0 1000)

-- a rule that passed the tests
pub record IsSound (rule : Rule) : Type 0 where
  pub some : 0 < rule.count
  pub most : rule.count ≤ form_limit
  pub shallow : depth rule.tree ≤ 32
  pub values : values_fault rule ≡ None

-- the rule, or the first fault of its tree
abbrev pub rule_tested : Rule → Result Rule PluralFault
rule_tested rule = if nat_lt 32 (depth rule.tree) then Err faults.Depth else (elim (values_fault rule) [ None ↦ Ok rule | Some fault ↦ Err fault ])

abbrev pub rule_counted : Token → Tree → Result Rule PluralFault
rule_counted written tree = elim (count_of written) [ None ↦ Err faults.Count | Some count ↦ rule_tested (record { count = count; tree = tree }) ]

abbrev pub rule_read : Option (Token × Tree) → Result Rule PluralFault
rule_read None = Err faults.Syntax
rule_read (Some (written, tree)) = rule_counted written tree

-- the rule of a text, or its first fault
unfoldable pub reading_of : List ℕ → Result Rule PluralFault
reading_of text = if nat_lt 512 (length text) then Err faults.Depth else rule_read (rule_of text)

-- ---- the numbers of the faults

abbrev pub fault_number : PluralFault → ℕ
fault_number faults.Syntax = 1
fault_number faults.Count = 2
fault_number faults.Depth = 3
fault_number (faults.Faults n) = 4
fault_number (faults.Range n) = 5
fault_number faults.Memory = 6

-- where it is met
abbrev pub fault_at : PluralFault → Option ℕ
fault_at faults.Syntax = None
fault_at faults.Count = None
fault_at faults.Depth = None
fault_at (faults.Faults n) = Some n
fault_at (faults.Range n) = Some n
fault_at faults.Memory = None

abbrev pub eval_fault_number : EvalFault → ℕ
eval_fault_number eval_faults.Zero = 1
eval_fault_number eval_faults.Below = 2
eval_fault_number eval_faults.Above = 3
eval_fault_number eval_faults.Range = 4
