-- The lines of a rule, one after another.
use Rattle.std.proofs.Common.{◌≡◌, ℕ, ◌+◌, ◌<◌, ◌≤◌, List, [], ◌∷◌, ◌++◌, length, drop, get_or, Some, None, Ok, Err, sym, ap, ◌∙◌, drop-cons, add-one}
use Rattle.std.proofs.lemmas.List.{drop_all}
use Rattle.plural_expr.specs.declared.fault.EvalFault.{EvalFault}
use Rattle.plural_expr.specs.Values.{Rule, index_of}
use Rattle.commands.specs.PluralLines.{index_line, line_then, lines_of, fault_then, fault_of}

next : (ns : List ℕ) (i : ℕ) → i < length ns → drop i ns ≡ get_or ns i 0 ∷ drop (i + 1) ns
next ns i low = rw (add-one i) (drop-cons ns i 0 low)

pub line_next : (rule : Rule) (ns : List ℕ) (i form : ℕ) → i < length ns → Ok form ≡ index_of rule (get_or ns i 0) → lines_of rule (drop i ns) ≡ index_line (get_or ns i 0) form ++ lines_of rule (drop (i + 1) ns)
line_next rule ns i form low e = ap (lines_of rule) (next ns i low) ∙ ap (λ v. line_then (get_or ns i 0) v (lines_of rule (drop (i + 1) ns))) (sym e)

pub line_stop : (rule : Rule) (ns : List ℕ) (i : ℕ) (fault : EvalFault) → i < length ns → Err fault ≡ index_of rule (get_or ns i 0) → lines_of rule (drop i ns) ≡ []
line_stop rule ns i fault low e = ap (lines_of rule) (next ns i low) ∙ ap (λ v. line_then (get_or ns i 0) v (lines_of rule (drop (i + 1) ns))) (sym e)

pub line_end : (rule : Rule) (ns : List ℕ) (i : ℕ) → length ns ≤ i → lines_of rule (drop i ns) ≡ []
line_end rule ns i high = ap (lines_of rule) (drop_all i ns high)

pub fault_next : (rule : Rule) (ns : List ℕ) (i form : ℕ) → i < length ns → Ok form ≡ index_of rule (get_or ns i 0) → fault_of rule (drop i ns) ≡ fault_of rule (drop (i + 1) ns)
fault_next rule ns i form low e = ap (fault_of rule) (next ns i low) ∙ ap (λ v. fault_then (get_or ns i 0) v (fault_of rule (drop (i + 1) ns))) (sym e)

pub fault_stop : (rule : Rule) (ns : List ℕ) (i : ℕ) (fault : EvalFault) → i < length ns → Err fault ≡ index_of rule (get_or ns i 0) → fault_of rule (drop i ns) ≡ Some (fault, get_or ns i 0)
fault_stop rule ns i fault low e = ap (fault_of rule) (next ns i low) ∙ ap (λ v. fault_then (get_or ns i 0) v (fault_of rule (drop (i + 1) ns))) (sym e)

pub fault_end : (rule : Rule) (ns : List ℕ) (i : ℕ) → length ns ≤ i → fault_of rule (drop i ns) ≡ None
fault_end rule ns i high = ap (fault_of rule) (drop_all i ns high)
