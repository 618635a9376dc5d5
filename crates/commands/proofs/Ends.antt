-- How the lines of a rule end.
use Rattle.std.proofs.Common.{◌≡◌, ◌≢◌, ℕ, List, [], ◌⊎◌, inl, inr, Option, Some, None, Result, Ok, Err, MatchResult, refl, sym, ap, subst, ◌∙◌}
use Rattle.plural_expr.specs.declared.fault.EvalFault.{EvalFault}
use Rattle.plural_expr.specs.declared.fault.PluralFault.{PluralFault}
use Rattle.plural_expr.specs.declared.fault.PluralFault.TheVariants as faults
use Rattle.plural_expr.specs.Values.{Rule}
use Rattle.plural_expr.specs.Faults.{reading_of}
use Rattle.office.specs.Writers.{Writer, TakesAll, TakesPart}
use Rattle.office.proofs.Streaming.{took_none, all_or_part}
use Rattle.commands.specs.PluralLines.{plural_fault_line, index_fault_line, lines_of, fault_of, ended, refused, answered, printed, IsPrinted, all, cut, untold, memory}

nothing : (w : Writer) → TakesAll w w []
nothing w = took_none w.taken w.failed

memory_or : (fault : PluralFault) → (fault ≡ faults.Memory) ⊎ (fault ≢ faults.Memory)
memory_or faults.Memory = inl refl
memory_or faults.Syntax = inr (λ e. cc)
memory_or faults.Count = inr (λ e. cc)
memory_or faults.Depth = inr (λ e. cc)
memory_or (faults.Faults n) = inr (λ e. cc)
memory_or (faults.Range n) = inr (λ e. cc)

told_or_not : {T E : Type 0} (w e0 e1 : Writer) (fault : PluralFault) (r : Result T E)
    → MatchResult r (λ _. TakesAll e0 e1 (plural_fault_line fault)) (λ _. TakesPart e0 e1 (plural_fault_line fault))
    → IsPrinted (refused fault) w w e0 e1 1
told_or_not w e0 e1 fault (Ok x) h = all (nothing w) h refl
told_or_not w e0 e1 fault (Err x) h = untold (nothing w) h refl

pub refused_ends : {T E : Type 0} (w e0 e1 : Writer) (value ns : List ℕ) (fault : PluralFault) (r : Result T E)
    → (fault ≢ faults.Memory → reading_of value ≡ Err fault)
    → MatchResult r (λ _. TakesAll e0 e1 (plural_fault_line fault)) (λ _. TakesPart e0 e1 (plural_fault_line fault))
    → IsPrinted (printed value ns) w w e0 e1 1
refused_ends w e0 e1 value ns fault r read h =
    elim (memory_or fault) [
      | inl is ↦ memory (nothing w) (subst (λ f. TakesAll e0 e1 (plural_fault_line f) ⊎ TakesPart e0 e1 (plural_fault_line f)) is (all_or_part e0 e1 (plural_fault_line fault) r h)) refl
      | inr other ↦
          let shown : refused fault ≡ printed value ns = sym (ap (λ q. answered q ns) (read other)) in
          subst (λ p. IsPrinted p w w e0 e1 1) shown (told_or_not w e0 e1 fault r h)
    ]

-- ---- by a rule that was read

module _ (w0 w1 : Writer) (value ns : List ℕ) (rule : Rule) (read : reading_of value ≡ Ok rule) where
  -- what is printed, by how the lines end
  shown : (end : Option (EvalFault × ℕ)) → end ≡ fault_of rule ns → ended (lines_of rule ns) end ≡ printed value ns
  shown end is = ap (ended (lines_of rule ns)) is ∙ sym (ap (λ q. answered q ns) read)

  index_told : {T E : Type 0} (e0 e1 : Writer) (fault : EvalFault) (n : ℕ) (r : Result T E) → TakesAll w0 w1 (lines_of rule ns)
      → MatchResult r (λ _. TakesAll e0 e1 (index_fault_line fault n)) (λ _. TakesPart e0 e1 (index_fault_line fault n))
      → IsPrinted (ended (lines_of rule ns) (Some (fault, n))) w0 w1 e0 e1 1
  index_told e0 e1 fault n (Ok x) lines h = all lines h refl
  index_told e0 e1 fault n (Err x) lines h = untold lines h refl

  pub index_ends : {T E : Type 0} (e0 e1 : Writer) (fault : EvalFault) (n : ℕ) (r : Result T E) → TakesAll w0 w1 (lines_of rule ns) → Some (fault, n) ≡ fault_of rule ns
      → MatchResult r (λ _. TakesAll e0 e1 (index_fault_line fault n)) (λ _. TakesPart e0 e1 (index_fault_line fault n))
      → IsPrinted (printed value ns) w0 w1 e0 e1 1
  index_ends e0 e1 fault n r lines end h = subst (λ p. IsPrinted p w0 w1 e0 e1 1) (shown (Some (fault, n)) end) (index_told e0 e1 fault n r lines h)

  pub all_ends : (e : Writer) → TakesAll w0 w1 (lines_of rule ns) → None ≡ fault_of rule ns → IsPrinted (printed value ns) w0 w1 e e 0
  all_ends e lines end = subst (λ p. IsPrinted p w0 w1 e e 0) (shown None end) (all lines (nothing e) refl)

  cut_so : (e : Writer) (end : Option (EvalFault × ℕ)) → TakesPart w0 w1 (lines_of rule ns) → IsPrinted (ended (lines_of rule ns) end) w0 w1 e e 1
  cut_so e None part = cut part (nothing e) refl
  cut_so e (Some (fault, n)) part = cut part (nothing e) refl

  pub cut_ends : (e : Writer) → TakesPart w0 w1 (lines_of rule ns) → IsPrinted (printed value ns) w0 w1 e e 1
  cut_ends e part = subst (λ p. IsPrinted p w0 w1 e e 1) (shown (fault_of rule ns) refl) (cut_so e (fault_of rule ns) part)
