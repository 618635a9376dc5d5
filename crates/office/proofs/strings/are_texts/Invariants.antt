use Rattle.std.proofs.Common.{drop}
use Rattle.std.specs.Prelude.{IsUtf8}
use Rattle.std.specs.List.{AllByRecursion}
use Rattle.office.proofs.strings.are_texts.Given as goal

-- where those that are left are, all are
abbrev pub invariant-loop-line : goal.invariant-loop-line
invariant-loop-line l = AllByRecursion (λ line. IsUtf8 line) (drop l.line-index l.lines) → AllByRecursion (λ line. IsUtf8 line) l.lines
