use Rattle.std.proofs.Common.{drop}
use Rattle.std.specs.List.{AllByRecursion}
use Rattle.po_text.specs.Valid.{IsString}
use Rattle.office.proofs.strings.are_strings.Given as goal

-- where those that are left are, all are
abbrev pub invariant-loop-form : goal.invariant-loop-form
invariant-loop-form l = AllByRecursion IsString (drop l.form-index l.form-items) → AllByRecursion IsString l.form-items
