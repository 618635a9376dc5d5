use Rattle.std.proofs.Common.{take}
use Rattle.std.specs.Prelude.{All, IsUtf8}
use Rattle.sql_keepable.proofs.texts.strings_fit.Given as goal

abbrev pub invariant-loop-string : goal.invariant-loop-string
invariant-loop-string l = All IsUtf8 (take l.string-index l.strings)
