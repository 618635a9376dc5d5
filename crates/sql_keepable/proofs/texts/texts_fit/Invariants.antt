use Rattle.std.proofs.Common.{take}
use Rattle.std.specs.Prelude.{All, IsUtf8}
use Rattle.sql_keepable.proofs.texts.texts_fit.Given as goal

abbrev pub invariant-loop-text : goal.invariant-loop-text
invariant-loop-text l = All IsUtf8 (take l.text-index l.texts)
