use Rattle.std.proofs.Common.{◌≡◌, drop}
use Rattle.po_text.specs.Texts.{text_cmp}
use Rattle.units.specs.Units.{key_text}
use Rattle.units.proofs.keys.compare_by_bytes.Given as goal

-- what is still to be compared decides
abbrev pub invariant-loop-at : goal.invariant-loop-at
invariant-loop-at l = text_cmp (drop l.at (key_text l.a)) (drop l.at (key_text l.b)) ≡ text_cmp (key_text l.a) (key_text l.b)
