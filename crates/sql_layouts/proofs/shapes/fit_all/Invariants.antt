use Rattle.std.proofs.Common.{◌≡◌, map, take}
use Rattle.sql_layouts.proofs.shapes.fit_all.Given as goal

-- the parts so far are as they are told
abbrev pub invariant-loop-i : goal.invariant-loop-i
invariant-loop-i g l = take l.i l.found ≡ map g.S.Shape.part (take l.i l.shapes)
