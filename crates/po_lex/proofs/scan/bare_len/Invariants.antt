use Rattle.std.proofs.Common.{◌-◌, length}
use Rattle.po_lex.proofs.ScanLemmas.{IsBarePast}
use Rattle.po_lex.proofs.scan.bare_len.Given as goal

abbrev pub invariant-loop-i : goal.invariant-loop-i
invariant-loop-i l = IsBarePast l.bytes l.i

abbrev pub decreases-loop-i : goal.decreases-loop-i
decreases-loop-i l = length l.bytes - l.i
