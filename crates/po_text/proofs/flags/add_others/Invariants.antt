use Rattle.std.proofs.Common.{◌≡◌, ◌++◌, map, take, not}
use Rattle.std.specs.Prelude.{filter}
use Rattle.std.specs.Str.{bytes_eq}
use Rattle.po_text.specs.Valid.{fuzzy}
use Rattle.po_text.proofs.flags.add_others.Given as goal

abbrev pub invariant-loop-flag : goal.invariant-loop-flag
invariant-loop-flag l = l.texts ≡ l.fn.texts ++ filter (λ text. not (bytes_eq fuzzy text)) (map (λ flag. flag.now) (take l.flag-index l.flags))
