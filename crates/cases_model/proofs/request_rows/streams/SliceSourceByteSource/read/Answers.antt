use Rattle.std.proofs.Common.{Some, ◌≡◌, ℕ, ◌-◌, ◌<◌, ◌≤◌, length, List, [], ◌∷◌, ◌++◌, slice_index_or, slice_set, ap, arith}
use Rattle.std.proofs.lemmas.Grind.{common_steps}
use Rattle.cases_model.proofs.request_rows.streams.SliceSourceByteSource.read.Goals as goal

one_given : (s r : List ℕ) → 1 ≤ length s → 0 < length r → s ≡ lib.ListN.take 1 (slice_set r 0 (slice_index_or s 0 0)) ++ lib.ListN.take (length s - 1) (lib.ListN.drop 1 s)
one_given [] r h k = absurd (omega arith)
one_given (x ∷ s) [] h k = absurd (omega arith)
one_given (x ∷ s) (y ∷ r) h k = grind (arith, common_steps)

pub returns-in-len1-up-clause-ok : goal.returns-in-len1-up-clause-ok
returns-in-len1-up-clause-ok c = ap Some (one_given c.args.self.now.left.now c.args.room.now c.in-len1-up.len_at_least c.requires)
