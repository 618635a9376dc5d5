use Rattle.std.proofs.Common.{◌≡◌, ◌≤◌, ◌<◌, ◌-◌, ℕ, List, ◌++◌, length}
use Rattle.http_messages.specs.Arrivals.{ReadBehind, HoldsFirst, WasWanted}
use Rattle.http_messages.proofs.inbox.Inbox.read_up_to.Given as goal

-- what was read so far; nothing, where enough was there
abbrev pub invariant-loop-self : goal.invariant-loop-self
invariant-loop-self g l =
    record {
      read : ReadBehind (g.R.ByteSource.left l.fn.source) (g.R.ByteSource.left l.source) (g.R.ByteSource.failed l.fn.source) (g.R.ByteSource.failed l.source) l.fn.self l.self;
      at_hand : l.most ≤ length l.fn.self → (l.source ≡ l.fn.source) × (l.self ≡ l.fn.self);
      wanted : ((more : List ℕ) → length (l.fn.self ++ more) < l.most → HoldsFirst (l.fn.self ++ more) → ⊥) → WasWanted l.fn.self l.self;
    }

abbrev pub decreases-loop-self : goal.decreases-loop-self
decreases-loop-self g l = l.most - length l.self
