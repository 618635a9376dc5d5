use Rattle.std.proofs.Common.{◌≡◌, ◌≤◌, ◌-◌, None, length}
use Rattle.http_messages.specs.Streams.{head_limit, first_head}
use Rattle.http_messages.specs.Arrivals.{ReadBehind, WasWanted}
use Rattle.http_messages.proofs.inbox.Inbox.read_head.Given as goal

-- what was read so far; nothing, where enough was there
abbrev pub invariant-loop-self : goal.invariant-loop-self
invariant-loop-self g l =
    record {
      read : ReadBehind (g.R.ByteSource.left l.fn.source) (g.R.ByteSource.left l.source) (g.R.ByteSource.failed l.fn.source) (g.R.ByteSource.failed l.source) l.fn.self l.self;
      at_hand : (first_head l.fn.self ≡ None → head_limit ≤ length l.fn.self) → (l.source ≡ l.fn.source) × (l.self ≡ l.fn.self);
      wanted : WasWanted l.fn.self l.self;
    }

abbrev pub decreases-loop-self : goal.decreases-loop-self
decreases-loop-self g l = 8192 - length l.self
