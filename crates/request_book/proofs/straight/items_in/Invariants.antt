use Rattle.std.proofs.Common.{◌≡◌, ◌++◌, All, flat_map, length}
use Rattle.request_book.specs.Tokens.{data_tokens}
use Rattle.request_book.proofs.straight.items_in.Given as goal

-- the items so far are read, and keep their limits
abbrev pub invariant-items : goal.invariant-items
invariant-items g l = record {
  tokens : l.initial.reader ≡ flat_map (λ x. data_tokens (g.F.FromTokens.json x)) l.list.items ++ l.reader;
  fits : All g.F.FromTokens.fits l.list.items;
}

abbrev pub decreases-items : goal.decreases-items
decreases-items g l = length l.reader
