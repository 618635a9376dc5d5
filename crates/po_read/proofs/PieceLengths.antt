-- How long the string of a piece is.
use Rattle.std.proofs.Common.{◌≤◌, ℕ, List, length}
use Rattle.po_lex.specs.Escapes.{unescaped}
use Rattle.po_text.proofs.PieceCuts as cuts

pub unescaped_shorter : (raw : List ℕ) → length (unescaped raw) ≤ length raw
unescaped_shorter raw = cuts.unescaped_shorter raw
