use Rattle.std.proofs.Common.{◌≡◌, ℕ, List, map, drop}
use Rattle.std.specs.Str.{bytes_eq}
use Rattle.std.specs.List.{find}
use Rattle.po_lex.specs.declared.line.Keyword.{Keyword}
use Rattle.po_lex.specs.PlainTokens.{spelled}
use Rattle.po_lex.proofs.forms.written_as.Given as goal

-- none of the keywords so far is written as the word
abbrev pub invariant-loop-text : goal.invariant-loop-text
invariant-loop-text l =
    find (λ (w : List ℕ × Keyword). bytes_eq w.0 l.word) (map spelled l.table)
    ≡ find (λ (w : List ℕ × Keyword). bytes_eq w.0 l.word) (map spelled (drop l.text-index l.table))
