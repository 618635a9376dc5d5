use Rattle.std.proofs.Common.{◌≡◌, ◌∙◌, refl, ℕ, List, [], ◌∷◌, map, Bool, true, false, Some, option_map, cond}
use Rattle.std.specs.Str.{bytes_eq}
use Rattle.std.specs.List.{find}
use Rattle.po_lex.specs.declared.line.Keyword.{Keyword}
use Rattle.po_lex.specs.Lines.{keyword_text, keywords, find_keyword}
use Rattle.po_lex.proofs.forms.keyword_of.Goals as goal

abbrev written : Keyword → List ℕ × Keyword
written k = (keyword_text k, k)

-- it is found by how it is written
found_written : (word : List ℕ) (ks : List Keyword) → option_map (λ (w : List ℕ × Keyword). w.1) (find (λ w. bytes_eq w.0 word) (map written ks)) ≡ find_keyword word ks
found_written word [] = refl
found_written word (k ∷ ks) = by (bytes_eq (keyword_text k) word) (found_written word ks)
  where
    by : (t : Bool) → option_map (λ (w : List ℕ × Keyword). w.1) (find (λ w. bytes_eq w.0 word) (map written ks)) ≡ find_keyword word ks
        → option_map (λ (w : List ℕ × Keyword). w.1) (cond t (Some (written k)) (find (λ w. bytes_eq w.0 word) (map written ks))) ≡ cond t (Some k) (find_keyword word ks)
    by true rest = refl
    by false rest = rest

pub returns : goal.returns
returns c = c.written_as.ensures ∙ found_written c.args.word.now keywords
