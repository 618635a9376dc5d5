-- A language's tally that is put, by the columns that are given.
use Rattle.std.proofs.Common.{◌≡◌, ℤ, pos, [], ◌∷◌, subst, codes}
use Rattle.sqlite.specs.declared.types.Value.TheVariants.{Int, Text as Words}
use Rattle.sqlite.specs.Effect.{Database}
use Rattle.sqlite.specs.Order.{Row}
use Rattle.po_text.specs.Texts.{Text}
use Rattle.office_specification.specs.declared.tally.Tally.{Tally}
use Rattle.sql_schema.specs.Inside.{PutsRow, HoldsValues}
use Rattle.sql_schema.specs.Keys.{key_texts}
use Rattle.sql_meaning.specs.Cells.{tally_cells}
use Rattle.sql_commits.specs.Figures.{PutsTally}

pub tally_told : (given code domain lang : Text) (tally : Tally) (untranslated needs_editing translated approved read_only suggestions obsolete : ℤ) (old new : Database) → given ≡ domain → code ≡ lang
    → untranslated ≡ pos tally.untranslated → needs_editing ≡ pos tally.needs_editing → translated ≡ pos tally.translated → approved ≡ pos tally.approved → read_only ≡ pos tally.read_only
    → suggestions ≡ pos tally.suggestions → obsolete ≡ pos tally.obsolete
    → PutsRow (codes "d_tally") (key_texts (1 ∷ 2 ∷ [])) (HoldsValues (Words given ∷ Words code ∷ Int untranslated ∷ Int needs_editing ∷ Int translated ∷ Int approved ∷ Int read_only ∷ Int suggestions ∷ Int obsolete ∷ [])) old new
    → PutsTally domain lang tally old new
tally_told given code domain lang tally untranslated needs_editing translated approved read_only suggestions obsolete old new is_domain is_lang a b c d e f g put =
    let same : Words given ∷ Words code ∷ Int untranslated ∷ Int needs_editing ∷ Int translated ∷ Int approved ∷ Int read_only ∷ Int suggestions ∷ Int obsolete ∷ [] ≡ tally_cells domain lang tally = cc in
    subst (λ (cells : Row). PutsRow (codes "d_tally") (key_texts (1 ∷ 2 ∷ [])) (HoldsValues cells) old new) same put
