-- The figures that tables keep beside an office's rows, sums of votes and tallies, and how those by domains follow what is written. This project's own
-- rule.
use Rattle.std.specs.Prelude.{⊤, ◌≡◌, ◌&&◌, ◌+◌, ◌<◌, ◌^◌, List, [], ◌∷◌, Bool, cond, Some, option_map, map, codes}
use Rattle.std.specs.Ordering.{nat_cmp, is_eq}
use Rattle.std.specs.Cmp.Lexicographic.{slice_cmp}
use Rattle.sqlite.specs.declared.types.Value.TheVariants.{Text as Words}
use Rattle.sqlite.specs.Effect.{Database}
use Rattle.sqlite.specs.Order.{Row, column}
use Rattle.po_text.specs.Texts.{Text, text_eq}
use Rattle.units.specs.Office.{Office, main, same_domain}
use Rattle.office_specification.specs.declared.tally.Tally.{Tally}
use Rattle.tables.specs.Tallies.{moved, none_approved}
use Rattle.sql_schema.specs.Keys.{columns}
use Rattle.sql_schema.specs.Layouts.{NamedRows, rows_named}
use Rattle.sql_meaning.specs.Domains.{office_of_rows}
use Rattle.sql_figures.specs.KeptSums.{HaveSums}
use Rattle.sql_figures.specs.KeptTallies.{Counts, office_counts, AreTalliesOf}

-- ---- what they are

-- Sums and tallies of rows by domains are what counting these rows gives.
pub record HasFigures (rows : NamedRows) : Type 0 where
  pub tallies : AreTalliesOf (office_counts (office_of_rows rows)) (rows (codes "d_tally"))
  pub sums : HaveSums rows

-- The same where this is the office of the rows.
pub record HoldFigures (office : Office) (rows : NamedRows) : Type 0 where
  pub tallies : AreTalliesOf (office_counts office) (rows (codes "d_tally"))
  pub sums : HaveSums rows

-- ---- those of tables without a column for a domain

-- a language's tally, as tables by domains hold that of a language of `main`
abbrev pub tally_of_main : Row → Row
tally_of_main row = column row 0 ∷ Words main ∷ columns (1 ∷ 2 ∷ 3 ∷ 4 ∷ 5 ∷ 6 ∷ 7 ∷ 8 ∷ []) row

-- the figures and what sums are of, under the names of tables by domains: a suggestion's number, a vote and a sum stand in the same columns of both
abbrev pub figures_of_main : NamedRows → NamedRows
figures_of_main rows name =
    cond (is_eq (slice_cmp nat_cmp name (codes "d_tally"))) (map tally_of_main (rows (codes "tally"))) (cond (is_eq (slice_cmp nat_cmp name (codes "d_suggestion"))) (rows (codes "suggestion"))
    (cond (is_eq (slice_cmp nat_cmp name (codes "d_vote"))) (rows (codes "vote")) (cond (is_eq (slice_cmp nat_cmp name (codes "d_vote_sum"))) (rows (codes "vote_sum")) [])))

-- ---- how counts change

abbrev is_language : Text → Text → Text → Text → Bool
is_language domain lang d l = same_domain d domain && text_eq l lang

-- a language counts this
abbrev pub with_tally : Text → Text → Tally → Counts → Counts
with_tally domain lang tally counts d l = cond (is_language domain lang d l) (Some tally) (counts d l)

-- languages of a domain do, one after the other
abbrev pub with_tallies : Text → List (Text × Tally) → Counts → Counts
with_tallies domain [] counts = counts
with_tallies domain (t ∷ more) counts = with_tallies domain more (with_tally domain t.0 t.1 counts)

-- a language that is there counts a unit no more as it was, and as it is
abbrev pub moved_at : Text → Text → Tally → Tally → Counts → Counts
moved_at domain lang was is counts d l = cond (is_language domain lang d l) (option_map (λ tally. moved tally was is) (counts d l)) (counts d l)

-- no language counts a unit as approved
abbrev pub turned : Counts → Counts
turned counts d l = option_map none_approved (counts d l)

-- 64 bits hold the sum of what is translated and what is approved
abbrev pub HaveRoom : Counts → Type 0
HaveRoom counts = (d l : Text) (tally : Tally) → counts d l ≡ Some tally → tally.translated + tally.approved < 2 ^ 63

-- ---- how figures follow

-- Sums that were what counting gives are so afterwards; and tallies that were those of some counts, of which more may be asked, are those of what becomes of
-- these.
pub record FiguresFollowWhere (Asked : Counts → Type 0) (change : Counts → Counts) (old new : Database) : Type 0 where
  pub sums : HaveSums (rows_named old) → HaveSums (rows_named new)
  pub tallies : (counts : Counts) → Asked counts → AreTalliesOf counts (rows_named old (codes "d_tally")) → AreTalliesOf (change counts) (rows_named new (codes "d_tally"))

-- whatever the counts
abbrev pub FiguresFollow : (Counts → Counts) → Database → Database → Type 0
FiguresFollow = FiguresFollowWhere (λ counts. ⊤)

-- no count changes
abbrev pub FiguresStay : Database → Database → Type 0
FiguresStay = FiguresFollow (λ counts. counts)
