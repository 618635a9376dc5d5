-- Whether suggestions have the sums of the votes on them, and few votes, as the rows of walks over all sums and all suggestions show it. This project's own words.
use Rattle.std.specs.Prelude.{◌≡◌, ◌≤◌, ◌⊎◌, ◌+◌, ◌+ℤ◌, ◌-ℤ◌, ⊤, ℤ, pos, nat_le, Bool, true, false, List, [], ◌∷◌, ◌++◌, unwrap_or, codes}
use Rattle.std.specs.FinMap as maps
use Rattle.sqlite.specs.declared.types.Value.{Value}
use Rattle.sqlite.specs.Effect.{Database}
use Rattle.sqlite.specs.Order.{Row, column}
use Rattle.sqlite_rules.specs.Lists.{Has}
use Rattle.units.specs.Limits.{vote_limit}
use Rattle.sql_schema.specs.Keys.{first_text}
use Rattle.sql_schema.specs.Layouts.{NamedRows, rows_named}
use Rattle.sql_meaning.specs.Values.{natural_at}
use Rattle.sql_decoding.specs.RowTests.{is_vote_row}
use Rattle.sql_figures.specs.KeptSums.{votes_among}
use Rattle.sql_statements.specs.SummedVotes.{summed, sum_counted}
use Rattle.sql_statements.specs.WalkedRows.{is_unsummed}
use Rattle.sql_layouts.specs.RisingRows.{integer_in}
use Rattle.sql_adoption.specs.Adoption.{Each}
use Rattle.sql_adoption.specs.FigureRows.{is_sum}
use Rattle.sql_adoption.specs.Told.{TellsAll, tells_none, tells_more}
use Rattle.sql_adoption.specs.declared.faults.OpenFault.{OpenFault}
use Rattle.sql_adoption.specs.declared.faults.OpenFault.TheVariants.{Foreign, Exists}
use Rattle.sql_adoption.specs.declared.faults.Mismatch.TheVariants.{OtherTables, OtherForm, UnreadRow, OtherFigures, BrokenRules}

-- 0 where there is none
abbrev pub count_in : Value → ℤ
count_in v = unwrap_or (integer_in v) (pos 0)

-- number, the sum that is kept, votes for, votes against: the sum is 1 and the votes for, less those against
abbrev pub is_kept_sum : Row → Bool
is_kept_sum row = is_sum (integer_in (column row 1)) ((pos 1 +ℤ count_in (column row 2)) -ℤ count_in (column row 3))

-- of each suggestion this is shown
abbrev pub HaveToldSums : NamedRows → Type 0
HaveToldSums tables = (s : Row) → Has (tables (codes "d_suggestion")) s → is_kept_sum (summed tables s) ≡ true

-- those for and those against are few
abbrev pub has_few_votes : Row → Bool
has_few_votes row = nat_le (natural_at 2 row + natural_at 3 row) vote_limit

abbrev pub HaveToldFew : NamedRows → Type 0
HaveToldFew tables = (s : Row) → Has (tables (codes "d_suggestion")) s → has_few_votes (summed tables s) ≡ true

-- few votes are on each suggestion
abbrev pub HaveFewVotes : NamedRows → Type 0
HaveFewVotes tables = (s : Row) → Has (tables (codes "d_suggestion")) s → maps.len (votes_among (tables (codes "d_vote")) (first_text s)) ≤ vote_limit

-- voter, value, number: each vote's row stands for one
abbrev pub VotesStand : Database → Type 0
VotesStand db = Each (codes "d_vote") (2 ∷ 3 ∷ 1 ∷ []) is_vote_row (rows_named db)

-- ---- of each sum, and of each suggestion that it has one

-- of each sum this is shown
abbrev pub HaveOwnSums : NamedRows → Type 0
HaveOwnSums tables = (r : Row) → Has (tables (codes "d_vote_sum")) r → is_kept_sum (sum_counted tables r) ≡ true

abbrev pub HaveOwnFew : NamedRows → Type 0
HaveOwnFew tables = (r : Row) → Has (tables (codes "d_vote_sum")) r → has_few_votes (sum_counted tables r) ≡ true

abbrev pub AreSummed : NamedRows → Type 0
AreSummed tables = (s : Row) → Has (tables (codes "d_suggestion")) s → is_unsummed tables s ≡ false

-- ---- what a walk tells of both

pub record TellsSums (k f : Bool) (rows : List Row) (l g : Bool) : Type 0 where
  pub sums : TellsAll is_kept_sum k rows l
  pub few : TellsAll has_few_votes f rows g

pub sums_none : (kept few : Bool) → TellsSums kept few [] kept few
sums_none kept few = record { sums = tells_none is_kept_sum kept; few = tells_none has_few_votes few }

pub sums_more : (k l m f g h : Bool) (xs ys : List Row) → TellsSums k f xs l g → TellsSums l g ys m h → TellsSums k f (xs ++ ys) m h
sums_more k l m f g h xs ys one two = record { sums = tells_more is_kept_sum k l m xs ys one.sums two.sums; few = tells_more has_few_votes f g h xs ys one.few two.few }

-- what is true of sums that are refused so by themselves
abbrev pub RefusesOwnSums : NamedRows → OpenFault → Type 0
RefusesOwnSums tables (Foreign BrokenRules) = ¬ HaveOwnFew tables
RefusesOwnSums tables (Foreign OtherFigures) = HaveOwnFew tables × (¬ HaveOwnSums tables)
RefusesOwnSums tables (Foreign UnreadRow) = ⊥
RefusesOwnSums tables (Foreign OtherForm) = ⊥
RefusesOwnSums tables (Foreign OtherTables) = ⊥
RefusesOwnSums tables Exists = ⊥
RefusesOwnSums tables _ = ⊤

-- what is true of sums that are refused so
abbrev pub RefusesSums : NamedRows → OpenFault → Type 0
RefusesSums tables (Foreign BrokenRules) = ¬ HaveToldFew tables
RefusesSums tables (Foreign OtherFigures) = (HaveToldFew tables × (¬ HaveToldSums tables)) ⊎ (¬ AreSummed tables)
RefusesSums tables (Foreign UnreadRow) = ⊥
RefusesSums tables (Foreign OtherForm) = ⊥
RefusesSums tables (Foreign OtherTables) = ⊥
RefusesSums tables Exists = ⊥
RefusesSums tables _ = ⊤
