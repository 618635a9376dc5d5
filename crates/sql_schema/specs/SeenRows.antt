-- The rows of one domain as tables hold them that have no column for a domain: a row without that column, and a template's entry at its place.
-- What such tables stand for is then said once, of rows by the names of their tables, whichever tables these were.
use Rattle.std.specs.Prelude.{ℕ, Bool, List, [], ◌∷◌, cond, map, filter, codes, ◌&&◌}
use Rattle.std.specs.List.{list_any}
use Rattle.std.specs.Ordering.{nat_cmp, is_eq}
use Rattle.std.specs.Cmp.Lexicographic.{slice_cmp}
use Rattle.sqlite.specs.declared.types.Value.TheVariants.{Null}
use Rattle.sqlite.specs.Order.{Row, column}
use Rattle.sqlite_rules.specs.Lists.{Has}
use Rattle.sql_schema.specs.Layouts.{NamedRows}
use Rattle.sql_schema.specs.Keys.{first_text, has_text, columns}

-- the rows that pass a test, each as it is seen
abbrev pub rows_seen : (Row → Bool) → (Row → Row) → List Row → List Row
rows_seen test seen rows = map seen (filter test rows)

-- a place is what a rowid is to the other tables, whose column of that name is null
abbrev pub entry_seen : Row → Row
entry_seen row = column row 2 ∷ Null ∷ columns (3 ∷ 4 ∷ 5 ∷ 6 ∷ 7 ∷ []) row

abbrev pub language_seen : Row → Row
language_seen = columns (0 ∷ 2 ∷ 3 ∷ 4 ∷ [])

abbrev pub unit_seen : Row → Row
unit_seen = columns (0 ∷ 2 ∷ 3 ∷ 4 ∷ 5 ∷ 6 ∷ 7 ∷ 8 ∷ 9 ∷ 10 ∷ [])

abbrev pub suggestion_seen : Row → Row
suggestion_seen = columns (0 ∷ 1 ∷ 3 ∷ 4 ∷ 5 ∷ 6 ∷ 7 ∷ [])

-- a vote is of the domain of its suggestion
abbrev pub is_vote_in : List ℕ → List Row → Row → Bool
is_vote_in domain suggestions vote = list_any (λ s. has_text 1 (first_text vote) s && has_text 2 domain s) suggestions

abbrev pub vote_seen : Row → Row
vote_seen vote = vote

-- rows by the names of the tables that have no column for a domain
abbrev pub named_so : (records team policy template languages units suggestions votes : List Row) → NamedRows
named_so records team policy template languages units suggestions votes name =
    cond (is_eq (slice_cmp nat_cmp name (codes "unit"))) units (cond (is_eq (slice_cmp nat_cmp name (codes "suggestion"))) suggestions (cond (is_eq (slice_cmp nat_cmp name (codes "vote"))) votes
    (cond (is_eq (slice_cmp nat_cmp name (codes "template"))) template (cond (is_eq (slice_cmp nat_cmp name (codes "language"))) languages (cond (is_eq (slice_cmp nat_cmp name (codes "team"))) team
    (cond (is_eq (slice_cmp nat_cmp name (codes "policy"))) policy (cond (is_eq (slice_cmp nat_cmp name (codes "record"))) records [])))))))

-- what a domain sees; records, team and policy are of the whole office
abbrev pub seen_in : List ℕ → NamedRows → NamedRows
seen_in domain rows =
    named_so (rows (codes "record")) (rows (codes "team")) (rows (codes "policy")) (rows_seen (has_text 1 domain) entry_seen (rows (codes "d_template")))
    (rows_seen (has_text 1 domain) language_seen (rows (codes "d_language"))) (rows_seen (has_text 1 domain) unit_seen (rows (codes "d_unit")))
    (rows_seen (has_text 2 domain) suggestion_seen (rows (codes "d_suggestion"))) (rows_seen (is_vote_in domain (rows (codes "d_suggestion"))) vote_seen (rows (codes "d_vote")))

-- Both have the same rows, in any order and however often.
pub record AreSame (old new : List Row) : Type 0 where
  pub only : (x : Row) → Has new x → Has old x
  pub kept : (x : Row) → Has old x → Has new x

-- Those of each table are the same.
abbrev pub AreSameByName : NamedRows → NamedRows → Type 0
AreSameByName old new = (name : List ℕ) → AreSame (old name) (new name)
