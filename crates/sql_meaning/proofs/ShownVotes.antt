-- The votes that the rows of `vote` stand for: what a query by a suggestion's number finds of them.
use Rattle.std.proofs.Common.{◌≡◌, List, [], ◌∷◌, map, filter, refl, codes}
use Rattle.std.specs.Cmp.Lexicographic.{nat_list_cmp_total}
use Rattle.std.specs.List.Sorted.{IsPermutation}
use Rattle.sqlite.specs.Order.{Row}
use Rattle.sql_laws.specs.RowMaps.{OneEach}
use Rattle.po_text.specs.Texts.{Text, text_cmp}
use Rattle.sql_schema.specs.Keys.{text_at, first_texts, has_text, columns}
use Rattle.sql_meaning.specs.Values.{vote_at}
use Rattle.sql_meaning.specs.Meaning.{votes_in}
use Rattle.sql_meaning.specs.Shown.{shown_votes}
use Rattle.sql_meaning.proofs.Books.{same_texts}
use Rattle.sql_meaning.proofs.ShownMaps.{map_is, inserted_answers}
use Rattle.sql_meaning.proofs.UniqueKeys.{one_voter}
use Rattle.sql_schema.specs.Layouts.{NamedRows}

pub finds_votes : (tables : NamedRows) (number : Text) (rows : List Row) → OneEach first_texts (tables (codes "vote"))
    → IsPermutation (map (columns (2 ∷ 3 ∷ [])) (filter (has_text 1 number) (tables (codes "vote")))) rows → votes_in tables number ≡ shown_votes rows
finds_votes tables number rows one listed =
    map_is text_cmp nat_list_cmp_total same_texts (text_at 2) (vote_at 3) (columns (2 ∷ 3 ∷ [])) (text_at 0) (vote_at 1) (filter (has_text 1 number) (tables (codes "vote"))) rows
    (λ r there. refl) (λ r there. refl) listed (shown_votes rows) (one_voter (tables (codes "vote")) number one)
    (inserted_answers text_cmp nat_list_cmp_total same_texts (text_at 0) (vote_at 1) rows)
