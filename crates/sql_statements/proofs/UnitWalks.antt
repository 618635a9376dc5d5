-- The text of the walk over all votes.
use Rattle.std.proofs.Common.{ℕ, List, [], ◌∷◌, ◌++◌, codes, refl}
use Rattle.sqlite.specs.Order.{Row}
use Rattle.sqlite.specs.State.{State, Begins, Shown}
use Rattle.sqlite.specs.Listing.{understood}
use Rattle.sqlite.proofs.Callers.{IsPlain}
use Rattle.sqlite_tied.specs.Compute.{everything}
use Rattle.sql_schema.specs.Inside.{IsReadyFor}
use Rattle.sql_schema.specs.Layouts.{by_domain, made_last, from_first, from_second}
use Rattle.sql_schema.specs.Schema.{d_vote_table}
use Rattle.sql_schema.proofs.Layouts.{d_vote_placed}
use Rattle.sql_statements.specs.WalkedRows.{ShowsAllVotes}
use Rattle.sql_statements.proofs.TableQueries.{IsTableQueryOf, table_plain, table_shown, table_begun}
use Rattle.sql_statements.proofs.ReadsUnread.{IsAcceptedBy, IsUnreadBy, unread_by}

abbrev pub votes_text : List ℕ
votes_text = codes "SELECT voter, value, number FROM d_vote ORDER BY number, voter"

votes_are : IsTableQueryOf by_domain votes_text d_vote_table (2 ∷ 3 ∷ 1 ∷ []) (1 ∷ 2 ∷ []) (codes "voter" ∷ codes "value" ∷ codes "number" ∷ [])
unfolding understood everything
votes_are made_last = record { command = refl; own_tables = refl; plain = (refl, refl) }
votes_are from_first = record { command = refl; own_tables = refl; plain = (refl, refl) }
votes_are from_second = record { command = refl; own_tables = refl; plain = (refl, refl) }

votes_accepted : IsAcceptedBy by_domain votes_text []
unfolding understood everything
votes_accepted made_last = refl
votes_accepted from_first = refl
votes_accepted from_second = refl

pub votes_unread : IsUnreadBy by_domain votes_text []
votes_unread = unread_by votes_text [] _ _ votes_are votes_accepted

module _ (s : State) (ready : IsReadyFor by_domain s) where
  pub votes_plain : IsPlain (understood s.now.schema votes_text)
  votes_plain = table_plain votes_text d_vote_table d_vote_placed (2 ∷ 3 ∷ 1 ∷ []) (1 ∷ 2 ∷ []) (2 ∷ 0 ∷ []) _ votes_are (λ tree r t. refl) s ready

  pub votes_shown : (rows : List Row) → Shown votes_text [] s s rows → ShowsAllVotes s.now rows
  votes_shown = table_shown votes_text d_vote_table d_vote_placed (2 ∷ 3 ∷ 1 ∷ []) (1 ∷ 2 ∷ []) (2 ∷ 0 ∷ []) _ votes_are (λ tree r t. refl) s ready

  pub votes_begun : (rows : List Row) → Begins votes_text [] s rows → (tail : List Row) × ShowsAllVotes s.now (rows ++ tail)
  votes_begun = table_begun votes_text d_vote_table d_vote_placed (2 ∷ 3 ∷ 1 ∷ []) (1 ∷ 2 ∷ []) (2 ∷ 0 ∷ []) _ votes_are (λ tree r t. refl) s ready
