-- The texts that read of which domain each row is.
use Rattle.std.proofs.Common.{List, [], ◌∷◌, ◌++◌, codes, refl}
use Rattle.sqlite.specs.Order.{Row}
use Rattle.sqlite.specs.State.{State, Begins, Shown}
use Rattle.sqlite.specs.Listing.{understood}
use Rattle.sqlite.proofs.Callers.{IsPlain}
use Rattle.sqlite_tied.specs.Compute.{everything}
use Rattle.sql_schema.specs.Inside.{IsReadyFor}
use Rattle.sql_schema.specs.Schema.{d_template_table, d_language_table, d_unit_table, d_suggestion_table}
use Rattle.sql_schema.specs.Layouts.{by_domain, made_last, from_first, from_second}
use Rattle.sql_schema.proofs.Layouts.{d_template_placed, d_language_placed, d_unit_placed, d_suggestion_placed}
use Rattle.sql_statements.specs.Owners.{owned_name, owned_place, owners_text, ShowsOwners}
use Rattle.sql_statements.specs.declared.owners.Owned.{Owned}
use Rattle.sql_statements.specs.declared.owners.Owned.TheVariants.{Template, Languages, Units, Suggestions}
use Rattle.sql_statements.proofs.TableQueries.{IsTableQueryOf, table_plain, table_shown, table_begun}
use Rattle.sql_statements.proofs.ReadsUnread.{IsAcceptedBy, IsUnreadBy, unread_by}

template_are : IsTableQueryOf by_domain (owners_text Template) d_template_table (1 ∷ []) (1 ∷ []) (codes "domain" ∷ [])
unfolding understood everything
template_are made_last = record { command = refl; own_tables = refl; plain = (refl, refl) }
template_are from_first = record { command = refl; own_tables = refl; plain = (refl, refl) }
template_are from_second = record { command = refl; own_tables = refl; plain = (refl, refl) }

template_accepted : IsAcceptedBy by_domain (owners_text Template) []
unfolding understood everything
template_accepted made_last = refl
template_accepted from_first = refl
template_accepted from_second = refl

template_unread : IsUnreadBy by_domain (owners_text Template) []
template_unread = unread_by (owners_text Template) [] _ _ template_are template_accepted

languages_are : IsTableQueryOf by_domain (owners_text Languages) d_language_table (1 ∷ []) (1 ∷ []) (codes "domain" ∷ [])
unfolding understood everything
languages_are made_last = record { command = refl; own_tables = refl; plain = (refl, refl) }
languages_are from_first = record { command = refl; own_tables = refl; plain = (refl, refl) }
languages_are from_second = record { command = refl; own_tables = refl; plain = (refl, refl) }

languages_accepted : IsAcceptedBy by_domain (owners_text Languages) []
unfolding understood everything
languages_accepted made_last = refl
languages_accepted from_first = refl
languages_accepted from_second = refl

languages_unread : IsUnreadBy by_domain (owners_text Languages) []
languages_unread = unread_by (owners_text Languages) [] _ _ languages_are languages_accepted

units_are : IsTableQueryOf by_domain (owners_text Units) d_unit_table (1 ∷ []) (1 ∷ []) (codes "domain" ∷ [])
unfolding understood everything
units_are made_last = record { command = refl; own_tables = refl; plain = (refl, refl) }
units_are from_first = record { command = refl; own_tables = refl; plain = (refl, refl) }
units_are from_second = record { command = refl; own_tables = refl; plain = (refl, refl) }

units_accepted : IsAcceptedBy by_domain (owners_text Units) []
unfolding understood everything
units_accepted made_last = refl
units_accepted from_first = refl
units_accepted from_second = refl

units_unread : IsUnreadBy by_domain (owners_text Units) []
units_unread = unread_by (owners_text Units) [] _ _ units_are units_accepted

suggestions_are : IsTableQueryOf by_domain (owners_text Suggestions) d_suggestion_table (2 ∷ []) (2 ∷ []) (codes "domain" ∷ [])
unfolding understood everything
suggestions_are made_last = record { command = refl; own_tables = refl; plain = (refl, refl) }
suggestions_are from_first = record { command = refl; own_tables = refl; plain = (refl, refl) }
suggestions_are from_second = record { command = refl; own_tables = refl; plain = (refl, refl) }

suggestions_accepted : IsAcceptedBy by_domain (owners_text Suggestions) []
unfolding understood everything
suggestions_accepted made_last = refl
suggestions_accepted from_first = refl
suggestions_accepted from_second = refl

suggestions_unread : IsUnreadBy by_domain (owners_text Suggestions) []
suggestions_unread = unread_by (owners_text Suggestions) [] _ _ suggestions_are suggestions_accepted

module _ (s : State) (ready : IsReadyFor by_domain s) where
  pub owners_plain : (table : Owned) → IsPlain (understood s.now.schema (owners_text table))
  owners_plain Template = table_plain (owners_text Template) d_template_table d_template_placed (1 ∷ []) (1 ∷ []) (0 ∷ []) _ template_are (λ tree r t. refl) s ready
  owners_plain Languages = table_plain (owners_text Languages) d_language_table d_language_placed (1 ∷ []) (1 ∷ []) (0 ∷ []) _ languages_are (λ tree r t. refl) s ready
  owners_plain Units = table_plain (owners_text Units) d_unit_table d_unit_placed (1 ∷ []) (1 ∷ []) (0 ∷ []) _ units_are (λ tree r t. refl) s ready
  owners_plain Suggestions = table_plain (owners_text Suggestions) d_suggestion_table d_suggestion_placed (2 ∷ []) (2 ∷ []) (0 ∷ []) _ suggestions_are (λ tree r t. refl) s ready

  pub owners_shown : (table : Owned) → (rows : List Row) → Shown (owners_text table) [] s s rows → ShowsOwners (owned_name table) (owned_place table) s.now rows
  owners_shown Template = table_shown (owners_text Template) d_template_table d_template_placed (1 ∷ []) (1 ∷ []) (0 ∷ []) _ template_are (λ tree r t. refl) s ready
  owners_shown Languages = table_shown (owners_text Languages) d_language_table d_language_placed (1 ∷ []) (1 ∷ []) (0 ∷ []) _ languages_are (λ tree r t. refl) s ready
  owners_shown Units = table_shown (owners_text Units) d_unit_table d_unit_placed (1 ∷ []) (1 ∷ []) (0 ∷ []) _ units_are (λ tree r t. refl) s ready
  owners_shown Suggestions = table_shown (owners_text Suggestions) d_suggestion_table d_suggestion_placed (2 ∷ []) (2 ∷ []) (0 ∷ []) _ suggestions_are (λ tree r t. refl) s ready

  pub owners_begun : (table : Owned) → (rows : List Row) → Begins (owners_text table) [] s rows → (tail : List Row) × ShowsOwners (owned_name table) (owned_place table) s.now (rows ++ tail)
  owners_begun Template = table_begun (owners_text Template) d_template_table d_template_placed (1 ∷ []) (1 ∷ []) (0 ∷ []) _ template_are (λ tree r t. refl) s ready
  owners_begun Languages = table_begun (owners_text Languages) d_language_table d_language_placed (1 ∷ []) (1 ∷ []) (0 ∷ []) _ languages_are (λ tree r t. refl) s ready
  owners_begun Units = table_begun (owners_text Units) d_unit_table d_unit_placed (1 ∷ []) (1 ∷ []) (0 ∷ []) _ units_are (λ tree r t. refl) s ready
  owners_begun Suggestions = table_begun (owners_text Suggestions) d_suggestion_table d_suggestion_placed (2 ∷ []) (2 ∷ []) (0 ∷ []) _ suggestions_are (λ tree r t. refl) s ready

pub owners_unread : (table : Owned) → IsUnreadBy by_domain (owners_text table) []
owners_unread Template = template_unread
owners_unread Languages = languages_unread
owners_unread Units = units_unread
owners_unread Suggestions = suggestions_unread
