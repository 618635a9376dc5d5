-- The texts that read whole tables.
use Rattle.std.proofs.Common.{ℕ, Bool, List, [], ◌∷◌, codes, refl}
use Rattle.sqlite.specs.Listing.{understood}
use Rattle.sqlite_tied.specs.Compute.{everything}
use Rattle.sql_schema.proofs.Queries.{ReadsAllOf}
use Rattle.sql_statements.specs.Tables.{ShowsTeam, ShowsTemplate, ShowsLanguages, ShowsUnits, ShowsSuggestions, ShowsVotes}
use Rattle.sql_statements.proofs.TableQueries.{IsTableQueryOf, reads_table}
use Rattle.sql_schema.specs.Layouts.{Form, for_main, made_new, made_second, made_last, from_first, from_second}
use Rattle.sql_schema.proofs.Layouts.{team_placed, template_placed, language_placed, unit_placed, suggestion_placed, vote_placed}
use Rattle.sql_schema.specs.Schema.{team_table, template_table, language_table, unit_table, suggestion_table, vote_table}
use Rattle.sql_statements.proofs.ReadsUnread.{IsAcceptedBy, IsUnreadBy, unread_by}

abbrev team_text : List ℕ
team_text = codes "SELECT role, name FROM team ORDER BY name"

team_is : {form : Form} → IsTableQueryOf form team_text team_table (2 ∷ 1 ∷ []) (1 ∷ [])
    (codes "role" ∷ codes "name" ∷ [])
unfolding understood everything
team_is made_new = record { command = refl; own_tables = refl; plain = (refl, refl) }
team_is made_second = record { command = refl; own_tables = refl; plain = (refl, refl) }
team_is made_last = record { command = refl; own_tables = refl; plain = (refl, refl) }
team_is from_first = record { command = refl; own_tables = refl; plain = (refl, refl) }
team_is from_second = record { command = refl; own_tables = refl; plain = (refl, refl) }

team_accepted : {form : Form} → IsAcceptedBy form team_text []
unfolding understood everything
team_accepted made_new = refl
team_accepted made_second = refl
team_accepted made_last = refl
team_accepted from_first = refl
team_accepted from_second = refl

pub team_unread : {form : Form} → IsUnreadBy form team_text []
team_unread = unread_by team_text [] _ _ team_is team_accepted

pub reads_team : {form : Form} → ReadsAllOf form team_text [] ShowsTeam
reads_team = reads_table team_text team_table team_placed (2 ∷ 1 ∷ []) (1 ∷ []) (1 ∷ []) _ team_is (λ tree r s. refl)

abbrev template_text : List ℕ
template_text = codes "SELECT plural, extracted, refs, flags, key, place FROM template ORDER BY place"

template_is : {figures : Bool} → IsTableQueryOf (for_main figures) template_text template_table (3 ∷ 4 ∷ 5 ∷ 6 ∷ 2 ∷ 0 ∷ []) (0 ∷ [])
    (codes "plural" ∷ codes "extracted" ∷ codes "refs" ∷ codes "flags" ∷ codes "key" ∷ codes "place" ∷ [])
unfolding understood everything
template_is made_new = record { command = refl; own_tables = refl; plain = (refl, refl) }
template_is made_second = record { command = refl; own_tables = refl; plain = (refl, refl) }

template_accepted : {figures : Bool} → IsAcceptedBy (for_main figures) template_text []
unfolding understood everything
template_accepted made_new = refl
template_accepted made_second = refl

pub template_unread : {figures : Bool} → IsUnreadBy (for_main figures) template_text []
template_unread = unread_by template_text [] _ _ template_is template_accepted

pub reads_template : {figures : Bool} → ReadsAllOf (for_main figures) template_text [] ShowsTemplate
reads_template = reads_table template_text template_table template_placed (3 ∷ 4 ∷ 5 ∷ 6 ∷ 2 ∷ 0 ∷ []) (0 ∷ []) (5 ∷ []) _ template_is (λ tree r s. refl)

abbrev languages_text : List ℕ
languages_text = codes "SELECT header, plural, lang FROM language ORDER BY lang"

languages_is : {figures : Bool} → IsTableQueryOf (for_main figures) languages_text language_table (2 ∷ 3 ∷ 1 ∷ []) (1 ∷ [])
    (codes "header" ∷ codes "plural" ∷ codes "lang" ∷ [])
unfolding understood everything
languages_is made_new = record { command = refl; own_tables = refl; plain = (refl, refl) }
languages_is made_second = record { command = refl; own_tables = refl; plain = (refl, refl) }

languages_accepted : {figures : Bool} → IsAcceptedBy (for_main figures) languages_text []
unfolding understood everything
languages_accepted made_new = refl
languages_accepted made_second = refl

pub languages_unread : {figures : Bool} → IsUnreadBy (for_main figures) languages_text []
languages_unread = unread_by languages_text [] _ _ languages_is languages_accepted

pub reads_languages : {figures : Bool} → ReadsAllOf (for_main figures) languages_text [] ShowsLanguages
reads_languages = reads_table languages_text language_table language_placed (2 ∷ 3 ∷ 1 ∷ []) (1 ∷ []) (2 ∷ []) _ languages_is (λ tree r s. refl)

abbrev units_text : List ℕ
units_text = codes "SELECT plural, forms, state, obsolete, revision, comment, previous, lang, key FROM unit ORDER BY lang, key"

units_is : {figures : Bool} → IsTableQueryOf (for_main figures) units_text unit_table (3 ∷ 4 ∷ 5 ∷ 6 ∷ 7 ∷ 8 ∷ 9 ∷ 1 ∷ 2 ∷ []) (1 ∷ 2 ∷ [])
    (codes "plural" ∷ codes "forms" ∷ codes "state" ∷ codes "obsolete" ∷ codes "revision" ∷ codes "comment" ∷ codes "previous" ∷ codes "lang" ∷ codes "key" ∷ [])
unfolding understood everything
units_is made_new = record { command = refl; own_tables = refl; plain = (refl, refl) }
units_is made_second = record { command = refl; own_tables = refl; plain = (refl, refl) }

units_accepted : {figures : Bool} → IsAcceptedBy (for_main figures) units_text []
unfolding understood everything
units_accepted made_new = refl
units_accepted made_second = refl

pub units_unread : {figures : Bool} → IsUnreadBy (for_main figures) units_text []
units_unread = unread_by units_text [] _ _ units_is units_accepted

pub reads_units : {figures : Bool} → ReadsAllOf (for_main figures) units_text [] ShowsUnits
reads_units = reads_table units_text unit_table unit_placed (3 ∷ 4 ∷ 5 ∷ 6 ∷ 7 ∷ 8 ∷ 9 ∷ 1 ∷ 2 ∷ []) (1 ∷ 2 ∷ []) (7 ∷ 8 ∷ []) _ units_is (λ tree r s. refl)

abbrev suggestions_text : List ℕ
suggestions_text = codes "SELECT number, place, suggester, forms, lang, key FROM suggestion ORDER BY lang, key, place"

suggestions_is : {figures : Bool} → IsTableQueryOf (for_main figures) suggestions_text suggestion_table (1 ∷ 4 ∷ 5 ∷ 6 ∷ 2 ∷ 3 ∷ []) (2 ∷ 3 ∷ 4 ∷ [])
    (codes "number" ∷ codes "place" ∷ codes "suggester" ∷ codes "forms" ∷ codes "lang" ∷ codes "key" ∷ [])
unfolding understood everything
suggestions_is made_new = record { command = refl; own_tables = refl; plain = (refl, refl) }
suggestions_is made_second = record { command = refl; own_tables = refl; plain = (refl, refl) }

suggestions_accepted : {figures : Bool} → IsAcceptedBy (for_main figures) suggestions_text []
unfolding understood everything
suggestions_accepted made_new = refl
suggestions_accepted made_second = refl

pub suggestions_unread : {figures : Bool} → IsUnreadBy (for_main figures) suggestions_text []
suggestions_unread = unread_by suggestions_text [] _ _ suggestions_is suggestions_accepted

pub reads_suggestions : {figures : Bool} → ReadsAllOf (for_main figures) suggestions_text [] ShowsSuggestions
reads_suggestions = reads_table suggestions_text suggestion_table suggestion_placed (1 ∷ 4 ∷ 5 ∷ 6 ∷ 2 ∷ 3 ∷ []) (2 ∷ 3 ∷ 4 ∷ []) (4 ∷ 5 ∷ 1 ∷ []) _ suggestions_is (λ tree r s. refl)

abbrev votes_text : List ℕ
votes_text = codes "SELECT voter, value, number FROM vote ORDER BY number, voter"

votes_is : {figures : Bool} → IsTableQueryOf (for_main figures) votes_text vote_table (2 ∷ 3 ∷ 1 ∷ []) (1 ∷ 2 ∷ [])
    (codes "voter" ∷ codes "value" ∷ codes "number" ∷ [])
unfolding understood everything
votes_is made_new = record { command = refl; own_tables = refl; plain = (refl, refl) }
votes_is made_second = record { command = refl; own_tables = refl; plain = (refl, refl) }

votes_accepted : {figures : Bool} → IsAcceptedBy (for_main figures) votes_text []
unfolding understood everything
votes_accepted made_new = refl
votes_accepted made_second = refl

pub votes_unread : {figures : Bool} → IsUnreadBy (for_main figures) votes_text []
votes_unread = unread_by votes_text [] _ _ votes_is votes_accepted

pub reads_votes : {figures : Bool} → ReadsAllOf (for_main figures) votes_text [] ShowsVotes
reads_votes = reads_table votes_text vote_table vote_placed (2 ∷ 3 ∷ 1 ∷ []) (1 ∷ 2 ∷ []) (2 ∷ 0 ∷ []) _ votes_is (λ tree r s. refl)
