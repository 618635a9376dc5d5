-- What a look at a unit finds of a domain, for which the connection's rows stand.
use Rattle.std.proofs.Common.{◌≡◌, List, Option, option_map, map, ap, subst, sym, ◌∙◌}
use Rattle.std.specs.Prelude.{IsTrue}
use Rattle.std.specs.FinMap as maps
use Rattle.sqlite.specs.Order.{Row}
use Rattle.sqlite.specs.State.{State, HasCleanDisk}
use Rattle.po_text.specs.Texts.{Text}
use Rattle.units.specs.Office.{main, project_in}
use Rattle.units.specs.Project.{Project, role_in}
use Rattle.units.specs.declared.unit.Role.{Role}
use Rattle.units.specs.KeyTexts.{HasStrings}
use Rattle.units.specs.Units.{key_text}
use Rattle.units.specs.declared.unit.Key.{Key}
use Rattle.units.specs.declared.unit.Suggestion.{Suggestion}
use Rattle.request_book.specs.Acts.{IsNumber}
use Rattle.request_book.specs.Words.{number_text}
use Rattle.office_specification.specs.declared.values.ActContext.{ActContext}
use Rattle.office_specification.specs.UnitAccess.{context_of, without_suggestions, suggestions_at, suggestion_at}
use Rattle.sql_statements.specs.declared.unit_rows.SuggestionRows.{SuggestionRows}
use Rattle.sql_statements.specs.declared.unit_rows.ContextRows.{ContextRows}
use Rattle.sql_statements.specs.Answers.{ShowsMember}
use Rattle.sql_statements.specs.DomainAnswers.{ShowsDomainSuggestions}
use Rattle.sql_statements.specs.DomainUnitRows.{ShowsDomainContextRows, ShowsDomainContextAlone, ShowsOneDomainSuggestion}
use Rattle.sql_statements.proofs.SeenAnswers.{suggestions_shown_seen}
use Rattle.sql_statements.proofs.ContextSeen.{context_rows_seen, context_alone_seen, one_suggestion_seen}
use Rattle.sql_schema.specs.SeenRows.{seen_in}
use Rattle.store_sql.proofs.RowsHeld.{seen_rows}
use Rattle.store_sql.proofs.InDomains.{project_as_seen}
use Rattle.sql_meaning.specs.Domains.{office_of_rows}
use Rattle.sql_decoding.specs.ShownContexts.{suggestion_shown, shown_role, IsShownContext}
use Rattle.sql_decoding.specs.TablesRead.{with_votes}
use Rattle.sql_decoding.proofs.ContextsRead.{role_found, context_found, bare_context_found}
use Rattle.sql_decoding.proofs.SuggestionsRead.{suggestions_read, suggestion_read}
use Rattle.store_sql.specs.TablesInFile.{KeepsOffice}
use Rattle.sql_schema.specs.Layouts.{rows_named}

-- what a look-up by these texts shows of the connection's rows is what an act needs of the domain
pub reads_context : (s : State) (domain lang : Text) (key : Key) (name asked_domain asked_lang column asked_name : Text) (rows : ContextRows) (found : Option ActContext) → KeepsOffice s → HasStrings key
    → asked_domain ≡ domain → asked_lang ≡ lang → column ≡ key_text key → asked_name ≡ name → HasCleanDisk s → IsTrue s.is_open → IsShownContext key rows found
    → ShowsDomainContextRows asked_domain asked_lang column asked_name s.now rows → found ≡ context_of (project_in (office_of_rows (rows_named s.now)) domain) lang key name
reads_context s domain lang key name asked_domain asked_lang column asked_name rows found keeps valid is_domain is_lang is_key is_name clean is_open shown shows =
    let asked = subst (λ (asked : Text × Text × Text × Text). ShowsDomainContextRows asked.0 asked.1 asked.2 asked.3 s.now rows) (λ i. (is_domain i, is_lang i, is_key i, is_name i)) shows in
    context_found (seen_in domain (rows_named s.now)) (seen_rows s keeps clean is_open domain) lang key name rows found valid (context_rows_seen domain lang (key_text key) s.now name rows asked) shown
    ∙ ap (λ (p : Project). context_of p lang key name) (sym (project_as_seen s keeps clean is_open domain))

-- the same without the unit's suggestions
pub reads_unit : (s : State) (domain lang : Text) (key : Key) (name asked_domain asked_lang column asked_name : Text) (rows : ContextRows) (found : Option ActContext) → KeepsOffice s → HasStrings key
    → asked_domain ≡ domain → asked_lang ≡ lang → column ≡ key_text key → asked_name ≡ name → HasCleanDisk s → IsTrue s.is_open → IsShownContext key rows found
    → ShowsDomainContextAlone asked_domain asked_lang column asked_name s.now rows → found ≡ without_suggestions (context_of (project_in (office_of_rows (rows_named s.now)) domain) lang key name)
reads_unit s domain lang key name asked_domain asked_lang column asked_name rows found keeps valid is_domain is_lang is_key is_name clean is_open shown shows =
    let asked = subst (λ (asked : Text × Text × Text × Text). ShowsDomainContextAlone asked.0 asked.1 asked.2 asked.3 s.now rows) (λ i. (is_domain i, is_lang i, is_key i, is_name i)) shows in
    bare_context_found (seen_in domain (rows_named s.now)) (seen_rows s keeps clean is_open domain) lang key name rows found valid (context_alone_seen domain lang (key_text key) s.now name rows asked) shown
    ∙ ap (λ (p : Project). without_suggestions (context_of p lang key name)) (sym (project_as_seen s keeps clean is_open domain))

-- the unit's suggestions without the votes on them
pub reads_suggestions : (s : State) (domain lang : Text) (key : Key) (asked_domain asked_lang column : Text) (rows : List Row) (found : List Suggestion) → KeepsOffice s → HasStrings key
    → asked_domain ≡ domain → asked_lang ≡ lang → column ≡ key_text key → HasCleanDisk s → IsTrue s.is_open → found ≡ map (with_votes maps.empty) rows
    → ShowsDomainSuggestions asked_domain asked_lang column s.now rows → found ≡ suggestions_at (project_in (office_of_rows (rows_named s.now)) domain) lang key
reads_suggestions s domain lang key asked_domain asked_lang column rows found keeps valid is_domain is_lang is_key clean is_open shown shows =
    let asked = subst (λ (asked : Text × Text × Text). ShowsDomainSuggestions asked.0 asked.1 asked.2 s.now rows) (λ i. (is_domain i, is_lang i, is_key i)) shows in
    shown ∙ suggestions_read (seen_in domain (rows_named s.now)) (seen_rows s keeps clean is_open domain) lang key valid rows (suggestions_shown_seen domain lang (key_text key) s.now rows asked)
    ∙ ap (λ (p : Project). suggestions_at p lang key) (sym (project_as_seen s keeps clean is_open domain))

-- the one of a number with the votes on it
pub reads_suggestion : (s : State) (domain lang : Text) (key : Key) (number asked_domain asked_lang column asked_number : Text) (rows : Option SuggestionRows) (found : Option Suggestion) → KeepsOffice s → HasStrings key
    → IsNumber number → asked_domain ≡ domain → asked_lang ≡ lang → column ≡ key_text key → asked_number ≡ number_text number → HasCleanDisk s → IsTrue s.is_open → found ≡ option_map suggestion_shown rows
    → ShowsOneDomainSuggestion asked_domain asked_lang column asked_number s.now rows → found ≡ suggestion_at (project_in (office_of_rows (rows_named s.now)) domain) lang key number
reads_suggestion s domain lang key number asked_domain asked_lang column asked_number rows found keeps valid fit is_domain is_lang is_key is_number clean is_open shown shows =
    let asked = subst (λ (asked : Text × Text × Text × Text). ShowsOneDomainSuggestion asked.0 asked.1 asked.2 asked.3 s.now rows) (λ i. (is_domain i, is_lang i, is_key i, is_number i)) shows in
    shown ∙ suggestion_read (seen_in domain (rows_named s.now)) (seen_rows s keeps clean is_open domain) lang key valid number fit rows (one_suggestion_seen domain lang (key_text key) s.now (number_text number) rows asked)
    ∙ ap (λ (p : Project). suggestion_at p lang key number) (sym (project_as_seen s keeps clean is_open domain))

-- what the look-up of a member shows of the connection's rows is the role in the office
pub reads_role : (s : State) (name asked : Text) (row : Option Row) (role : Role) → KeepsOffice s → asked ≡ name → HasCleanDisk s → IsTrue s.is_open → role ≡ shown_role row → ShowsMember asked s.now row
    → role ≡ role_in (office_of_rows (rows_named s.now)).team name
reads_role s name asked row role keeps is clean is_open shown shows =
    shown ∙ sym (role_found (seen_in main (rows_named s.now)) (seen_rows s keeps clean is_open main) name row (subst (λ asked. ShowsMember asked s.now row) is shows))
