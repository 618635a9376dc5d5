-- What is so of all rows is so of those without units.
use Rattle.std.proofs.Common.{List, codes}
use Rattle.sqlite.specs.Effect.{Database}
use Rattle.sqlite.specs.Order.{Row}
use Rattle.sql_laws.specs.RowMaps.{OneEach}
use Rattle.std.specs.Prelude.{Option}
use Rattle.po_text.specs.Texts.{Text}
use Rattle.sql_schema.specs.Inside.{AreOfficeTablesOf}
use Rattle.sql_schema.specs.Keys.{first_text}
use Rattle.sql_schema.specs.Layouts.{by_domain, NamedRows, rows_named}
use Rattle.sql_schema.specs.SeenRows.{seen_in}
use Rattle.sql_statements.specs.Answers.{ShowsPolicy, ShowsPolicyIn}
use Rattle.sql_statements.specs.WholeOffice.{without_units}
use Rattle.sql_meaning.specs.Domains.{HoldsOwnDomains}
use Rattle.sql_meaning.specs.RowKeys.{AreKeyedRows, AreTypedRows, AreOfficeRows}
use Rattle.sql_meaning.proofs.DomainOfficeRows.{one_domain_each, domain_rows}
use Rattle.sql_adoption.specs.Adoption.{TellsForm, StandForOffice}
use Rattle.sql_adoption.specs.ReadParts.{part_of}
use Rattle.sql_adoption.specs.Reading.{AreNames}
use Rattle.sql_adoption.specs.declared.domains_read.Part.{Part}
use Rattle.sql_adoption.specs.declared.domains_read.Part.TheVariants.{Whole, Frame}

module _ (rows : NamedRows) where
  -- what a domain sees without units
  abbrev bare : Text → NamedRows
  bare domain = seen_in domain (without_units rows)

  bare_keyed : (domain : Text) → AreKeyedRows (seen_in domain rows) → AreKeyedRows (bare domain)
  bare_keyed domain keyed = record {
    one_record = keyed.one_record;
    one_member = keyed.one_member;
    one_policy = keyed.one_policy;
    one_entry = keyed.one_entry;
    one_key = keyed.one_key;
    one_language = keyed.one_language;
    one_unit = λ r s in_r in_s e. absurd in_r;
    suggested = record { one_number = λ r s in_r in_s e. absurd in_r; one_place = λ r s in_r in_s lang key place. absurd in_r; one_vote = λ r s in_r in_s e. absurd in_r; has_suggestion = λ v there. absurd there };
  }

  bare_typed : (domain : Text) → AreTypedRows (seen_in domain rows) → AreTypedRows (bare domain)
  bare_typed domain typed = record {
    policy_numbers = typed.policy_numbers;
    entry_places = typed.entry_places;
    unit_states = λ row there. absurd there;
    unit_revisions = λ row there. absurd there;
    last_state = λ row there. absurd there;
    suggestion_langs = λ row there. absurd there;
    suggestion_keys = λ row there. absurd there;
    suggestion_places = λ row there. absurd there;
  }

  bare_rows : (domain : Text) → AreOfficeRows (seen_in domain rows) → AreOfficeRows (bare domain)
  bare_rows domain are = record {
    keyed = bare_keyed domain are.keyed;
    typed = bare_typed domain are.typed;
    has_unit = λ s there. absurd there;
    entries_once = are.entries_once;
    suggestions_once = tt;
  }

  bare_stand : (domain : Text) → StandForOffice (seen_in domain rows) → StandForOffice (bare domain)
  bare_stand domain stand = record {
    members = stand.members;
    policy = stand.policy;
    entries = stand.entries;
    template = stand.template;
    languages = stand.languages;
    units = λ row there. absurd there;
    suggestions = λ row there. absurd there;
    votes = λ row there. absurd there;
  }

-- the names and the policy are the same
pub names_in_part : (part : Part) (rows : NamedRows) (names : List Text) → AreNames rows names → AreNames (part_of part rows) names
names_in_part Whole rows names are = are
names_in_part Frame rows names are = record { rows = are.rows; shows = record { all = are.shows.all; in_order = are.shows.in_order }; named = are.named; stand = are.stand }

pub one_name_in_part : (part : Part) (db : Database) → AreOfficeTablesOf by_domain db → OneEach first_text (part_of part (rows_named db) (codes "domain"))
one_name_in_part Whole db ready = one_domain_each db ready
one_name_in_part Frame db ready = one_domain_each db ready

pub told_in_part : (part : Part) (rows : NamedRows) → TellsForm by_domain rows → TellsForm by_domain (part_of part rows)
told_in_part Whole rows told = told
told_in_part Frame rows told = told

pub policy_of_part : (part : Part) (db : Database) (domain : Text) (found : Option Row) → ShowsPolicyIn (seen_in domain (part_of part (rows_named db))) found → ShowsPolicy db found
policy_of_part Whole db domain found shows = shows
policy_of_part Frame db domain found shows = shows

pub rows_of_part : (part : Part) (db : Database) → AreOfficeTablesOf by_domain db → (domain : Text) → AreOfficeRows (seen_in domain (part_of part (rows_named db)))
rows_of_part Whole db ready domain = domain_rows db ready domain
rows_of_part Frame db ready domain = bare_rows (rows_named db) domain (domain_rows db ready domain)

pub stand_in_part : (part : Part) (rows : NamedRows) (domain : Text) → StandForOffice (seen_in domain rows) → StandForOffice (seen_in domain (part_of part rows))
stand_in_part Whole rows domain stand = stand
stand_in_part Frame rows domain stand = bare_stand rows domain stand

-- each row is of a domain that is there
pub own_without_units : (rows : NamedRows) → HoldsOwnDomains rows → HoldsOwnDomains (without_units rows)
own_without_units rows own = record { template = own.template; languages = own.languages; units = λ row there. absurd there; suggestions = λ row there. absurd there }
