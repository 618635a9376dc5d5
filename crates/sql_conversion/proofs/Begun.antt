-- What each domain sees once the tables by domains are made beside the old ones, with the one domain and the policy: records, members and the policy, and nothing else yet.
use Rattle.std.proofs.Common.{◌≡◌, ◌≢◌, inl, ℕ, Bool, List, [], ◌∷◌, true, refl, sym, ap, subst, ◌∙◌, codes}
use Rattle.sqlite.specs.Effect.{Database}
use Rattle.sqlite.specs.Order.{column}
use Rattle.sqlite.specs.Tree.{Trees}
use Rattle.sqlite_rules.specs.Lists.{Has}
use Rattle.sql_laws.specs.RowMaps.{OneEach}
use Rattle.po_text.specs.Texts.{Text}
use Rattle.po_text.specs.Valid.{IsValid}
use Rattle.units.specs.Limits.{is_accept_at}
use Rattle.units.specs.Office.{main}
use Rattle.sql_schema.specs.Creation.{KeepsNamedRows}
use Rattle.sql_schema.specs.Inside.{AreOfficeTablesOf}
use Rattle.sql_schema.specs.Keys.{first_text, has_text, row_number, columns}
use Rattle.sql_schema.specs.Layouts.{for_main, Layout, made_new, made_second, HasLayoutOf, schema_of, NamedRows, rows_in, rows_named}
use Rattle.sqlite.specs.Schema.{Schema}
use Rattle.sql_schema.specs.SeenRows.{rows_seen, entry_seen, language_seen, unit_seen, suggestion_seen, is_vote_in, vote_seen, seen_in}
use Rattle.sql_schema.proofs.Layouts.{names_differ}
use Rattle.sql_meaning.specs.Beginnings.{PutsMain}
use Rattle.sql_meaning.specs.Domains.{IsMainAlone}
use Rattle.sql_meaning.specs.Meaning.{policy_in}
use Rattle.sql_meaning.specs.RowKeys.{AreOfficeRows, HoldsIntegers}
use Rattle.sql_meaning.specs.Values.{integer_at}
use Rattle.sql_meaning.proofs.DomainOfficeRows.{domain_rows}
use Rattle.sql_meaning.proofs.DomainSteps.{all_unseen}
use Rattle.sql_meaning.proofs.MainBeginnings.{main_stays}
use Rattle.sql_meaning.proofs.OfficeRows.{office_rows}
use Rattle.sql_meaning.proofs.Openings.{no_template}
use Rattle.sql_changes.specs.Commits.{PutsPolicy}
use Rattle.sql_changes.specs.OnDomains.{IsElsewhere, SparesElsewhere}
use Rattle.sql_changes.proofs.DomainWrites.{domain_elsewhere}
use Rattle.sql_changes.proofs.Policy.{policy_put}
use Rattle.sql_decoding.specs.RowTests.{is_policy_row}
use Rattle.sql_adoption.specs.Adoption.{StandForOffice, StandForBook}
use Rattle.sql_files.specs.Files.{StandForAll}
use Rattle.sql_files.proofs.InDomains.{SeesNothing, nothing_valid}
use Rattle.sql_files.proofs.PolicyKept.{PolicyStands, policy_stands}
use Rattle.sql_files.proofs.Puts.{no_row, all_put}
use Rattle.sql_conversion.specs.Conversion.{TellsPolicy}

-- ---- the old tables have no row by domains

pub record HasNone (rows : NamedRows) : Type 0 where
  pub domains : rows (codes "domain") ≡ []
  pub template : rows (codes "d_template") ≡ []
  pub languages : rows (codes "d_language") ≡ []
  pub units : rows (codes "d_unit") ≡ []
  pub suggestions : rows (codes "d_suggestion") ≡ []
  pub votes : rows (codes "d_vote") ≡ []
  pub tallies : rows (codes "d_tally") ≡ []

none_in : {figures : Bool} (layout : Layout (for_main figures)) (trees : Trees) → HasNone (rows_in (schema_of layout) trees)
none_in made_new trees = record { domains = refl; template = refl; languages = refl; units = refl; suggestions = refl; votes = refl; tallies = refl }
none_in made_second trees = record { domains = refl; template = refl; languages = refl; units = refl; suggestions = refl; votes = refl; tallies = refl }

pub none_named : {figures : Bool} (db : Database) → HasLayoutOf (for_main figures) db → HasNone (rows_named db)
none_named db (layout, is) = subst (λ (s : Schema). HasNone (rows_in s db.trees)) (sym is) (none_in layout db.trees)

-- ---- what there is before the domain is written

-- What the old tables hold of the whole office is there, and nothing of any domain.
pub record HasBegun (old told : Database) : Type 0 where
  pub alone : IsMainAlone (rows_named told)
  pub ready : AreOfficeRows (seen_in main (rows_named told))
  pub stand : (domain : Text) → StandForAll (seen_in domain (rows_named told))
  pub policy : policy_in (rows_named told) ≡ policy_in (rows_named old)
  pub records : rows_named told (codes "record") ≡ rows_named old (codes "record")
  pub team : rows_named told (codes "team") ≡ rows_named old (codes "team")
  pub template : (domain : Text) → seen_in domain (rows_named told) (codes "template") ≡ []
  pub languages : (domain : Text) → seen_in domain (rows_named told) (codes "language") ≡ []
  pub units : (domain : Text) → seen_in domain (rows_named told) (codes "unit") ≡ []
  pub nothing : (domain : Text) → SeesNothing (seen_in domain (rows_named told))
  pub others : (name : Text) → IsElsewhere name → name ≢ codes "domain" → rows_named told name ≡ rows_named old name

module _ {figures : Bool} (old made named told : Database) (ready : AreOfficeTablesOf (for_main figures) old) (keeps : KeepsNamedRows old made) (puts : PutsMain made named) (tells : TellsPolicy (policy_in (rows_named old)) named told) where
  none : HasNone (rows_named old)
  none = none_named old ready.schema

  alone_named : IsMainAlone (rows_named named)
  alone_named = record {
    there = (puts.row, puts.put.here);
    only = all_put first_text (λ row. first_text row ≡ main) (rows_named made (codes "domain")) (rows_named named (codes "domain")) puts.row puts.put
        (λ row there. no_row _ row (keeps (codes "domain") ∙ none.domains) there) (ap first_text puts.is_row.1);
  }

  on : ((domain : Text) → PutsPolicy (policy_in (rows_named old)) (seen_in domain (rows_named named)) (seen_in domain (rows_named told))) × SparesElsewhere (rows_named named) (rows_named told)
  on = tells.0.on (λ domain. tt)

  -- ---- what is of the whole office

  named_same : (name : List ℕ) → name ≢ codes "domain" → rows_named named name ≡ rows_named old name
  named_same name apart = puts.others name apart ∙ keeps name

  policies_named : rows_named named (codes "policy") ≡ rows_named old (codes "policy")
  policies_named = named_same (codes "policy") (names_differ refl)

  team_same : rows_named told (codes "team") ≡ rows_named old (codes "team")
  team_same = (on.0 main).others (codes "team") (names_differ refl) ∙ named_same (codes "team") (names_differ refl)

  records_same : rows_named told (codes "record") ≡ rows_named old (codes "record")
  records_same = (on.0 main).others (codes "record") (names_differ refl) ∙ named_same (codes "record") (names_differ refl)

  policy_same : policy_in (rows_named told) ≡ policy_in (rows_named old)
  policy_same =
      policy_put (seen_in main (rows_named named)) (seen_in main (rows_named told)) (policy_in (rows_named old))
      (subst (OneEach (integer_at 0)) (sym policies_named) (office_rows old ready).keyed.one_policy)
      (subst (HoldsIntegers 0) (sym policies_named) (office_rows old ready).typed.policy_numbers) (on.0 main)

  -- ---- what a domain sees

  module _ (domain : Text) where
    put : PutsPolicy (policy_in (rows_named old)) (seen_in domain (rows_named named)) (seen_in domain (rows_named told))
    put = on.0 domain

    seen_named : (name : List ℕ) → seen_in domain (rows_named named) name ≡ seen_in domain (rows_named made) name
    seen_named name = ap (λ (rows : NamedRows). rows name) (all_unseen domain made named (codes "domain") (inl refl) puts.others)

    no_entries : seen_in domain (rows_named told) (codes "template") ≡ []
    no_entries =
        put.others (codes "template") (names_differ refl) ∙ seen_named (codes "template") ∙ ap (rows_seen (has_text 1 domain) entry_seen) (keeps (codes "d_template") ∙ none.template)

    no_languages : seen_in domain (rows_named told) (codes "language") ≡ []
    no_languages =
        put.others (codes "language") (names_differ refl) ∙ seen_named (codes "language") ∙ ap (rows_seen (has_text 1 domain) language_seen) (keeps (codes "d_language") ∙ none.languages)

    no_units : seen_in domain (rows_named told) (codes "unit") ≡ []
    no_units = put.others (codes "unit") (names_differ refl) ∙ seen_named (codes "unit") ∙ ap (rows_seen (has_text 1 domain) unit_seen) (keeps (codes "d_unit") ∙ none.units)

    no_suggestions : seen_in domain (rows_named told) (codes "suggestion") ≡ []
    no_suggestions =
        put.others (codes "suggestion") (names_differ refl) ∙ seen_named (codes "suggestion")
        ∙ ap (rows_seen (has_text 2 domain) suggestion_seen) (keeps (codes "d_suggestion") ∙ none.suggestions)

    no_votes : seen_in domain (rows_named told) (codes "vote") ≡ []
    no_votes =
        put.others (codes "vote") (names_differ refl) ∙ seen_named (codes "vote")
        ∙ ap (rows_seen (is_vote_in domain (rows_named made (codes "d_suggestion"))) vote_seen) (keeps (codes "d_vote") ∙ none.votes)

    nothing_seen : SeesNothing (seen_in domain (rows_named told))
    nothing_seen = record {
      entries = λ row there. no_row _ row no_entries there;
      languages = λ row there. no_row _ row no_languages there;
      units = λ row there. no_row _ row no_units there;
      suggestions = λ row there. no_row _ row no_suggestions there;
    }

    stands : StandForOffice (rows_named old) → StandForBook (rows_named old) → is_accept_at (policy_in (rows_named old)).accept_at ≡ true → StandForAll (seen_in domain (rows_named told))
    stands office book accepts = record {
      form = (put.row, put.put.here, ap row_number put.is_row, ap (λ row. column row 2) put.is_row);
      office = record {
        members = λ row there. office.members row (subst (λ rows. Has rows row) team_same there);
        policy = all_put row_number PolicyStands (rows_named named (codes "policy")) (rows_named told (codes "policy")) put.row put.put
            (λ row there. office.policy row (subst (λ rows. Has rows row) policies_named there))
            (λ at_one. ap (λ row. is_policy_row (columns (2 ∷ 3 ∷ 4 ∷ 5 ∷ 6 ∷ 7 ∷ 8 ∷ []) row)) put.is_row ∙ policy_stands (policy_in (rows_named old)) accepts);
        entries = λ row there. no_row _ row no_entries there;
        template = subst IsValid (sym (no_template (seen_in domain (rows_named told)) no_entries)) nothing_valid;
        languages = λ row there. no_row _ row no_languages there;
        units = λ row there. no_row _ row no_units there;
        suggestions = λ row there. no_row _ row no_suggestions there;
        votes = λ row there. no_row _ row no_votes there;
      };
      book = record {
        records = λ row there. book.records row (subst (λ rows. Has rows row) records_same there);
        contents = λ row there. book.contents row (subst (λ rows. Has rows row) records_same there);
      };
    }

  pub has_begun : StandForOffice (rows_named old) → StandForBook (rows_named old) → is_accept_at (policy_in (rows_named old)).accept_at ≡ true → HasBegun old told
  has_begun office book accepts = record {
    alone = main_stays (rows_named named) (rows_named told) (on.1 (codes "domain") domain_elsewhere) alone_named;
    ready = domain_rows told tells.1 main;
    stand = λ domain. stands domain office book accepts;
    policy = policy_same;
    records = records_same;
    team = team_same;
    template = no_entries;
    languages = no_languages;
    units = no_units;
    nothing = nothing_seen;
    others = λ name apart domain. on.1 name apart ∙ named_same name domain;
  }
