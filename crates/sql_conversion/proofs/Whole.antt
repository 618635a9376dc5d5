-- What is written anew means what was there, and is an office's, with the figures that counting gives.
use Rattle.std.proofs.Common.{◌≡◌, ◌≢◌, inl, inr, suc, List, [], ◌∷◌, Bool, true, false, All, refl, sym, ap, subst, ◌∙◌, arith, codes}
use Rattle.std.specs.FinMap as maps
use Rattle.sqlite.specs.Effect.{Database}
use Rattle.sqlite.specs.declared.types.Value.TheVariants.{Text as Words}
use Rattle.sqlite.specs.Order.{Row}
use Rattle.sqlite_rules.specs.Lists.{Has}
use Rattle.office_specification.specs.MainAlone.{main_alone}
use Rattle.office_specification.specs.OfficeRules.{KeepsRules}
use Rattle.office_specification.proofs.domains.InDomains.{equal_domains}
use Rattle.office_specification.proofs.domains.MainAlone.{in-main}
use Rattle.rule_tests.proofs.MainAlone.{project_keeps}
use Rattle.rule_tests.specs.Given.{AreAll}
use Rattle.po_text.specs.Texts.{Text}
use Rattle.po_text.specs.Valid.{IsValid}
use Rattle.po_text.specs.declared.entry.Entry.{Entry}
use Rattle.units.specs.Limits.{is_name}
use Rattle.units.specs.Office.{Office, main, same_domain, project_in}
use Rattle.units.specs.Project.{Project}
use Rattle.units.specs.Projects.{IsProject, IsTemplateEntry}
use Rattle.request_book.specs.Book.{OfficeWithBook}
use Rattle.sql_schema.specs.Inside.{AreOfficeTablesOf}
use Rattle.sql_schema.specs.Layouts.{for_main, by_domain, IsForMain, NamedRows, rows_named}
use Rattle.sql_schema.specs.SeenRows.{seen_in, AreSameByName}
use Rattle.sql_schema.proofs.DomainRows.{domain_names}
use Rattle.sql_schema.proofs.Layouts.{of_main, names_differ}
use Rattle.sql_meaning.specs.Domains.{meaning_by_domain, meaning_for, is_domain, IsMainAlone}
use Rattle.sql_meaning.specs.Meaning.{meaning_in, book_in, project_of_rows, template_in, headers_in, units_in, team_in, policy_in}
use Rattle.sql_meaning.specs.RowKeys.{AreOfficeRows}
use Rattle.sql_meaning.proofs.DomainOfficeRows.{one_domain_each}
use Rattle.sql_meaning.proofs.MainBeginnings.{main_stays, main_is_there}
use Rattle.sql_meaning.proofs.MainRows.{meaning_of_main}
use Rattle.sql_meaning.proofs.Openings.{no_headers, no_units}
use Rattle.sql_meaning.proofs.WrittenAnew.{anew, emptied, written_so}
use Rattle.sql_changes.specs.Commits.{PutsEntries}
use Rattle.sql_changes.specs.OnDomains.{OnDomain, MakesIf, SparesElsewhere}
use Rattle.sql_changes.proofs.DomainWrites.{domain_elsewhere, its_made, others_made}
use Rattle.sql_decoding.specs.RowTests.{text_passes, is_domain_row}
use Rattle.sql_decoding.proofs.ColumnsTested.{text_stands}
use Rattle.sql_changes.proofs.Template.{template_put, entries_spare, entries_ready}
use Rattle.sql_adoption.specs.Adoption.{Each, IsAdoptedOf, IsAdoptedAs, StandInDomains}
use Rattle.sql_layouts.specs.Tables.{form_told}
use Rattle.sql_adoption.specs.declared.tested.MainOffice.{MainOffice}
use Rattle.office_maps.specs.OfficeIn.{office_in}
use Rattle.sql_files.specs.Files.{StandForAll}
use Rattle.sql_files.proofs.DomainKept.{plain}
use Rattle.sql_files.proofs.InDomains.{SeesNothing, nothing_same, own_domains, stand_alone}
use Rattle.sql_files.proofs.TemplateKept.{entries_stand, template_step}
use Rattle.sql_conversion.specs.Conversion.{WritesLanguages, WritesProject, WritesAnew, FollowsLanguages, Converts}
use Rattle.sql_conversion.proofs.Begun.{HasBegun, none_named, has_begun}
use Rattle.sql_conversion.proofs.LanguagesCounted.{figures_counted}
use Rattle.sql_conversion.proofs.OldTables.{old_tables_stay}
use Rattle.sql_conversion.proofs.LanguagesWritten.{IsLeft, plan_at, those_there, languages_written, are_headers, each_written}
use Rattle.sql_keepable.specs.Keepable.{AreKeepableEntries}

each_plain : (es : List Entry) → All IsTemplateEntry es → (e : Entry) → Has es e → IsTemplateEntry e
each_plain [] all e there = absurd there
each_plain (x ∷ es) all e (inl is) = subst IsTemplateEntry (sym is) (all 0 x (omega arith))
each_plain (x ∷ es) all e (inr later) = each_plain es (λ k d less. all (suc k) d (omega arith)) e later

-- ---- the project, entry by entry and language by language

module _ {figures : Bool} (old told : Database) (langs : List Text) (adopted : IsAdoptedOf (for_main figures) old) (begun : HasBegun old told) (all : AreAll (headers_in (rows_named old)) langs) where
  abbrev was : Project
  was = project_of_rows (rows_named old)

  is : IsProject was
  is = project_keeps was (book_in (rows_named old)) adopted.rules

  abbrev first : NamedRows
  first = seen_in main (rows_named told)

  module _ (mid new : NamedRows) (put : PutsEntries 0 was.template first mid) (keepable : AreKeepableEntries was.template) (written : WritesLanguages was langs mid new) where
    ready : AreOfficeRows mid
    ready = entries_ready 0 was.template first mid begun.ready put

    apart : (name : Text) → name ≢ codes "template" → mid name ≡ first name
    apart = entries_spare 0 was.template first mid put

    template_is : template_in mid ≡ template_in (rows_named old)
    template_is = template_put was.template first mid begun.ready (λ row there. subst (λ rows. Has rows row) (begun.template main) there) put (each_plain was.template is.template_plain)

    headers_are : headers_in mid ≡ maps.empty
    headers_are = no_headers mid (apart (codes "language") (names_differ refl) ∙ begun.languages main)

    units_are : units_in mid ≡ maps.empty
    units_are = no_units mid (apart (codes "unit") (names_differ refl) ∙ begun.units main)

    team_is : team_in mid ≡ team_in (rows_named old)
    team_is = ap (λ (rows : List Row). team_in (λ name. rows)) (apart (codes "team") (names_differ refl) ∙ begun.team)

    policy_is : policy_in mid ≡ policy_in (rows_named old)
    policy_is = ap (λ (rows : List Row). policy_in (λ name. rows)) (apart (codes "policy") (names_differ refl)) ∙ begun.policy

    before_languages : project_of_rows mid ≡ emptied was is.placed (plan_at was is) (λ lang. refl)
    before_languages = λ i. record { template = template_is i; headers = headers_are i; units = units_are i; team = team_is i; policy = policy_is i }

    left : IsLeft was is (those_there was is langs) mid new
    left = languages_written was is langs mid new ready written

    pub project_stays : project_of_rows new ≡ was
    project_stays =
        left.project_is ∙ ap (λ (p : Project). anew was is.placed (plan_at was is) (λ lang. refl) (those_there was is langs) p) before_languages
        ∙ written_so was is.placed (plan_at was is) (λ lang. refl) (those_there was is langs) (are_headers was is langs) (λ lang there. each_written was is langs lang (all lang there) there)

    pub records_stay : new (codes "record") ≡ rows_named old (codes "record")
    records_stay = left.records ∙ apart (codes "record") (names_differ refl) ∙ begun.records

    pub team_stays : new (codes "team") ≡ rows_named old (codes "team")
    team_stays = left.team ∙ apart (codes "team") (names_differ refl) ∙ begun.team

    pub all_stand : StandForAll new
    all_stand =
        left.stands (template_step first mid apart (subst IsValid (sym template_is) adopted.office.template)
        (entries_stand 0 was.template keepable first mid put (λ row there. absurd (subst (λ rows. Has rows row) (begun.template main) there))) (begun.stand main))

    pub meaning_stays : meaning_in new ≡ meaning_in (rows_named old)
    meaning_stays =
        let book : book_in new ≡ book_in (rows_named old) = ap (λ (rows : List Row). book_in (λ name. rows)) records_stay in
        λ i. record { office = main_alone (project_stays i); book = book i }

-- ---- the whole

-- the one domain has a name
main_named : (db : Database) → AreOfficeTablesOf by_domain db → IsMainAlone (rows_named db) → Each (codes "domain") (1 ∷ []) is_domain_row (rows_named db)
main_named db ready alone row there =
    ap (text_passes is_name) (domain_names.0 db ready.schema ready.sound row there ∙ ap Words (alone.only row there))
    ∙ text_stands 0 (Words main ∷ []) main refl is_name (plain main refl) refl

module _ {figures : Bool} (old new : Database) (langs : List Text) (adopted : IsAdoptedOf (for_main figures) old) (all : AreAll (headers_in (rows_named old)) langs) (was_ready : AreOfficeTablesOf (for_main figures) old)
    (ready : AreOfficeTablesOf by_domain new) where
  abbrev before : Project
  before = project_of_rows (rows_named old)

  module _ (told : Database) (begun : HasBegun old told) (made : OnDomain main (WritesProject before langs) told new) where
    on : ((domain : Text) → MakesIf (same_domain domain main) (WritesProject before langs) AreSameByName (seen_in domain (rows_named told)) (seen_in domain (rows_named new))) × SparesElsewhere (rows_named told) (rows_named new)
    on = made.on (λ domain. tt)

    own : WritesProject before langs (seen_in main (rows_named told)) (seen_in main (rows_named new))
    own = its_made main (WritesProject before langs) AreSameByName (seen_in main (rows_named told)) (seen_in main (rows_named new)) (on.0 main)

    others : (domain : Text) → same_domain domain main ≡ false → AreSameByName (seen_in domain (rows_named told)) (seen_in domain (rows_named new))
    others domain apart =
        others_made main (WritesProject before langs) AreSameByName (seen_in domain (rows_named told)) (seen_in domain (rows_named new)) domain apart (on.0 domain)

    alone : IsMainAlone (rows_named new)
    alone = main_stays (rows_named told) (rows_named new) (on.1 (codes "domain") domain_elsewhere) begun.alone

    stand : StandForAll (seen_in main (rows_named new))
    stand = all_stand old told langs adopted begun all own.0 (seen_in main (rows_named new)) own.1.0 own.1.1 own.2

    -- a domain that isn't there still sees no row of its own
    none_elsewhere : (domain : Text) → is_domain (rows_named new) domain ≡ false → SeesNothing (seen_in domain (rows_named new))
    none_elsewhere domain missing = by (same_domain domain main) refl
      where
        by : (b : Bool) → same_domain domain main ≡ b → SeesNothing (seen_in domain (rows_named new))
        by true same = absurd (
            let there : is_domain (rows_named new) domain ≡ true = subst (λ d. is_domain (rows_named new) d ≡ true) (sym (equal_domains domain main same)) (main_is_there (rows_named new) alone) in
            let wrong : true ≡ false = sym there ∙ missing in
            cc)
        by false apart = nothing_same (seen_in domain (rows_named told)) (seen_in domain (rows_named new)) (others domain apart) (begun.nothing domain)

    in_domains : StandInDomains (rows_named new)
    in_domains = stand_alone (rows_named new) alone (own_domains (rows_named new) none_elsewhere) (main_named new ready alone) stand.office

    means : meaning_by_domain (rows_named new) ≡ meaning_in (rows_named old)
    means =
        meaning_of_main (rows_named new) (one_domain_each new ready) alone.there.0 alone.there.1 alone.only
        ∙ meaning_stays old told langs adopted begun all own.0 (seen_in main (rows_named new)) own.1.0 own.1.1 own.2

    converts_project : FollowsLanguages (main_alone before) langs old new → Converts old new
    converts_project follows =
        let none = none_named old was_ready.schema in
        record {
          meaning = means;
          file = record {
            ready = ready;
            rows = record {
              form_told = stand.form;
              office = in_domains;
              book = record { records = stand.book.records; contents = stand.book.contents };
              figures = figures_counted before langs all old new none.tallies none.suggestions adopted.rules.office (ap (λ (m : OfficeWithBook). m.office) means) follows;
              rules = subst KeepsRules (sym means) adopted.rules;
            };
          };
          kept = old_tables_stay (rows_named old) (rows_named new) (records_stay old told langs adopted begun all own.0 (seen_in main (rows_named new)) own.1.0 own.1.1 own.2)
              (team_stays old told langs adopted begun all own.0 (seen_in main (rows_named new)) own.1.0 own.1.1 own.2) (λ name apart domain. on.1 name apart ∙ begun.others name apart domain);
        }

  converts_alone : WritesAnew (main_alone before) langs old new → FollowsLanguages (main_alone before) langs old new → Converts old new
  converts_alone (made, keeps, (named, puts, (told, tells, written))) follows =
      converts_project told
      (has_begun old made named told was_ready keeps puts tells adopted.office adopted.book (project_keeps before (book_in (rows_named old)) adopted.rules).accepting)
      (subst (λ (p : Project). OnDomain main (WritesProject p langs) told new) (in-main before) written) follows

  pub converts : (office : Office) → office ≡ main_alone before → WritesAnew office langs old new × FollowsLanguages office langs old new → Converts old new
  converts office is written =
      converts_alone (subst (λ (o : Office). WritesAnew o langs old new) is written.0) (subst (λ (o : Office). FollowsLanguages o langs old new) is written.1)

-- what was adopted in tables without a column for a domain
module _ (old new : Database) (adopted : MainOffice) (is : IsAdoptedAs old adopted) (ready : AreOfficeTablesOf by_domain new)
    (written : WritesAnew (office_in adopted.maps) adopted.langs.items old new × FollowsLanguages (office_in adopted.maps) adopted.langs.items old new) where
  converts_from : (figures : Bool) → form_told adopted.form ≡ for_main figures → AreOfficeTablesOf (for_main figures) old → Converts old new
  converts_from figures told was_ready =
      let before = project_of_rows (rows_named old) in
      let office : office_in adopted.maps ≡ main_alone before = is.office ∙ ap (λ f. (meaning_for f (rows_named old)).office) told in
      let project : project_in (office_in adopted.maps) main ≡ before = ap (λ (o : Office). project_in o main) office ∙ in-main before in
      converts old new adopted.langs.items (subst (λ f. IsAdoptedOf f old) told is.rows) (subst (λ (p : Project). AreAll p.headers adopted.langs.items) project (is.langs main)) was_ready ready
      (office_in adopted.maps) office written

  pub converts_adopted : IsForMain (form_told adopted.form) → AreOfficeTablesOf (form_told adopted.form) old → Converts old new
  converts_adopted is_main was_ready =
      of_main (λ f. form_told adopted.form ≡ f → AreOfficeTablesOf f old → Converts old new) (form_told adopted.form) is_main converts_from refl was_ready
