-- Sums and tallies that are what counting the rows gives still are, behind the commit of an act.
use Rattle.std.proofs.Common.{◌≡◌, ◌+◌, ◌<◌, ◌^◌, Bool, true, false, cond, Option, Some, None, option_map, codes, refl, sym, ap, subst, ◌∙◌, arith}
use Rattle.std.specs.Cmp.{eq_by_cmp_equiv}
use Rattle.std.specs.FinMap as maps
use Rattle.sqlite.specs.Effect.{Database}
use Rattle.po_text.specs.declared.entry.Entry.{Entry}
use Rattle.po_text.specs.Texts.{Text}
use Rattle.units.specs.Office.{Office, project_in, with_project}
use Rattle.units.specs.Offices.{IsOffice}
use Rattle.units.specs.Orders.{place_total}
use Rattle.units.specs.Project.{Project, entry_of, view_of, units_of}
use Rattle.units.specs.declared.unit.Key.{Key}
use Rattle.units.specs.declared.unit.UnitView.{UnitView}
use Rattle.office_specification.specs.Counting.{AreWithin}
use Rattle.office_specification.specs.Tally.{counts_in}
use Rattle.office_specification.specs.OfficeChanges.{changed_project, changed, changed_by, IsPossible, IsPossibleChange}
use Rattle.office_specification.specs.UnitAccess.{with_view, with_view_in, view_written, IsWriteOver, IsPossibleWrite, with_write_in}
use Rattle.office_specification.specs.declared.values.Change.{Change}
use Rattle.office_specification.specs.declared.values.Change.TheVariants.{OneRole, NewPolicy, NewDomain, InDomain}
use Rattle.office_specification.specs.declared.values.DomainChange.{DomainChange}
use Rattle.office_specification.specs.declared.values.DomainChange.TheVariants.{NewLanguage, NewTemplate}
use Rattle.office_specification.specs.declared.values.UnitWrite.{UnitWrite}
use Rattle.office_specification.specs.declared.values.UnitWrite.TheVariants.{Whole, Row, Suggested, Voted}
use Rattle.office_specification.proofs.domains.InDomains.{nothing_put, project_own, with_project-same}
use Rattle.office_specification.proofs.rules.DomainsKept.{any_project}
use Rattle.office_laws.proofs.OfficeCounts.{new_domain_counts}
use Rattle.tables.proofs.OfficeUnits.{few_counted}
use Rattle.tables.specs.Tallies.{counted}
use Rattle.sql_schema.specs.Inside.{AreOfficeTablesOf}
use Rattle.sql_schema.specs.Keys.{text_at, has_text}
use Rattle.sql_schema.specs.Layouts.{by_domain, rows_named}
use Rattle.sql_schema.specs.SeenRows.{unit_seen, seen_in}
use Rattle.sql_schema.proofs.DomainsSeen.{is_text}
use Rattle.sql_schema.proofs.SeenRows.{to_seen}
use Rattle.sql_statements.specs.DomainRenewed.{HaveNextRevisionsInDomains}
use Rattle.sql_meaning.specs.Domains.{is_domain}
use Rattle.sql_meaning.proofs.DomainChanges.{has_domain_of_rows}
use Rattle.sql_figures.specs.KeptSums.{HaveSums}
use Rattle.sql_figures.specs.KeptTallies.{Counts, AreTalliesOf, office_counts, counted_at}
use Rattle.sql_figures.specs.Figures.{HasFigures, FiguresFollow, FiguresStay, HaveRoom, with_tally, with_tallies, moved_at}
use Rattle.sql_figures.proofs.TallyRows.{tallies_alike}
use Rattle.sql_commits.specs.Figures.{project_at, IsSourceIn, counted_before, FollowsView, FollowsWrite, FollowsIf, FollowsAct, FollowsDomainChange, FollowsOneChange, FollowsChange, turned_unless}
use Rattle.sql_files.specs.Files.{IsOfficeDatabase, office_of}
use Rattle.sql_files.proofs.InDomains.{project_there}
use Rattle.sql_files.proofs.PolicyKept.{next_revisions}
use Rattle.sql_files.proofs.CountsFollow.{view_counts, found_unit, found_entry, vote_counts, nothing_moved, language_counted, policy_counted, template_counted}

-- tallies of counts that are the office's
figures_are : (db : Database) (counts : Counts) → ((d l : Text) → office_counts (office_of db) d l ≡ counts d l) → AreTalliesOf counts (rows_named db (codes "d_tally")) → HaveSums (rows_named db) → HasFigures (rows_named db)
figures_are db counts same tallies sums = record { tallies = tallies_alike counts (office_counts (office_of db)) (rows_named db (codes "d_tally")) same tallies; sums = sums }

module _ (old new : Database) (ready : AreOfficeTablesOf by_domain old) (figures : HasFigures (rows_named old)) where
  -- where the counts stay
  figures_stay : ((d l : Text) → office_counts (office_of new) d l ≡ office_counts (office_of old) d l) → FiguresStay old new → HasFigures (rows_named new)
  figures_stay same stays = figures_are new (office_counts (office_of old)) same (stays.tallies (office_counts (office_of old)) tt figures.tallies) (stays.sums figures.sums)

  figures_follow : (change : Counts → Counts) → ((d l : Text) → office_counts (office_of new) d l ≡ change (office_counts (office_of old)) d l) → FiguresFollow change old new → HasFigures (rows_named new)
  figures_follow change same follows = figures_are new (change (office_counts (office_of old))) same (follows.tallies (office_counts (office_of old)) tt figures.tallies) (follows.sums figures.sums)

  -- the office is as it was
  office_stays : (office_of new ≡ office_of old) → FiguresStay old new → HasFigures (rows_named new)
  office_stays is stays = figures_stay (λ d l. ap (λ (o : Office). office_counts o d l) is) stays

  -- ---- an act on a unit

  module _ (domain : Text) (there : is_domain (rows_named old) domain ≡ true) where
    has : maps.contains_key (office_of old).domains domain ≡ true
    has = sym (has_domain_of_rows (rows_named old) domain) ∙ there

    -- the project of a domain that is there is what it sees
    seen : project_in (office_of old) domain ≡ project_at domain old
    seen = project_there old ready domain there

    view_follows : (lang : Text) (view : UnitView) → IsSourceIn (project_at domain old) view → office_of new ≡ with_view_in (office_of old) domain lang view.unit.key (Some view) → FollowsView domain lang view old new
        → HasFigures (rows_named new)
    view_follows lang view source is follows =
        figures_follow (moved_at domain lang (counted_before (project_at domain old) lang view) (counted (project_at domain old).template view.unit))
        (λ d l. ap (λ (o : Office). office_counts o d l) is ∙ view_counts (office_of old) domain lang view.unit.key view has d l
        ∙ ap (λ (p : Project). moved_at domain lang (counted_at p.template (maps.get p.units (lang, view.unit.key))) (counted p.template view.unit) (office_counts (office_of old)) d l) seen)
        (follows source)

    -- ---- of the unit at a key

    module _ (lang : Text) (key : Key) (view : UnitView) (rules : IsOffice (office_of new)) (is : office_of new ≡ with_view_in (office_of old) domain lang key (Some view)) where
      -- the rules ask that a unit stands at its key
      own_key : view.unit.key ≡ key
      own_key =
          let project = project_in (office_of old) domain in
          let next : project_in (office_of new) domain ≡ with_view project lang key (Some view) =
          ap (λ (o : Office). project_in o domain) is ∙ project_own (office_of old) domain (with_view project lang key (Some view)) has (refl, refl) in
          let found : maps.get (with_view project lang key (Some view)).units (lang, key) ≡ Some view.unit =
          maps.get-insert place_total project.units (lang, key) view.unit (lang, key)
          ∙ ap (λ b. cond b (Some view.unit) (maps.get project.units (lang, key))) ((eq_by_cmp_equiv place_total).refl (lang, key)) in
          ((any_project (office_of new) rules domain).placed (lang, key) view.unit (ap (λ (p : Project). maps.get p.units (lang, key)) next ∙ found)).0

      at_key_follows : view.source ≡ entry_of (project_in (office_of old) domain).template key → FollowsView domain lang view old new → HasFigures (rows_named new)
      at_key_follows source follows =
          view_follows lang view
          (source ∙ ap (λ (p : Project). entry_of p.template key) seen ∙ ap (λ k. entry_of (project_at domain old).template k) (sym own_key))
          (is ∙ ap (λ k. with_view_in (office_of old) domain lang k (Some view)) (sym own_key)) follows

      -- what its language counts, where a unit is there
      unit_counts : (there : UnitView) → view_of (project_in (office_of old) domain) (lang, key) ≡ Some there → (d l : Text)
          → office_counts (office_of new) d l
          ≡ moved_at domain lang (counted (project_at domain old).template there.unit) (counted (project_at domain old).template view.unit) (office_counts (office_of old)) d l
      unit_counts there found d l =
          let project = project_in (office_of old) domain in
          let counts = office_counts (office_of old) in
          ap (λ (o : Office). office_counts o d l) is ∙ view_counts (office_of old) domain lang key view has d l
          ∙ ap (λ o. moved_at domain lang (counted_at project.template o) (counted project.template view.unit) counts d l) (found_unit project (lang, key) there found)
          ∙ ap (λ (p : Project). moved_at domain lang (counted p.template there.unit) (counted p.template view.unit) counts d l) seen

    -- ---- what is written of the unit that is there

    module _ (lang : Text) (key : Key) (unit_there : UnitView) (found : view_of (project_in (office_of old) domain) (lang, key) ≡ Some unit_there) (rules : IsOffice (office_of new)) where
      seen_there : view_of (project_at domain old) (lang, key) ≡ Some unit_there
      seen_there = subst (λ (p : Project). view_of p (lang, key) ≡ Some unit_there) seen found

      abbrev counts_then : UnitView → Counts → Counts
      counts_then view = moved_at domain lang (counted (project_at domain old).template unit_there.unit) (counted (project_at domain old).template view.unit)

      write_follows : (write : UnitWrite) → IsWriteOver unit_there write → office_of new ≡ with_view_in (office_of old) domain lang key (Some (view_written write unit_there))
          → FollowsWrite domain lang key write old new → HasFigures (rows_named new)
      write_follows (Whole view) over is follows = at_key_follows lang key view rules is (over ∙ found_entry (project_in (office_of old) domain) (lang, key) unit_there found) follows
      write_follows (Row view) over is follows =
          let after = view_written (Row view) unit_there in
          figures_follow (counts_then after) (unit_counts lang key after rules is unit_there found) (follows unit_there seen_there (own_key lang key after rules is) over)
      write_follows (Suggested s) over is follows =
          let after = view_written (Suggested s) unit_there in
          figures_follow (counts_then after) (unit_counts lang key after rules is unit_there found) (follows unit_there seen_there)
      write_follows (Voted number voter value sum) over is follows =
          let template = (project_at domain old).template in
          let counts = office_counts (office_of old) in
          let was = counted template unit_there.unit in
          let after = view_written (Voted number voter value sum) unit_there in
          figures_stay
          (λ d l. unit_counts lang key after rules is unit_there found d l
          ∙ ap (λ t. moved_at domain lang was t counts d l) (vote_counts template number voter value unit_there.unit) ∙ nothing_moved domain lang was counts d l)
          (follows unit_there seen_there over)

  -- nothing is put into a domain that isn't there
  nothing_there : (domain : Text) (next : Project) → is_domain (rows_named old) domain ≡ false → office_of new ≡ with_project (office_of old) domain next → FiguresStay old new → HasFigures (rows_named new)
  nothing_there domain next missing is stays = office_stays (is ∙ nothing_put (office_of old) domain next (sym (has_domain_of_rows (rows_named old) domain) ∙ missing)) stays

  write_figures : (domain lang : Text) (key : Key) (write : Option UnitWrite) → IsOffice (office_of new) → office_of new ≡ with_write_in (office_of old) domain lang key write
      → IsPossibleWrite (project_in (office_of old) domain) lang key write → FollowsAct domain lang key write old new → HasFigures (rows_named new)
  write_figures domain lang key None rules is possible stays = office_stays (is ∙ with_project-same (office_of old) domain) stays
  write_figures domain lang key (Some write) rules is (unit_there, found, over) follows = by (is_domain (rows_named old) domain) refl follows
    where
      left : office_of new ≡ with_view_in (office_of old) domain lang key (Some (view_written write unit_there))
      left = is ∙ ap (λ o. with_view_in (office_of old) domain lang key (option_map (view_written write) o)) found

      by : (b : Bool) → is_domain (rows_named old) domain ≡ b → FollowsIf b (FollowsWrite domain lang key write) old new → HasFigures (rows_named new)
      by true there it = write_follows domain there lang key unit_there found rules write over left it
      by false missing it = nothing_there domain (with_view (project_in (office_of old) domain) lang key (Some (view_written write unit_there))) missing left it

  -- ---- a change of the office

  -- the counts of an office that keeps its rules are small
  have_room : IsOffice (office_of old) → HaveRoom (office_counts (office_of old))
  have_room rules d l tally = by (maps.get (project_in (office_of old) d).headers l)
    where
      project : Project
      project = project_in (office_of old) d

      by : (h : Option Entry) → option_map (λ _. counts_in project.template (units_of project l)) h ≡ Some tally → tally.translated + tally.approved < 2 ^ 63
      by None e = absurd (let no : None ≡ Some tally = e in cc)
      by (Some header) e =
          let same : counts_in project.template (units_of project l) ≡ tally = cc in
          let few = subst AreWithin same (few_counted project l (any_project (office_of old) rules d)) in
          omega (arith, few.translated, few.approved)

  domain_change_figures : (domain : Text) (change : DomainChange) → IsOffice (office_of old) → IsPossible (office_of old) (InDomain domain change) → office_of new ≡ changed (office_of old) (InDomain domain change)
      → FollowsDomainChange domain change old new → HasFigures (rows_named new)
  domain_change_figures domain (NewLanguage lang language plan tally) rules possible is follows =
      figures_follow (with_tally domain lang tally)
      (λ d l. ap (λ (o : Office). office_counts o d l) is
      ∙ language_counted (office_of old) rules domain lang language.header plan tally possible.0 possible.1.new (possible.1.apart (any_project (office_of old) rules domain)) possible.1.tallied d l) follows
  domain_change_figures domain (NewTemplate template plans tallies) rules possible is follows =
      figures_follow (with_tallies domain tallies.items)
      (λ d l. ap (λ (o : Office). office_counts o d l) is
      ∙ template_counted (office_of old) domain template plans.items possible.0 possible.1.each (possible.1.apart (any_project (office_of old) rules domain)) d l
      ∙ ap (λ ts. with_tallies domain ts (office_counts (office_of old)) d l) (sym possible.1.tallied)) follows

  in_domain_figures : (domain : Text) (change : DomainChange) → IsOffice (office_of old) → IsPossible (office_of old) (InDomain domain change) → office_of new ≡ changed (office_of old) (InDomain domain change)
      → (b : Bool) → is_domain (rows_named old) domain ≡ b → FollowsIf b (FollowsDomainChange domain change) old new → HasFigures (rows_named new)
  in_domain_figures domain change rules possible is true there follows = domain_change_figures domain change rules possible is follows
  in_domain_figures domain change rules possible is false missing stays = nothing_there domain (changed_project (project_in (office_of old) domain) change) missing is stays

  one_change_figures : (change : Change) → IsOffice (office_of old) → IsPossible (office_of old) change → HaveNextRevisionsInDomains old → office_of new ≡ changed (office_of old) change → FollowsOneChange change old new
      → HasFigures (rows_named new)
  one_change_figures (OneRole name role) rules possible next is stays = figures_stay (λ d l. ap (λ (o : Office). office_counts o d l) is) stays
  one_change_figures (NewPolicy policy) rules possible next is follows =
      let it = follows next in
      figures_are new (turned_unless policy.reviews (office_counts (office_of old))) (λ d l. ap (λ (o : Office). office_counts o d l) is ∙ policy_counted (office_of old) policy d l)
      (it.tallies (office_counts (office_of old)) (have_room rules) figures.tallies) (it.sums figures.sums)
  one_change_figures (NewDomain domain) rules possible next is stays =
      figures_stay (λ d l. ap (λ (o : Office). office_counts o d l) is ∙ new_domain_counts (office_of old) domain d l possible) stays
  one_change_figures (InDomain domain change) rules possible next is follows = in_domain_figures domain change rules possible is (is_domain (rows_named old) domain) refl follows

  any_change_figures : (change : Option Change) → IsOffice (office_of old) → IsPossibleChange (office_of old) change → HaveNextRevisionsInDomains old → office_of new ≡ changed_by (office_of old) change → FollowsChange change old new
      → HasFigures (rows_named new)
  any_change_figures None rules possible next is stays = office_stays is stays
  any_change_figures (Some change) rules possible next is follows = one_change_figures change rules possible next is follows

-- ---- of an office's database

-- the rules bound the revisions, so that 64 bits hold the next ones
next_in_domains : (db : Database) → IsOfficeDatabase by_domain db → HaveNextRevisionsInDomains db
next_in_domains db file row there approved =
    let domain = text_at 1 row in
    next_revisions (seen_in domain (rows_named db)) (file.rows.office.each domain).units (unit_seen row)
    (to_seen (has_text 1 domain) unit_seen (rows_named db (codes "d_unit")) row there (is_text 1 domain row refl)) approved

pub act_figures : (old new : Database) (domain lang : Text) (key : Key) (write : Option UnitWrite) → IsOfficeDatabase by_domain old → IsOffice (office_of new)
    → office_of new ≡ with_write_in (office_of old) domain lang key write → IsPossibleWrite (project_in (office_of old) domain) lang key write
    → FollowsAct domain lang key write old new → HasFigures (rows_named new)
act_figures old new domain lang key write file rules is possible follows = write_figures old new file.ready file.rows.figures domain lang key write rules is possible follows

pub change_figures : (old new : Database) (change : Option Change) → IsOfficeDatabase by_domain old → IsPossibleChange (office_of old) change
    → office_of new ≡ changed_by (office_of old) change → FollowsChange change old new → HasFigures (rows_named new)
change_figures old new change file possible is follows = any_change_figures old new file.ready file.rows.figures change file.rows.rules.office possible (next_in_domains old file) is follows
