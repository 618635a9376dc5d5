-- Tables by domains are those of an office with its book where their frames are read, and walks over their other rows tell so; and what is refused isn't so.
use Rattle.std.proofs.Common.{◌≡◌, ◌≤◌, inl, inr, List, Bool, true, false, Option, Some, None, option_map, IsTrue, is_some, refl, sym, ap, subst, ◌∙◌, []}
use Rattle.std.specs.Prelude.{⊤, IsSome}
use Rattle.std.specs.Bool.{Decides}
use Rattle.std.specs.FinMap as maps
use Rattle.std.proofs.lemmas.Bool.{false≢true}
use Rattle.sqlite.specs.Effect.{Database}
use Rattle.sqlite.specs.Order.{Row}
use Rattle.sqlite_rules.specs.Lists.{Has}
use Rattle.sqlite_rules.proofs.ListLemmas.{has_contained}
use Rattle.po_text.specs.declared.entry.Entry.{Entry}
use Rattle.po_text.specs.Texts.{Text, text_cmp}
use Rattle.units.specs.Limits.{domain_limit}
use Rattle.units.specs.Office.{Office, has_domain, main, project_in}
use Rattle.units.specs.Offices.{IsOffice}
use Rattle.units.specs.Project.{Project, units_of}
use Rattle.office_maps.specs.OfficeIn.{office_in}
use Rattle.office_specification.proofs.domains.InDomains.{no_domain_yet}
use Rattle.office_specification.specs.Tally.{counts_in, counts_of}
use Rattle.office_specification.specs.declared.tally.Tally.{Tally}
use Rattle.rule_tests.specs.Given.{AreAll}
use Rattle.tables.proofs.NothingCounted.{nothing_counted}
use Rattle.sql_schema.specs.Inside.{AreOfficeTablesOf}
use Rattle.sql_schema.specs.Keys.{text_at}
use Rattle.sql_schema.specs.Layouts.{by_domain, NamedRows, rows_named}
use Rattle.sql_schema.specs.SeenRows.{seen_in}
use Rattle.sql_schema.proofs.DomainsSeen.{is_text}
use Rattle.sql_meaning.specs.Domains.{is_domain}
use Rattle.sql_meaning.proofs.DomainChanges.{has_domain_of_rows}
use Rattle.sql_figures.specs.Figures.{HasFigures}
use Rattle.sql_figures.specs.KeptTallies.{Counts, office_counts}
use Rattle.sql_adoption.specs.Adoption.{IsAdoptedOf, StandForOffice, StandInDomains}
use Rattle.sql_adoption.specs.FigureRows.{AreCounted, AreTalliesShown, are_rows_of, places_of}
use Rattle.sql_adoption.specs.FramesKept.{KeepsDomain, KeepsFrame, RefusesEither, StandsFrame, TestsDomains, walked_counts, walked_of}
use Rattle.sql_adoption.specs.LanguagesKept.{walked_tally}
use Rattle.sql_adoption.specs.OwnedRows.{RefusesUnless}
use Rattle.sql_adoption.specs.Reading.{HoldAll, HoldsAll, KeepsRecords, RefusesOf, RefusesRecords}
use Rattle.sql_adoption.specs.SumsKept.{HaveFewVotes, HaveToldFew, HaveToldSums, RefusesSums, VotesStand}
use Rattle.sql_adoption.specs.WalkedOffice.{AreTold, AreUnitsIn, ArePlaced, HasFewDomains, IsFrameOf, RefusesCounted, RefusesUnits}
use Rattle.sql_adoption.specs.declared.faults.OpenFault.{OpenFault}
use Rattle.sql_adoption.specs.declared.faults.OpenFault.TheVariants.{Memory, Disk, Foreign, Exists, Refused}
use Rattle.sql_adoption.specs.declared.faults.Mismatch.TheVariants.{OtherTables, OtherForm, UnreadRow, OtherFigures, BrokenRules}
use Rattle.sql_adoption.specs.declared.language_tallies.Counted.{Counted}
use Rattle.sql_adoption.specs.declared.office_put.ReadOffice.{ReadOffice}
use Rattle.sql_adoption.proofs.DomainByLanguages.{placed_where_kept}
use Rattle.sql_adoption.proofs.FewVotes.{few_votes}
use Rattle.sql_adoption.proofs.FiguresTold.{d_votes_stand, tallies_are, tallies_shown}
use Rattle.sql_adoption.proofs.FramesMeant.{as_many_domains, by_walks, domain_keeps, domain_kept, frame, frame_is, own, same_domains, stands_frame, stands_whole, whole, whole_is}
use Rattle.sql_adoption.proofs.KeptSums.{few_are, few_told, sums_are, sums_told}
use Rattle.sql_adoption.proofs.SummedRows.{summed_so}
use Rattle.sql_adoption.proofs.Recorded.{rules_kept}
use Rattle.sql_adoption.proofs.StandByWalks.{domain_stands, stands_domain}
use Rattle.sql_adoption.proofs.TalliesTold.{tallies_told}
use Rattle.sql_adoption.proofs.TallyByWalks.{tally_by_rows}
use Rattle.sql_adoption.proofs.Unseen.{unseen_stands}

same_mapped : {X : Type 0} (o : Option X) (a b : Tally) → (IsSome o → a ≡ b) → option_map (λ (_ : X). a) o ≡ option_map (λ (_ : X). b) o
same_mapped None a b same = refl
same_mapped (Some x) a b same = ap Some (same refl)

module _ (db : Database) (ready : AreOfficeTablesOf by_domain db) (read : ReadOffice) (holds : HoldsAll read) (is : IsFrameOf db read) where
  abbrev rows : NamedRows
  rows = rows_named db

  abbrev office : Office
  office = whole db ready

  -- what is at hand is the frame of the rows
  at_hand : office_in read.maps ≡ frame db ready
  at_hand = is.read.office

  held : HoldAll (frame db ready) read.domains.items read.langs.items
  held = subst (λ (o : Office). HoldAll o read.domains.items read.langs.items) at_hand holds

  -- ---- domains

  there_or_not : (domain : Text) → is_domain rows domain ≡ has_domain office domain
  there_or_not domain = has_domain_of_rows rows domain

  in_frame : (domain : Text) → is_domain rows domain ≡ true → IsTrue (has_domain (frame db ready) domain)
  in_frame domain there = same_domains db ready domain ∙ sym (there_or_not domain) ∙ there

  was_there : (domain : Text) → IsTrue (has_domain (frame db ready) domain) → is_domain rows domain ≡ true
  was_there domain there = there_or_not domain ∙ sym (same_domains db ready domain) ∙ there

  -- all languages of all domains are at hand
  langs_held : (domain : Text) → AreAll (project_in office domain).headers read.langs.items
  langs_held domain = by (is_domain rows domain) refl
    where
      by : (b : Bool) → is_domain rows domain ≡ b → AreAll (project_in office domain).headers read.langs.items
      by true there lang headed =
          held.langs domain lang (subst (λ (p : Project). IsTrue (maps.contains_key p.headers lang)) (sym (frame_is db ready domain there)) (subst (λ (p : Project). IsTrue (maps.contains_key p.headers lang)) (whole_is db ready domain there) headed))
      by false missing lang headed =
          let none : has_domain office domain ≡ false = sym (there_or_not domain) ∙ missing in
          let empty : maps.contains_key (project_in office domain).headers lang ≡ false = ap (λ (p : Project). maps.contains_key p.headers lang) (no_domain_yet office domain none) ∙ ap is_some (maps.get-empty text_cmp lang) in
          absurd (false≢true (sym empty ∙ headed))

  held_whole : HoldAll office read.domains.items read.langs.items
  held_whole = record { domains = λ domain there. held.domains domain (same_domains db ready domain ∙ there); langs = langs_held }

  few_domains : HasFewDomains (office_in read.maps) → HasFewDomains office
  few_domains it =
      let frames = subst HasFewDomains at_hand it in
      record { has_main = sym (same_domains db ready main) ∙ frames.has_main; few = subst (λ n. n ≤ domain_limit) (as_many_domains db ready) frames.few }

  few_in_frame : IsOffice office → HasFewDomains (office_in read.maps)
  few_in_frame rules = subst HasFewDomains (sym at_hand) (record {
    has_main = same_domains db ready main ∙ rules.has_main;
    few = subst (λ n. n ≤ domain_limit) (sym (as_many_domains db ready)) rules.few_domains;
  })

  -- ---- where the rows stand and keep the rules

  module _ (counted : List Counted) (units : AreUnitsIn db read counted) where
    tested : TestsDomains db (frame db ready) read.domains.items
    tested = subst (λ (o : Office). TestsDomains db o read.domains.items) at_hand units.domains

    listed : (domain : Text) → is_domain rows domain ≡ true → Has read.domains.items domain
    listed domain there = has_contained read.domains.items domain (held.domains domain (in_frame domain there))

    domain_so : (domain : Text) → is_domain rows domain ≡ true → StandForOffice (seen_in domain rows)
    domain_so domain there =
        domain_stands db ready domain units.placed (is.read.each domain there) (stands_whole db ready domain there (tested domain (listed domain there) (in_frame domain there)).stand) units.votes

    each_stands : (domain : Text) → StandForOffice (seen_in domain rows)
    each_stands domain = by (is_domain rows domain) refl
      where
        by : (b : Bool) → is_domain rows domain ≡ b → StandForOffice (seen_in domain rows)
        by true there = domain_so domain there
        by false missing = unseen_stands rows is.own domain missing is.read.some.0 (domain_so is.read.some.0 is.read.some.1)

    pub all_stand : StandInDomains rows
    all_stand = record { names = is.read.names; own = is.own; each = each_stands }

    module _ (few : HasFewDomains (office_in read.maps)) (voted : HaveFewVotes rows) where
      keeps_domain : (domain : Text) → is_domain rows domain ≡ true → KeepsDomain db (project_in (frame db ready) domain) domain
      keeps_domain domain there = (tested domain (listed domain there) (in_frame domain there)).keep

      pub is_office : IsOffice office
      is_office =
          let whole_few = few_domains few in
          record {
            has_main = whole_few.has_main;
            few_domains = whole_few.few;
            projects = λ domain there.
                let is_there : is_domain rows domain ≡ true = there_or_not domain ∙ there in
                domain_kept db ready domain is_there units.placed voted (keeps_domain domain is_there);
          }

      -- what walks count, counting gives
      same_counts : (domain lang : Text) → walked_counts db (frame db ready) domain lang ≡ office_counts office domain lang
      same_counts domain lang = by (is_domain rows domain) refl
        where
          by : (b : Bool) → is_domain rows domain ≡ b → walked_counts db (frame db ready) domain lang ≡ office_counts office domain lang
          by true there =
              let project = own db ready domain there in
              let counts = counts_in project.template (units_of project lang) in
              let walked = walked_tally db project.template domain lang in
              let header = maps.get project.headers lang in
              ap (λ (p : Project). walked_of db p domain lang) (frame_is db ready domain there)
              ∙ same_mapped header walked counts (λ headed.
              let keep = (keeps_domain domain there).each lang (subst (λ (p : Project). IsSome (maps.get p.headers lang)) (sym (frame_is db ready domain there)) headed) in
              sym (tally_by_rows db ready domain lang (λ u at passes. (keep.units u at passes).few)))
              ∙ sym (ap (λ (p : Project). counts_of p lang) (whole_is db ready domain there))
          by false missing =
              let none : has_domain office domain ≡ false = sym (there_or_not domain) ∙ missing in
              let no_frame : has_domain (frame db ready) domain ≡ false = same_domains db ready domain ∙ none in
              ap (λ (p : Project). walked_of db p domain lang) (no_domain_yet (frame db ready) domain no_frame)
              ∙ ap (option_map (λ (h : Entry). walked_tally db [] domain lang)) (maps.get-empty text_cmp lang)
              ∙ sym (nothing_counted office domain none lang)

      counts_whole : AreCounted (office_counts office) (places_of read.domains.items read.langs.items) counted
      counts_whole =
          let places = places_of read.domains.items read.langs.items in
          let walked = subst (λ (o : Office). AreCounted (walked_counts db o) places counted) at_hand units.counts in
          subst (λ (counts : Counts). AreCounted counts places counted) (λ i domain lang. same_counts domain lang i) walked

      shown_so : (tallies : List Row) → are_rows_of counted tallies ≡ true → AreTalliesShown (office_counts office) tallies
      shown_so tallies told = (tallies_told office read.domains.items read.langs.items held_whole counted counts_whole tallies (are_rows_of counted tallies) refl).0 told

      -- ---- all of it

      pub adopted : KeepsRecords db → AreTold counted true db → HaveToldSums rows → IsAdoptedOf by_domain db
      adopted records told sums = record {
        told = is.read.told;
        office = all_stand;
        book = records.stand;
        numbered = records.numbered;
        contents = records.contents;
        figures = record { tallies = tallies_are rows told.0 told.1.all (office_counts office) (shown_so told.0 told.2); sums = sums_are db ready units.votes voted sums };
        rules = rules_kept db ready (λ domain. (each_stands domain).suggestions) is_office records.statuses;
      }

      -- tallies that aren't what counting gives
      pub other_tallies : AreTold counted false db → ¬ HasFigures rows
      other_tallies told figures =
          let shown = tallies_shown rows told.0 told.1.all (office_counts office) figures.tallies in
          false≢true (sym told.2 ∙ (tallies_told office read.domains.items read.langs.items held_whole counted counts_whole told.0 (are_rows_of counted told.0) refl).1 shown)

  -- ---- and back

  stands_in_frame : StandInDomains rows → StandsFrame db (office_in read.maps) × VotesStand db
  stands_in_frame stand = (
    subst (StandsFrame db) (sym at_hand) (λ domain there.
        let is_there = was_there domain there in
        stands_frame db ready domain is_there (stands_domain db ready domain (stand.each domain))),
    d_votes_stand db ready stand,
  )

  keeps_in_frame : IsOffice office → ArePlaced db × KeepsFrame db (office_in read.maps)
  keeps_in_frame rules = (
    placed_so,
    subst (KeepsFrame db) (sym at_hand) (λ domain there.
        let is_there = was_there domain there in
        domain_keeps db ready domain is_there (rules.projects domain (sym (there_or_not domain) ∙ is_there))),
  )
    where
      placed_so : ArePlaced db
      placed_so u there =
          let domain = text_at 1 u in
          let is_there : is_domain rows domain ≡ true = is.own.units u there in
          placed_where_kept db ready domain (by_walks db ready domain is_there (rules.projects domain (sym (there_or_not domain) ∙ is_there))) u there (is_text 1 domain u refl)

  pub few_votes_told : IsOffice office → HaveFewVotes rows
  few_votes_told rules s there = few_votes db ready is.own rules s there

  -- ---- why not

  pub few_domains_refused : ¬ HasFewDomains (office_in read.maps) → RefusesOf by_domain db (Foreign BrokenRules)
  few_domains_refused others = λ rules. others (few_in_frame rules.office)

  pub units_refused : (fault : OpenFault) → RefusesUnits (office_in read.maps) db fault → RefusesOf by_domain db fault
  units_refused (Foreign UnreadRow) h = λ stand. h (stands_in_frame stand.0)
  units_refused (Foreign BrokenRules) h = λ rules. h (keeps_in_frame rules.office)
  units_refused (Foreign OtherFigures) h = absurd h
  units_refused (Foreign OtherForm) h = absurd h
  units_refused (Foreign OtherTables) h = absurd h
  units_refused Exists h = absurd h
  units_refused Memory h = tt
  units_refused Disk h = tt
  units_refused Refused h = tt

  pub records_refused : (fault : OpenFault) → RefusesRecords db fault → RefusesOf by_domain db fault
  records_refused (Foreign UnreadRow) h = λ stand. h stand.1
  records_refused (Foreign BrokenRules) h = λ rules. h rules.statuses
  records_refused (Foreign OtherFigures) h = absurd h
  records_refused (Foreign OtherForm) h = absurd h
  records_refused (Foreign OtherTables) h = absurd h
  records_refused Exists h = absurd h
  records_refused Memory h = tt
  records_refused Disk h = tt
  records_refused Refused h = tt

  pub sums_refused : VotesStand db → (fault : OpenFault) → RefusesSums rows fault → RefusesOf by_domain db fault
  sums_refused votes (Foreign BrokenRules) h = λ rules. h (few_told db ready votes (few_votes_told rules.office))
  sums_refused votes (Foreign OtherFigures) (inl h) = λ figures. h.1 (sums_told db ready votes (few_are db ready votes h.0) figures.sums)
  sums_refused votes (Foreign OtherFigures) (inr h) = λ figures. h (summed_so rows figures.sums)
  sums_refused votes (Foreign UnreadRow) h = absurd h
  sums_refused votes (Foreign OtherForm) h = absurd h
  sums_refused votes (Foreign OtherTables) h = absurd h
  sums_refused votes Exists h = absurd h
  sums_refused votes Memory h = tt
  sums_refused votes Disk h = tt
  sums_refused votes Refused h = tt

  pub counted_refused : (counted : List Counted) (units : AreUnitsIn db read counted) → HasFewDomains (office_in read.maps) → HaveFewVotes rows → (fault : OpenFault) → RefusesCounted counted db fault → RefusesOf by_domain db fault
  counted_refused counted units few voted (Foreign OtherFigures) h = other_tallies counted units few voted h
  counted_refused counted units few voted (Foreign UnreadRow) h = absurd h
  counted_refused counted units few voted (Foreign BrokenRules) h = absurd h
  counted_refused counted units few voted (Foreign OtherForm) h = absurd h
  counted_refused counted units few voted (Foreign OtherTables) h = absurd h
  counted_refused counted units few voted Exists h = absurd h
  counted_refused counted units few voted Memory h = tt
  counted_refused counted units few voted Disk h = tt
  counted_refused counted units few voted Refused h = tt

-- ---- there is `main`, and there are few domains

pub main_told : (office : Office) (name : Text) (b : Bool) → b ≡ has_domain office name → name ≡ main → maps.len office.domains ≤ domain_limit → Decides b (HasFewDomains office)
main_told office name b there is few = (
  λ e. record { has_main = ap (has_domain office) (sym is) ∙ sym there ∙ e; few = few },
  λ it. there ∙ ap (has_domain office) is ∙ it.has_main,
)

-- ---- units, suggestions and votes

pub placed_refuse : (frame : Office) (db : Database) (fault : OpenFault) → RefusesEither ⊤ (ArePlaced db) fault → RefusesUnits frame db fault
placed_refuse _ db (Foreign UnreadRow) h = λ it. h tt
placed_refuse _ db (Foreign BrokenRules) h = λ it. h it.0
placed_refuse _ db (Foreign OtherFigures) h = absurd h
placed_refuse _ db (Foreign OtherForm) h = absurd h
placed_refuse _ db (Foreign OtherTables) h = absurd h
placed_refuse _ db Exists h = absurd h
placed_refuse _ db Memory h = tt
placed_refuse _ db Disk h = tt
placed_refuse _ db Refused h = tt

pub domains_refuse : (frame : Office) (db : Database) (fault : OpenFault) → RefusesEither (StandsFrame db frame) (KeepsFrame db frame) fault → RefusesUnits frame db fault
domains_refuse _ db (Foreign UnreadRow) h = λ it. h it.0
domains_refuse _ db (Foreign BrokenRules) h = λ it. h it.1
domains_refuse _ db (Foreign OtherFigures) h = absurd h
domains_refuse _ db (Foreign OtherForm) h = absurd h
domains_refuse _ db (Foreign OtherTables) h = absurd h
domains_refuse _ db Exists h = absurd h
domains_refuse _ db Memory h = tt
domains_refuse _ db Disk h = tt
domains_refuse _ db Refused h = tt

pub votes_refuse : (frame : Office) (db : Database) (fault : OpenFault) → RefusesUnless (VotesStand db) fault → RefusesUnits frame db fault
votes_refuse _ db (Foreign UnreadRow) h = λ it. h it.1
votes_refuse _ db (Foreign BrokenRules) h = absurd h
votes_refuse _ db (Foreign OtherFigures) h = absurd h
votes_refuse _ db (Foreign OtherForm) h = absurd h
votes_refuse _ db (Foreign OtherTables) h = absurd h
votes_refuse _ db Exists h = absurd h
votes_refuse _ db Memory h = tt
votes_refuse _ db Disk h = tt
votes_refuse _ db Refused h = tt

-- ---- one look behind the other

module _ (read : ReadOffice) (holds : HoldsAll read) where
  -- what is asked of rows whose frame was read
  abbrev pub Adopts : Database → Type 0
  Adopts db = IsFrameOf db read → IsAdoptedOf by_domain db

  abbrev pub RefusesBehind : Database → OpenFault → Type 0
  RefusesBehind db fault = IsFrameOf db read → RefusesOf by_domain db fault

  -- what was told so far
  abbrev pub WithUnits : List Counted → Database → Type 0
  WithUnits counted db = AreUnitsIn db read counted

  abbrev pub WithRecords : List Counted → Database → Type 0
  WithRecords counted db = WithUnits counted db × KeepsRecords db

  abbrev pub WithSums : List Counted → Database → Type 0
  WithSums counted db = WithRecords counted db × (HaveToldFew (rows_named db) × HaveToldSums (rows_named db))

  module _ (db : Database) (ready : AreOfficeTablesOf by_domain db) where
    pub refuses_units : (fault : OpenFault) → RefusesUnits (office_in read.maps) db fault → RefusesBehind db fault
    refuses_units fault h is = units_refused db ready read holds is fault h

  module _ (db : Database) (ready : AreOfficeTablesOf by_domain db) (few : HasFewDomains (office_in read.maps)) (counted : List Counted) where
    pub adopts : WithSums counted db × AreTold counted true db → Adopts db
    adopts it is = adopted db ready read holds is counted it.0.0.0 few (few_are db ready it.0.0.0.votes it.0.1.0) it.0.0.1 it.1 it.0.1.1

    pub refuses_records : WithUnits counted db → (fault : OpenFault) → RefusesRecords db fault → RefusesBehind db fault
    refuses_records units fault h is = records_refused db ready read holds is fault h

    pub refuses_sums : WithRecords counted db → (fault : OpenFault) → RefusesSums (rows_named db) fault → RefusesBehind db fault
    refuses_sums it fault h is = sums_refused db ready read holds is it.0.votes fault h

    pub refuses_counted : WithSums counted db → (fault : OpenFault) → RefusesCounted counted db fault → RefusesBehind db fault
    refuses_counted it fault h is = counted_refused db ready read holds is counted it.0.0 few (few_are db ready it.0.0.votes it.1.0) fault h
