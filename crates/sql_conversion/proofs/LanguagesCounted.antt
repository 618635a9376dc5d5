-- Tallies of languages that are put one after the other: where there was none they come to what counting the units of each language gives.
use Rattle.std.specs.Prelude.{⊤, ◌&&◌}
use Rattle.std.proofs.Common.{◌≡◌, ◌+◌, ◌<◌, zero, suc, ℕ, List, [], ◌∷◌, ◌++◌, length, take, get_or, Bool, true, false, cond, Option, Some, None, IsSome, option_map, unwrap_or, Contains, codes, refl, sym, ap, subst, ◌∙◌, arith}
use Rattle.std.proofs.lemmas.List.{take_more}
use Rattle.std.specs.FinMap as maps
use Rattle.sqlite.specs.Effect.{Database}
use Rattle.sqlite.specs.Order.{Row}
use Rattle.po_text.specs.declared.entry.Entry.{Entry}
use Rattle.po_text.specs.Texts.{Text, text_eq}
use Rattle.units.specs.Office.{Office, main, same_domain, project_in}
use Rattle.units.specs.Offices.{IsOffice}
use Rattle.units.specs.Project.{Project, units_of}
use Rattle.office_specification.specs.Counting.{none_counted}
use Rattle.office_specification.specs.declared.tally.Tally.{Tally}
use Rattle.office_specification.specs.MainAlone.{main_alone}
use Rattle.office_specification.specs.Tally.{counts_in, counts_of}
use Rattle.office_specification.proofs.domains.InDomains.{equal_domains}
use Rattle.office_specification.proofs.domains.MainAlone.{has-main, in-main}
use Rattle.rule_tests.specs.Given.{AreAll}
use Rattle.sql_schema.specs.Layouts.{rows_named}
use Rattle.sql_meaning.specs.Domains.{office_of_rows}
use Rattle.sql_figures.specs.KeptTallies.{Counts, office_counts, AreTalliesOf}
use Rattle.sql_figures.specs.Figures.{HasFigures, with_tally, with_tallies, FiguresFollow, FiguresStay}
use Rattle.sql_figures.proofs.FigureSteps.{stay_first, follow_both, follow_tally, nothing_follows}
use Rattle.sql_figures.proofs.TallyRows.{tallies_alike, is_meant, is_another, meant_or_not}
use Rattle.sql_commits.specs.Figures.{PutsTally}
use Rattle.tables.proofs.NothingCounted.{nothing_counted}
use Rattle.sql_files.proofs.Puts.{no_row}
use Rattle.sql_conversion.specs.Conversion.{tallied, tallies_of, FollowsLanguages, FollowsLanguagesIn}

-- ---- a language's tally

-- it is looked up in the office, where nothing is counted of a language that isn't there
pub tally_looked_up : (office : Office) (domain lang : Text) (found : Option Tally) (tally : Tally) → tally ≡ unwrap_or found none_counted
    → (IsOffice office → found ≡ counts_of (project_in office domain) lang) → IsOffice office → tally ≡ unwrap_or (counts_of (project_in office domain) lang) none_counted
tally_looked_up office domain lang found tally is counts rules = is ∙ ap (λ (o : Option Tally). unwrap_or o none_counted) (counts rules)

counts_there : (project : Project) (lang : Text) (found : Option Entry) → maps.get project.headers lang ≡ found → counts_of project lang ≡ option_map (λ (h : Entry). counts_in project.template (units_of project lang)) found
counts_there project lang found is = ap (option_map (λ (h : Entry). counts_in project.template (units_of project lang))) is

-- it is put behind the language and its units
pub language_counted : (domain : Text) (office : Office) (lang : Text) (header : Entry) (tally : Tally) (old mid new : Database) → maps.get (project_in office domain).headers lang ≡ Some header
    → (IsOffice office → tally ≡ unwrap_or (counts_of (project_in office domain) lang) none_counted) → FiguresStay old mid → PutsTally domain lang tally mid new → FollowsLanguagesIn domain office (lang ∷ []) old new
language_counted domain office lang header tally old mid new there counts stays put rules =
    let has = counts_there (project_in office domain) lang (Some header) there in
    let own : counts_of (project_in office domain) lang ≡ Some tally = has ∙ ap Some (sym (counts rules ∙ ap (λ (o : Option Tally). unwrap_or o none_counted) has)) in
    subst (λ (o : Option Tally). FiguresFollow (with_tallies domain (tallied o lang [])) old new) (sym own)
    (stay_first (λ counts. ⊤) (with_tally domain lang tally) stays (follow_tally domain lang tally put))

-- of a language that isn't there none is put
pub none_counted_of : (domain : Text) (office : Office) (lang : Text) (db : Database) → maps.get (project_in office domain).headers lang ≡ None → FollowsLanguagesIn domain office (lang ∷ []) db db
none_counted_of domain office lang db missing rules =
    subst (λ (o : Option Tally). FiguresFollow (with_tallies domain (tallied o lang [])) db db) (sym (counts_there (project_in office domain) lang None missing)) (nothing_follows db)

-- ---- one after the other

first_then : (domain : Text) (project : Project) (lang : Text) (langs : List Text) (counts : Counts)
    → with_tallies domain (tallies_of project (lang ∷ langs)) counts ≡ with_tallies domain (tallies_of project langs) (with_tallies domain (tallies_of project (lang ∷ [])) counts)
first_then domain project lang langs counts = by (counts_of project lang)
  where
    by : (found : Option Tally) → with_tallies domain (tallied found lang (tallies_of project langs)) counts ≡ with_tallies domain (tallies_of project langs) (with_tallies domain (tallied found lang []) counts)
    by None = refl
    by (Some tally) = refl

last_then : (domain : Text) (project : Project) (langs : List Text) (lang : Text) (counts : Counts)
    → with_tallies domain (tallies_of project (langs ++ lang ∷ [])) counts ≡ with_tallies domain (tallies_of project (lang ∷ [])) (with_tallies domain (tallies_of project langs) counts)
last_then domain project [] lang counts = refl
last_then domain project (first ∷ more) lang counts =
    let one = with_tallies domain (tallies_of project (first ∷ [])) counts in
    first_then domain project first (more ++ lang ∷ []) counts ∙ last_then domain project more lang one
    ∙ ap (with_tallies domain (tallies_of project (lang ∷ []))) (sym (first_then domain project first more counts))

pub one_more_counted : (domain : Text) (office : Office) (langs : List Text) (i : ℕ) (lang : Text) (old mid new : Database) → i < length langs → lang ≡ get_or langs i lang → FollowsLanguagesIn domain office (take i langs) old mid
    → FollowsLanguagesIn domain office (lang ∷ []) mid new → FollowsLanguagesIn domain office (take (i + 1) langs) old new
one_more_counted domain office langs i lang old mid new within is front one rules =
    let project = project_in office domain in
    let taken : take (i + 1) langs ≡ take i langs ++ lang ∷ [] = take_more langs i lang within ∙ ap (λ v. take i langs ++ v ∷ []) (sym is) in
    subst (λ ls. FiguresFollow (with_tallies domain (tallies_of project ls)) old new) (sym taken)
    (subst (λ (change : Counts → Counts). FiguresFollow change old new) (λ k counts. sym (last_then domain project (take i langs) lang counts) k)
    (follow_both (with_tallies domain (tallies_of project (take i langs))) (with_tallies domain (tallies_of project (lang ∷ []))) (front rules) (one rules)))

pub counted_behind : (domain : Text) (office : Office) (langs : List Text) (old mid new : Database) → FiguresStay old mid → FollowsLanguagesIn domain office langs mid new → FollowsLanguagesIn domain office langs old new
counted_behind domain office langs old mid new stays follows rules = stay_first (λ counts. ⊤) (with_tallies domain (tallies_of (project_in office domain) langs)) stays (follows rules)

-- ---- of a domain that isn't there

no_tallies : (domain : Text) (office : Office) (langs : List Text) → maps.contains_key office.domains domain ≡ false → tallies_of (project_in office domain) langs ≡ []
no_tallies domain office [] missing = refl
no_tallies domain office (lang ∷ langs) missing =
    ap (λ (o : Option Tally). tallied o lang (tallies_of (project_in office domain) langs)) (nothing_counted office domain missing lang) ∙ no_tallies domain office langs missing

pub none_there : (domain : Text) (office : Office) (langs : List Text) (db : Database) → maps.contains_key office.domains domain ≡ false → FollowsLanguagesIn domain office langs db db
none_there domain office langs db missing rules = subst (λ ts. FiguresFollow (with_tallies domain ts) db db) (sym (no_tallies domain office langs missing)) (nothing_follows db)

-- ---- what they come to

-- no language is counted
abbrev no_counts : Counts
no_counts domain lang = None

none_put : (rows : List Row) → rows ≡ [] → AreTalliesOf no_counts rows
none_put rows none = record {
  counted = λ row there. no_row rows row none there;
  all = λ domain lang some. absurd (let no = some in cc);
}

module _ (project : Project) where
  abbrev right : Counts
  right = office_counts (main_alone project)

  right_of_main : (lang : Text) → right main lang ≡ counts_of project lang
  right_of_main lang = ap (λ (p : Project). counts_of p lang) (in-main project)

  -- a tally that is put is right
  put_right : (tally : Tally) (lang : Text) (counts : Counts) (d l : Text) → counts_of project lang ≡ Some tally → d ≡ main → l ≡ lang → with_tally main lang tally counts d l ≡ right d l
  put_right tally lang counts d l is of_main of_lang =
      ap (λ b. cond b (Some tally) (counts d l)) ((λ i. same_domain (of_main i) main && text_eq (of_lang i) lang) ∙ is_meant main lang)
      ∙ (sym is ∙ sym (right_of_main lang) ∙ (λ i. right (sym of_main i) (sym of_lang i)))

  -- and what is right stays so
  one_stays : (found : Option Tally) (lang : Text) (counts : Counts) (d l : Text) → counts_of project lang ≡ found → counts d l ≡ right d l → with_tallies main (tallied found lang []) counts d l ≡ right d l
  one_stays None lang counts d l is so_far = so_far
  one_stays (Some tally) lang counts d l is so_far =
      meant_or_not main lang d l (with_tally main lang tally counts d l ≡ right d l) (λ of_main of_lang. put_right tally lang counts d l is of_main of_lang)
      (λ differ. ap (λ b. cond b (Some tally) (counts d l)) (is_another main lang d l differ) ∙ so_far)

  all_stay : (langs : List Text) (counts : Counts) (d l : Text) → counts d l ≡ right d l → with_tallies main (tallies_of project langs) counts d l ≡ right d l
  all_stay [] counts d l so_far = so_far
  all_stay (lang ∷ langs) counts d l so_far =
      ap (λ (c : Counts). c d l) (first_then main project lang langs counts)
      ∙ all_stay langs (with_tallies main (tallies_of project (lang ∷ [])) counts) d l (one_stays (counts_of project lang) lang counts d l refl so_far)

  own : (found : Option Tally) (code : Text) (counts : Counts) (lang : Text) → counts_of project code ≡ found → IsSome found → lang ≡ code → with_tallies main (tallied found code []) counts main lang ≡ right main lang
  own None code counts lang is some same = absurd (let no = some in cc)
  own (Some tally) code counts lang is some same = put_right tally code counts main lang is refl same

  each_right : (langs : List Text) (counts : Counts) (lang : Text) → Contains langs lang → IsSome (counts_of project lang) → with_tallies main (tallies_of project langs) counts main lang ≡ right main lang
  each_right [] counts lang (k, less, at) some = absurd (omega (arith, less))
  each_right (code ∷ langs) counts lang (zero, less, at) some =
      ap (λ (c : Counts). c main lang) (first_then main project code langs counts)
      ∙ all_stay langs (with_tallies main (tallies_of project (code ∷ [])) counts) main lang
      (own (counts_of project code) code counts lang refl (subst (λ c. IsSome (counts_of project c)) (sym at) some) (sym at))
  each_right (code ∷ langs) counts lang (suc k, less, at) some =
      ap (λ (c : Counts). c main lang) (first_then main project code langs counts)
      ∙ each_right langs (with_tallies main (tallies_of project (code ∷ [])) counts) lang (k, omega (arith, less), at) some

  -- another domain counts nothing
  none_elsewhere : (domain lang : Text) → same_domain domain main ≡ false → right domain lang ≡ None
  none_elsewhere domain lang apart = nothing_counted (main_alone project) domain (has-main project domain ∙ apart) lang

  module _ (langs : List Text) (all : AreAll project.headers langs) where
    header_there : (lang : Text) → IsSome (counts_of project lang) → IsSome (maps.get project.headers lang)
    header_there lang = by (maps.get project.headers lang)
      where
        by : (found : Option Entry) → IsSome (option_map (λ (h : Entry). counts_in project.template (units_of project lang)) found) → IsSome found
        by None none = none
        by (Some header) some = refl

    counted_in_main : (domain lang : Text) (tally : Tally) → right domain lang ≡ Some tally → domain ≡ main → with_tallies main (tallies_of project langs) no_counts domain lang ≡ right domain lang
    counted_in_main domain lang tally is of_main =
        let some : IsSome (counts_of project lang) =
        subst (λ (o : Option Tally). IsSome o) (sym (sym (right_of_main lang) ∙ ap (λ d. right d lang) (sym of_main) ∙ is)) refl in
        subst (λ d. with_tallies main (tallies_of project langs) no_counts d lang ≡ right d lang) (sym of_main) (each_right langs no_counts lang (all lang (header_there lang some)) some)

    pub all_counted : (domain lang : Text) → right domain lang ≡ with_tallies main (tallies_of project langs) no_counts domain lang
    all_counted domain lang = sym (by (right domain lang) refl (same_domain domain main) refl)
      where
        by : (found : Option Tally) → right domain lang ≡ found → (same : Bool) → same_domain domain main ≡ same → with_tallies main (tallies_of project langs) no_counts domain lang ≡ right domain lang
        by None is same so = all_stay langs no_counts domain lang (sym is)
        by (Some tally) is true so = counted_in_main domain lang tally is (equal_domains domain main so)
        by (Some tally) is false so = absurd (let no = sym is ∙ none_elsewhere domain lang so in cc)

    -- what counting the rows gives, where there was no row of figures
    pub figures_counted : (old new : Database) → rows_named old (codes "d_tally") ≡ [] → rows_named old (codes "d_suggestion") ≡ [] → IsOffice (main_alone project) → office_of_rows (rows_named new) ≡ main_alone project
        → FollowsLanguages (main_alone project) langs old new → HasFigures (rows_named new)
    figures_counted old new tallies suggestions rules office follows =
        let follow = subst (λ (p : Project). FiguresFollow (with_tallies main (tallies_of p langs)) old new) (in-main project) (follows rules) in
        record {
          tallies = subst (λ (o : Office). AreTalliesOf (office_counts o) (rows_named new (codes "d_tally"))) (sym office)
              (tallies_alike (with_tallies main (tallies_of project langs) no_counts) right (rows_named new (codes "d_tally")) all_counted
              (follow.tallies no_counts tt (none_put (rows_named old (codes "d_tally")) tallies)));
          sums = follow.sums (λ s there. no_row (rows_named old (codes "d_suggestion")) s suggestions there);
        }
