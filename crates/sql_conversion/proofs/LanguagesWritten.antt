-- Languages written one after the other are those of the project that they were read of.
use Rattle.std.proofs.Common.{◌≡◌, zero, suc, List, [], ◌∷◌, length, Bool, true, false, ◌||◌, Option, Some, None, IsSome, is_none, unwrap_or, Contains, refl, sym, ap, subst, ◌∙◌, arith, codes}
use Rattle.std.proofs.lemmas.Bool.{and_parts}
use Rattle.std.specs.Cmp.Lexicographic.{bytes_decides}
use Rattle.std.specs.FinMap as maps
use Rattle.sqlite.specs.Order.{Row}
use Rattle.po_text.specs.declared.entry.Entry.{Entry}
use Rattle.po_text.specs.Strings.{is_forms}
use Rattle.po_text.specs.Texts.{Text, text_eq}
use Rattle.units.specs.Project.{Project, units_of}
use Rattle.units.specs.Projects.{IsProject}
use Rattle.units.specs.Rules.{plural_field}
use Rattle.units.specs.declared.unit.Unit.{Unit}
use Rattle.template_update.specs.declared.plans.Plan.{Plan}
use Rattle.sql_columns.specs.Written.{ArePrevious, IsHeaderEntry, header_text}
use Rattle.sql_meaning.specs.Meaning.{template_in, headers_in, team_in, policy_in, units_in, project_of_rows}
use Rattle.std.specs.List.{AllByRecursion, list_any}
use Rattle.sql_changes.proofs.Changed.{units_same}
use Rattle.sql_changes.proofs.PlannedUnits.{HasUnits, in_turn, rows, units_in_turn}
use Rattle.sql_changes.specs.Commits.{PutsLanguage}
use Rattle.sql_changes.specs.UnitWrites.{WritesUnits}
use Rattle.sql_meaning.proofs.RowsPut.{header_put}
use Rattle.sql_meaning.proofs.WrittenAnew.{anew}
use Rattle.sql_meaning.specs.RowKeys.{AreOfficeRows}
use Rattle.sql_schema.proofs.Layouts.{names_differ}
use Rattle.sql_schema.specs.Layouts.{NamedRows}
use Rattle.template_update.specs.declared.plans.Counts.TheVariants.{Loaded}
use Rattle.sql_files.specs.Files.{StandForAll}
use Rattle.sql_files.proofs.LanguageKept.{put_step as language_put}
use Rattle.sql_files.proofs.UnitKept.{units_keep}
use Rattle.sql_conversion.specs.Conversion.{WritesIf, WritesLanguages}

-- ---- one language, where nothing is recorded

module _ (old next after : NamedRows) (lang : Text) (header : Entry) (units : List Unit) (ready : AreOfficeRows old)
    (put : PutsLanguage lang header old next) (written : WritesUnits lang units next after) where
  has : HasUnits (in_turn (units_in next) (rows lang units)) next after
  has = units_in_turn lang units next after put.0.1 written

  headers_are : IsHeaderEntry header → headers_in after ≡ maps.insert (headers_in old) lang header
  headers_are fits =
      ap (λ (rows : List Row). headers_in (λ name. rows)) has.others.languages
      ∙ header_put old next lang header (header_text header) (unwrap_or (plural_field (Some header)) []) fits refl ready.keyed.one_language put.0.0

  units_are : units_in after ≡ in_turn (units_in old) (rows lang units)
  units_are =
      has.units_are ∙ ap (λ m. in_turn m (rows lang units))
      (units_same old next (put.0.0.others (codes "unit") (names_differ refl)) (put.0.0.others (codes "suggestion") (names_differ refl)) (put.0.0.others (codes "vote") (names_differ refl)))

  pub team_stays : after (codes "team") ≡ old (codes "team")
  team_stays = has.others.team ∙ put.0.0.others (codes "team") (names_differ refl)

  pub language_written : IsHeaderEntry header → project_of_rows after ≡ record (project_of_rows old) { headers = maps.insert (headers_in old) lang header; units = in_turn (units_in old) (rows lang units) }
  language_written fits =
      let team : team_in after ≡ team_in old = ap (λ (rows : List Row). team_in (λ name. rows)) team_stays in
      let policy : policy_in after ≡ policy_in old = ap (λ (rows : List Row). policy_in (λ name. rows)) (has.others.policy ∙ put.0.0.others (codes "policy") (names_differ refl)) in
      let template : template_in after ≡ template_in old = ap (λ (rows : List Row). template_in (λ name. rows)) (has.others.template ∙ put.0.0.others (codes "template") (names_differ refl)) in
      let headers = headers_are fits in
      λ i. record { template = template i; headers = headers i; units = units_are i; team = team i; policy = policy i }

  pub records_stay : after (codes "record") ≡ old (codes "record")
  records_stay = has.others.records ∙ put.0.0.others (codes "record") (names_differ refl)

-- what a language leaves is as a schema asks
pub rows_left : (old next after : NamedRows) (lang : Text) (header : Entry) (units : List Unit) → PutsLanguage lang header old next → WritesUnits lang units next after → AreOfficeRows after
rows_left old next after lang header units put written = (units_in_turn lang units next after put.0.1 written).ready

-- ---- the header of a language

is_none_of : (o : Option Text) → is_none o ≡ true → o ≡ None
is_none_of None e = refl
is_none_of (Some t) e = absurd cc

-- ---- the languages of a project

module _ (project : Project) (is : IsProject project) where
  -- what is written of a language; how it was counted is no part of it
  abbrev pub plan_at : Text → Plan
  plan_at lang = record { units = units_of project lang; stays = []; counts = Loaded 0 0 0 }

  -- those of the codes that are there, with their headers
  abbrev pub headed : Option Entry → Text → List (Text × Entry) → List (Text × Entry)
  headed (Some header) lang more = (lang, header) ∷ more
  headed None lang more = more

  abbrev pub those_there : List Text → List (Text × Entry)
  those_there [] = []
  those_there (lang ∷ langs) = headed (maps.get project.headers lang) lang (those_there langs)

  abbrev pub go_on : List (Text × Entry) → Project → Project
  go_on = anew project is.placed plan_at (λ lang. refl)

  -- a header reads back
  fits : (lang : Text) (header : Entry) → maps.get project.headers lang ≡ Some header → is_forms header.forms ≡ true → ArePrevious header.previous → IsHeaderEntry header
  fits lang header there forms previous =
      let it = is.ruled lang header there in
      let single : length header.forms ≡ 1 = it.1.each.0.single (is_none_of header.plural (and_parts _ _ (and_parts _ _ it.0).0).1) in
      record { plain = it.0; one_form = single; form = forms; previous = previous }

  -- what is left is as a schema asks, records and members stay, and the rows stand for values if they did
  pub record IsLeft (hs : List (Text × Entry)) (old new : NamedRows) : Type 0 where
    pub project_is : project_of_rows new ≡ go_on hs (project_of_rows old)
    pub ready : AreOfficeRows new
    pub records : new (codes "record") ≡ old (codes "record")
    pub team : new (codes "team") ≡ old (codes "team")
    pub stands : StandForAll old → StandForAll new

  one_more : (found : Option Entry) (lang : Text) (hs : List (Text × Entry)) → maps.get project.headers lang ≡ found → (old mid new : NamedRows) → AreOfficeRows old → WritesIf found project lang old mid
      → (AreOfficeRows mid → IsLeft hs mid new) → IsLeft (headed found lang hs) old new
  one_more None lang hs there old mid new ready same rest =
      subst (λ (start : NamedRows). IsLeft hs start new) same (rest (subst AreOfficeRows (sym same) ready))
  one_more (Some header) lang hs there old mid new ready ((next, put, (written, kept)), whole) rest =
      let units = units_of project lang in
      let entry = fits lang header there put.1 put.2 in
      let more = rest (rows_left old next mid lang header units put written) in
      record {
        project_is = more.project_is ∙ ap (go_on hs) (language_written old next mid lang header units ready put written entry);
        ready = more.ready;
        records = more.records ∙ records_stay old next mid lang header units ready put written;
        team = more.team ∙ team_stays old next mid lang header units ready put written;
        stands = λ stand. more.stands (units_keep lang units kept next mid written (language_put lang header whole entry (is.ruled lang header there).2 old next put stand));
      }

  pub languages_written : (langs : List Text) (old new : NamedRows) → AreOfficeRows old → WritesLanguages project langs old new → IsLeft (those_there langs) old new
  languages_written [] old new ready same = record {
    project_is = ap project_of_rows same;
    ready = subst AreOfficeRows (sym same) ready;
    records = ap (λ (rows : NamedRows). rows (codes "record")) same;
    team = ap (λ (rows : NamedRows). rows (codes "team")) same;
    stands = subst StandForAll (sym same);
  }
  languages_written (lang ∷ langs) old new ready (mid, one, rest) =
      one_more (maps.get project.headers lang) lang (those_there langs) refl old mid new ready one (λ ready_mid. languages_written langs mid new ready_mid rest)

  -- each has its own header
  pub are_headers : (langs : List Text) → AllByRecursion (λ h. maps.get project.headers h.0 ≡ Some h.1) (those_there langs)
  are_headers [] = tt
  are_headers (lang ∷ langs) = by (maps.get project.headers lang) refl (are_headers langs)
    where
      by : (found : Option Entry) → maps.get project.headers lang ≡ found → AllByRecursion (λ h. maps.get project.headers h.0 ≡ Some h.1) (those_there langs)
          → AllByRecursion (λ h. maps.get project.headers h.0 ≡ Some h.1) (headed found lang (those_there langs))
      by None there more = more
      by (Some header) there more = (there, more)

  -- and none is left out
  abbrev Wrote : List (Text × Entry) → Text → Type 0
  Wrote hs lang = list_any (λ h. text_eq h.0 lang) hs ≡ true

  wrote_later : (found : Option Entry) (code : Text) (hs : List (Text × Entry)) (lang : Text) → Wrote hs lang → Wrote (headed found code hs) lang
  wrote_later None code hs lang wrote = wrote
  wrote_later (Some header) code hs lang wrote = ap (λ b. text_eq code lang || b) wrote ∙ or_true (text_eq code lang)
    where
      or_true : (b : Bool) → (b || true) ≡ true
      or_true true = refl
      or_true false = refl

  wrote_now : (found : Option Entry) (code : Text) (hs : List (Text × Entry)) (lang : Text) → code ≡ lang → IsSome found → Wrote (headed found code hs) lang
  wrote_now None code hs lang is there = absurd (let none = there in cc)
  wrote_now (Some header) code hs lang is there = rw ((bytes_decides code lang).1 is) refl

  pub each_written : (langs : List Text) (lang : Text) → Contains langs lang → IsSome (maps.get project.headers lang) → Wrote (those_there langs) lang
  each_written [] lang (k, less, at) there = absurd (omega (arith, less))
  each_written (code ∷ langs) lang (zero, less, at) there =
      wrote_now (maps.get project.headers code) code (those_there langs) lang at (subst (λ c. IsSome (maps.get project.headers c)) (sym at) there)
  each_written (code ∷ langs) lang (suc k, less, at) there =
      wrote_later (maps.get project.headers code) code (those_there langs) lang (each_written langs lang (k, omega (arith, less), at) there)
