-- What a commit of a project act's change asks follows of the steps.
use Rattle.std.proofs.Common.{◌≡◌, List, [], ◌∷◌, Bool, true, false, cond, ◌||◌, Option, Some, None, is_some, refl, sym, ◌∙◌, ap, subst, map, filter}
use Rattle.std.specs.Prelude.{option_map, option_and_then}
use Rattle.std.specs.List.{list_any, AllZip}
use Rattle.std.specs.Ordering.{eq_by_cmp}
use Rattle.std.specs.Cmp.Lexicographic.{bytes_decides}
use Rattle.std.specs.FinMap as maps
use Rattle.std.proofs.lemmas.List.Folds.{list_any-append}
use Rattle.plural_expr.specs.Values.{Rule}
use Rattle.po_text.specs.declared.entry.Entry.{Entry}
use Rattle.po_text.specs.Texts.{Text, text_eq}
use Rattle.units.specs.Units.{key_cmp}
use Rattle.units.specs.Project.{Project, Place, place_cmp, languages, units_of}
use Rattle.units.specs.Projects.{IsProject}
use Rattle.units.specs.Rules.{rule_at}
use Rattle.units.specs.declared.unit.Unit.{Unit}
use Rattle.template_update.specs.declared.plans.Plan.{Plan}
use Rattle.template_update.specs.Updates.{plan_of}
use Rattle.template_update.proofs.Listed.{key_itself}
use Rattle.template_update.specs.Laws.{KeepsUnits, Follows}
use Rattle.office_specification.specs.ProjectActs.{LanguagePlan, all_some, plan_at, plans}
use Rattle.office_specification.specs.OfficeChanges.{is_planned}
use Rattle.office_specification.proofs.rules.Rebuilt.{equal_places}
use Rattle.office_specification.proofs.rules.TemplateKept.{zipped, has_row}

-- a template's plans are one for each language, in order
one_for_each : (project : Project) (next : List Entry) (langs : List Text) (all : List LanguagePlan) → all_some (map (plan_at project next) langs) ≡ Some all → map (λ p. p.0) all ≡ langs
one_for_each project next [] all e = let none : [] ≡ all = cc in ap (map (λ p. p.0)) (sym none)
one_for_each project next (lang ∷ langs) all e = by (one_for_each project next langs) (plan_of project.template (units_of project lang) next (rule_at project lang)) (all_some (map (plan_at project next) langs)) refl e
  where
    by : ((ps : List LanguagePlan) → all_some (map (plan_at project next) langs) ≡ Some ps → map (λ p. p.0) ps ≡ langs) → (o : Option Plan) (rest : Option (List LanguagePlan)) → all_some (map (plan_at project next) langs) ≡ rest →
        option_and_then (λ p. option_map (λ ps. p ∷ ps) rest) (option_map (λ plan. (lang, plan)) o) ≡ Some all → map (λ p. p.0) all ≡ lang ∷ langs
    by later None rest r e = cc
    by later (Some plan) None r e = cc
    by later (Some plan) (Some ps) r e = let whole : (lang, plan) ∷ ps ≡ all = cc in ap (map (λ p. p.0)) (sym whole) ∙ ap (λ ls. lang ∷ ls) (later ps r)

pub plans_of_all : (project : Project) (next : List Entry) (all : List LanguagePlan) → plans project next ≡ Some all → map (λ p. p.0) all ≡ languages project
plans_of_all project next all e = one_for_each project next (languages project) all e

-- ---- each unit that is there has one in its language's plan

or_true : (b : Bool) → (b || true) ≡ true
or_true true = refl
or_true false = refl

abbrev has_key : Place → Unit → Bool
has_key place unit = eq_by_cmp key_cmp place.1 unit.key

-- the rows of a place's language
abbrev own_rows : Place → List (Place × Unit) → List (Place × Unit)
own_rows place es = filter (λ e. text_eq place.0 e.0.0) es

-- the unit of a place is among those of its language
found_at : (place : Place) (unit : Unit) → unit.key ≡ place.1 → (es : List (Place × Unit)) → maps.find place_cmp place es ≡ Some unit → list_any (has_key place) (map (λ e. e.1) (own_rows place es)) ≡ true
found_at place unit own [] found = cc
found_at place unit own (e ∷ es) found = by (found_at place unit own es) (eq_by_cmp place_cmp place e.0) refl found
  where
    behind : (own : Bool) → list_any (has_key place) (map (λ d. d.1) (own_rows place es)) ≡ true → list_any (has_key place) (map (λ d. d.1) (cond own (e ∷ own_rows place es) (own_rows place es))) ≡ true
    behind true rest = ap (λ b. has_key place e.1 || b) rest ∙ or_true (has_key place e.1)
    behind false rest = rest

    by : (maps.find place_cmp place es ≡ Some unit → list_any (has_key place) (map (λ d. d.1) (own_rows place es)) ≡ true) → (t : Bool) → eq_by_cmp place_cmp place e.0 ≡ t
        → cond t (Some e.1) (maps.find place_cmp place es) ≡ Some unit → list_any (has_key place) (map (λ d. d.1) (cond (text_eq place.0 e.0.0) (e ∷ own_rows place es) (own_rows place es))) ≡ true
    by rest true t is =
        let one : e.1 ≡ unit = cc in
        let its : text_eq place.0 e.0.0 ≡ true = ap (λ (p : Place). text_eq place.0 p.0) (sym (equal_places place e.0 t)) ∙ (bytes_decides place.0 place.0).1 refl in
        let tied : has_key place e.1 ≡ true = ap (eq_by_cmp key_cmp place.1) (ap (λ (u : Unit). u.key) one ∙ own) ∙ key_itself place.1 in
        ap (λ b. list_any (has_key place) (map (λ d. d.1) (cond b (e ∷ own_rows place es) (own_rows place es)))) its ∙ ap (λ b. b || list_any (has_key place) (map (λ d. d.1) (own_rows place es))) tied
    by rest false t is = behind (text_eq place.0 e.0.0) (rest is)

-- a plan keeps the keys of the units that were there
abbrev pub KeepsEach : Type 0
KeepsEach = (present : List Entry) (units : List Unit) (next : List Entry) (rule : Rule) (plan : Plan) → plan_of present units next rule ≡ Some plan → KeepsUnits present units next plan.units plan.stays

keys_stay : (place : Place) (present next : List Entry) (units stayed : List Unit) → AllZip (Follows present next) units stayed → list_any (has_key place) stayed ≡ list_any (has_key place) units
keys_stay place present next [] [] z = refl
keys_stay place present next [] (s ∷ stayed) z = absurd z
keys_stay place present next (u ∷ units) [] z = absurd z
keys_stay place present next (u ∷ units) (s ∷ stayed) z = λ i. eq_by_cmp key_cmp place.1 (z.0.key i) || keys_stay place present next units stayed z.1 i

still_planned : (place : Place) (present : List Entry) (units : List Unit) (next : List Entry) (after : List Unit) (stays : List Bool) → KeepsUnits present units next after stays → list_any (has_key place) units ≡ true
    → list_any (has_key place) after ≡ true
still_planned place present units next after stays keeps there =
    ap (list_any (has_key place)) keeps.whole
    ∙ list_any-append (has_key place) keeps.stayed keeps.came
    ∙ ap (λ b. b || list_any (has_key place) keeps.came) (keys_stay place present next units keeps.stayed keeps.each ∙ there)

pub none_goes : KeepsEach → (project : Project) (next : List Entry) (all : List LanguagePlan) → plans project next ≡ Some all → IsProject project
    → (place : Place) → maps.contains_key project.units place ≡ true → is_planned all place ≡ true
none_goes keeps project next all planned rules place there = by (maps.get project.units place) refl there
  where
    by : (o : Option Unit) → maps.get project.units place ≡ o → is_some o ≡ true → is_planned all place ≡ true
    by None is e = cc
    by (Some unit) is e =
        let placed = rules.placed place unit is in
        let among = found_at place unit placed.0 (maps.entries project.units) (sym (maps.get-entries project.units place) ∙ is) in
        has_row project next place.0 place.1
        (λ lang plan same its. still_planned place project.template (units_of project lang) next plan.units plan.stays (keeps project.template (units_of project lang) next (rule_at project lang) plan its)
        (subst (λ (l : Text). list_any (has_key place) (units_of project l) ≡ true) same among))
        (languages project) all (zipped project next (languages project) all planned) (sym (maps.contains_key-keys project.headers place.0) ∙ placed.1)
