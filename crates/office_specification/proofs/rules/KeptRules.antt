-- The rules of an office and its book are kept by each request.
use Rattle.std.proofs.Common.{◌≡◌, List, [], ◌∷◌, Bool, true, false, cond, not, Option, Some, None, refl, sym, ◌∙◌, ap, subst, map, All}
use Rattle.std.specs.Prelude.{IsSome, nat_lt, nat_le, sum_by}
use Rattle.std.specs.Option.{option_map_or}
use Rattle.std.specs.List.{list_any, AllByRecursion, IsDistinct}
use Rattle.std.specs.Ordering.{is_eq, eq_by_cmp}
use Rattle.std.specs.Cmp.{tied_itself}
use Rattle.std.specs.Cmp.Lexicographic.{same_text}
use Rattle.std.proofs.lemmas.Bool.{ltb-false, leb-false}
use Rattle.std.proofs.lemmas.List.Elements.{All-nil, All-cons, All-map, recursion_from_All}
use Rattle.std.specs.FinMap as maps
use Rattle.po_text.specs.Texts.{Text, text_cmp, text_eq}
use Rattle.units.specs.Limits.{domain_limit, team_limit, is_accept_at}
use Rattle.units.specs.Units.{is_below}
use Rattle.units.specs.Project.{Project, Place, place_cmp, role_in}
use Rattle.units.specs.Office.{Office, main, project_in, domain_of}
use Rattle.units.specs.Offices.{IsOffice}
use Rattle.units.specs.Changes.{set_role, office_under, with_team, with_domain}
use Rattle.units.specs.declared.unit.Unit.{Unit}
use Rattle.units.specs.declared.unit.Suggestion.{Suggestion}
use Rattle.units.specs.declared.unit.Policy.{Policy}
use Rattle.units.specs.declared.unit.Role.{Role}
use Rattle.units.specs.declared.unit.Role.TheVariants.{Manager}
use Rattle.units.specs.declared.unit.Refusal.TheVariants.{BelowRole, PastLimit, LastManager, DomainExists, NoDomain}
use Rattle.units.specs.Orders.{text_total, place_total}
use Rattle.request_book.specs.declared.act.Act.{Act}
use Rattle.request_book.specs.declared.act.Act.TheVariants.{OnUnit, SetTemplate, AddLanguage, SetRole, SetPolicy, AddDomain}
use Rattle.request_book.specs.declared.act.Request.{Request}
use Rattle.request_book.specs.Acts.{IsAct, IsRequest}
use Rattle.request_book.specs.Book.{Book, OfficeWithBook, Recorded, recorded_as}
use Rattle.replies.specs.Bodies.{Stepped, refuse, reply, team_fields, policy_fields, domain_fields}
use Rattle.office_specification.specs.ProjectActs.{unit_act_step, template_step, language_step}
use Rattle.office_specification.specs.OfficeActs.{managed, team_step, policy_step, domain_step, passes, turned}
use Rattle.office_specification.specs.Step.{step, act_step, in_domain, in_known_domain}
use Rattle.office_specification.specs.Deliveries.{left_by, first_delivered}
use Rattle.office_specification.specs.OfficeRules.{KeepsRules, numbers_in, all_numbers}
use Rattle.office_specification.proofs.acts.Ends.{IsStatus, Ends, ends_with}
use Rattle.office_specification.proofs.acts.ProjectEnds.{Shares, unit_act_ends, template_ends, language_ends}
use Rattle.office_specification.proofs.acts.OfficeEnds.{step_status}
use Rattle.office_specification.proofs.commuting.Told.{fresh_number}
use Rattle.office_specification.proofs.domains.InDomains.{nothing_put}
use Rattle.office_specification.proofs.retries.Once.{is_known, left_by-last, stepped}
use Rattle.office_specification.proofs.rules.DomainNumbers.{NumbersMove, go_moves, numbers_stay, numbers_there, one_moves}
use Rattle.office_specification.proofs.rules.DomainsKept.{put_kept, any_project, domain_kept, domain_numbers, office_team_kept, office_policy_kept, policy_numbers}
use Rattle.office_specification.proofs.rules.Numbering.{all_at, all_from, own_from}
use Rattle.office_specification.proofs.rules.ProjectMoves.{ProjectMoves, unit_act_keeps, template_keeps, language_keeps}
use Rattle.office_specification.proofs.rules.TeamKept.{Team, IsTeam, still_members}
use Rattle.office_specification.proofs.rules.UnitRules.{numbers_of}

-- ---- what an act of a number leaves of an office

record OfficeMoves (number : Text) (office new : Office) : Type 1 where
  rules : IsOffice new
  numbers : NumbersMove number (all_numbers office) (all_numbers new)

as_it_was : (number : Text) (office : Office) → IsOffice office → OfficeMoves number office office
as_it_was number office rules = record { rules = rules; numbers = go_moves number _ _ (numbers_stay (all_numbers office)) }

managed_moves : (office : Office) (caller number : Text) (after : Stepped Office) → IsOffice office → OfficeMoves number office after.0 → OfficeMoves number office (managed office caller after).0
managed_moves office caller number after rules moves = by (is_below (role_in office.team caller) Manager)
  where
    by : (below : Bool) → OfficeMoves number office (cond below (refuse office BelowRole) after).0
    by true = as_it_was number office rules
    by false = moves

-- the numbers of one domain differ
own_distinct : (office : Office) (domain : Text) → IsDistinct text_eq (all_numbers office) → IsDistinct text_eq (numbers_in (domain_of (project_in office domain)))
own_distinct office domain distinct = subst (IsDistinct text_eq) (numbers_there office domain) ((own_from text_cmp text_total numbers_in office.domains distinct).each domain)

in_domain_moves : (office : Office) (domain number : Text) (next : Project → Stepped Project) → IsOffice office → Ends (Shares (project_in office domain)) (project_in office domain) (next (project_in office domain)) →
    ProjectMoves number (project_in office domain) (next (project_in office domain)).0 → OfficeMoves number office (in_domain office domain next).0
in_domain_moves office domain number next rules ends moves = by (maps.contains_key office.domains domain) refl
  where
    by : (there : Bool) → maps.contains_key office.domains domain ≡ there → OfficeMoves number office (in_domain office domain next).0
    by true e = record {
      rules = put_kept office domain (next (project_in office domain)).0 rules e moves.rules (ends_with (Shares (project_in office domain)) (project_in office domain) (next (project_in office domain)) (refl, refl) ends);
      numbers = one_moves office domain number (next (project_in office domain)).0 e moves.numbers;
    }
    by false e = subst (OfficeMoves number office) (sym (nothing_put office domain (next (project_in office domain)).0 e)) (as_it_was number office rules)

in_known_moves : (office : Office) (domain number : Text) (next : Project → Stepped Project) → IsOffice office → Ends (Shares (project_in office domain)) (project_in office domain) (next (project_in office domain)) →
    ProjectMoves number (project_in office domain) (next (project_in office domain)).0 → OfficeMoves number office (in_known_domain office domain next).0
in_known_moves office domain number next rules ends moves = by (maps.contains_key office.domains domain)
  where
    by : (there : Bool) → OfficeMoves number office (cond (not there) (refuse office NoDomain) (in_domain office domain next)).0
    by false = as_it_was number office rules
    by true = in_domain_moves office domain number next rules ends moves

team_moves : (office : Office) (number name : Text) (role : Role) → IsOffice office → OfficeMoves number office (team_step office name role).0
team_moves office number name role rules = by (set_role name role office.team) (still_members name role office.team (any_project office rules main).members)
  where
    by_tests : (team : Team) → IsTeam team → (past managed : Bool) → nat_lt team_limit (maps.len team) ≡ past → list_any (λ r. not (is_below r Manager)) (maps.values team) ≡ managed →
        OfficeMoves number office (cond past (refuse office PastLimit) (cond (not managed) (refuse office LastManager) (with_team office team, reply 200 (team_fields name role)))).0
    by_tests team members true managed p m = as_it_was number office rules
    by_tests team members false false p m = as_it_was number office rules
    by_tests team members false true p m = record { rules = office_team_kept office team rules members m (ltb-false _ _ p); numbers = go_moves number _ _ (numbers_stay (all_numbers office)) }

    by : (team : Team) → IsTeam team →
        OfficeMoves number office (cond (nat_lt team_limit (maps.len team)) (refuse office PastLimit)
        (cond (not (list_any (λ r. not (is_below r Manager)) (maps.values team))) (refuse office LastManager) (with_team office team, reply 200 (team_fields name role)))).0
    by team members = by_tests team members (nat_lt team_limit (maps.len team)) (list_any (λ r. not (is_below r Manager)) (maps.values team)) refl refl

policy_moves : (office : Office) (number : Text) (policy : Policy) → IsOffice office → is_accept_at policy.accept_at ≡ true → OfficeMoves number office (policy_step office policy).0
policy_moves office number policy rules accepting = by (list_any (passes policy) (maps.values office.domains)) refl
  where
    by : (past : Bool) → list_any (passes policy) (maps.values office.domains) ≡ past →
        OfficeMoves number office (cond past (refuse office PastLimit) (office_under office policy, reply 200 (policy_fields (sum_by (turned policy) (maps.values office.domains))))).0
    by true p = as_it_was number office rules
    by false p = record { rules = office_policy_kept office policy rules accepting p; numbers = go_moves number _ _ (policy_numbers office policy) }

domain_moves : (office : Office) (number domain : Text) → IsOffice office → OfficeMoves number office (domain_step office domain).0
domain_moves office number domain rules = by (maps.contains_key office.domains domain) refl (nat_le domain_limit (maps.len office.domains)) refl
  where
    by : (there : Bool) → maps.contains_key office.domains domain ≡ there → (full : Bool) → nat_le domain_limit (maps.len office.domains) ≡ full →
        OfficeMoves number office (cond there (refuse office DomainExists) (cond full (refuse office PastLimit) (with_domain office domain, reply 200 (domain_fields domain)))).0
    by true t full f = as_it_was number office rules
    by false t true f = as_it_was number office rules
    by false t false f = record { rules = domain_kept office domain rules t (leb-false _ _ f); numbers = go_moves number _ _ (domain_numbers office domain t) }

step_moves : (office : Office) (x : Request) → IsOffice office → IsDistinct text_eq (all_numbers office) → IsRequest x → OfficeMoves x.number office (step office x).0
unfolding act_step
step_moves office x rules distinct given = by_act x.act given.2
  where
    by_act : (act : Act) → IsAct act → OfficeMoves x.number office (act_step office x.caller x.number act).0
    by_act (OnUnit domain lang key act) is =
        let project : Project = project_in office domain in
        in_domain_moves office domain x.number (λ p. unit_act_step p x.caller x.number (lang, key) act) rules (unit_act_ends project x.caller x.number (lang, key) act)
        (unit_act_keeps project x.caller x.number (lang, key) act (any_project office rules domain) (own_distinct office domain distinct) is.6)
    by_act (SetTemplate domain po) is =
        let project : Project = project_in office domain in
        managed_moves office x.caller x.number _ rules
        (in_known_moves office domain x.number (λ p. template_step p po) rules (template_ends project po) (template_keeps project x.number po (any_project office rules domain)))
    by_act (AddLanguage domain lang po) is =
        let project : Project = project_in office domain in
        managed_moves office x.caller x.number _ rules
        (in_known_moves office domain x.number (λ p. language_step p lang po) rules (language_ends project lang po) (language_keeps project x.number lang po (any_project office rules domain)))
    by_act (SetRole name role) is = managed_moves office x.caller x.number (team_step office name role) rules (team_moves office x.number name role rules)
    by_act (SetPolicy policy) is = managed_moves office x.caller x.number (policy_step office policy) rules (policy_moves office x.number policy rules is)
    by_act (AddDomain domain) is = managed_moves office x.caller x.number (domain_step office domain) rules (domain_moves office x.number domain rules)

-- ---- with its book

-- what a new record leaves there
still_there : (book : Book) (n : Text) (r : Recorded) (q : Text) → IsSome (maps.get book q) → IsSome (maps.get (maps.insert book n r) q)
still_there book n r q h = rw (maps.get-insert text_total book n r q) (by_test (eq_by_cmp text_cmp q n))
  where
    by_test : (c : Bool) → IsSome (cond c (Some r) (maps.get book q))
    by_test true = refl
    by_test false = h

abbrev AreRecorded : Book → List Text → Type 0
AreRecorded book numbers = AllByRecursion (λ n. IsSome (maps.get book n)) numbers

all_still_there : (book : Book) (n : Text) (r : Recorded) (numbers : List Text) → AreRecorded book numbers → AreRecorded (maps.insert book n r) numbers
all_still_there book n r [] h = tt
all_still_there book n r (m ∷ numbers) h = (still_there book n r m h.0, all_still_there book n r numbers h.1)

-- between a rule on suggestions and that on their numbers
numbers_recorded : (book : Book) (ss : List Suggestion) → All (λ s. IsSome (maps.get book s.number)) ss → AreRecorded book (map (λ s. s.number) ss)
numbers_recorded book ss h = recursion_from_All (λ n. IsSome (maps.get book n)) (map (λ s. s.number) ss) (All-map (λ n. IsSome (maps.get book n)) (λ (s : Suggestion). s.number) ss h)

suggestions_recorded : (book : Book) (ss : List Suggestion) → AreRecorded book (map (λ s. s.number) ss) → All (λ s. IsSome (maps.get book s.number)) ss
suggestions_recorded book [] h = All-nil _
suggestions_recorded book (s ∷ ss) h = All-cons (λ t. IsSome (maps.get book t.number)) s ss h.0 (suggestions_recorded book ss h.1)

-- between the rule on the suggestions of each unit and that on all numbers
all_recorded : (office : Office) (book : Book) →
    ((domain : Text) (place : Place) (unit : Unit) → maps.get (project_in office domain).units place ≡ Some unit → All (λ s. IsSome (maps.get book s.number)) unit.suggestions) →
    AreRecorded book (all_numbers office)
all_recorded office book h =
    all_from text_cmp text_total numbers_in (λ n. IsSome (maps.get book n)) office.domains
    (λ domain. subst (AreRecorded book) (sym (numbers_there office domain))
    (all_from place_cmp place_total numbers_of (λ n. IsSome (maps.get book n)) (project_in office domain).units
    (λ place. by domain place (maps.get (project_in office domain).units place) refl)))
  where
    by : (domain : Text) (place : Place) (o : Option Unit) → maps.get (project_in office domain).units place ≡ o → AreRecorded book (option_map_or numbers_of o [])
    by domain place None e = tt
    by domain place (Some unit) e = numbers_recorded book unit.suggestions (h domain place unit e)

each_recorded : (office : Office) (book : Book) → AreRecorded book (all_numbers office) → (domain : Text) (place : Place) (unit : Unit) → maps.get (project_in office domain).units place ≡ Some unit →
    All (λ s. IsSome (maps.get book s.number)) unit.suggestions
each_recorded office book all domain place unit there =
    let own : AreRecorded book (numbers_in (domain_of (project_in office domain))) =
    subst (AreRecorded book) (numbers_there office domain) (all_at text_cmp text_total numbers_in (λ n. IsSome (maps.get book n)) office.domains all domain) in
    suggestions_recorded book unit.suggestions
    (subst (λ (o : Option Unit). AreRecorded book (option_map_or numbers_of o [])) there (all_at place_cmp place_total numbers_of (λ n. IsSome (maps.get book n)) (project_in office domain).units own place))

-- a number that isn't recorded is none of theirs
not_theirs : (book : Book) (number : Text) (numbers : List Text) → maps.get book number ≡ None → AreRecorded book numbers → AllByRecursion (λ n. text_eq number n ≡ false) numbers
not_theirs book number [] new h = tt
not_theirs book number (n ∷ numbers) new h = (by_test (text_eq number n) refl, not_theirs book number numbers new h.1)
  where
    by_test : (c : Bool) → text_eq number n ≡ c → text_eq number n ≡ false
    by_test true t =
        let none : maps.get book n ≡ None = ap (maps.get book) (sym (same_text number n (sym t))) ∙ new in
        let wrong : IsSome {T = Recorded} None = subst IsSome none h.0 in
        cc
    by_test false t = t

-- a new request's step and record
one_more : (m : OfficeWithBook) (x : Request) → IsRequest x → maps.get m.book x.number ≡ None → KeepsRules m → KeepsRules (stepped m x)
one_more m x given fresh start =
    let next = (step m.office x).0 in
    let r : Recorded = recorded_as x (step m.office x).1 in
    let moves = step_moves m.office x start.office start.own_numbers given in
    let book : Book = maps.insert m.book x.number r in
    let own : IsSome (maps.get book x.number) = rw (maps.get-insert text_total m.book x.number r x.number, ap is_eq (tied_itself text_total x.number)) refl in
    let recorded : AreRecorded m.book (all_numbers m.office) = all_recorded m.office m.book start.recorded in
    record {
      office = moves.rules;
      recorded = each_recorded next book (moves.numbers.all (λ n. IsSome (maps.get book n)) own (all_still_there m.book x.number r (all_numbers m.office) recorded));
      own_numbers = moves.numbers.distinct (not_theirs m.book x.number (all_numbers m.office) fresh recorded) start.own_numbers;
      statuses = λ number recorded e. by_test number recorded r (step_status m.office x) (eq_by_cmp text_cmp number x.number) (sym (maps.get-insert text_total m.book x.number r number) ∙ e);
    }
  where
    by_test : (number : Text) (recorded r : Recorded) → IsStatus r.reply.status → (c : Bool) → cond c (Some r) (maps.get m.book number) ≡ Some recorded → IsStatus recorded.reply.status
    by_test number recorded r status true e =
        let same : r ≡ recorded = cc in
        subst (λ (s : Recorded). IsStatus s.reply.status) same status
    by_test number recorded r status false e = start.statuses number recorded e

-- what the delivery of one request leaves keeps the rules
pub kept_rules : (m : OfficeWithBook) (x : Request) → IsRequest x → KeepsRules m → KeepsRules (left_by m (x ∷ []))
kept_rules m x given start = by_known (is_known m.book [] x) refl
  where
    by_known : (c : Bool) → is_known m.book [] x ≡ c → KeepsRules (left_by m (x ∷ []))
    by_known true e = subst KeepsRules (sym (left_by-last m [] x true e)) start
    by_known false e = subst KeepsRules (sym (left_by-last m [] x false e)) (one_more m x given (fresh_number m [] x e) start)

-- what the first delivery of a new number leaves
pub first_keeps : (m : OfficeWithBook) (x : Request) → IsRequest x → maps.get m.book x.number ≡ None → KeepsRules m → KeepsRules (first_delivered m x).0
first_keeps m x given fresh start = one_more m x given fresh start
