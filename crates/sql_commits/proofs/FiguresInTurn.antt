-- Sums and tallies behind writes one after the other: of what an act writes of a unit, of plans' tallies, of a policy, and behind a request's record.
use Rattle.std.specs.Prelude.{⊤}
use Rattle.std.proofs.Common.{◌≡◌, ℕ, ◌+◌, ◌<◌, ℤ, pos, ◌+ℤ◌, List, [], ◌∷◌, ◌++◌, length, take, get_or, Bool, true, false, Option, Some, Result, Ok, Err, codes, refl, sym, ap, subst, ◌∙◌, arith}
use Rattle.std.proofs.lemmas.List.{take_more}
use Rattle.sqlite.specs.declared.types.Value.TheVariants.{Text as Words}
use Rattle.sqlite.specs.Order.{Row, column}
use Rattle.sqlite.specs.Effect.{Database}
use Rattle.sqlite.specs.State.{State, HasCleanDisk}
use Rattle.sqlite_sql.specs.Ops.{fits_i64}
use Rattle.sqlite_rules.specs.Edit.{id_in}
use Rattle.sqlite_rules.specs.Lists.{Has}
use Rattle.po_text.specs.Texts.{Text}
use Rattle.units.specs.Project.{Project}
use Rattle.units.specs.declared.unit.Key.{Key}
use Rattle.units.specs.declared.unit.Policy.{Policy}
use Rattle.units.specs.declared.unit.Suggestion.{Suggestion}
use Rattle.units.specs.declared.unit.UnitView.{UnitView}
use Rattle.units.specs.declared.votes.VoteValue.{VoteValue}
use Rattle.office_specification.specs.UnitAccess.{view_written as with_written}
use Rattle.office_specification.specs.declared.tally.Tally.{Tally}
use Rattle.office_specification.specs.declared.values.UnitWrite.{UnitWrite}
use Rattle.office_specification.specs.declared.values.UnitWrite.TheVariants.{Whole, Row as OwnRow, Suggested, Voted}
use Rattle.office_specification.specs.declared.values.Change.{Change}
use Rattle.office_specification.specs.declared.values.Change.TheVariants.{OneRole, NewPolicy, NewDomain, InDomain}
use Rattle.office_specification.specs.declared.values.DomainChange.{DomainChange}
use Rattle.office_specification.specs.declared.values.DomainChange.TheVariants.{NewLanguage, NewTemplate}
use Rattle.tables.specs.Tallies.{counted, moved}
use Rattle.sql_schema.specs.Inside.{AreOfficeTablesOf, IsSteadyOver, IsInsideOf, IsReadOf, OnRows, PutsRow, HoldsValues}
use Rattle.sql_schema.specs.Keys.{first_text}
use Rattle.sql_schema.specs.Layouts.{by_domain, NamedRows, rows_named, SparesOthers}
use Rattle.sql_schema.proofs.Layouts.{names_differ}
use Rattle.sql_statements.specs.Added.{AddsRow}
use Rattle.sql_statements.specs.DomainAnswers.{ShowsTally}
use Rattle.sql_statements.specs.DomainRenewed.{is_approved_in_domain, UnapprovesDomainUnits, UnapprovesTallies}
use Rattle.sql_meaning.specs.Domains.{is_domain}
use Rattle.sql_meaning.specs.Shown.{shown_tally}
use Rattle.sql_figures.specs.KeptTallies.{Counts}
use Rattle.sql_figures.specs.Figures.{with_tally, with_tallies, moved_at, HaveRoom, FiguresFollowWhere, FiguresFollow, FiguresStay}
use Rattle.sql_figures.proofs.FigureSteps.{nothing_follows, stay_first, stay_last, stay_both, stay_where, follow_both, follow_tally, follow_moved, follow_turned, stay_beside, units_turned, record_beside, policy_beside, record_alone, record_leaves_domain}
use Rattle.sql_commits.specs.Figures.{PutsTally, AddsWithSum, PutsSum, project_at, counted_before, FollowsView, FollowsOwnRow, FollowsSuggestionAt, FollowsOneMore, FollowsVoteAt, FollowsWriteIn, FollowsWrite, FollowsIf, FollowsIn, FollowsDomainChange, turned_unless, FollowsPolicy, FollowsOneChange}

module _ (a b : State) where
  -- a query, with what it answers
  pub write_answered : {A B E F : Type 0} (x : A) (y : B) (IsAnswer : Database → A → Type 0) → IsReadOf {E = E} by_domain a b (Ok x) IsAnswer
      → IsInsideOf {E = F} by_domain a b (Ok y) (λ old new. (new ≡ old) × IsAnswer old x)
  write_answered x y IsAnswer it = record { made = λ clean. (it.same clean, it.answer clean); ready = it.ready; stays = it.stays; kept = it.kept; survives = it.survives }

  -- with what is known of the rows before it
  pub write_known : {A E : Type 0} (x : A) (P : Database → Database → Type 0) (Q : Database → Type 0) → (HasCleanDisk b → Q a.now) → IsInsideOf {E = E} by_domain a b (Ok x) P
      → IsInsideOf {E = E} by_domain a b (Ok x) (λ old new. P old new × Q old)
  write_known x P Q known it = record { made = λ clean. (it.made clean, known clean); ready = it.ready; stays = it.stays; kept = it.kept; survives = it.survives }

  -- two things that a write made, in one
  pub write_joined : {A E : Type 0} (r : Result A E) (P Q R : Database → Database → Type 0) → (P a.now b.now → Q a.now b.now → R a.now b.now)
      → IsInsideOf by_domain a b r P → IsInsideOf by_domain a b r Q → IsInsideOf by_domain a b r R
  write_joined (Ok x) P Q R joined one two = record { made = λ clean. joined (one.made clean) (two.made clean); ready = one.ready; stays = one.stays; kept = one.kept; survives = one.survives }
  write_joined (Err e) P Q R joined one two = record { made = λ clean. tt; ready = λ clean. tt; stays = λ clean. tt; kept = one.kept; survives = one.survives }

  -- what a query answers, told in other words by what the tables are
  pub read_told : {A B E F : Type 0} (x : A) (y : B) (IsAnswer : Database → A → Type 0) (IsTold : Database → B → Type 0) → IsSteadyOver by_domain a
      → (AreOfficeTablesOf by_domain a.now → IsAnswer a.now x → IsTold a.now y) → IsReadOf {E = E} by_domain a b (Ok x) IsAnswer → IsReadOf {E = F} by_domain a b (Ok y) IsTold
  read_told x y IsAnswer IsTold steady tells it = record {
    answer = λ clean. tells (steady.ready (omega (arith, clean, it.survives.clean)) ((it.kept clean).was_open (it.stays clean).is_open)) (it.answer clean);
    same = it.same;
    ready = it.ready;
    stays = it.stays;
    kept = it.kept;
    survives = it.survives;
  }

  -- what a query answers, over tables that obey their schema
  pub read_over : {A E : Type 0} (x : A) (IsAnswer : Database → A → Type 0) → IsSteadyOver by_domain a → IsReadOf {E = E} by_domain a b (Ok x) IsAnswer → HasCleanDisk b → AreOfficeTablesOf by_domain a.now × IsAnswer a.now x
  read_over x IsAnswer steady it clean = (steady.ready (omega (arith, clean, it.survives.clean)) ((it.kept clean).was_open (it.stays clean).is_open), it.answer clean)

-- a table's other rows
pub put_others : {old new : Database} {K : Type 0} {key : Row → K} {IsRow : Row → Type 0} {name : List ℕ} → PutsRow name key IsRow old new → OnRows (SparesOthers name) old new
put_others it = it.others

-- its language's tally is looked up, and put moved
pub moves_row : (given code domain lang : Text) (found : Option Row) (row : Row) (tally after was is : Tally) (old mid new : Database) → given ≡ domain → code ≡ lang → found ≡ Some row → tally ≡ shown_tally row
    → after ≡ moved tally was is → (mid ≡ old) × ShowsTally given code old found → PutsTally domain lang after mid new → FiguresFollow (moved_at domain lang was is) old new
moves_row given code domain lang found row tally after was is old mid new is_given is_lang is_found is_tally is_after seen put =
    follow_moved domain lang row was is (subst (λ (x : Text × Text × Option Row). ShowsTally x.0 x.1 old x.2) (λ i. (is_given i, is_lang i, is_found i)) seen.1)
    (subst (λ (db : Database). PutsTally domain lang (moved (shown_tally row) was is) db new) seen.0
    (subst (λ (t : Tally). PutsTally domain lang t mid new) (is_after ∙ ap (λ (t : Tally). moved t was is) is_tally) put))

-- ---- and what is written behind

-- what stays behind a query
pub same_stays : (old mid new : Database) → mid ≡ old → FiguresStay mid new → FiguresStay old new
same_stays old mid new same stays = subst (λ (db : Database). FiguresStay db new) same stays

-- where nothing is written of a vote
pub vote_nowhere_follows : (domain lang : Text) (key : Key) (number voter : Text) (value : Option VoteValue) (sum : ℤ) (old mid : Database) → mid ≡ old → FollowsVoteAt domain lang key number voter value sum old mid
vote_nowhere_follows domain lang key number voter value sum old mid same there is over = subst (FiguresStay old) (sym same) (nothing_follows old)

module _ (domain lang : Text) (old mid new : Database) (stays : FiguresStay mid new) where
  -- the unit of a view
  pub view_written : (view : UnitView) → FollowsView domain lang view old mid → FollowsView domain lang view old new
  view_written view moved source =
      let project = project_at domain old in
      stay_last (λ counts. ⊤) (moved_at domain lang (counted_before project lang view) (counted project.template view.unit)) (moved source) stays

  -- its row
  pub row_written : (view : UnitView) → FollowsOwnRow domain lang view old mid → FollowsOwnRow domain lang view old new
  row_written view moved key there is own source =
      let project = project_at domain old in
      stay_last (λ counts. ⊤) (moved_at domain lang (counted project.template there.unit) (counted project.template (with_written (OwnRow view) there).unit)) (moved key there is own source) stays

  -- a suggestion more
  pub suggestion_written : (key : Key) (s : Suggestion) → FollowsOneMore domain lang key old mid → FollowsSuggestionAt domain lang key s old new
  suggestion_written key s moved there is =
      let project = project_at domain old in
      stay_last (λ counts. ⊤) (moved_at domain lang (counted project.template there.unit) (counted project.template (with_written (Suggested s) there).unit)) (moved s there is) stays

-- ---- a suggestion that is added, with its sum

pub adds_with_sum : (number : Text) (cells : Row) (sum again : ℤ) (old mid new : Database) → sum ≡ again → AddsRow (codes "d_suggestion") first_text (HoldsValues (Words number ∷ cells)) old mid → PutsSum number sum mid new
    → AddsWithSum number again old new
adds_with_sum number cells sum again old mid new same added summed = (
  mid,
  record {
    puts = record { row = added.puts.row; is_row = ap first_text added.puts.is_row.1; put = added.puts.put; others = added.puts.others; schema = added.puts.schema };
    fresh = added.fresh;
  },
  subst (λ (n : ℤ). PutsSum number n mid new) same summed,
)

-- ---- tallies of languages, one after the other

with_one_more : (domain : Text) (tallies : List (Text × Tally)) (t : Text × Tally) (counts : Counts) → with_tallies domain (tallies ++ t ∷ []) counts ≡ with_tally domain t.0 t.1 (with_tallies domain tallies counts)
with_one_more domain [] t counts = refl
with_one_more domain (first ∷ more) t counts = with_one_more domain more t (with_tally domain first.0 first.1 counts)

pub tallies_next : (domain : Text) (tallies : List (Text × Tally)) (i : ℕ) (t : Text × Tally) (old mid new : Database) → i < length tallies → t ≡ get_or tallies i t → FiguresFollow (with_tallies domain (take i tallies)) old mid
    → PutsTally domain t.0 t.1 mid new → FiguresFollow (with_tallies domain (take (i + 1) tallies)) old new
tallies_next domain tallies i t old mid new within is front put =
    let taken : take (i + 1) tallies ≡ take i tallies ++ t ∷ [] = take_more tallies i t within ∙ ap (λ v. take i tallies ++ v ∷ []) (sym is) in
    subst (λ ts. FiguresFollow (with_tallies domain ts) old new) (sym taken)
    (subst (λ (change : Counts → Counts). FiguresFollow change old new) (λ k counts. sym (with_one_more domain (take i tallies) t counts) k)
    (follow_both (with_tallies domain (take i tallies)) (with_tally domain t.0 t.1) front (follow_tally domain t.0 t.1 put)))

-- ---- a policy

pub policy_stays : (policy : Policy) (old new : Database) → policy.reviews ≡ true → SparesOthers (codes "policy") (rows_named old) (rows_named new) → FollowsPolicy policy old new
policy_stays policy old new reviews others next =
    subst (λ (b : Bool). FiguresFollowWhere HaveRoom (turned_unless b) old new) (sym reviews) (stay_where HaveRoom (stay_beside (codes "policy") policy_beside others))

next_still : (old new : NamedRows) → new (codes "d_unit") ≡ old (codes "d_unit") → ((row : Row) → Has (old (codes "d_unit")) row → is_approved_in_domain row ≡ true → fits_i64 (id_in (column row 8) +ℤ pos 1) ≡ true)
    → (row : Row) → Has (new (codes "d_unit")) row → is_approved_in_domain row ≡ true → fits_i64 (id_in (column row 8) +ℤ pos 1) ≡ true
next_still old new same next = subst (λ (rows : List Row). (row : Row) → Has rows row → is_approved_in_domain row ≡ true → fits_i64 (id_in (column row 8) +ℤ pos 1) ≡ true) (sym same) next

pub policy_turns : (policy : Policy) (old mid between new : Database) → policy.reviews ≡ false → SparesOthers (codes "policy") (rows_named old) (rows_named mid) → UnapprovesDomainUnits mid between → UnapprovesTallies between new
    → FollowsPolicy policy old new
policy_turns policy old mid between new reviews others units tallies next =
    subst (λ (b : Bool). FiguresFollowWhere HaveRoom (turned_unless b) old new) (sym reviews)
    (stay_first HaveRoom (turned_unless false) (stay_both (stay_beside (codes "policy") policy_beside others)
    (units_turned (next_still (rows_named old) (rows_named mid) (others (codes "d_unit") (names_differ refl)) next) units)) (follow_turned tallies))

-- ---- behind a request's record

module _ (old mid new : Database) (others : SparesOthers (codes "record") (rows_named old) (rows_named mid)) where
  stays : FiguresStay old mid
  stays = stay_beside (codes "record") record_beside others

  -- what follows in a domain that is there, and elsewhere nothing
  in_domain : (domain : Text) (Behind All : Database → Database → Type 0) → (Behind mid new → All old new) → FollowsIn domain Behind mid new → FollowsIn domain All old new
  in_domain domain Behind All tells follows =
      by (is_domain (rows_named old) domain) (subst (λ (b : Bool). FollowsIf b Behind mid new) (record_leaves_domain domain (rows_named old) (rows_named mid) others) follows)
    where
      by : (b : Bool) → FollowsIf b Behind mid new → FollowsIf b All old new
      by true it = tells it
      by false it = stay_both stays it

  write_in_behind : (domain : Text) (project : Project) (lang : Text) (key : Key) (write : UnitWrite) → FollowsWriteIn domain project lang key write mid new → FollowsWriteIn domain project lang key write old new
  write_in_behind domain project lang key (Whole view) follows =
      λ source. stay_first (λ counts. ⊤) (moved_at domain lang (counted_before project lang view) (counted project.template view.unit)) stays (follows source)
  write_in_behind domain project lang key (OwnRow view) follows =
      λ there is own source. stay_first (λ counts. ⊤) (moved_at domain lang (counted project.template there.unit) (counted project.template (with_written (OwnRow view) there).unit)) stays (follows there is own source)
  write_in_behind domain project lang key (Suggested s) follows =
      λ there is. stay_first (λ counts. ⊤) (moved_at domain lang (counted project.template there.unit) (counted project.template (with_written (Suggested s) there).unit)) stays (follows there is)
  write_in_behind domain project lang key (Voted number voter value sum) follows = λ there is over. stay_both stays (follows there is over)

  pub write_behind : (domain lang : Text) (key : Key) (write : UnitWrite) → FollowsIn domain (FollowsWrite domain lang key write) mid new → FollowsIn domain (FollowsWrite domain lang key write) old new
  write_behind domain lang key write = in_domain domain (FollowsWrite domain lang key write) (FollowsWrite domain lang key write) (λ follows.
      let project = record_alone domain (rows_named old) (rows_named mid) others in
      let own : FollowsWriteIn domain (project_at domain old) lang key write mid new = subst (λ (p : Project). FollowsWriteIn domain p lang key write mid new) project follows in
      write_in_behind domain (project_at domain old) lang key write own)

  domain_change_behind : (domain : Text) (change : DomainChange) → FollowsDomainChange domain change mid new → FollowsDomainChange domain change old new
  domain_change_behind domain (NewLanguage lang language plan tally) follows = stay_first (λ counts. ⊤) (with_tally domain lang tally) stays follows
  domain_change_behind domain (NewTemplate template plans tallies) follows = stay_first (λ counts. ⊤) (with_tallies domain tallies.items) stays follows

  pub change_behind : (change : Change) → FollowsOneChange change mid new → FollowsOneChange change old new
  change_behind (OneRole name role) follows = stay_both stays follows
  change_behind (NewPolicy policy) follows =
      λ next. stay_first HaveRoom (turned_unless policy.reviews) stays (follows (next_still (rows_named old) (rows_named mid) (others (codes "d_unit") (names_differ refl)) next))
  change_behind (NewDomain domain) follows = stay_both stays follows
  change_behind (InDomain domain change) follows = in_domain domain (FollowsDomainChange domain change) (FollowsDomainChange domain change) (domain_change_behind domain change) follows
