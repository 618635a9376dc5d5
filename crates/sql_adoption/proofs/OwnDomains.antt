-- What the domains of all rows tell of tables by domains: that each is of a domain that there is.
use Rattle.std.proofs.Common.{◌≡◌, ◌⊎◌, inl, inr, ℕ, List, [], ◌∷◌, ◌++◌, ap, ◌∙◌, refl, sym, subst, codes, true, false, Result, Ok, Err, IfErr, arith}
use Rattle.std.specs.Prelude.{IsTrue}
use Rattle.std.specs.List.{list_all}
use Rattle.std.specs.Result.{IsErr, IsErrAnd}
use Rattle.std.specs.Cmp.Lexicographic.{bytes_decides}
use Rattle.std.proofs.lemmas.Bool.{false≢true}
use Rattle.sqlite.specs.Order.{Row}
use Rattle.sqlite.specs.Effect.{Database}
use Rattle.sqlite.specs.State.{State, HasCleanDisk}
use Rattle.sqlite.specs.declared.error.Error.{Error}
use Rattle.sqlite_rules.specs.Lists.{Has}
use Rattle.sqlite_rules.proofs.ListLemmas.{test_has, some_has, some_from}
use Rattle.sql_laws.proofs.RowMaps.{texts_are_one}
use Rattle.po_text.specs.Texts.{text_eq}
use Rattle.tables.specs.declared.faults.Lost.TheVariants as lost
use Rattle.sql_decoding.specs.declared.faults.Failure.{Failure}
use Rattle.sql_streams.specs.declared.walking.WalkFault.{WalkFault}
use Rattle.sql_streams.specs.declared.walking.WalkFault.TheVariants.{NoRows, NoSink}
use Rattle.sql_streams.specs.Walks.{GaveUpTo, CutShort}
use Rattle.sql_schema.specs.Keys.{text_at, first_text, has_text, columns}
use Rattle.sql_schema.specs.Layouts.{NamedRows, rows_named}
use Rattle.sql_schema.specs.Whole.{IsLookUp}
use Rattle.sql_schema.proofs.DomainsSeen.{is_text}
use Rattle.sql_statements.specs.DomainAnswers.{ShowsDomains}
use Rattle.sql_statements.specs.Tables.{ShowsTableIn}
use Rattle.sql_statements.specs.Owners.{owned_name, owned_place, ShowsOwners}
use Rattle.sql_statements.specs.declared.owners.Owned.{Owned}
use Rattle.sql_statements.specs.declared.owners.Owned.TheVariants.{Template, Languages, Units, Suggestions}
use Rattle.sql_meaning.specs.Domains.{is_domain, AreOwned, HoldsOwnDomains}
use Rattle.sql_adoption.specs.declared.faults.OpenFault.{OpenFault}
use Rattle.sql_adoption.specs.declared.faults.OpenFault.TheVariants.{Memory, Disk, Foreign, Exists, Refused}
use Rattle.sql_adoption.specs.declared.faults.Mismatch.TheVariants.{OtherTables, OtherForm, UnreadRow, OtherFigures, BrokenRules}
use Rattle.sql_adoption.specs.OwnedRows.{TakesNamed, AreOwnedAmong, AllOwnedAmong, RefusesUnless, TestsRows}
use Rattle.sql_adoption.specs.Reading.{is_shown_among, unread, IsOfStatement, IsOfWalk}
use Rattle.sql_layouts.proofs.Looked.{looked_in_vain, looked_failed, looked_weaker, both_looked, looked_same}
use Rattle.sql_adoption.proofs.Stand.{is_shown, was_there}

module _ (tables : NamedRows) (domains : List Row) (named : ShowsTableIn (codes "domain") (1 ∷ []) (0 ∷ []) tables domains) where
  -- ---- a name is shown where there is such a domain

  among_told : (row : Row) → is_shown_among domains row ≡ true → IsTrue (is_domain tables (text_at 0 row))
  among_told row e =
      let d = some_has (λ d. text_eq (text_at 0 d) (text_at 0 row)) domains e in
      let was = was_there tables (codes "domain") (1 ∷ []) (0 ∷ []) domains named d.0 d.1 in
      let same : first_text was.0 ≡ text_at 0 row = ap (text_at 0) (sym was.2) ∙ (bytes_decides (text_at 0 d.0) (text_at 0 row)).0 d.2 in
      some_from (has_text 1 (text_at 0 row)) (tables (codes "domain")) was.0 was.1 (is_text 1 (text_at 0 row) was.0 same)

  among_shown : (row : Row) → IsTrue (is_domain tables (text_at 0 row)) → is_shown_among domains row ≡ true
  among_shown row e =
      let r = some_has (has_text 1 (text_at 0 row)) (tables (codes "domain")) e in
      some_from (λ d. text_eq (text_at 0 d) (text_at 0 row)) domains (columns (1 ∷ []) r.0) (is_shown tables (codes "domain") (1 ∷ []) (0 ∷ []) domains named r.0 r.1)
      ((bytes_decides (text_at 1 r.0) (text_at 0 row)).1 (texts_are_one (text_at 1 r.0) (text_at 0 row) r.2))

  -- ---- tables

  module _ (place : ℕ) (name : List ℕ) where
    owned_told : ((row : Row) → Has (tables name) row → is_shown_among domains (columns (place ∷ []) row) ≡ true) → AreOwned place name tables
    owned_told each row there = among_told (columns (place ∷ []) row) (each row there)

    owned_shown : AreOwned place name tables → (row : Row) → Has (tables name) row → is_shown_among domains (columns (place ∷ []) row) ≡ true
    owned_shown owned row there = among_shown (columns (place ∷ []) row) (owned row there)

  own_told : AllOwnedAmong domains tables → HoldsOwnDomains tables
  own_told it = record {
    template = owned_told 1 (codes "d_template") (it Template);
    languages = owned_told 1 (codes "d_language") (it Languages);
    units = owned_told 1 (codes "d_unit") (it Units);
    suggestions = owned_told 2 (codes "d_suggestion") (it Suggestions);
  }

  own_shown : HoldsOwnDomains tables → AllOwnedAmong domains tables
  own_shown it Template = owned_shown 1 (codes "d_template") it.template
  own_shown it Languages = owned_shown 1 (codes "d_language") it.languages
  own_shown it Units = owned_shown 1 (codes "d_unit") it.units
  own_shown it Suggestions = owned_shown 2 (codes "d_suggestion") it.suggestions

-- ---- a walk over one

has_middle : (xs : List Row) (y : Row) (ys : List Row) → Has (xs ++ y ∷ ys) y
has_middle [] y ys = inl refl
has_middle (x ∷ xs) y ys = inr (has_middle xs y ys)

module _ (db : Database) (domains : List Row) (table : Owned) where
  abbrev IsAnswer : List Row → Type 0
  IsAnswer = ShowsOwners (owned_name table) (owned_place table) db

  pub walk_told : (rows : List Row) → IsAnswer rows → list_all (is_shown_among domains) rows ≡ true → AreOwnedAmong domains table (rows_named db)
  walk_told rows shows named row there =
      test_has (is_shown_among domains) rows (columns (owned_place table ∷ []) row) named (is_shown (rows_named db) (owned_name table) (owned_place table ∷ []) (0 ∷ []) rows shows row there)

  module _ {K : Type 0} (of : K → List Row) where
    abbrev Took : K → List Row → K → Type 0
    Took a rows b = TakesNamed (of a) rows (of b)

    abbrev Refuses : K → Row → Failure → K → Type 0
    Refuses a row failure b = (failure.lost ≡ lost.Disk) × (is_shown_among (of a) row ≡ false)

    module _ (first last : K) (from : of first ≡ domains) where
      stray : (refusal : Failure) → GaveUpTo Took Refuses IsAnswer first last refusal → AreOwnedAmong domains table (rows_named db) → ⊥
      stray refusal it owned =
          let was = was_there (rows_named db) (owned_name table) (owned_place table ∷ []) (0 ∷ []) (it.front ++ it.row ∷ it.rest) it.answer it.row (has_middle it.front it.row it.rest) in
          let shown : is_shown_among domains it.row ≡ true = ap (is_shown_among domains) was.2 ∙ owned was.0 was.1 in
          false≢true (sym (subst (λ ds. is_shown_among ds it.row ≡ false) (it.took.same ∙ from) it.refused.1) ∙ shown)

      no_statement : (fault : OpenFault) → (fault ≡ Memory) ⊎ ((fault ≡ Disk) ⊎ (fault ≡ Refused)) → RefusesUnless (AreOwnedAmong domains table (rows_named db)) fault
      no_statement fault (inl is) = subst (RefusesUnless (AreOwnedAmong domains table (rows_named db))) (sym is) tt
      no_statement fault (inr (inl is)) = subst (RefusesUnless (AreOwnedAmong domains table (rows_named db))) (sym is) tt
      no_statement fault (inr (inr is)) = subst (RefusesUnless (AreOwnedAmong domains table (rows_named db))) (sym is) tt

      walk_refuses : (cut : WalkFault Failure) (fault : OpenFault) → IsOfWalk cut fault → CutShort Took Refuses IsAnswer first last cut → RefusesUnless (AreOwnedAmong domains table (rows_named db)) fault
      walk_refuses (NoRows error) fault is it = no_statement fault is.others
      walk_refuses (NoSink refusal) fault is it = subst (RefusesUnless (AreOwnedAmong domains table (rows_named db))) (sym (is ∙ ap unread it.refused.0)) (stray refusal it)

      pub walk_refused : {C A : Type 0} (r : Result A OpenFault) (cut : WalkFault Failure) → IsErrAnd r (IsOfWalk cut) → (C → CutShort Took Refuses IsAnswer first last cut)
          → IfErr r (λ fault. C → RefusesUnless (AreOwnedAmong domains table (rows_named db)) fault)
      walk_refused (Ok x) cut is it = tt
      walk_refused (Err fault) cut is it = λ clean. walk_refuses cut fault is (it clean)

-- ---- tests one after the other

refuses_less : {A B : Type 0} → (B → A) → (fault : OpenFault) → RefusesUnless A fault → RefusesUnless B fault
refuses_less f (Foreign UnreadRow) h = λ b. h (f b)
refuses_less f (Foreign OtherFigures) h = absurd h
refuses_less f (Foreign BrokenRules) h = absurd h
refuses_less f (Foreign OtherForm) h = absurd h
refuses_less f (Foreign OtherTables) h = absurd h
refuses_less f Exists h = absurd h
refuses_less f Memory h = tt
refuses_less f Disk h = tt
refuses_less f Refused h = tt

-- what is refused for one thing is refused for more
pub fails_too : {U V : Type 0} (P Q : Database → Type 0) → ((db : Database) → Q db → P db) → (a b : State) (fault : OpenFault) → TestsRows {U = U} P a b (Err fault) → TestsRows {U = V} Q a b (Err fault)
fails_too P Q less a b fault it = record {
  found = looked_in_vain a b {E = OpenFault} (Err fault) fault (λ db _. P db) (λ db _. Q db) it.found;
  refused = λ clean. refuses_less (less a.now) fault (it.refused clean);
}

pub then_tests : {U V : Type 0} (P Q : Database → Type 0) (a b c : State) (u : U) (r : Result V OpenFault) → TestsRows P a b (Ok u) → TestsRows Q b c r → TestsRows (λ db. P db × Q db) a c r
then_tests {U} {V} P Q a b c u r one two = record {
  found = both_looked a b c u r (λ db _. P db) (λ db _. Q db) one.found two.found;
  refused = by r two;
}
  where
    by : (s : Result V OpenFault) → TestsRows Q b c s → IfErr s (λ fault. HasCleanDisk c → RefusesUnless (P a.now × Q a.now) fault)
    by (Ok v) it = tt
    by (Err fault) it = λ clean.
        let same = looked_same a b c u (Err fault) (λ db _. P db) (λ db _. Q db) one.found it.found clean in
        refuses_less (λ (both : P a.now × Q a.now). both.1) fault (subst (λ db. RefusesUnless (Q db) fault) same (it.refused clean))

pub tests_alike : {U : Type 0} (P Q : Database → Type 0) → ((db : Database) → P db → Q db) → ((db : Database) → Q db → P db) → (a b : State) (r : Result U OpenFault) → TestsRows P a b r → TestsRows Q a b r
tests_alike {U} P Q forth back a b r it = record {
  found = looked_weaker a b r (λ db _. P db) (λ db _. Q db) (λ db u. forth db) it.found;
  refused = by r it.refused;
}
  where
    by : (s : Result U OpenFault) → IfErr s (λ fault. HasCleanDisk b → RefusesUnless (P a.now) fault) → IfErr s (λ fault. HasCleanDisk b → RefusesUnless (Q a.now) fault)
    by (Ok u) h = tt
    by (Err fault) h = λ clean. refuses_less (back a.now) fault (h clean)

-- ---- all tables

module _ (domains : List Row) where
  abbrev pub Among : Owned → Database → Type 0
  Among table db = AreOwnedAmong domains table (rows_named db)

  abbrev pub FirstTwo : Database → Type 0
  FirstTwo db = Among Template db × Among Languages db

  abbrev pub FirstThree : Database → Type 0
  FirstThree db = FirstTwo db × Among Units db

  abbrev pub AllAmong : Database → Type 0
  AllAmong db = AllOwnedAmong domains (rows_named db)

  all_four : (db : Database) → FirstThree db × Among Suggestions db → AllAmong db
  all_four db it Template = it.0.0.0
  all_four db it Languages = it.0.0.1
  all_four db it Units = it.0.1
  all_four db it Suggestions = it.1

  pub all_tested : {U : Type 0} (a b : State) (r : Result U OpenFault) → TestsRows (λ db. FirstThree db × Among Suggestions db) a b r → TestsRows AllAmong a b r
  all_tested a b r = tests_alike (λ db. FirstThree db × Among Suggestions db) AllAmong all_four (λ db all. (((all Template, all Languages), all Units), all Suggestions)) a b r

-- ---- with the domains that there are

module _ {A V : Type 0} (a b c : State) (found : A) (shown : A → List Row) (r : Result V OpenFault) (one : IsLookUp {E = Error} a b (Ok found) (λ db x. ShowsDomains db (shown x))) where
  own_found : TestsRows (AllAmong (shown found)) b c r → IsLookUp a c r (λ db _. HoldsOwnDomains (rows_named db))
  own_found it =
      looked_weaker a c r (λ db _. ShowsDomains db (shown found) × AllAmong (shown found) db) (λ db _. HoldsOwnDomains (rows_named db))
      (λ db v both. own_told (rows_named db) (shown found) both.0 both.1) (both_looked a b c found r (λ db x. ShowsDomains db (shown x)) (λ db _. AllAmong (shown found) db) one it.found)

  pub own_tested : TestsRows (AllAmong (shown found)) b c r → TestsRows (λ db. HoldsOwnDomains (rows_named db)) a c r
  own_tested it = record { found = own_found it; refused = by r it }
    where
      by : (s : Result V OpenFault) → TestsRows (AllAmong (shown found)) b c s → IfErr s (λ fault. HasCleanDisk c → RefusesUnless (HoldsOwnDomains (rows_named a.now)) fault)
      by (Ok v) t = tt
      by (Err fault) t = λ clean.
          let before : HasCleanDisk b = omega (arith, clean, t.found.survives.clean) in
          let same = looked_same a b c found (Err fault) (λ db x. ShowsDomains db (shown x)) (λ db _. AllAmong (shown found) db) one t.found clean in
          refuses_less (own_shown (rows_named a.now) (shown found) (one.answer before)) fault (subst (λ db. RefusesUnless (AllAmong (shown found) db) fault) same (t.refused clean))

-- a statement that fails
pub no_domains : {A E V : Type 0} (a b : State) (r : Result A E) (s : Result V OpenFault) (P : Database → A → Type 0) (error : Error) → IsErr s → IsErrAnd s (IsOfStatement error) → IsLookUp a b r P → TestsRows (λ db. HoldsOwnDomains (rows_named db)) a b s
no_domains {A} {E} {V} a b r s P error err is it = record { found = looked_failed a b r s P (λ db _. HoldsOwnDomains (rows_named db)) err it; refused = by s is }
  where
    by : (t : Result V OpenFault) → IsErrAnd t (IsOfStatement error) → IfErr t (λ fault. HasCleanDisk b → RefusesUnless (HoldsOwnDomains (rows_named a.now)) fault)
    by (Ok v) h = tt
    by (Err fault) h = λ clean. elim h.others [
      | inl is ↦ subst (RefusesUnless (HoldsOwnDomains (rows_named a.now))) (sym is) tt
      | inr (inl is) ↦ subst (RefusesUnless (HoldsOwnDomains (rows_named a.now))) (sym is) tt
      | inr (inr is) ↦ subst (RefusesUnless (HoldsOwnDomains (rows_named a.now))) (sym is) tt
    ]
