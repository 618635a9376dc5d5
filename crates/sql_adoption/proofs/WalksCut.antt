-- What a walk that was cut short says of the rows: by a fault of its query nothing, and by a row that its sink didn't read that this one stands for nothing.
use Rattle.std.proofs.Common.{◌≡◌, ◌≢◌, ◌⊎◌, inl, inr, List, [], ◌∷◌, ◌++◌, map, filter, Bool, true, false, All, Result, Ok, Err, IfErr, refl, sym, subst, ◌∙◌, codes}
use Rattle.std.specs.Prelude.{⊤}
use Rattle.std.specs.List.{list_all}
use Rattle.std.specs.Result.{IsErrAnd}
use Rattle.std.proofs.lemmas.List.Elements.{All-contains}
use Rattle.std.proofs.lemmas.List.Sorted.{IsPermutation-sym}
use Rattle.sqlite.specs.Effect.{Database}
use Rattle.sqlite.specs.Order.{Row}
use Rattle.sqlite_rules.specs.Lists.{Has}
use Rattle.sqlite_rules.proofs.ListLemmas.{contains_had, has_filtered, has_kept}
use Rattle.sql_laws.proofs.RemovedRows.{from_mapped, to_mapped, has_permuted}
use Rattle.plural_expr.specs.Values.{Rule}
use Rattle.po_text.specs.Texts.{Text}
use Rattle.tables.specs.declared.faults.Lost.{Lost}
use Rattle.tables.specs.declared.faults.Lost.TheVariants as lost
use Rattle.sql_decoding.specs.RowTests.{is_suggestion_row, is_unit_row, is_vote_row}
use Rattle.sql_decoding.proofs.RowsTold.{disk_is_other}
use Rattle.sql_decoding.specs.declared.faults.Failure.{Failure}
use Rattle.sql_schema.specs.Keys.{columns}
use Rattle.sql_schema.specs.Layouts.{rows_named}
use Rattle.sql_streams.specs.Walks.{GaveUpTo, CutShort}
use Rattle.sql_streams.specs.declared.walking.WalkFault.{WalkFault}
use Rattle.sql_streams.specs.declared.walking.WalkFault.TheVariants.{NoRows, NoSink}
use Rattle.sql_statements.specs.WalkedRows.{is_suggestion_of, is_unplaced, suggestion_beside, ShowsAllVotes, ShowsSuggestionsOf, ShowsUnitsOf, ShowsUnplaced}
use Rattle.sql_adoption.specs.FramesKept.{RefusesEither}
use Rattle.sql_adoption.specs.LanguagesKept.{SuggestionsAreFormed, SuggestionsStand, UnitsStand}
use Rattle.sql_adoption.specs.OwnedRows.{RefusesUnless}
use Rattle.sql_adoption.specs.Reading.{unread, IsOfWalk}
use Rattle.sql_adoption.specs.SumsKept.{VotesStand}
use Rattle.sql_adoption.specs.TookSuggestions.{TookSuggestions}
use Rattle.sql_adoption.specs.WalkedOffice.{ArePlaced}
use Rattle.sql_adoption.specs.WalkedUnits.{IsKeptSuggestion}
use Rattle.sql_adoption.specs.declared.faults.OpenFault.{OpenFault}
use Rattle.sql_adoption.specs.declared.faults.OpenFault.TheVariants.{Memory, Disk, Foreign, Refused}
use Rattle.sql_adoption.specs.declared.faults.Mismatch.TheVariants.{UnreadRow}
use Rattle.sql_adoption.proofs.DomainByLanguages.{each_placed}
use Rattle.sql_adoption.proofs.Stand.{is_shown, was_there}
use Rattle.sql_adoption.proofs.UnitsTold.{unit_unread}

pub has_middle : (xs : List Row) (y : Row) (ys : List Row) → Has (xs ++ y ∷ ys) y
has_middle [] y ys = inl refl
has_middle (x ∷ xs) y ys = inr (has_middle xs y ys)

-- what holds of two names holds of the same ones
pub two_named : (P : Text → Text → Type 0) (a b domain lang : Text) → a ≡ domain → b ≡ lang → P a b → P domain lang
two_named P a b domain lang e f it = subst (λ (x : Text). P domain x) f (subst (λ (x : Text). P x b) e it)

module _ (Refuses : OpenFault → Type 0) (one : Refuses Memory) (two : Refuses Disk) (three : Refuses Refused) {K : Type 0} (Took : K → List Row → K → Type 0) (GivesUp : K → Row → Failure → K → Type 0) (IsAnswer : List Row → Type 0)
    (first last : K) (each : (failure : Failure) → failure.lost ≡ lost.Disk → GaveUpTo Took GivesUp IsAnswer first last failure → Refuses (Foreign UnreadRow)) where
  by_statement : (fault : OpenFault) → (fault ≡ Memory) ⊎ ((fault ≡ Disk) ⊎ (fault ≡ Refused)) → Refuses fault
  by_statement fault (inl same) = subst Refuses (sym same) one
  by_statement fault (inr (inl same)) = subst Refuses (sym same) two
  by_statement fault (inr (inr same)) = subst Refuses (sym same) three

  cut_so : (cut : WalkFault Failure) (fault : OpenFault) → IsOfWalk cut fault → CutShort Took GivesUp IsAnswer first last cut → Refuses fault
  cut_so (NoRows error) fault is it = by_statement fault is.others
  cut_so (NoSink failure) fault is it = subst Refuses (sym is) (by failure.lost refl)
    where
      by : (l : Lost) → failure.lost ≡ l → Refuses (unread l)
      by lost.Memory e = one
      by lost.Disk e = each failure e it
      by lost.Refused e = three

  pub walk_unread : {C A : Type 0} (r : Result A OpenFault) (cut : WalkFault Failure) → IsErrAnd r (IsOfWalk cut) → (C → CutShort Took GivesUp IsAnswer first last cut) → IfErr r (λ fault. C → Refuses fault)
  walk_unread (Ok x) cut is it = tt
  walk_unread (Err fault) cut is it = λ clean. cut_so cut fault is (it clean)

-- ---- votes

pub votes_told : (db : Database) (rows : List Row) → ShowsAllVotes db rows → All (λ row. is_vote_row row ≡ true) rows → VotesStand db
votes_told db rows shows all vote there =
    All-contains (λ row. is_vote_row row ≡ true) rows (columns (2 ∷ 3 ∷ 1 ∷ []) vote) all
    (contains_had rows (columns (2 ∷ 3 ∷ 1 ∷ []) vote) (is_shown (rows_named db) (codes "d_vote") (2 ∷ 3 ∷ 1 ∷ []) (2 ∷ 0 ∷ []) rows shows vote there))

pub vote_unread : (db : Database) (rows : List Row) → ShowsAllVotes db rows → (row : Row) → Has rows row → is_vote_row row ≡ false → ¬ VotesStand db
vote_unread db rows shows row there not_one stand =
    let v = was_there (rows_named db) (codes "d_vote") (2 ∷ 3 ∷ 1 ∷ []) (2 ∷ 0 ∷ []) rows shows row there in
    let it : is_vote_row (columns (2 ∷ 3 ∷ 1 ∷ []) v.0) ≡ true = stand v.0 v.1 in
    absurd (let no : true ≡ false = sym (subst (λ (x : Row). is_vote_row x ≡ true) (sym v.2) it) ∙ not_one in cc)

-- ---- units without a language

no_rows : (rows : List Row) → list_all (λ row. false) rows ≡ true → rows ≡ []
no_rows [] e = refl
no_rows (row ∷ rows) e = absurd (let no : false ≡ true = e in cc)

some_row : (rows : List Row) → list_all (λ row. false) rows ≡ false → (row : Row) × Has rows row
some_row [] e = absurd (let no : true ≡ false = e in cc)
some_row (row ∷ rows) e = (row, inl refl)

pub placed_told : (db : Database) (rows : List Row) → ShowsUnplaced db rows → list_all (λ row. false) rows ≡ true → ArePlaced db
placed_told db rows shows e = each_placed db rows shows (no_rows rows e)

pub one_unplaced : (db : Database) (rows : List Row) → ShowsUnplaced db rows → list_all (λ row. false) rows ≡ false → ¬ ArePlaced db
one_unplaced db rows shows e placed =
    let lone = filter (is_unplaced (rows_named db)) (rows_named db (codes "d_unit")) in
    let row = some_row rows e in
    let u = from_mapped (columns (1 ∷ 2 ∷ [])) lone row.0 (has_permuted (map (columns (1 ∷ 2 ∷ [])) lone) rows row.0 shows row.1) in
    let listed = has_filtered (is_unplaced (rows_named db)) (rows_named db (codes "d_unit")) u.0 u.1 in
    absurd (let no : false ≡ true = sym (placed u.0 listed.0) ∙ listed.1 in cc)

-- ---- suggestions on a language's units

module _ (db : Database) (domain lang : Text) (rule : Rule) (rows : List Row) (shows : ShowsSuggestionsOf domain lang db rows) where
  abbrev all : List Row
  all = rows_named db (codes "d_suggestion")

  abbrev own : List Row
  own = filter (is_suggestion_of domain lang) all

  abbrev beside : Row → Row
  beside = suggestion_beside (rows_named db)

  shown_of : (s : Row) → Has all s → is_suggestion_of domain lang s ≡ true → Has rows (beside s)
  shown_of s there passes = has_permuted rows (map beside own) (beside s) (IsPermutation-sym (map beside own) rows shows.all) (to_mapped beside own s (has_kept (is_suggestion_of domain lang) all s there passes))

  was_of : (row : Row) → Has rows row → (s : Row) × Has all s × (is_suggestion_of domain lang s ≡ true) × (row ≡ beside s)
  was_of row there =
      let s = from_mapped beside own row (has_permuted (map beside own) rows row shows.all there) in
      let listed = has_filtered (is_suggestion_of domain lang) all s.0 s.1 in
      (s.0, listed.0, listed.1, s.2)

  module _ (before after : Bool) (took : TookSuggestions rule before rows after) where
    pub suggestions_stand : SuggestionsStand db domain lang
    suggestions_stand s there passes = All-contains (λ row. is_suggestion_row row ≡ true) rows (beside s) took.stand (contains_had rows (beside s) (shown_of s there passes))

    pub suggestions_formed : after ≡ true → SuggestionsAreFormed db rule domain lang
    suggestions_formed kept s there passes = All-contains (IsKeptSuggestion rule) rows (beside s) (took.kept kept).1 (contains_had rows (beside s) (shown_of s there passes))

    pub suggestion_broken : after ≡ false → before ≡ true → ¬ SuggestionsAreFormed db rule domain lang
    suggestion_broken broken kept formed =
        let it = took.broken broken kept in
        let s = was_of it.0 it.1 in
        absurd (it.2 (subst (IsKeptSuggestion rule) (sym s.3) (formed s.0 s.1 s.2)))

  pub suggestion_unread : (row : Row) → Has rows row → is_suggestion_row row ≡ false → ¬ SuggestionsStand db domain lang
  suggestion_unread row there not_one stand =
      let s = was_of row there in
      let it : is_suggestion_row (beside s.0) ≡ true = stand s.0 s.1 s.2 in
      absurd (let no : true ≡ false = sym (subst (λ (x : Row). is_suggestion_row x ≡ true) (sym s.3) it) ∙ not_one in cc)

-- ---- walks that were cut short

-- what is true of units that are refused so, of the same names
pub units_cut : {C A K : Type 0} (db : Database) (domain lang a b : Text) → a ≡ domain → b ≡ lang → (Took : K → List Row → K → Type 0) (first last : K) (r : Result A OpenFault) (cut : WalkFault Failure) → IsErrAnd r (IsOfWalk cut)
    → (C → CutShort Took (λ (x : K) row failure (y : K). failure.lost ≢ lost.Memory → is_unit_row row ≡ false) (ShowsUnitsOf a b db) first last cut) → IfErr r (λ fault. C → RefusesUnless (UnitsStand db domain lang) fault)
units_cut {C} {A} {K} db domain lang a b e f Took first last r cut is handed =
    let Refuses : K → Row → Failure → K → Type 0 = λ x row failure y. failure.lost ≢ lost.Memory → is_unit_row row ≡ false in
    walk_unread (RefusesUnless (UnitsStand db domain lang)) tt tt tt Took Refuses (ShowsUnitsOf domain lang db) first last
    (λ failure disk it. unit_unread db domain lang (it.front ++ it.row ∷ it.rest) it.answer it.row (has_middle it.front it.row it.rest) (it.refused (disk_is_other failure.lost disk))) r cut is
    (λ clean. two_named (λ x y. CutShort Took Refuses (ShowsUnitsOf x y db) first last cut) a b domain lang e f (handed clean))

pub suggestions_cut : {C A K : Type 0} (db : Database) (domain lang a b : Text) (rule : Rule) → a ≡ domain → b ≡ lang → (Took : K → List Row → K → Type 0) (first last : K) (r : Result A OpenFault) (cut : WalkFault Failure) → IsErrAnd r (IsOfWalk cut)
    → (C → CutShort Took (λ (x : K) row failure (y : K). failure.lost ≢ lost.Memory → is_suggestion_row row ≡ false) (ShowsSuggestionsOf a b db) first last cut)
    → IfErr r (λ fault. C → RefusesEither (SuggestionsStand db domain lang) (SuggestionsAreFormed db rule domain lang) fault)
suggestions_cut {C} {A} {K} db domain lang a b rule e f Took first last r cut is handed =
    let Refuses : K → Row → Failure → K → Type 0 = λ x row failure y. failure.lost ≢ lost.Memory → is_suggestion_row row ≡ false in
    walk_unread (RefusesEither (SuggestionsStand db domain lang) (SuggestionsAreFormed db rule domain lang)) tt tt tt Took Refuses (ShowsSuggestionsOf domain lang db) first last
    (λ failure disk it. suggestion_unread db domain lang rule (it.front ++ it.row ∷ it.rest) it.answer it.row (has_middle it.front it.row it.rest) (it.refused (disk_is_other failure.lost disk))) r cut is
    (λ clean. two_named (λ x y. CutShort Took Refuses (ShowsSuggestionsOf x y db) first last cut) a b domain lang e f (handed clean))

pub votes_cut : {C A K : Type 0} (db : Database) (Took : K → List Row → K → Type 0) (first last : K) (r : Result A OpenFault) (cut : WalkFault Failure) → IsErrAnd r (IsOfWalk cut)
    → (C → CutShort Took (λ (x : K) row failure (y : K). failure.lost ≢ lost.Memory → is_vote_row row ≡ false) (ShowsAllVotes db) first last cut) → IfErr r (λ fault. C → RefusesUnless (VotesStand db) fault)
votes_cut {C} {A} {K} db Took first last r cut is handed =
    let Refuses : K → Row → Failure → K → Type 0 = λ x row failure y. failure.lost ≢ lost.Memory → is_vote_row row ≡ false in
    walk_unread (RefusesUnless (VotesStand db)) tt tt tt Took Refuses (ShowsAllVotes db) first last
    (λ failure disk it. vote_unread db (it.front ++ it.row ∷ it.rest) it.answer it.row (has_middle it.front it.row it.rest) (it.refused (disk_is_other failure.lost disk))) r cut is handed

-- no row is refused
pub unplaced_cut : {C A K : Type 0} (db : Database) (Took : K → List Row → K → Type 0) (first last : K) (r : Result A OpenFault) (cut : WalkFault Failure) → IsErrAnd r (IsOfWalk cut)
    → (C → CutShort Took (λ (x : K) row (failure : Failure) (y : K). ⊥) (ShowsUnplaced db) first last cut) → IfErr r (λ fault. C → RefusesEither ⊤ (ArePlaced db) fault)
unplaced_cut {C} {A} {K} db Took first last r cut is handed =
    let Refuses : K → Row → Failure → K → Type 0 = λ x row failure y. ⊥ in
    walk_unread (RefusesEither ⊤ (ArePlaced db)) tt tt tt Took Refuses (ShowsUnplaced db) first last (λ failure disk it. absurd it.refused) r cut is handed
