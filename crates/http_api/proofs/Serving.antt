-- A list of messages with their outcomes, and one more.
use Rattle.std.proofs.Common.{◌≡◌, inl, ℕ, List, [], ◌∷◌, ◌++◌, refl, sym, subst, ap, ◌∙◌, append_assoc, append-nil}
use Rattle.units.specs.Office.{Office}
use Rattle.request_book.specs.Book.{OfficeWithBook}
use Rattle.http_messages.specs.Queries.{UnitName}
use Rattle.http_messages.specs.Asked.{LanguageName, Asked}
use Rattle.http_messages.specs.Asked as ask
use Rattle.tables.specs.declared.faults.Lost.{Lost}
use Rattle.office.specs.Exchanges.{Exchange, IsDelivered}
use Rattle.office.proofs.Ran.{stops_nowhere}
use Rattle.office.proofs.Going.{nothing_yet, delivers_on}
use Rattle.http_api.specs.Outcomes.{Outcome, UnitShown, CountsShown, TextExported, IsOutcome, unit_shown, unit_without_language, unit_absent, unit_lost, counts_shown, counts_without_language, counts_lost, text_exported, text_without_language, text_too_long, text_lost}
use Rattle.http_api.specs.Served.{exchange_in, office_behind, AreOutcomes, exchanges_of, HasServed}
use Rattle.http_api.specs.Answering.{Came}

-- ---- what is said of an outcome holds on

module _ (Honest Whole Stopped StillHonest StillWhole StillStopped : Type 0) (honest : StillHonest → Honest) (whole : StillHonest → StillWhole → Whole) (still : Stopped → StillStopped) (office : Office) where
  unit_still : (name : UnitName) (o : Outcome) → UnitShown Honest Whole Stopped office name o → UnitShown StillHonest StillWhole StillStopped office name o
  unit_still name o (unit_shown text is fact) = unit_shown text is (λ h. fact (honest h))
  unit_still name o (unit_without_language is fact) = unit_without_language is (λ h. fact (honest h))
  unit_still name o (unit_absent is fact) = unit_absent is (λ h. fact (honest h))
  unit_still name o (unit_lost lost is disk) = unit_lost lost is (λ e. still (disk e))

  counts_still : (name : LanguageName) (o : Outcome) → CountsShown Honest Whole Stopped office name o → CountsShown StillHonest StillWhole StillStopped office name o
  counts_still name o (counts_shown text is fact) = counts_shown text is (λ h. fact (honest h))
  counts_still name o (counts_without_language is fact) = counts_without_language is (λ h. fact (honest h))
  counts_still name o (counts_lost lost is disk) = counts_lost lost is (λ e. still (disk e))

  text_still : (name : LanguageName) (o : Outcome) → TextExported Honest Whole Stopped office name o → TextExported StillHonest StillWhole StillStopped office name o
  text_still name o (text_exported text is fact within) = text_exported text is (λ h. fact (honest h)) (λ h. within (honest h))
  text_still name o (text_without_language is fact) = text_without_language is (λ h. fact (honest h))
  text_still name o (text_too_long is fact) = text_too_long is (λ h w. fact (honest h) (whole h w))
  text_still name o (text_lost lost is disk) = text_lost lost is (λ e. still (disk e))

  is_still : (a : Asked) (o : Outcome) → IsOutcome Honest Whole Stopped office a o → IsOutcome StillHonest StillWhole StillStopped office a o
  is_still (ask.refused _) o is = is
  is_still (ask.request number callers body) o is = is
  is_still (ask.export name) o is = text_still name o is
  is_still (ask.unit name) o is = unit_still name o is
  is_still ask.unnamed o is = is
  is_still (ask.stats name) o is = counts_still name o is

-- ---- one message more

exchanges-more : (os : List Outcome) (o : Outcome) → exchanges_of (os ++ o ∷ []) ≡ exchanges_of os ++ exchange_in o
exchanges-more [] o = append-nil (exchange_in o)
exchanges-more (x ∷ os) o = ap (λ xs. exchange_in x ++ xs) (exchanges-more os o) ∙ sym (append_assoc (exchange_in x) (exchanges_of os) (exchange_in o))

each_more : (Honest Whole Stopped StillHonest StillWhole StillStopped : Type 0) → (StillHonest → Honest) → (StillHonest → StillWhole → Whole) → (Stopped → StillStopped) → (start : OfficeWithBook) (before : List Exchange) (questions : List Asked) (os : List Outcome) (a : Asked) (o : Outcome)
    → AreOutcomes Honest Whole Stopped start before questions os → IsOutcome StillHonest StillWhole StillStopped (office_behind start (before ++ exchanges_of os)) a o → AreOutcomes StillHonest StillWhole StillStopped start before (questions ++ a ∷ []) (os ++ o ∷ [])
each_more Honest Whole Stopped StillHonest StillWhole StillStopped honest whole still start before [] [] a o each is =
    let P : List Exchange → Type 0 = λ xs. IsOutcome StillHonest StillWhole StillStopped (office_behind start xs) a o in (subst P (append-nil before) is, tt)
each_more Honest Whole Stopped StillHonest StillWhole StillStopped honest whole still start before [] (x ∷ os) a o each is = absurd each
each_more Honest Whole Stopped StillHonest StillWhole StillStopped honest whole still start before (b ∷ questions) [] a o each is = absurd each
each_more Honest Whole Stopped StillHonest StillWhole StillStopped honest whole still start before (b ∷ questions) (x ∷ os) a o each is =
    let P : List Exchange → Type 0 = λ xs. IsOutcome StillHonest StillWhole StillStopped (office_behind start xs) a o in (
      is_still Honest Whole Stopped StillHonest StillWhole StillStopped honest whole still (office_behind start before) b x each.0,
      each_more Honest Whole Stopped StillHonest StillWhole StillStopped honest whole still start (before ++ exchange_in x) questions os a o each.1 (subst P (sym (append_assoc before (exchange_in x) (exchanges_of os))) is),
    )

pub serves : {Runs StillRuns : ℕ → Type 0} {Before MayLeave StillMayLeave : OfficeWithBook → Type 0} {WasWhole : Type 0} (Honest Whole Stopped StillHonest StillWhole StillStopped : Type 0) (start old new : OfficeWithBook) (done : List Asked) (outcomes : List Outcome) (a : Asked) (o : Outcome)
    → (Honest → Whole → WasWhole) → HasServed Honest Whole Stopped WasWhole Before MayLeave start old done outcomes → Came Honest Whole Stopped StillHonest StillWhole StillStopped Runs StillRuns MayLeave StillMayLeave old new a o
    → HasServed StillHonest StillWhole StillStopped WasWhole Before StillMayLeave start new (done ++ a ∷ []) (outcomes ++ o ∷ [])
serves {Before = Before} {StillMayLeave = StillMayLeave} {WasWhole = WasWhole} Honest Whole Stopped StillHonest StillWhole StillStopped start old new done outcomes a o whole served came =
    let P : List Exchange → Type 0 = λ xs. IsDelivered StillHonest StillWhole StillStopped WasWhole Before StillMayLeave start new xs in
    record {
      delivered = subst P (sym (exchanges-more outcomes o)) (delivers_on (exchanges_of outcomes) (exchange_in o) whole served.delivered came.did);
      each = each_more Honest Whole Stopped StillHonest StillWhole StillStopped came.did.honest came.did.whole came.did.stopped start [] done outcomes a o served.each
          (came.is (office_behind start (exchanges_of outcomes)) (λ h w. ap (λ meaning. meaning.office) (served.delivered.delivered.run.left h w)));
    }

pub none_served : (Honest Whole Stopped : Type 0) (MayLeave : OfficeWithBook → Type 0) (start : OfficeWithBook) → HasServed Honest Whole Stopped Whole MayLeave MayLeave start start [] []
none_served Honest Whole Stopped MayLeave start = record {
  delivered = record { delivered = nothing_yet; stops = λ h. stops_nowhere {E = Lost} Whole MayLeave MayLeave start (λ m left. inl left) };
  each = tt;
}

-- what came of a message, said of what it asks in other words
pub asked_so : {Runs StillRuns : ℕ → Type 0} {MayLeave StillMayLeave : OfficeWithBook → Type 0} (Honest Whole Stopped StillHonest StillWhole StillStopped : Type 0) (old new : OfficeWithBook) (a b : Asked) (o : Outcome) → a ≡ b
    → Came Honest Whole Stopped StillHonest StillWhole StillStopped Runs StillRuns MayLeave StillMayLeave old new b o → Came Honest Whole Stopped StillHonest StillWhole StillStopped Runs StillRuns MayLeave StillMayLeave old new a o
asked_so {Runs} {StillRuns} {MayLeave} {StillMayLeave} Honest Whole Stopped StillHonest StillWhole StillStopped old new a b o is came =
    let P : Asked → Type 0 = λ x. Came Honest Whole Stopped StillHonest StillWhole StillStopped Runs StillRuns MayLeave StillMayLeave old new x o in subst P (sym is) came
