-- One step of a connection, from what was read and what was answered.
use Rattle.std.proofs.Common.{◌≡◌, ◌+◌, List, [], ℕ, Bool, true, false, Option, Result, Ok, Err, MatchResult, inl, refl, sym, subst}
use Rattle.std.specs.Prelude.{◌||◌, IfOk, OnOk, IsErrAnd, drop}
use Rattle.request_book.specs.Book.{OfficeWithBook}
use Rattle.office.specs.Writers.{Writer, TakesAll}
use Rattle.http_messages.specs.declared.refusal.Refusal.{Refusal}
use Rattle.http_api.specs.Answers.{refusal_text}
use Rattle.http_messages.specs.Asked.{Asked, Asking, ending}
use Rattle.http_messages.specs.Asked as ask
use Rattle.http_messages.specs.Arrivals.{ReadBehind, WasCutOff, WasWanted, RefusedNow, asking_in, Arrives}
use Rattle.http_messages.specs.Arrivals as arrivals
use Rattle.http_messages.specs.declared.inbox.ReadFault.{ReadFault}
use Rattle.http_messages.specs.declared.inbox.Arrival.{Arrival}
use Rattle.http_messages.specs.declared.inbox.Arrival.TheVariants as arrival
use Rattle.http_messages.specs.declared.inbox.Lengths.{Lengths}
use Rattle.http_api.specs.declared.connection.Next.{Next}
use Rattle.http_api.specs.declared.connection.Next.TheVariants.{Last}
use Rattle.http_api.specs.declared.faults.ServeFault.{ServeFault}
use Rattle.http_api.specs.Faults.{fault_of}
use Rattle.http_api.specs.Outcomes.{Outcome, failed, outcome_answer}
use Rattle.http_api.specs.Answering.{Came, Tells, Writes, WroteBeginning}
use Rattle.http_api.specs.ConnectionSteps.{next_of, IsFirst, whatever_follows, at_the_end, TookOne, Ended, Stepped, SteppedOff, unread, broke_off}
use Rattle.http_api.proofs.Coming.{told}
use Rattle.http_api.proofs.Exporting.{tells_writes}

-- the stream has ended
pub nothing_left : {Same : Type 0} (l0 l1 : Option (List ℕ)) (f0 f1 : ℕ) (old now : List ℕ) (what : Arrival) → what ≡ arrival.End → ReadBehind l0 l1 f0 f1 old now → Arrives l1 now what → Same → Ended Same l0 l1 f0 f1 old
nothing_left l0 l1 f0 f1 old now what is read came same =
    let end = subst (Arrives l1 now) is came in
    record { read = subst (ReadBehind l0 l1 f0 f1 old) end.0 read; end = end.1; same = same }

-- nothing was read to be answered
pub read_off : {T : Type 0} (Q : T → Type 0) (Same : Type 0) (Did : Asked → Outcome → Type 0) (WroteAt : ServeFault → Outcome → Bool → Type 0) (l0 l1 : Option (List ℕ)) (f0 f1 : ℕ) (old : List ℕ) (full : Bool)
    (r : Result T ServeFault) (cause : ReadFault) → IsErrAnd r (λ x. x ≡ fault_of cause) → Same → WasCutOff l0 l1 f0 f1 cause → MatchResult r Q (λ f. SteppedOff Same Did (WroteAt f) l0 l1 f0 f1 old full f)
read_off Q Same Did WroteAt l0 l1 f0 f1 old full (Ok x) cause is same off = absurd is
read_off Q Same Did WroteAt l0 l1 f0 f1 old full (Err x) cause is same off = unread cause is same off

-- ---- a message that came to its outcome

-- what came of a step that answered a message
stepped : (Same : Type 0) {Did : Asked → Outcome → Type 0} {Wrote : Outcome → Bool → Type 0} {l0 l1 : Option (List ℕ)} {f0 f1 : ℕ} {old now : List ℕ} {full : Bool} (next : Next)
    (one : TookOne Did Wrote l0 l1 f0 f1 old full) → next ≡ next_of (one.asking.ends || full) → now ≡ one.behind → Stepped Same Did Wrote l0 l1 f0 f1 old now full next
stepped Same {Did = Did} {Wrote = Wrote} {l0 = l0} {l1 = l1} {f0 = f0} {f1 = f1} {old = old} {now = now} {full = full} next one is behind =
    subst (Stepped Same Did Wrote l0 l1 f0 f1 old now full) (sym is) (by (one.asking.ends || full) refl)
  where
    by : (last : Bool) → (one.asking.ends || full) ≡ last → Stepped Same Did Wrote l0 l1 f0 f1 old now full (next_of last)
    by true e = (one, e)
    by false e = (one, e, behind)

pub message_step : (Same : Type 0) (Did : Asked → Outcome → Type 0) (Honest Stopped : Type 0) (l0 l1 : Option (List ℕ)) (f0 f1 : ℕ) (old at_hand now : List ℕ) (full : Bool) (w0 w1 : Writer) (what : Arrival) (lengths : Lengths) (r : Result Next ServeFault)
    → what ≡ arrival.Message lengths → ReadBehind l0 l1 f0 f1 old at_hand → WasWanted old at_hand → Arrives l1 at_hand what
    → (o : Outcome) → Did (asking_in at_hand lengths.head lengths.body).asked o → Writes Honest Stopped w0 w1 o ((asking_in at_hand lengths.head lengths.body).ends || full) r
    → IfOk r (λ next. next ≡ next_of ((asking_in at_hand lengths.head lengths.body).ends || full)) → OnOk r (now ≡ drop (lengths.head + lengths.body) at_hand)
    → MatchResult r (Stepped Same Did (λ o last. Honest → TakesAll w0 w1 (outcome_answer o last)) l0 l1 f0 f1 old now full)
    (λ f. SteppedOff Same Did (λ o last. Honest → WroteBeginning Stopped w0 w1 o last f) l0 l1 f0 f1 old full f)
message_step Same Did Honest Stopped l0 l1 f0 f1 old at_hand now full w0 w1 what lengths (Ok x) is read wanted came o did wrote next behind = let arrives = subst (Arrives l1 at_hand) is came in stepped Same x
    (record {
      at_hand = at_hand;
      read = read;
      wanted = wanted;
      some = arrives.0;
      asking = asking_in at_hand lengths.head lengths.body;
      behind = drop (lengths.head + lengths.body) at_hand;
      first = whatever_follows arrives.2;
      outcome = o;
      came = did;
      wrote = wrote;
    })
    next behind
message_step Same Did Honest Stopped l0 l1 f0 f1 old at_hand now full w0 w1 what lengths (Err f) is read wanted came o did wrote next behind = let arrives = subst (Arrives l1 at_hand) is came in broke_off (record {
  at_hand = at_hand;
  read = read;
  wanted = wanted;
  some = arrives.0;
  asking = asking_in at_hand lengths.head lengths.body;
  behind = drop (lengths.head + lengths.body) at_hand;
  first = whatever_follows arrives.2;
  outcome = o;
  came = did;
  wrote = wrote;
})

-- ---- a message that fails a test before any route counts

is_first : {left : Option (List ℕ)} {bytes : List ℕ} {refusal : Refusal} → RefusedNow left bytes refusal → IsFirst left bytes (ending refusal) []
is_first (arrivals.whatever_follows refused) = whatever_follows refused
is_first (arrivals.at_the_end end refused) = at_the_end end refused refl

pub refused_step : (Runs : ℕ → Type 0) (MayLeave : OfficeWithBook → Type 0) (Same : Type 0) (Honest Whole : Type 0) (meaning : OfficeWithBook) (Stopped : Type 0) (l0 l1 : Option (List ℕ)) (f0 f1 : ℕ) (old at_hand now : List ℕ) (full : Bool) (w0 w1 : Writer) (what : Arrival) (refusal : Refusal) (r : Result Next ServeFault)
    → what ≡ arrival.Refused refusal → ReadBehind l0 l1 f0 f1 old at_hand → WasWanted old at_hand → Arrives l1 at_hand what → Tells w0 w1 (refusal_text refusal true) r → IfOk r (λ next. next ≡ Last)
    → MatchResult r (Stepped Same (Came Honest Whole Stopped Honest Whole Stopped Runs Runs MayLeave MayLeave meaning meaning) (λ o last. Honest → TakesAll w0 w1 (outcome_answer o last)) l0 l1 f0 f1 old now full)
    (λ f. SteppedOff Same (Came Honest Whole Stopped Honest Whole Stopped Runs Runs MayLeave MayLeave meaning meaning) (λ o last. Honest → WroteBeginning Stopped w0 w1 o last f) l0 l1 f0 f1 old full f)
refused_step Runs MayLeave Same Honest Whole meaning Stopped l0 l1 f0 f1 old at_hand now full w0 w1 what refusal (Ok x) is read wanted came tells next =
    let arrives = subst (Arrives l1 at_hand) is came in
    subst (Stepped Same (Came Honest Whole Stopped Honest Whole Stopped Runs Runs MayLeave MayLeave meaning meaning) (λ o last. Honest → TakesAll w0 w1 (outcome_answer o last)) l0 l1 f0 f1 old now full) (sym next) (
      record {
        at_hand = at_hand;
        read = read;
        wanted = wanted;
        some = arrives.0;
        asking = ending refusal;
        behind = [];
        first = is_first arrives.1;
        outcome = failed refusal;
        came = told Honest Whole Stopped Honest Whole Stopped meaning meaning (ask.refused refusal) (failed refusal) refl (λ h. h) (λ h w. w) (λ s. s) (λ since ran. ran) (λ h w. refl) (λ h m left. inl left) (λ office place. refl);
        wrote = λ h. tells;
      },
      refl,
    )
refused_step Runs MayLeave Same Honest Whole meaning Stopped l0 l1 f0 f1 old at_hand now full w0 w1 what refusal (Err f) is read wanted came tells next = let arrives = subst (Arrives l1 at_hand) is came in broke_off (record {
  at_hand = at_hand;
  read = read;
  wanted = wanted;
  some = arrives.0;
  asking = ending refusal;
  behind = [];
  first = is_first arrives.1;
  outcome = failed refusal;
  came = told Honest Whole Stopped Honest Whole Stopped meaning meaning (ask.refused refusal) (failed refusal) refl (λ h. h) (λ h w. w) (λ s. s) (λ since ran. ran) (λ h w. refl) (λ h m left. inl left) (λ office place. refl);
  wrote = tells_writes {T = Next} Honest Stopped w0 w1 (failed refusal) true (Err f) tells;
})
