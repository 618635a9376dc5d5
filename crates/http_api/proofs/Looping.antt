-- The loop over a connection, by tables and a writer.
use Rattle.std.proofs.Common.{◌≡◌, ◌≤◌, ◌<◌, ◌+◌, ◌==◌, List, [], ℕ, Bool, true, Option, Some, None, Result, Ok, Err, MatchResult, inl, inr, refl, sym, subst, ◌∙◌}
use Rattle.std.specs.Prelude.{IfSome, IsErrAnd, ◌||◌, unwrap_or}
use Rattle.request_book.specs.Book.{OfficeWithBook}
use Rattle.office.specs.Writers.{Writer, TakesAll, TakesPart}
use Rattle.office.proofs.Streaming.{took_none}
use Rattle.tables.specs.RunsOn.{RunsSince, RunsOn}
use Rattle.http_messages.specs.Asked.{Asked}
use Rattle.http_messages.specs.Streams.{answer_limit, items_of}
use Rattle.http_api.specs.declared.connection.Next.{Next}
use Rattle.http_api.specs.declared.connection.Next.TheVariants.{End, Last, More}
use Rattle.http_api.specs.declared.faults.ServeFault.{ServeFault}
use Rattle.http_api.specs.declared.faults.ServeFault.TheVariants.{Write, Memory}
use Rattle.http_api.specs.Faults.{fault_of}
use Rattle.http_api.specs.Outcomes.{Outcome, outcome_answer}
use Rattle.http_api.specs.Answering.{ComesTo, WroteBeginning}
use Rattle.http_api.specs.Served.{HasServed}
use Rattle.http_api.specs.ConnectionSteps.{Stepped, SteppedOff, unread, broke_off}
use Rattle.http_api.specs.Connection.{ReadsNoMore, ReadsOn, AllServed, SomeServed, GivenUp, no_sink, no_room}
use Rattle.http_api.proofs.Serving.{serves, none_served}
use Rattle.http_api.proofs.Connecting.{HasRoom, has_room, Along, begins, goes_along, AllTaken, ends, ends_behind, is_full, lasts, lasts_read, full_read, SomeTaken, cut_off, breaks_off, wrote_more, gives_up, stops}

module _ {S V : Type 0} (is_honest is_whole : S → Type 0) (means : S → OfficeWithBook) (may_leave : S → OfficeWithBook → Type 0) (faults : S → ℕ) (is_stopped : S → Bool) (at : V → Writer) where
  abbrev pub ServedTo : S → S → List Asked → List Outcome → Type 0
  ServedTo start now = HasServed (is_honest now) (is_whole now) (is_stopped now ≡ true) (is_whole start) (may_leave start) (may_leave now) (means start) (means now)

  abbrev pub WroteTo : S → V → V → List ℕ → Type 0
  WroteTo now old new text = is_honest now → TakesAll (at old) (at new) text

  -- what is kept while messages are answered
  pub record Serving (start now : S) (old new : V) (left_old left_now : Option (List ℕ)) (failed_old failed_now answered : ℕ) (held : List ℕ) : Type 0 where
    pub along : Along (ServedTo start now) (WroteTo now old new) left_old left_now failed_old failed_now answered held
    pub honest : is_honest now → is_honest start
    pub whole : is_honest now → is_whole now → is_whole start
    pub stopped : is_stopped start ≡ true → is_stopped now ≡ true
    pub runs : RunsOn is_honest is_whole faults is_stopped start now

  pub serving : (start : S) (old now : V) (left : Option (List ℕ)) (failed : ℕ) (held : List ℕ) → TakesAll (at old) (at now) [] → held ≡ [] → Serving start start old now left left failed failed 0 held
  serving start old now left failed held wrote none = record {
    along = begins left failed held none (none_served (is_honest start) (is_whole start) (is_stopped start ≡ true) (may_leave start) (means start)) (λ h. wrote);
    honest = λ h. h;
    whole = λ h w. w;
    stopped = λ s. s;
    runs = λ since ran. ran;
  }

  -- nothing is served where the connection is given up before anything is read
  nothing_served : (start : S) (old new : V) (left : Option (List ℕ)) (failed : ℕ) (fault : ServeFault) → GivenUp (is_stopped start ≡ true) failed failed (at old) (at new) [] [] fault → (bytes : List ℕ) × IfSome left (λ all. bytes ≡ all)
      × SomeServed (is_honest start) (is_whole start) (is_stopped start ≡ true) (is_whole start) (may_leave start) (may_leave start) (means start) (means start) bytes failed failed (at old) (at new) fault
  nothing_served start old new left failed fault why = (
    unwrap_or left [],
    known left,
    record {
      front = [];
      back = items_of (unwrap_or left []);
      cut = refl;
      outcomes = [];
      served = none_served (is_honest start) (is_whole start) (is_stopped start ≡ true) (may_leave start) (means start);
      given_up = λ h. why;
    },
  )
    where
      known : (o : Option (List ℕ)) → IfSome o (λ all. unwrap_or o [] ≡ all)
      known None = tt
      known (Some all) = refl

  -- there is no memory for the routes
  pub no_routes : (start : S) (old : V) (left : Option (List ℕ)) (failed : ℕ) → (bytes : List ℕ) × IfSome left (λ all. bytes ≡ all)
      × SomeServed (is_honest start) (is_whole start) (is_stopped start ≡ true) (is_whole start) (may_leave start) (may_leave start) (means start) (means start) bytes failed failed (at old) (at old) Memory
  no_routes start old left failed = nothing_served start old old left failed Memory (no_room refl (took_none (at old).taken (at old).failed))

  -- what the writer held back before isn't handed on
  pub not_begun : {T : Type 0} (Q : List ℕ → T → Type 0) (r : Result T ServeFault) (f : ServeFault) → IsErrAnd r (λ x. x ≡ f) → (start : S) (old new : V) (left : Option (List ℕ)) (failed : ℕ) → f ≡ Write → TakesPart (at old) (at new) []
      → (bytes : List ℕ) × IfSome left (λ all. bytes ≡ all)
      × MatchResult r (Q bytes) (SomeServed (is_honest start) (is_whole start) (is_stopped start ≡ true) (is_whole start) (may_leave start) (may_leave start) (means start) (means start) bytes failed failed (at old) (at new))
  not_begun Q (Ok x) f is start old new left failed write part = absurd is
  not_begun Q (Err x) f is start old new left failed write part = nothing_served start old new left failed x (no_sink (is ∙ write) part)

  module _ (s0 s1 s2 : S) (v0 v1 v2 : V) (l0 l1 l2 : Option (List ℕ)) (f0 f1 f2 answered : ℕ) (held now : List ℕ) (full : Bool) (so_far : Serving s0 s1 v0 v1 l0 l1 f0 f1 answered held) where
    abbrev Same : Type 0
    Same = (s2 ≡ s1) × (v2 ≡ v1)

    abbrev WroteOne : Outcome → Bool → Type 0
    WroteOne o last = is_honest s2 → TakesAll (at v1) (at v2) (outcome_answer o last)

    abbrev WroteAt : ServeFault → Outcome → Bool → Type 0
    WroteAt f o last = is_honest s2 → WroteBeginning (is_stopped s2 ≡ true) (at v1) (at v2) o last f

    room_for : answered < answer_limit → full ≡ (answered + 1 == answer_limit) → HasRoom so_far.along.room full
    room_for less is = has_room answered so_far.along.room full so_far.along.within less is

    abbrev StepTo : Next → Type 0
    StepTo next = Stepped Same (ComesTo is_honest is_whole faults is_stopped means may_leave s1 s2) WroteOne l1 l2 f1 f2 held now full next

    -- one message more
    pub one_more : answered < answer_limit → full ≡ (answered + 1 == answer_limit) → (next : Next) → next ≡ More → StepTo next → Serving s0 s2 v0 v2 l0 l2 f0 f2 (answered + 1) now
    one_more less is next more stepped =
        let step = subst StepTo more stepped in
        let one = step.0 in
        record {
          along = goes_along so_far.along (room_for less is) one step.1 step.2
              (λ qs os done. serves (is_honest s1) (is_whole s1) (is_stopped s1 ≡ true) (is_honest s2) (is_whole s2) (is_stopped s2 ≡ true) (means s0) (means s1) (means s2) qs os one.asking.asked one.outcome so_far.whole done one.came)
              (λ text first. wrote_more {w0 = at v0} {w1 = at v1} {w2 = at v2} text (outcome_answer one.outcome (one.asking.ends || full)) one.came.did.honest first one.wrote);
          honest = λ h. so_far.honest (one.came.did.honest h);
          whole = λ h w. so_far.whole (one.came.did.honest h) (one.came.did.whole h w);
          stopped = λ s. one.came.did.stopped (so_far.stopped s);
          runs = λ since ran. one.came.did.runs since (so_far.runs since ran);
        }

    all_served : (count : ℕ) → AllTaken (ServedTo s0 s2) (WroteTo s2 v0 v2) l0 count → (bytes : List ℕ) × IfSome l0 (λ all. bytes ≡ all) × AllServed (is_honest s2) (is_whole s2) (is_stopped s2 ≡ true) (is_whole s0) (may_leave s0) (may_leave s2) (means s0) (means s2) bytes (at v0) (at v2) count
    all_served count all = (all.bytes, all.given, record { outcomes = all.outcomes; served = all.served; wrote = all.wrote; count = all.count })

    -- the last message
    pub lasts_here : answered < answer_limit → full ≡ (answered + 1 == answer_limit) → (next : Next) → next ≡ Last → StepTo next
        → (bytes : List ℕ) × IfSome l0 (λ all. bytes ≡ all) × AllServed (is_honest s2) (is_whole s2) (is_stopped s2 ≡ true) (is_whole s0) (may_leave s0) (may_leave s2) (means s0) (means s2) bytes (at v0) (at v2) (answered + 1)
    lasts_here less is next last stepped =
        let step = subst StepTo last stepped in
        let one = step.0 in
        all_served (answered + 1)
        (lasts so_far.along (room_for less is) one step.1
        (λ qs os done. serves (is_honest s1) (is_whole s1) (is_stopped s1 ≡ true) (is_honest s2) (is_whole s2) (is_stopped s2 ≡ true) (means s0) (means s1) (means s2) qs os one.asking.asked one.outcome so_far.whole done one.came)
        (λ text first. wrote_more {w0 = at v0} {w1 = at v1} {w2 = at v2} text (outcome_answer one.outcome (one.asking.ends || full)) one.came.did.honest first one.wrote))

    -- no more is read behind it
    pub lasts_read_here : (next : Next) → next ≡ Last → StepTo next → ReadsOn l0 l2 (answered + 1)
    lasts_read_here next last stepped = let step = subst StepTo last stepped in inr (lasts_read so_far.along step.0)

    same_served : Same → (qs : List Asked) (os : List Outcome) → ServedTo s0 s1 qs os → ServedTo s0 s2 qs os
    same_served same qs os done = subst (λ s. ServedTo s0 s qs os) (sym same.0) done

    same_wrote : Same → (text : List ℕ) → WroteTo s1 v0 v1 text → WroteTo s2 v0 v2 text
    same_wrote same text wrote = subst (λ s. WroteTo s v0 v2 text) (sym same.0) (subst (λ v. WroteTo s1 v0 v text) (sym same.1) wrote)

    same_honest : Same → is_honest s2 → is_honest s1
    same_honest same h = subst is_honest same.0 h

    -- the stream has ended
    pub ends_here : (next : Next) → next ≡ End → StepTo next → (bytes : List ℕ) × IfSome l0 (λ all. bytes ≡ all) × AllServed (is_honest s2) (is_whole s2) (is_stopped s2 ≡ true) (is_whole s0) (may_leave s0) (may_leave s2) (means s0) (means s2) bytes (at v0) (at v2) answered
    ends_here next end stepped = let step = subst StepTo end stepped in all_served answered (ends so_far.along step (same_served step.same) (same_wrote step.same))

    pub ends_read_here : (next : Next) → next ≡ End → StepTo next → ReadsOn l0 l2 answered
    ends_read_here next end stepped = let step = subst StepTo end stepped in inl (ends_behind so_far.along step)

    same_runs : Same → RunsOn is_honest is_whole faults is_stopped s0 s2
    same_runs same since ran = subst (RunsSince is_honest is_whole faults is_stopped since) (sym same.0) (so_far.runs since ran)

    -- whatever the step was
    pub runs_behind : (next : Next) → StepTo next → RunsOn is_honest is_whole faults is_stopped s0 s2
    runs_behind End stepped = same_runs stepped.same
    runs_behind Last stepped = λ since ran. stepped.0.came.did.runs since (so_far.runs since ran)
    runs_behind More stepped = λ since ran. stepped.0.came.did.runs since (so_far.runs since ran)

    -- the connection is given up
    abbrev GivenUpAt : ServeFault → List Outcome → List ℕ → Type 0
    GivenUpAt f os text = is_honest s2 → GivenUp (is_stopped s2 ≡ true) f0 f2 (at v0) (at v2) os text f

    stops_here : (f : ServeFault) → answered < answer_limit → full ≡ (answered + 1 == answer_limit) → SteppedOff Same (ComesTo is_honest is_whole faults is_stopped means may_leave s1 s2) (WroteAt f) l1 l2 f1 f2 held full f → SomeTaken (ServedTo s0 s2) (GivenUpAt f) l0
    stops_here f less is (unread cause same_fault same off) =
        subst (λ f. SomeTaken (ServedTo s0 s2) (GivenUpAt f) l0) (sym same_fault)
        (cut_off {Stopped = GivenUpAt (fault_of cause)} so_far.along off (same_served same)
        (λ os text wrote. stops {Honest = is_honest s2} {StillHonest = is_honest s2} {Stopped = is_stopped s2 ≡ true} {w0 = at v0} {w1 = at v2} cause os text (λ h. h) so_far.along.count off (same_wrote same text wrote)))
    stops_here f less is (broke_off one) =
        breaks_off {Stopped = GivenUpAt f} so_far.along (room_for less is) one
        (λ qs os done. serves (is_honest s1) (is_whole s1) (is_stopped s1 ≡ true) (is_honest s2) (is_whole s2) (is_stopped s2 ≡ true) (means s0) (means s1) (means s2) qs os one.asking.asked one.outcome so_far.whole done one.came)
        (λ os text first. gives_up {w0 = at v0} {w1 = at v1} {w2 = at v2} one.outcome (one.asking.ends || full) f os text one.came.did.honest first one.wrote)

    pub runs_given_up : (f : ServeFault) → SteppedOff Same (ComesTo is_honest is_whole faults is_stopped means may_leave s1 s2) (WroteAt f) l1 l2 f1 f2 held full f → RunsOn is_honest is_whole faults is_stopped s0 s2
    runs_given_up f (unread cause same_fault same off) = same_runs same
    runs_given_up f (broke_off one) = λ since ran. one.came.did.runs since (so_far.runs since ran)

    abbrev SomeServedAt : List ℕ → ServeFault → Type 0
    SomeServedAt bytes f = SomeServed (is_honest s2) (is_whole s2) (is_stopped s2 ≡ true) (is_whole s0) (may_leave s0) (may_leave s2) (means s0) (means s2) bytes f0 f2 (at v0) (at v2) f

    pub gives_up_here : {T : Type 0} (Q : List ℕ → T → Type 0) (r : Result T ServeFault) (f : ServeFault) → IsErrAnd r (λ x. x ≡ f) → answered < answer_limit → full ≡ (answered + 1 == answer_limit)
        → SteppedOff Same (ComesTo is_honest is_whole faults is_stopped means may_leave s1 s2) (WroteAt f) l1 l2 f1 f2 held full f → (bytes : List ℕ) × IfSome l0 (λ all. bytes ≡ all) × MatchResult r (Q bytes) (SomeServedAt bytes)
    gives_up_here Q (Ok x) f is less full off = absurd is
    gives_up_here Q (Err x) f is less full off =
        let some = stops_here f less full off in
        (some.bytes, some.given, subst (SomeServedAt some.bytes) (sym is) (record { front = some.front; back = some.back; cut = some.cut; outcomes = some.outcomes; served = some.served; given_up = some.stopped }))

  -- no more may be answered
  pub full_here : (s0 s1 : S) (v0 v1 : V) (l0 l1 : Option (List ℕ)) (f0 f1 answered : ℕ) (held : List ℕ) → Serving s0 s1 v0 v1 l0 l1 f0 f1 answered held → answer_limit ≤ answered
      → (bytes : List ℕ) × IfSome l0 (λ all. bytes ≡ all) × AllServed (is_honest s1) (is_whole s1) (is_stopped s1 ≡ true) (is_whole s0) (may_leave s0) (may_leave s1) (means s0) (means s1) bytes (at v0) (at v1) answer_limit
  full_here s0 s1 v0 v1 l0 l1 f0 f1 answered held so_far full =
      let all = is_full so_far.along full in
      (all.bytes, all.given, record { outcomes = all.outcomes; served = all.served; wrote = all.wrote; count = all.count })

  pub full_read_here : (s0 s1 : S) (v0 v1 : V) (l0 l1 : Option (List ℕ)) (f0 f1 answered : ℕ) (held : List ℕ) → Serving s0 s1 v0 v1 l0 l1 f0 f1 answered held → answered ≡ answer_limit → ReadsOn l0 l1 answer_limit
  full_read_here s0 s1 v0 v1 l0 l1 f0 f1 answered held so_far full = inr (subst (ReadsNoMore l0 l1) full (full_read so_far.along))
