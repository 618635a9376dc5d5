-- Exchanges one after another.
use Rattle.std.proofs.Common.{◌≡◌, inl, ℕ, suc, List, [], ◌∷◌, ◌++◌, length, refl, sym, ◌∙◌, ap, subst, Result, Ok, Err, append_assoc, append-nil}
use Rattle.std.specs.Prelude.{IfOk, OnOk, OnErr, IfErr, flat_map}
use Rattle.tables.specs.declared.faults.Lost.TheVariants.{Memory, Disk, Refused}
use Rattle.request_book.specs.declared.act.Request.{Request}
use Rattle.request_book.specs.Replies.{Reply}
use Rattle.request_book.specs.Book.{OfficeWithBook}
use Rattle.office_specification.specs.Deliveries.{left_by, answers_of, kept, lost_marks}
use Rattle.tables.specs.Stops.{AddsOnly, LeavesOnly}
use Rattle.tables.specs.declared.faults.Lost.{Lost}
use Rattle.office.specs.Runs.{HasRun, LeavesBeginning}
use Rattle.office.proofs.Ran.{one_more_while, stops_joined, stops_once, stops_nowhere}
use Rattle.office.specs.Exchanges.{Exchange, asked, malformed, unread, IsLine, AreLines, exchange_line, requests_of, results_of, DiskOnlyWhere, HasDelivered, IsDelivered, GoesOn, Answered}

-- ---- what reaches the desk

requests-append : (xs ys : List Exchange) → requests_of (xs ++ ys) ≡ requests_of xs ++ requests_of ys
requests-append [] ys = refl
requests-append (asked q r ∷ xs) ys = ap (λ qs. q ∷ qs) (requests-append xs ys)
requests-append (malformed ∷ xs) ys = requests-append xs ys
requests-append (unread ∷ xs) ys = requests-append xs ys

results-append : (xs ys : List Exchange) → results_of (xs ++ ys) ≡ results_of xs ++ results_of ys
results-append [] ys = refl
results-append (asked q r ∷ xs) ys = ap (λ rs. r ∷ rs) (results-append xs ys)
results-append (malformed ∷ xs) ys = results-append xs ys
results-append (unread ∷ xs) ys = results-append xs ys

one_each : (xs : List Exchange) → length (requests_of xs) ≡ length (results_of xs)
one_each [] = refl
one_each (asked q r ∷ xs) = ap (λ n. suc n) (one_each xs)
one_each (malformed ∷ xs) = one_each xs
one_each (unread ∷ xs) = one_each xs

-- where tables that are stopped stay so
pub disk_still : (Stopped StillStopped : Type 0) → (Stopped → StillStopped) → (rs : List (Result Reply Lost)) → DiskOnlyWhere Stopped rs → DiskOnlyWhere StillStopped rs
disk_still Stopped StillStopped still [] told = tt
disk_still Stopped StillStopped still (Ok reply ∷ rs) told = disk_still Stopped StillStopped still rs told
disk_still Stopped StillStopped still (Err Memory ∷ rs) told = disk_still Stopped StillStopped still rs told
disk_still Stopped StillStopped still (Err Refused ∷ rs) told = disk_still Stopped StillStopped still rs told
disk_still Stopped StillStopped still (Err Disk ∷ rs) told = (still told.0, disk_still Stopped StillStopped still rs told.1)

disk_last : (Stopped : Type 0) (r : Result Reply Lost) → IfErr r (λ e. e ≡ Disk → Stopped) → DiskOnlyWhere Stopped (r ∷ [])
disk_last Stopped (Ok reply) told = tt
disk_last Stopped (Err Memory) told = tt
disk_last Stopped (Err Refused) told = tt
disk_last Stopped (Err Disk) told = (told refl, tt)

disk_more : (Stopped : Type 0) (rs ss : List (Result Reply Lost)) → DiskOnlyWhere Stopped rs → DiskOnlyWhere Stopped ss → DiskOnlyWhere Stopped (rs ++ ss)
disk_more Stopped [] ss first then = then
disk_more Stopped (Ok reply ∷ rs) ss first then = disk_more Stopped rs ss first then
disk_more Stopped (Err Memory ∷ rs) ss first then = disk_more Stopped rs ss first then
disk_more Stopped (Err Refused ∷ rs) ss first then = disk_more Stopped rs ss first then
disk_more Stopped (Err Disk ∷ rs) ss first then = (first.0, disk_more Stopped rs ss first.1 then)

-- a delivery
pub delivers : {Runs StillRuns : ℕ → Type 0} {MayLeave StillMayLeave : OfficeWithBook → Type 0} (Honest Whole Stopped StillHonest StillWhole StillStopped : Type 0) (old new : OfficeWithBook) (x : Request) (r : Result Reply Lost) →
    (StillHonest → Honest) → (StillHonest → StillWhole → Whole) → (Stopped → StillStopped) → ((since : ℕ) → Runs since → StillRuns since) → IfErr r (λ e. e ≡ Disk → StillStopped) → (StillHonest → OnOk r StillWhole) →
    (StillHonest → OnOk r (new ≡ left_by old (x ∷ []))) → (StillHonest → IfOk r (λ reply. reply ∷ [] ≡ answers_of old (x ∷ []))) → (StillHonest → StillWhole → OnErr r (new ≡ old)) →
    (StillHonest → AddsOnly MayLeave StillMayLeave (λ m. Whole × (m ≡ left_by old (x ∷ [])))) → (StillHonest → OnOk r (LeavesOnly StillMayLeave new)) →
    GoesOn Honest Whole Stopped StillHonest StillWhole StillStopped Runs StillRuns MayLeave StillMayLeave old new (asked x r ∷ [])
delivers {MayLeave = MayLeave} {StillMayLeave = StillMayLeave} Honest Whole Stopped StillHonest StillWhole StillStopped old new x r honest whole stopped runs disk answered tables answer lost adds only = record {
  honest = honest;
  whole = whole;
  stopped = stopped;
  runs = runs;
  behind = λ start done ran.
      let more : HasRun StillHonest StillWhole start new (requests_of done ++ x ∷ []) (results_of done ++ r ∷ []) =
      one_more_while Honest Whole StillHonest StillWhole start old new (requests_of done) (results_of done) x r (one_each done) ran.run honest whole answered tables answer lost in
      let told : DiskOnlyWhere StillStopped (results_of done ++ r ∷ []) =
      disk_more StillStopped (results_of done) (r ∷ []) (disk_still Stopped StillStopped stopped (results_of done) ran.disk) (disk_last StillStopped r disk) in
      record {
        run = rw (requests-append done (asked x r ∷ []), results-append done (asked x r ∷ [])) more;
        disk = rw (results-append done (asked x r ∷ [])) told;
      };
  stops = λ h. stops_once Whole StillWhole MayLeave StillMayLeave old new x r (whole h) (answered h) (only h) (tables h) (adds h);
}

-- lines that reach no desk
pub stays : {Runs : ℕ → Type 0} {MayLeave : OfficeWithBook → Type 0} (Honest Whole Stopped : Type 0) (m : OfficeWithBook) (xs : List Exchange) → requests_of xs ≡ [] → results_of xs ≡ [] → GoesOn Honest Whole Stopped Honest Whole Stopped Runs Runs MayLeave MayLeave m m xs
stays {MayLeave = MayLeave} Honest Whole Stopped m xs no_request no_result = record {
  honest = λ h. h;
  whole = λ h w. w;
  stopped = λ s. s;
  runs = λ since ran. ran;
  behind = λ start done ran. record {
    run = rw (requests-append done xs, results-append done xs, no_request, no_result, append-nil (requests_of done), append-nil (results_of done)) ran.run;
    disk = rw (results-append done xs, no_result, append-nil (results_of done)) ran.disk;
  };
  stops = λ h. rw (no_request, no_result) (stops_nowhere Whole MayLeave MayLeave m (λ now is. inl is));
}

-- before any line
pub nothing_yet : {Honest Whole Stopped : Type 0} {m : OfficeWithBook} → HasDelivered Honest Whole Stopped m m []
nothing_yet = record { run = record { left = λ h w. refl; answers = λ h. refl }; disk = tt }

-- what lines did, from their start on
pub is_delivered : {Runs StillRuns : ℕ → Type 0} {MayLeave StillMayLeave : OfficeWithBook → Type 0} {Honest Whole Stopped StillHonest StillWhole StillStopped : Type 0} {old new : OfficeWithBook} {xs : List Exchange} →
    GoesOn Honest Whole Stopped StillHonest StillWhole StillStopped Runs StillRuns MayLeave StillMayLeave old new xs → IsDelivered StillHonest StillWhole StillStopped Whole MayLeave StillMayLeave old new xs
is_delivered {old = old} goes = record { delivered = goes.behind old [] nothing_yet; stops = goes.stops }

pub goes_further : {Runs0 Runs1 Runs2 : ℕ → Type 0} {Leave0 Leave1 Leave2 : OfficeWithBook → Type 0} (Honest0 Whole0 Stopped0 Honest1 Whole1 Stopped1 Honest2 Whole2 Stopped2 : Type 0) (m0 m1 m2 : OfficeWithBook) (xs ys : List Exchange) → GoesOn Honest0 Whole0 Stopped0 Honest1 Whole1 Stopped1 Runs0 Runs1 Leave0 Leave1 m0 m1 xs
    → GoesOn Honest1 Whole1 Stopped1 Honest2 Whole2 Stopped2 Runs1 Runs2 Leave1 Leave2 m1 m2 ys → GoesOn Honest0 Whole0 Stopped0 Honest2 Whole2 Stopped2 Runs0 Runs2 Leave0 Leave2 m0 m2 (xs ++ ys)
goes_further {Leave0 = Leave0} {Leave1 = Leave1} {Leave2 = Leave2} Honest0 Whole0 Stopped0 Honest1 Whole1 Stopped1 Honest2 Whole2 Stopped2 m0 m1 m2 xs ys first then = record {
  honest = λ h. first.honest (then.honest h);
  whole = λ h w. first.whole (then.honest h) (then.whole h w);
  stopped = λ s. then.stopped (first.stopped s);
  runs = λ since ran. then.runs since (first.runs since ran);
  behind = λ start done ran.
      let P : List Exchange → Type 0 = λ zs. HasDelivered Honest2 Whole2 Stopped2 start m2 zs in
      subst P (append_assoc done xs ys) (then.behind start (done ++ xs) (first.behind start done ran));
  stops = λ h.
      let left : Whole1 → m1 ≡ left_by m0 (kept (requests_of xs) (lost_marks (results_of xs))) = λ w. HasRun.left (HasDelivered.run (first.behind m0 [] nothing_yet)) (then.honest h) w in
      let all : LeavesBeginning Whole0 Leave0 Leave2 m0 (requests_of xs ++ requests_of ys) (results_of xs ++ results_of ys) =
      stops_joined Whole0 Whole1 Leave0 Leave1 Leave2 m0 m1 (requests_of xs) (requests_of ys) (results_of xs) (results_of ys) (one_each xs) (first.whole (then.honest h)) left
      (first.stops (then.honest h)) (then.stops h) in
      rw (requests-append xs ys, results-append xs ys) all;
}

-- lines that were delivered, and more of them
pub delivers_on : {Runs StillRuns : ℕ → Type 0} {Before MayLeave StillMayLeave : OfficeWithBook → Type 0} {Honest Whole Stopped StillHonest StillWhole StillStopped WasWhole : Type 0} {start old new : OfficeWithBook} (done more : List Exchange) →
    (Honest → Whole → WasWhole) → IsDelivered Honest Whole Stopped WasWhole Before MayLeave start old done → GoesOn Honest Whole Stopped StillHonest StillWhole StillStopped Runs StillRuns MayLeave StillMayLeave old new more
    → IsDelivered StillHonest StillWhole StillStopped WasWhole Before StillMayLeave start new (done ++ more)
delivers_on {Before = Before} {MayLeave = MayLeave} {StillMayLeave = StillMayLeave} {Whole = Whole} {WasWhole = WasWhole} {start = start} {old = old} done more whole was goes = record {
  delivered = goes.behind start done was.delivered;
  stops = λ h.
      let all : LeavesBeginning WasWhole Before StillMayLeave start (requests_of done ++ requests_of more) (results_of done ++ results_of more) =
      stops_joined WasWhole Whole Before MayLeave StillMayLeave start old (requests_of done) (requests_of more) (results_of done) (results_of more) (one_each done) (whole (goes.honest h))
      (HasRun.left (HasDelivered.run was.delivered) (goes.honest h)) (was.stops (goes.honest h)) (goes.stops h) in
      rw (requests-append done more, results-append done more) all;
}

-- ---- what is answered

are-append : (lines : List (List ℕ)) (xs : List Exchange) (more : List (List ℕ)) (ys : List Exchange) → AreLines lines xs → AreLines more ys → AreLines (lines ++ more) (xs ++ ys)
are-append [] [] more ys are rest = rest
are-append [] (y ∷ xs) more ys are rest = absurd are
are-append (l ∷ lines) [] more ys are rest = absurd are
are-append (l ∷ lines) (y ∷ xs) more ys are rest = (are.0, are-append lines xs more ys are.1 rest)

written-append : (xs ys : List Exchange) → flat_map exchange_line (xs ++ ys) ≡ flat_map exchange_line xs ++ flat_map exchange_line ys
written-append [] ys = refl
written-append (x ∷ xs) ys = ap (λ bs. exchange_line x ++ bs) (written-append xs ys) ∙ sym (append_assoc (exchange_line x) (flat_map exchange_line xs) (flat_map exchange_line ys))

-- lines, and then more lines
pub answered_further : {Did DidThen DidAll : List Exchange → Type 0} {Wrote WroteThen WroteAll : List ℕ → Type 0} {lines more : List (List ℕ)} →
    ((xs ys : List Exchange) → Did xs → DidThen ys → DidAll (xs ++ ys)) → ((a b : List ℕ) → Wrote a → WroteThen b → WroteAll (a ++ b)) →
    Answered Did Wrote lines → Answered DidThen WroteThen more → Answered DidAll WroteAll (lines ++ more)
answered_further {WroteAll = WroteAll} {lines = lines} {more = more} did wrote first then = record {
  exchanges = first.exchanges ++ then.exchanges;
  are = are-append lines first.exchanges more then.exchanges first.are then.are;
  did = did first.exchanges then.exchanges first.did then.did;
  wrote = subst WroteAll (sym (written-append first.exchanges then.exchanges)) (wrote _ _ first.wrote then.wrote);
}

pub none_answered : {Did : List Exchange → Type 0} {Wrote : List ℕ → Type 0} → Did [] → Wrote [] → Answered Did Wrote []
none_answered did wrote = record { exchanges = []; are = tt; did = did; wrote = wrote }

pub one_answered : {Did : List Exchange → Type 0} {Wrote : List ℕ → Type 0} {line : List ℕ} (x : Exchange) → IsLine line x → Did (x ∷ []) → Wrote (exchange_line x) → Answered Did Wrote (line ∷ [])
one_answered {Wrote = Wrote} x is did wrote = record { exchanges = x ∷ []; are = (is, tt); did = did; wrote = subst Wrote (sym (append-nil (exchange_line x))) wrote }
