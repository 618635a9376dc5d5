-- What stays true along a schedule: the deliveries, followed by the whole list, leave what the list leaves alone; and each held reply is
-- the one that its request gets when the list comes once and in order.
use Rattle.std.proofs.Common.{◌≡◌, ℕ, zero, suc, ◌<◌, List, [], ◌∷◌, ◌++◌, map, take, drop, Bool, true, false, cond, not, ◌&&◌, ◌||◌, Option, Some, None, refl, sym, ◌∙◌, ap, subst, inl, inr, is_some, is_none, IsTrue}
use Rattle.std.specs.Prelude.{◌⊎◌, slice_get, option_map, option_and_then, nat_eq}
use Rattle.std.specs.Option.{option_map_or}
use Rattle.std.specs.List.{list_any, AllByRecursion}
use Rattle.std.specs.FinMap as maps
use Rattle.std.proofs.lemmas.Bool.{eqb-true}
use Rattle.std.proofs.lemmas.Option.{same_Some, slice_get-map}
use Rattle.std.proofs.lemmas.List.Folds.{list_any-append}
use Rattle.std.proofs.lemmas.Map.Keys.{IsDistinct-head, IsDistinct-tail, any_passes_from_place}
use Rattle.po_text.specs.Texts.{Text, text_eq}
use Rattle.units.specs.Office.{Office}
use Rattle.request_book.specs.declared.act.Request.{Request}
use Rattle.request_book.specs.Replies.{Reply}
use Rattle.request_book.specs.Book.{Book, OfficeWithBook, Recorded, recorded_as}
use Rattle.request_book.specs.Clash.{clash}
use Rattle.sender.specs.declared.exchange.Exchange.{Exchange}
use Rattle.sender.specs.Sending.{Sending, HasDistinctNumbers, unanswered, is_open, is_blocked, is_ready, replied, hear, held, is_finished}
use Rattle.office_specification.specs.Step.{step}
use Rattle.office_specification.specs.Deliveries.{kept, without, first_of, after, left_by, answers_of, reply_from, IsRecordedIn}
use Rattle.office_specification.proofs.commuting.Told.{has_replies}
use Rattle.office_laws.specs.World.{World, Delivery, Event, Send, Arrive, ArriveLost, Hear, unsent, taken, given, was_sent, is_allowed, arrives, hears, happens, after_events, IsSchedule}
use Rattle.office_laws.specs.Simulation.{replies_in_order, AreNew, IsReached, IsRecorded}
use Rattle.sender.proofs.Places.{at_end_or_before, split_at, in_front, front_has, apart, other_way, same, one_request}
use Rattle.office_laws.proofs.OneDelivery.{one, left_by-cons, left_by-last, unchanged, all_stay, still_new, same_content, answered_all}
use Rattle.office_laws.proofs.Earlier.{IsKnown, still_known, Yields, AllYield, comes_before, all_known}

-- ---- what a sender keeps of a request

pub record IsHeld (sending : Sending) (j : ℕ) : Type 0 where
  pub reply : Reply
  pub is : held sending j ≡ Some reply

record HasExchange (sending : Sending) (j : ℕ) (x : Request) : Type 0 where
  exchange : Exchange
  there : slice_get sending j ≡ Some exchange
  its : exchange.request ≡ x

abbrev pub requests_of : Sending → List Request
requests_of sending = map (λ exchange. exchange.request) sending

exchange_at : (sending : Sending) (r : List Request) (j : ℕ) (x : Request) → requests_of sending ≡ r → slice_get r j ≡ Some x → HasExchange sending j x
exchange_at sending r j x list e = by_exchange (slice_get sending j) refl
  where
    read : option_map (λ (exchange : Exchange). exchange.request) (slice_get sending j) ≡ Some x
    read = sym (slice_get-map (λ (exchange : Exchange). exchange.request) sending j) ∙ (ap (λ (rs : List Request). slice_get rs j) list ∙ e)

    by_exchange : (o : Option Exchange) → slice_get sending j ≡ o → HasExchange sending j x
    by_exchange None is = let wrong : None ≡ Some x = ap (option_map (λ (exchange : Exchange). exchange.request)) (sym is) ∙ read in cc
    by_exchange (Some exchange) is = record {
      exchange = exchange;
      there = is;
      its = same_Some exchange.request x (ap (option_map (λ (e : Exchange). e.request)) (sym is) ∙ read);
    }

-- ---- what was sent

still_sent : (sent : List ℕ) (k place : ℕ) → was_sent sent place ≡ true → was_sent (sent ++ k ∷ []) place ≡ true
still_sent sent k place e = list_any-append (nat_eq place) sent (k ∷ []) ∙ ap (λ c. c || list_any (nat_eq place) (k ∷ [])) e

sent_or_now : (sent : List ℕ) (k place : ℕ) → was_sent (sent ++ k ∷ []) place ≡ true → (was_sent sent place ≡ true) ⊎ (place ≡ k)
sent_or_now sent k place e = by_test (was_sent sent place) (nat_eq place k) refl refl (sym (list_any-append (nat_eq place) sent (k ∷ [])) ∙ e)
  where
    by_test : (c d : Bool) → was_sent sent place ≡ c → nat_eq place k ≡ d → (was_sent sent place || (nat_eq place k || false)) ≡ true → (was_sent sent place ≡ true) ⊎ (place ≡ k)
    by_test true d c is e = inl c
    by_test false true c is e = inr (eqb-true place k is)
    by_test false false c is e = let wrong : false ≡ true = ap (λ a. a || false) (sym c) ∙ (ap (λ b. was_sent sent place || (b || false)) (sym is) ∙ e) in cc

and_left : (a b : Bool) → (a && b) ≡ true → a ≡ true
and_left true b e = refl
and_left false b e = cc

and_right : (a b : Bool) → (a && b) ≡ true → b ≡ true
and_right true b e = e
and_right false b e = cc

not_true : (a : Bool) → not a ≡ true → a ≡ false
not_true true e = cc
not_true false e = refl

-- a request that is ready clashes with no earlier one without a reply
held_before : (sending : Sending) (j k : ℕ) (x y : Request) → IsTrue (is_ready sending k) → j < k → HasExchange sending j x → HasExchange sending k y → clash x y ≡ true → IsHeld sending j
held_before sending j k x y ready lt at_j at_k c = by_reply at_j.exchange.reply refl
  where
    read : (is_open at_k.exchange && not (is_blocked (take k sending) at_k.exchange.request)) ≡ true
    read =
        ap (λ o. option_map_or (λ (e : Exchange). is_open e && not (is_blocked (take k sending) e.request)) o false) (sym at_k.there) ∙ ready

    free : is_blocked (take k sending) at_k.exchange.request ≡ false
    free = not_true _ (and_right (is_open at_k.exchange) _ read)

    clashes : clash at_j.exchange.request at_k.exchange.request ≡ true
    clashes = ap (λ (z : Request). clash z at_k.exchange.request) at_j.its ∙ (ap (λ (z : Request). clash x z) at_k.its ∙ c)

    by_reply : (o : Option Reply) → at_j.exchange.reply ≡ o → IsHeld sending j
    by_reply (Some reply) is = record { reply = reply; is = ap (option_and_then (λ (e : Exchange). e.reply)) at_j.there ∙ is }
    by_reply None is =
        let passes : (is_open at_j.exchange && clash at_j.exchange.request at_k.exchange.request) ≡ true =
        ap (λ (o : Option Reply). is_none o && clash at_j.exchange.request at_k.exchange.request) is ∙ clashes in
        let wrong : true ≡ false =
        sym (any_passes_from_place (λ (e : Exchange). is_open e && clash e.request at_k.exchange.request) (take k sending) j at_j.exchange (front_has sending k j at_j.exchange lt at_j.there) passes) ∙ free in
        cc

-- ---- what is heard

abbrev answered : Text → Reply → Exchange → Exchange
answered number reply exchange = cond (text_eq number exchange.request.number) (replied reply exchange) exchange

record IsHeardNow (sending : Sending) (number : Text) (j : ℕ) : Type 0 where
  exchange : Exchange
  there : slice_get sending j ≡ Some exchange
  its : text_eq number exchange.request.number ≡ true

abbrev reply_in : Option Exchange → Option Reply
reply_in exchange = option_and_then (λ (e : Exchange). e.reply) exchange

held_after : (number : Text) (reply : Reply) (sending : Sending) (j : ℕ) → held (hear number reply sending) j ≡ reply_in (option_map (answered number reply) (slice_get sending j))
held_after number reply sending j = ap reply_in (slice_get-map (answered number reply) sending j)

-- a reply that is held was held before, or is the one that is heard
held_or_heard : (number : Text) (reply : Reply) (sending : Sending) (j : ℕ) (q : Reply) → held (hear number reply sending) j ≡ Some q → (held sending j ≡ Some q) ⊎ (IsHeardNow sending number j × (reply ≡ q))
held_or_heard number reply sending j q e = by_exchange (slice_get sending j) refl (sym (held_after number reply sending j) ∙ e)
  where
    by_tests : (exchange : Exchange) → slice_get sending j ≡ Some exchange → (t o : Bool) → text_eq number exchange.request.number ≡ t →
        (cond t (cond o (record exchange { reply = Some reply }) exchange) exchange).reply ≡ Some q → (held sending j ≡ Some q) ⊎ (IsHeardNow sending number j × (reply ≡ q))
    by_tests exchange is true true t h = inr (record { exchange = exchange; there = is; its = t }, same_Some reply q h)
    by_tests exchange is true false t h = inl (ap reply_in is ∙ h)
    by_tests exchange is false o t h = inl (ap reply_in is ∙ h)

    by_exchange : (o : Option Exchange) → slice_get sending j ≡ o → reply_in (option_map (answered number reply) o) ≡ Some q → (held sending j ≡ Some q) ⊎ (IsHeardNow sending number j × (reply ≡ q))
    by_exchange None is h = cc
    by_exchange (Some exchange) is h = by_tests exchange is (text_eq number exchange.request.number) (is_open exchange) refl h

-- what is held stays
still_held : (number : Text) (reply : Reply) (sending : Sending) (j : ℕ) → IsHeld sending j → IsHeld (hear number reply sending) j
still_held number reply sending j h = record { reply = h.reply; is = held_after number reply sending j ∙ by_exchange (slice_get sending j) refl }
  where
    by_test : (exchange : Exchange) → exchange.reply ≡ Some h.reply → (t : Bool) → (cond t (replied reply exchange) exchange).reply ≡ Some h.reply
    by_test exchange its true = ap (λ (o : Option Reply). (cond (is_none o) (record exchange { reply = Some reply }) exchange).reply) its ∙ its
    by_test exchange its false = its

    by_exchange : (o : Option Exchange) → slice_get sending j ≡ o → reply_in (option_map (answered number reply) o) ≡ Some h.reply
    by_exchange None is = let wrong : ◌≡◌ {A = Option Reply} None (Some h.reply) = ap reply_in (sym is) ∙ h.is in cc
    by_exchange (Some exchange) is = by_test exchange (ap reply_in (sym is) ∙ h.is) (text_eq number exchange.request.number)

same_requests : (number : Text) (reply : Reply) (sending : Sending) → requests_of (hear number reply sending) ≡ requests_of sending
same_requests number reply [] = refl
same_requests number reply (e ∷ es) = λ i. its (text_eq number e.request.number) (is_open e) i ∷ same_requests number reply es i
  where
    its : (t o : Bool) → (cond t (cond o (record e { reply = Some reply }) e) e).request ≡ e.request
    its true true = refl
    its true false = refl
    its false o = refl

-- ---- the invariant

-- a request of the list that was sent
pub record IsSent (r : List Request) (sent : List ℕ) (x : Request) : Type 0 where
  pub place : ℕ
  pub was : was_sent sent place ≡ true
  pub there : slice_get r place ≡ Some x

pub record Keeps (start : OfficeWithBook) (r : List Request) (sending : Sending) (sent : List ℕ) (xs : List Request) : Type 0 where
  pub list : requests_of sending ≡ r
  pub members : (p : ℕ) (x : Request) → slice_get xs p ≡ Some x → IsSent r sent x
  pub ordered : (j k : ℕ) (x y : Request) → was_sent sent k ≡ true → j < k → slice_get r j ≡ Some x → slice_get r k ≡ Some y → clash x y ≡ true → IsHeld sending j
  pub known : (j : ℕ) (x : Request) → slice_get r j ≡ Some x → IsHeld sending j → IsKnown (left_by start xs) x
  pub right : (j : ℕ) (reply : Reply) → held sending j ≡ Some reply → slice_get (replies_in_order start.office r) j ≡ Some reply
  pub rest : left_by (left_by start xs) r ≡ left_by start r

-- nothing sent yet

requests_of-unanswered : (r : List Request) → requests_of (unanswered r) ≡ r
requests_of-unanswered [] = refl
requests_of-unanswered (x ∷ xs) = ap (λ ys. x ∷ ys) (requests_of-unanswered xs)

never_held : (r : List Request) (j : ℕ) (q : Reply) → held (unanswered r) j ≡ Some q → ⊥
never_held [] j q e = cc
never_held (x ∷ xs) zero q e = cc
never_held (x ∷ xs) (suc j) q e = never_held xs j q e

pub at_first : (start : OfficeWithBook) (r : List Request) → Keeps start r (unanswered r) [] []
at_first start r = record {
  list = requests_of-unanswered r;
  members = λ p x e. cc;
  ordered = λ j k x y e. cc;
  known = λ j x e h. absurd (never_held r j h.reply h.is);
  right = λ j reply e. absurd (never_held r j reply e);
  rest = refl;
}

-- a request is sent

pub keeps_sent : (start : OfficeWithBook) (r : List Request) (sending : Sending) (sent : List ℕ) (xs : List Request) (k : ℕ) → Keeps start r sending sent xs → IsTrue (is_ready sending k) →
    Keeps start r sending (sent ++ k ∷ []) xs
keeps_sent start r sending sent xs k keeps ready = record {
  list = keeps.list;
  members = λ p x e. let s = keeps.members p x e in record { place = s.place; was = still_sent sent k s.place s.was; there = s.there };
  ordered = λ j place x y was lt ex ey c. by_place j place x y lt ex ey c (sent_or_now sent k place was);
  known = keeps.known;
  right = keeps.right;
  rest = keeps.rest;
}
  where
    by_place : (j place : ℕ) (x y : Request) → j < place → slice_get r j ≡ Some x → slice_get r place ≡ Some y → clash x y ≡ true → (was_sent sent place ≡ true) ⊎ (place ≡ k) → IsHeld sending j
    by_place j place x y lt ex ey c (inl was) = keeps.ordered j place x y was lt ex ey c
    by_place j place x y lt ex ey c (inr now) =
        held_before sending j place x y (subst (λ (p : ℕ). IsTrue (is_ready sending p)) (sym now) ready) lt
        (exchange_at sending r j x keeps.list ex) (exchange_at sending r place y keeps.list ey) c

-- a request arrives

front_yields : (start : OfficeWithBook) (r : List Request) (sending : Sending) (sent : List ℕ) (xs : List Request) (k : ℕ) (x : Request) → HasDistinctNumbers r →
    Keeps start r sending sent xs → was_sent sent k ≡ true → slice_get r k ≡ Some x → AllYield (left_by start xs) x (take k r)
front_yields start r sending sent xs k x distinct keeps was e = record {
  apart = λ j y here. let b = in_front r k j y here in other_way y.number x.number false (apart r j k y x distinct b.before b.there e);
  yields = λ j y here. let b = in_front r k j y here in by_clash j y b.before b.there (clash y x) refl;
}
  where
    by_clash : (j : ℕ) (y : Request) → j < k → slice_get r j ≡ Some y → (c : Bool) → clash y x ≡ c → Yields (left_by start xs) x y
    by_clash j y lt here true c = inl (keeps.known j y here (keeps.ordered j k y x was lt here e c))
    by_clash j y lt here false c = inr c

pub arrives_there : (start : OfficeWithBook) (r : List Request) (sending : Sending) (sent : List ℕ) (xs : List Request) (k : ℕ) (x : Request) → HasDistinctNumbers r →
    Keeps start r sending sent xs → was_sent sent k ≡ true → slice_get r k ≡ Some x → Keeps start r sending sent (xs ++ x ∷ [])
arrives_there start r sending sent xs k x distinct keeps was e = record {
  list = keeps.list;
  members = λ p z here. elim (at_end_or_before xs x p z here) [
    | inl before ↦ keeps.members p z before
    | inr now ↦ record { place = k; was = was; there = e ∙ ap (λ (y : Request). Some y) now }
  ];
  ordered = keeps.ordered;
  known = λ j y here h. subst (λ (m : OfficeWithBook). IsKnown m y) (sym (left_by-last start xs x)) (still_known (left_by start xs) x y (keeps.known j y here h));
  right = keeps.right;
  rest = ap (λ (m : OfficeWithBook). left_by m r) (left_by-last start xs x) ∙ (by_record (maps.get (left_by start xs).book x.number) refl ∙ keeps.rest);
}
  where
    by_record : (g : Option Recorded) → maps.get (left_by start xs).book x.number ≡ g → left_by (one (left_by start xs) x) r ≡ left_by (left_by start xs) r
    by_record (Some s) known = ap (λ (l : OfficeWithBook). left_by l r) (unchanged (left_by start xs) x s known)
    by_record None none =
        subst (λ (zs : List Request). left_by (one (left_by start xs) x) zs ≡ left_by (left_by start xs) zs) (sym (split_at r k x e))
        (comes_before (left_by start xs) (take k r) x (drop (suc k) r) none (front_yields start r sending sent xs k x distinct keeps was e))

-- ---- the list once and in order

record IsReplied (b : Book) (o : Office) (xs : List Request) (j : ℕ) (y : Request) : Type 0 where
  reply : Reply
  there : slice_get (replies_in_order o xs) j ≡ Some reply
  recorded : maps.get b y.number ≡ Some (recorded_as y reply)

replied_at : (b : Book) (o : Office) (xs : List Request) (j : ℕ) (y : Request) → IsRecordedIn b o xs → slice_get xs j ≡ Some y → IsReplied b o xs j y
replied_at b o [] j y h e = cc
replied_at b o (x ∷ xs) zero y h e = record {
  reply = (step o x).1;
  there = refl;
  recorded = subst (λ (z : Request). maps.get b z.number ≡ Some (recorded_as z (step o x).1)) (same_Some x y e) h.0;
}
replied_at b o (x ∷ xs) (suc j) y h e = let rest = replied_at b (step o x).0 xs j y h.1 e in record { reply = rest.reply; there = rest.there; recorded = rest.recorded }

without_others : (n : Text) (xs : List Request) → AllByRecursion (λ m. text_eq n m ≡ false) (map (λ (x : Request). x.number) xs) → without n xs ≡ xs
without_others n [] all = refl
without_others n (x ∷ xs) all = ap (λ c. cond (not c) (x ∷ without n xs) (without n xs)) all.0 ∙ ap (λ ys. x ∷ ys) (without_others n xs all.1)

-- requests with new and distinct numbers are their own first arrivals
all_first : (b : Book) (xs : List Request) → HasDistinctNumbers xs → AreNew b xs → first_of b xs ≡ xs
all_first b [] distinct new = refl
all_first b (x ∷ xs) distinct new =
    let absent = not_true _ (and_left (not (maps.contains_key b x.number)) _ new) in
    let rest = all_first b xs (IsDistinct-tail text_eq x.number _ distinct) (and_right (not (maps.contains_key b x.number)) _ new) in
    ap (λ c. cond c (first_of b xs) (x ∷ without x.number (first_of b xs))) absent
    ∙ (ap (λ ys. x ∷ without x.number ys) rest ∙ ap (λ ys. x ∷ ys) (without_others x.number xs (IsDistinct-head text_eq x.number _ distinct)))

once_replied : (start : OfficeWithBook) (r : List Request) (j : ℕ) (y : Request) → HasDistinctNumbers r → AreNew start.book r → slice_get r j ≡ Some y → IsReplied (left_by start r).book start.office r j y
once_replied start r j y distinct new e = replied_at (left_by start r).book start.office r j y (subst (IsRecordedIn (left_by start r).book start.office) (all_first start.book r distinct new) (has_replies start r)) e

-- ---- a reply is heard

heard_right : (start : OfficeWithBook) (r : List Request) (sending : Sending) (sent : List ℕ) (xs : List Request) (p j : ℕ) (x : Request) (reply : Reply) → HasDistinctNumbers r → AreNew start.book r →
    Keeps start r sending sent xs → slice_get xs p ≡ Some x → slice_get (answers_of start xs) p ≡ Some reply → IsHeardNow sending x.number j → slice_get (replies_in_order start.office r) j ≡ Some reply
heard_right start r sending sent xs p j x reply distinct new keeps ex er heard =
    let y = heard.exchange.request in
    let at_j : slice_get r j ≡ Some y =
    ap (λ (rs : List Request). slice_get rs j) (sym keeps.list) ∙ (slice_get-map (λ (e : Exchange). e.request) sending j ∙ ap (option_map (λ (e : Exchange). e.request)) heard.there) in
    let s = keeps.members p x ex in
    let place : s.place ≡ j = one_request r s.place j x y distinct s.there at_j heard.its in
    let is : x ≡ y = same_Some x y (sym s.there ∙ (ap (slice_get r) place ∙ at_j)) in
    let a = answered_all start xs p x reply ex er in
    let once = once_replied start r j y distinct new at_j in
    let there : maps.get (left_by start r).book y.number ≡ Some a.record_of =
    ap (λ (m : OfficeWithBook). maps.get m.book y.number) (sym keeps.rest) ∙ all_stay (left_by start xs) r y.number a.record_of (ap (λ (z : Request). maps.get (left_by start xs).book z.number) (sym is) ∙ a.recorded) in
    let same_record : a.record_of ≡ recorded_as y once.reply = same_Some _ _ (sym there ∙ once.recorded) in
    let told : reply ≡ once.reply =
    a.answer ∙ (ap (λ (rec : Recorded). reply_from rec x) same_record ∙ (ap (λ (z : Request). reply_from (recorded_as y once.reply) z) is ∙ same_content y once.reply)) in
    once.there ∙ ap (λ (q : Reply). Some q) (sym told)

heard_known : (start : OfficeWithBook) (r : List Request) (sending : Sending) (sent : List ℕ) (xs : List Request) (p j : ℕ) (x y : Request) (reply : Reply) →
    Keeps start r sending sent xs → slice_get xs p ≡ Some x → slice_get (answers_of start xs) p ≡ Some reply → IsHeardNow sending x.number j → slice_get r j ≡ Some y → IsKnown (left_by start xs) y
heard_known start r sending sent xs p j x y reply keeps ex er heard ey =
    let a = answered_all start xs p x reply ex er in
    let at_j = exchange_at sending r j y keeps.list ey in
    let its : heard.exchange ≡ at_j.exchange = same_Some _ _ (sym heard.there ∙ at_j.there) in
    let number : x.number ≡ y.number = same x.number heard.exchange.request.number heard.its ∙ (ap (λ (e : Exchange). e.request.number) its ∙ ap (λ (z : Request). z.number) at_j.its) in
    record { record_of = a.record_of; recorded = ap (maps.get (left_by start xs).book) (sym number) ∙ a.recorded }

pub heard : (start : OfficeWithBook) (r : List Request) (sending : Sending) (sent : List ℕ) (xs : List Request) (p : ℕ) (x : Request) (reply : Reply) → HasDistinctNumbers r → AreNew start.book r →
    Keeps start r sending sent xs → slice_get xs p ≡ Some x → slice_get (answers_of start xs) p ≡ Some reply → Keeps start r (hear x.number reply sending) sent xs
heard start r sending sent xs p x reply distinct new keeps ex er = record {
  list = same_requests x.number reply sending ∙ keeps.list;
  members = keeps.members;
  ordered = λ j k y z was lt ey ez c. still_held x.number reply sending j (keeps.ordered j k y z was lt ey ez c);
  known = λ j y ey h. elim (held_or_heard x.number reply sending j h.reply h.is) [
    | inl before ↦ keeps.known j y ey (record { reply = h.reply; is = before })
    | inr now ↦ heard_known start r sending sent xs p j x y reply keeps ex er now.0 ey
  ];
  right = λ j q h. elim (held_or_heard x.number reply sending j q h) [
    | inl before ↦ keeps.right j q before
    | inr now ↦ heard_right start r sending sent xs p j x reply distinct new keeps ex er now.0 ∙ ap (λ (a : Reply). Some a) now.1
  ];
  rest = keeps.rest;
}

-- ---- along a schedule

abbrev KeepsIn : OfficeWithBook → List Request → World → Type 0
KeepsIn start r world = Keeps start r world.sending world.sent (taken world)

abbrev requests_in : List Delivery → List Request
requests_in deliveries = map (λ (d : Delivery). d.request) deliveries

abbrev marks_in : List Delivery → List Bool
marks_in deliveries = map (λ (d : Delivery). d.lost) deliveries

abbrev taken_of : List Delivery → List Request
taken_of deliveries = kept (requests_in deliveries) (marks_in deliveries)

abbrev arrival : Request → Bool → List Delivery
arrival x lost = (record { request = x; lost = lost }) ∷ []

taken-arrived : (ds : List Delivery) (x : Request) → taken_of (ds ++ arrival x false) ≡ taken_of ds ++ x ∷ []
taken-arrived [] x = refl
taken-arrived (d ∷ ds) x =
    elim (d.lost) as (λ c. kept (d.request ∷ requests_in (ds ++ arrival x false)) (c ∷ marks_in (ds ++ arrival x false)) ≡ kept (d.request ∷ requests_in ds) (c ∷ marks_in ds) ++ x ∷ []) [
      | true ↦ taken-arrived ds x
      | false ↦ ap (λ ys. d.request ∷ ys) (taken-arrived ds x)
    ]

taken-lost : (ds : List Delivery) (x : Request) → taken_of (ds ++ arrival x true) ≡ taken_of ds
taken-lost [] x = refl
taken-lost (d ∷ ds) x =
    elim (d.lost) as (λ c. kept (d.request ∷ requests_in (ds ++ arrival x true)) (c ∷ marks_in (ds ++ arrival x true)) ≡ kept (d.request ∷ requests_in ds) (c ∷ marks_in ds)) [
      | true ↦ taken-lost ds x
      | false ↦ ap (λ ys. d.request ∷ ys) (taken-lost ds x)
    ]

pub request_at : (sending : Sending) (r : List Request) (place : ℕ) (exchange : Exchange) → requests_of sending ≡ r → slice_get sending place ≡ Some exchange → slice_get r place ≡ Some exchange.request
request_at sending r place exchange list is =
    ap (λ (rs : List Request). slice_get rs place) (sym list) ∙ (slice_get-map (λ (e : Exchange). e.request) sending place ∙ ap (option_map (λ (e : Exchange). e.request)) is)

arrival_kept : (start : OfficeWithBook) (r : List Request) (world : World) (place : ℕ) → HasDistinctNumbers r → KeepsIn start r world → was_sent world.sent place ≡ true → KeepsIn start r (arrives world place false)
arrival_kept start r world place distinct keeps was = by_exchange (slice_get world.sending place) refl
  where
    by_exchange : (o : Option Exchange) → slice_get world.sending place ≡ o → KeepsIn start r (option_map_or (λ (e : Exchange). record world { deliveries = world.deliveries ++ arrival e.request false }) o world)
    by_exchange None is = keeps
    by_exchange (Some exchange) is =
        subst (Keeps start r world.sending world.sent) (sym (taken-arrived world.deliveries exchange.request))
        (arrives_there start r world.sending world.sent (taken world) place exchange.request distinct keeps was (request_at world.sending r place exchange (Keeps.list keeps) is))

loss_kept : (start : OfficeWithBook) (r : List Request) (world : World) (place : ℕ) → KeepsIn start r world → KeepsIn start r (arrives world place true)
loss_kept start r world place keeps = by_exchange (slice_get world.sending place)
  where
    by_exchange : (o : Option Exchange) → KeepsIn start r (option_map_or (λ (e : Exchange). record world { deliveries = world.deliveries ++ arrival e.request true }) o world)
    by_exchange None = keeps
    by_exchange (Some exchange) = subst (Keeps start r world.sending world.sent) (sym (taken-lost world.deliveries exchange.request)) keeps

hearing_kept : (start : OfficeWithBook) (r : List Request) (world : World) (which : ℕ) → HasDistinctNumbers r → AreNew start.book r → KeepsIn start r world →
    KeepsIn start r (hears world (slice_get (taken world) which) (slice_get (given start world) which))
hearing_kept start r world which distinct new keeps = by_both (slice_get (taken world) which) (slice_get (given start world) which) refl refl
  where
    by_both : (x : Option Request) (reply : Option Reply) → slice_get (taken world) which ≡ x → slice_get (given start world) which ≡ reply → KeepsIn start r (hears world x reply)
    by_both x None ex er = keeps
    by_both None (Some reply) ex er = keeps
    by_both (Some x) (Some reply) ex er = heard start r world.sending world.sent (taken world) which x reply distinct new keeps ex er

step_kept : (start : OfficeWithBook) (r : List Request) (world : World) (event : Event) → HasDistinctNumbers r → AreNew start.book r → KeepsIn start r world → IsTrue (is_allowed start world event) →
    KeepsIn start r (happens start world event)
step_kept start r world (Send place) distinct new keeps allowed = keeps_sent start r world.sending world.sent (taken world) place keeps allowed
step_kept start r world (Arrive place) distinct new keeps allowed = arrival_kept start r world place distinct keeps allowed
step_kept start r world (ArriveLost place) distinct new keeps allowed = loss_kept start r world place keeps
step_kept start r world (Hear which) distinct new keeps allowed = hearing_kept start r world which distinct new keeps

along : (start : OfficeWithBook) (r : List Request) (world : World) (events : List Event) → HasDistinctNumbers r → AreNew start.book r → KeepsIn start r world → IsSchedule start world events →
    KeepsIn start r (after_events start world events)
along start r world [] distinct new keeps allowed = keeps
along start r world (event ∷ events) distinct new keeps allowed =
    along start r (happens start world event) events distinct new (step_kept start r world event distinct new keeps allowed.0) allowed.1

reached : (start : OfficeWithBook) (r : List Request) (world : World) → IsReached start r world → KeepsIn start r world
reached start r world is = subst (KeepsIn start r) (sym is.leads) (along start r (unsent r) is.schedule is.distinct is.new (at_first start r) is.allowed)

-- ---- what the law says

pub replies_once : (start : OfficeWithBook) (r : List Request) (world : World) → IsReached start r world → (place : ℕ) (reply : Reply) → held world.sending place ≡ Some reply →
    slice_get (replies_in_order start.office r) place ≡ Some reply
replies_once start r world is place reply e = Keeps.right (reached start r world is) place reply e

pub all_held : (exchange : Exchange) (es : Sending) → IsTrue (is_finished (exchange ∷ es)) → IsTrue (is_some exchange.reply) × IsTrue (is_finished es)
all_held exchange es all = (and_left (is_some exchange.reply) _ all, and_right (is_some exchange.reply) _ all)

held_of_finished : (sending : Sending) (j : ℕ) (x : Request) → IsTrue (is_finished sending) → slice_get (requests_of sending) j ≡ Some x → IsHeld sending j
held_of_finished [] j x all e = cc
held_of_finished (exchange ∷ es) zero x all e = by_reply exchange.reply refl
  where
    by_reply : (o : Option Reply) → exchange.reply ≡ o → IsHeld (exchange ∷ es) zero
    by_reply (Some reply) is = record { reply = reply; is = is }
    by_reply None is = let wrong : false ≡ true = ap is_some (sym is) ∙ (all_held exchange es all).0 in cc
held_of_finished (exchange ∷ es) (suc j) x all e = let rest = held_of_finished es j x (all_held exchange es all).1 e in record { reply = rest.reply; is = rest.is }

pub office_of_finished : (start : OfficeWithBook) (r : List Request) (sending : Sending) (sent : List ℕ) (xs : List Request) → HasDistinctNumbers r → AreNew start.book r →
    Keeps start r sending sent xs → IsTrue (is_finished sending) → (left_by start xs).office ≡ after start.office r
office_of_finished start r sending sent xs distinct new keeps finished =
    let known = λ (j : ℕ) (x : Request) (e : slice_get r j ≡ Some x). Keeps.known keeps j x e (held_of_finished sending j x finished (ap (λ (rs : List Request). slice_get rs j) (Keeps.list keeps) ∙ e)) in
    ap (λ (l : OfficeWithBook). l.office) (sym (all_known (left_by start xs) r known) ∙ Keeps.rest keeps) ∙ ap (after start.office) (all_first start.book r distinct new)

pub office_once : (start : OfficeWithBook) (r : List Request) (world : World) → IsReached start r world → IsTrue (is_finished world.sending) → (left_by start (taken world)).office ≡ after start.office r
office_once start r world is finished = office_of_finished start r world.sending world.sent (taken world) is.distinct is.new (reached start r world is) finished

-- a request that came to be recorded was delivered
record IsDelivered (xs : List Request) (n : Text) : Type 0 where
  place : ℕ
  request : Request
  there : slice_get xs place ≡ Some request
  its : text_eq n request.number ≡ true

came_by_delivery : (m : OfficeWithBook) (xs : List Request) (n : Text) → maps.get m.book n ≡ None → IsTrue (maps.contains_key (left_by m xs).book n) → IsDelivered xs n
came_by_delivery m [] n new is = let wrong : false ≡ true = ap is_some (sym new) ∙ is in cc
came_by_delivery m (x ∷ xs) n new is =
    by_number (text_eq n x.number) refl (λ t. came_by_delivery (one m x) xs n (still_new m x n new t) (subst (λ (l : OfficeWithBook). IsTrue (maps.contains_key l.book n)) (left_by-cons m x xs) is))
  where
    by_number : (c : Bool) → text_eq n x.number ≡ c → (text_eq n x.number ≡ false → IsDelivered xs n) → IsDelivered (x ∷ xs) n
    by_number true t later = record { place = zero; request = x; there = refl; its = t }
    by_number false t later = let rest = later t in record { place = suc rest.place; request = rest.request; there = rest.there; its = rest.its }

new_at : (b : Book) (xs : List Request) (j : ℕ) (x : Request) → AreNew b xs → slice_get xs j ≡ Some x → maps.get b x.number ≡ None
new_at b [] j x new e = cc
new_at b (y ∷ ys) zero x new e = subst (λ (z : Request). maps.get b z.number ≡ None) (same_Some y x e) (absent (maps.get b y.number) (and_left (not (is_some (maps.get b y.number))) _ new))
  where
    absent : (o : Option Recorded) → not (is_some o) ≡ true → o ≡ None
    absent None h = refl
    absent (Some s) h = cc
new_at b (y ∷ ys) (suc j) x new e = new_at b ys j x (and_right (not (maps.contains_key b y.number)) _ new) e

pub in_order : (start : OfficeWithBook) (r : List Request) (sending : Sending) (sent : List ℕ) (xs : List Request) → HasDistinctNumbers r → AreNew start.book r → Keeps start r sending sent xs →
    (earlier later : ℕ) (x y : Request) → earlier < later → slice_get r earlier ≡ Some x → slice_get r later ≡ Some y → IsTrue (clash x y) →
    IsTrue (maps.contains_key (left_by start xs).book y.number) → IsTrue (maps.contains_key (left_by start xs).book x.number)
in_order start r sending sent xs distinct new keeps earlier later x y lt ex ey c recorded =
    let d = came_by_delivery start xs y.number (new_at start.book r later y new ey) recorded in
    let s = Keeps.members keeps d.place d.request d.there in
    let place : later ≡ s.place = one_request r later s.place y d.request distinct ey s.there d.its in
    let was : was_sent sent later ≡ true = subst (λ (k : ℕ). was_sent sent k ≡ true) (sym place) s.was in
    let known = Keeps.known keeps earlier x ex (Keeps.ordered keeps earlier later x y was lt ex ey c) in
    ap is_some known.recorded

pub recorded_in_order : (start : OfficeWithBook) (r : List Request) (world : World) → IsReached start r world → (earlier later : ℕ) (x y : Request) → earlier < later →
    slice_get r earlier ≡ Some x → slice_get r later ≡ Some y → IsTrue (clash x y) → IsRecorded start world y → IsRecorded start world x
recorded_in_order start r world is = in_order start r world.sending world.sent (taken world) is.distinct is.new (reached start r world is)
