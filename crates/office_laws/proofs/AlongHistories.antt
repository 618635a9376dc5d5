-- What stays true along a history of a sender and a desk, as along a schedule: what was told at any moment is what a run of the deliveries until
-- then answers, so each reply that is heard is one of a world's.
use Rattle.std.proofs.Common.{◌≡◌, ℕ, zero, suc, ◌<◌, ◌+◌, List, [], ◌∷◌, ◌++◌, map, length, arith, true, false, Option, Some, None, Ok, Err, Result, refl, sym, ◌∙◌, ap, subst, is_some, IsTrue}
use Rattle.std.proofs.Common.{length-append}
use Rattle.std.proofs.lemmas.List.{length-map}
use Rattle.std.proofs.lemmas.Option.{same_Some}
use Rattle.std.specs.Prelude.{slice_get}
use Rattle.std.specs.FinMap as maps
use Rattle.units.specs.Office.{Office}
use Rattle.request_book.specs.declared.act.Request.{Request}
use Rattle.request_book.specs.Replies.{Reply}
use Rattle.request_book.specs.Book.{OfficeWithBook}
use Rattle.request_book.specs.Clash.{clash}
use Rattle.tables.specs.declared.faults.Lost.{Lost}
use Rattle.sender.specs.declared.exchange.Exchange.{Exchange}
use Rattle.sender.specs.Sending.{Sending, HasDistinctNumbers, held, is_finished}
use Rattle.office_specification.specs.Step.{step}
use Rattle.office_specification.specs.Deliveries.{kept, lost_marks, told, after, answers_of}
use Rattle.office_specification.proofs.retries.Once.{joined}
use Rattle.office_specification.proofs.retries.Running.{told-ok, told-err, kept-ok, kept-err}
use Rattle.office_laws.specs.Simulation.{replies_in_order, AreNew}
use Rattle.office_laws.specs.Histories.{Moment, unsent_yet, Happens, sends, arrives, hears, IsHistory, HasCome}
use Rattle.office_laws.proofs.Reached.{Keeps, at_first, keeps_sent, arrives_there, request_at, heard, all_held, office_of_finished, in_order}

-- the deliveries that weren't lost
abbrev taken_at : Moment → List Request
taken_at now = kept now.requests (lost_marks now.results)

abbrev KeepsAt : OfficeWithBook → List Request → Moment → Type 0
KeepsAt start r now = Keeps start r now.sending now.sent (taken_at now)

abbrev IsTold : OfficeWithBook → Moment → Type 0
IsTold start now = told now.results ≡ answers_of start (taken_at now)

abbrev IsPaired : Moment → Type 0
IsPaired now = length now.requests ≡ length now.results

-- ---- what was told before

abbrev rest_of : List Reply → List Reply
rest_of [] = []
rest_of (x ∷ xs) = xs

same_front : (xs ys : List Reply) (x y : Reply) → xs ++ x ∷ [] ≡ ys ++ y ∷ [] → xs ≡ ys
same_front [] [] x y e = refl
same_front [] (b ∷ ys) x y e = absurd (omega (arith, ap length e, length-append ys (y ∷ [])))
same_front (a ∷ xs) [] x y e = absurd (omega (arith, ap length e, length-append xs (x ∷ [])))
same_front (a ∷ xs) (b ∷ ys) x y e =
    let first : a ≡ b = same_Some a b (ap (λ (l : List Reply). slice_get l zero) e) in
    let rest : xs ≡ ys = same_front xs ys x y (ap rest_of e) in
    λ i. first i ∷ rest i

paired_next : (old new : Moment) → Happens old new → IsPaired old → IsPaired new
paired_next old new (sends place ready is) p = subst IsPaired (sym is) p
paired_next old new (arrives place exchange result was there is) p =
    subst IsPaired (sym is) (length-append old.requests (exchange.request ∷ []) ∙ (ap (λ n. n + 1) p ∙ sym (length-append old.results (result ∷ []))))
paired_next old new (hears delivery request reply asked answered is) p = subst IsPaired (sym is) p

told_before : (start : OfficeWithBook) (old new : Moment) → Happens old new → IsPaired old → IsTold start new → IsTold start old
told_before start old new (sends place ready is) p t = subst (IsTold start) is t
told_before start old new (arrives place exchange (Ok reply) was there is) p t =
    let now : told (old.results ++ Ok reply ∷ []) ≡ answers_of start (kept (old.requests ++ exchange.request ∷ []) (lost_marks (old.results ++ Ok reply ∷ []))) = subst (IsTold start) is t in
    same_front (told old.results) (answers_of start (taken_at old)) reply _
    (sym (told-ok old.results reply) ∙ (now ∙ (ap (answers_of start) (kept-ok old.requests old.results exchange.request reply p) ∙ (joined start (taken_at old) (exchange.request ∷ [])).1)))
told_before start old new (arrives place exchange (Err e) was there is) p t =
    let now : told (old.results ++ Err e ∷ []) ≡ answers_of start (kept (old.requests ++ exchange.request ∷ []) (lost_marks (old.results ++ Err e ∷ []))) = subst (IsTold start) is t in
    sym (told-err old.results e) ∙ (now ∙ ap (answers_of start) (kept-err old.requests old.results exchange.request e p))
told_before start old new (hears delivery request reply asked answered is) p t = subst (IsTold start) is t

told_along : (start : OfficeWithBook) (first : Moment) (more : List Moment) (last : Moment) → IsHistory first more last → IsPaired first → IsTold start last → IsTold start first
told_along start first [] last leads p t = subst (IsTold start) leads t
told_along start first (next ∷ more) last leads p t =
    told_before start first next leads.0 p (told_along start next more last leads.1 (paired_next first next leads.0 p) t)

-- ---- a reply that is heard is one that was told

record IsToldTo (xs : List Request) (replies : List Reply) (x : Request) (reply : Reply) : Type 0 where
  place : ℕ
  asked : slice_get xs place ≡ Some x
  answered : slice_get replies place ≡ Some reply

abbrev reply_in : Option (Result Reply Lost) → Option Reply
reply_in (Some (Ok reply)) = Some reply
reply_in (Some (Err e)) = None
reply_in None = None

told_to : (xs : List Request) (rs : List (Result Reply Lost)) (k : ℕ) (x : Request) (reply : Reply) → slice_get xs k ≡ Some x → slice_get rs k ≡ Some (Ok reply) → IsToldTo (kept xs (lost_marks rs)) (told rs) x reply
told_to [] rs k x reply ex er = let wrong : None ≡ Some x = ex in cc
told_to (y ∷ xs) [] k x reply ex er = let wrong : None ≡ Some (Ok reply) = er in cc
told_to (y ∷ xs) (Ok q ∷ rs) zero x reply ex er = record { place = zero; asked = ex; answered = ap reply_in er }
told_to (y ∷ xs) (Ok q ∷ rs) (suc k) x reply ex er = let rest = told_to xs rs k x reply ex er in record { place = suc rest.place; asked = rest.asked; answered = rest.answered }
told_to (y ∷ xs) (Err e ∷ rs) zero x reply ex er = let wrong : None ≡ Some reply = ap reply_in er in cc
told_to (y ∷ xs) (Err e ∷ rs) (suc k) x reply ex er = told_to xs rs k x reply ex er

-- ---- along a history

module _ (start : OfficeWithBook) (r : List Request) (distinct : HasDistinctNumbers r) (new_numbers : AreNew start.book r) where
  kept_next : (old new : Moment) → Happens old new → KeepsAt start r old → IsPaired old → IsTold start old → KeepsAt start r new
  kept_next old new (sends place ready is) keeps p t = subst (KeepsAt start r) (sym is) (keeps_sent start r old.sending old.sent (taken_at old) place keeps ready)
  kept_next old new (arrives place exchange (Ok reply) was there is) keeps p t =
      subst (KeepsAt start r) (sym is) (subst (Keeps start r old.sending old.sent) (sym (kept-ok old.requests old.results exchange.request reply p))
      (arrives_there start r old.sending old.sent (taken_at old) place exchange.request distinct keeps was (request_at old.sending r place exchange keeps.list there)))
  kept_next old new (arrives place exchange (Err e) was there is) keeps p t =
      subst (KeepsAt start r) (sym is) (subst (Keeps start r old.sending old.sent) (sym (kept-err old.requests old.results exchange.request e p)) keeps)
  kept_next old new (hears delivery request reply asked answered is) keeps p t =
      let at = told_to old.requests old.results delivery request reply asked answered in
      subst (KeepsAt start r) (sym is) (heard start r old.sending old.sent (taken_at old) at.place request reply distinct new_numbers keeps at.asked
      (subst (λ (replies : List Reply). slice_get replies at.place ≡ Some reply) t at.answered))

  kept_along : (first : Moment) (more : List Moment) (last : Moment) → IsHistory first more last → KeepsAt start r first → IsPaired first → IsTold start last → KeepsAt start r last
  kept_along first [] last leads keeps p t = subst (KeepsAt start r) (sym leads) keeps
  kept_along first (next ∷ more) last leads keeps p t =
      kept_along next more last leads.1 (kept_next first next leads.0 keeps p (told_along start first (next ∷ more) last leads p t)) (paired_next first next leads.0 p) t

-- ---- all replies

as_many : (office : Office) (r : List Request) → length (replies_in_order office r) ≡ length r
as_many office [] = refl
as_many office (x ∷ xs) = ap suc (as_many (step office x).0 xs)

some_held : (o : Option Reply) → IsTrue (is_some o) → (q : Option Reply) → ((reply : Reply) → o ≡ Some reply → q ≡ Some reply) → o ≡ q
some_held (Some reply) is q right = sym (right reply refl)
some_held None is q right = let wrong : false ≡ true = is in cc

held_whole : (sending : Sending) (replies : List Reply) → length replies ≡ length sending → IsTrue (is_finished sending) →
    ((place : ℕ) (reply : Reply) → held sending place ≡ Some reply → slice_get replies place ≡ Some reply) → map (λ (e : Exchange). e.reply) sending ≡ map Some replies
held_whole [] [] len finished right = refl
held_whole [] (q ∷ replies) len finished right = absurd (omega (arith, len))
held_whole (e ∷ es) [] len finished right = absurd (omega (arith, len))
held_whole (e ∷ es) (q ∷ replies) len finished right =
    let first : e.reply ≡ Some q = some_held e.reply (all_held e es finished).0 (Some q) (right zero) in
    let rest : map (λ (e : Exchange). e.reply) es ≡ map Some replies = held_whole es replies (omega (arith, len)) (all_held e es finished).1 (λ place. right (suc place)) in
    λ i. first i ∷ rest i

-- ---- what the law says

module _ {Honest Whole : Type 0} (start now : OfficeWithBook) (r : List Request) (last : Moment) (come : HasCome Honest Whole start now r last) (honest : Honest) where
  keeps_at_last : KeepsAt start r last
  keeps_at_last = kept_along start r come.distinct come.new (unsent_yet r) come.history last come.leads (at_first start r) refl (come.run.answers honest)

  pub right_reply : (place : ℕ) (reply : Reply) → held last.sending place ≡ Some reply → slice_get (replies_in_order start.office r) place ≡ Some reply
  right_reply = Keeps.right keeps_at_last

  pub all_replies : IsTrue (is_finished last.sending) → map (λ (e : Exchange). e.reply) last.sending ≡ map Some (replies_in_order start.office r)
  all_replies finished =
      let many : length last.sending ≡ length r = sym (length-map last.sending (λ (e : Exchange). e.request)) ∙ ap length (Keeps.list keeps_at_last) in
      held_whole last.sending (replies_in_order start.office r) (as_many start.office r ∙ sym many) finished right_reply

  pub right_office : Whole → IsTrue (is_finished last.sending) → now.office ≡ after start.office r
  right_office whole finished =
      ap (λ (m : OfficeWithBook). m.office) (come.run.left honest whole) ∙ office_of_finished start r last.sending last.sent (taken_at last) come.distinct come.new keeps_at_last finished

  pub right_order : Whole → (earlier later : ℕ) (x y : Request) → earlier < later → slice_get r earlier ≡ Some x → slice_get r later ≡ Some y → IsTrue (clash x y) →
      IsTrue (maps.contains_key now.book y.number) → IsTrue (maps.contains_key now.book x.number)
  right_order whole earlier later x y lt ex ey c recorded =
      let left = come.run.left honest whole in
      subst (λ (m : OfficeWithBook). IsTrue (maps.contains_key m.book x.number)) (sym left)
      (in_order start r last.sending last.sent (taken_at last) come.distinct come.new keeps_at_last earlier later x y lt ex ey c
      (subst (λ (m : OfficeWithBook). IsTrue (maps.contains_key m.book y.number)) left recorded))
