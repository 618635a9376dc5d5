-- What a sink was given of entries, and then of more of them; and look-ups, one after the other.
use Rattle.std.proofs.Common.{◌≡◌, List, [], ◌∷◌, ◌++◌, Result, Ok, Err, OnOk, IsTrue, sym, ap, subst, ◌∙◌, append_assoc, arith}
use Rattle.std.specs.Prelude.{⊤}
use Rattle.sqlite.specs.Effect.{Database}
use Rattle.sqlite.specs.State.{State, HasCleanDisk}
use Rattle.sqlite.proofs.StateLemmas.{survives_then}
use Rattle.po_text.specs.declared.entry.Entry.{Entry}
use Rattle.tables.specs.declared.faults.EachFault.{EachFault}
use Rattle.tables.specs.declared.faults.EachFault.TheVariants.{NoTables, NoSink}
use Rattle.tables.specs.Sinks.{WasCutShort}
use Rattle.sql_schema.specs.Inside.{AreOfficeTablesOf}
use Rattle.sql_schema.specs.Layouts.{by_domain}
use Rattle.sql_schema.specs.Whole.{IsIdleOver, IsLookUp}
use Rattle.sql_exports.specs.Handing.{Gives, TookAllBut}
use Rattle.sql_exports.proofs.Idle.{nothing}

module _ {S R : Type 0} (Took : S → List Entry → S → Type 0) (Refuses : S → Entry → R → S → Type 0) where
  -- the fault came in the first part
  pub cut_before : (a b : S) (xs ys : List Entry) (fault : EachFault R) → WasCutShort Took Refuses a b xs fault → WasCutShort Took Refuses a b (xs ++ ys) fault
  cut_before a b xs ys (NoTables lost) h = record {
    front = h.front;
    rest = h.rest ++ ys;
    whole = ap (λ l. l ++ ys) h.whole ∙ append_assoc h.front h.rest ys;
    took = h.took;
  }
  cut_before a b xs ys (NoSink refusal) h = record {
    front = h.front;
    entry = h.entry;
    rest = h.rest ++ ys;
    mid = h.mid;
    whole = ap (λ l. l ++ ys) h.whole ∙ append_assoc h.front (h.entry ∷ h.rest) ys;
    took = h.took;
    refused = h.refused;
  }

  module _ (more : (a b c : S) (xs ys : List Entry) → Took a xs b → Took b ys c → Took a (xs ++ ys) c) (a b c : S) (xs ys : List Entry) (one : Took a xs b) where
    cut_behind : (fault : EachFault R) → WasCutShort Took Refuses b c ys fault → WasCutShort Took Refuses a c (xs ++ ys) fault
    cut_behind (NoTables lost) h = record {
      front = xs ++ h.front;
      rest = h.rest;
      whole = ap (λ l. xs ++ l) h.whole ∙ sym (append_assoc xs h.front h.rest);
      took = more a b c xs h.front one h.took;
    }
    cut_behind (NoSink refusal) h = record {
      front = xs ++ h.front;
      entry = h.entry;
      rest = h.rest;
      mid = h.mid;
      whole = ap (λ l. xs ++ l) h.whole ∙ sym (append_assoc xs h.front (h.entry ∷ h.rest));
      took = more a b h.mid xs h.front one h.took;
      refused = h.refused;
    }

    -- the first part was taken
    pub given_then : {T : Type 0} (r : Result T (EachFault R)) → Gives Took Refuses b c ys r → Gives Took Refuses a c (xs ++ ys) r
    given_then (Ok x) h = more a b c xs ys one h
    given_then (Err fault) h = cut_behind fault h

  -- all but the last was taken, and then the last and more behind it
  pub given_behind : (more : (a b c : S) (xs ys : List Entry) → Took a xs b → Took b ys c → Took a (xs ++ ys) c) (a b c : S) (xs ys : List Entry) (last : Entry) → TookAllBut Took a b xs last
      → {T : Type 0} (r : Result T (EachFault R)) → Gives Took Refuses b c (last ∷ ys) r → Gives Took Refuses a c (xs ++ ys) r
  given_behind more a b c xs ys last but r h =
      subst (λ es. Gives Took Refuses a c es r) (sym (append_assoc but.front (last ∷ []) ys) ∙ ap (λ es. es ++ ys) (sym but.whole)) (given_then more a b c but.front (last ∷ ys) but.took r h)

-- ---- look-ups

module _ (old mid : State) {A E : Type 0} (x : A) (P : Database → A → Type 0) (idle : IsIdleOver by_domain old) (first : IsLookUp {E = E} old mid (Ok x) P) where
  early : HasCleanDisk mid → HasCleanDisk old
  early clean = omega (arith, first.survives.clean)

  pub still_open : HasCleanDisk mid → IsTrue mid.is_open
  still_open clean = first.is_open clean

  pub was_open : HasCleanDisk mid → IsTrue old.is_open
  was_open clean = (first.same clean (still_open clean)).was_open

  pub same_now : HasCleanDisk mid → mid.now ≡ old.now
  same_now clean = (first.same clean (still_open clean)).now

  pub idle_still : IsIdleOver by_domain mid
  idle_still = record {
    ready = λ clean is_open.
        let same = first.same clean is_open in
        subst (AreOfficeTablesOf by_domain) (sym same.now) (idle.ready (early clean) same.was_open);
    settled = λ clean is_open. let same = first.same clean is_open in same.now ∙ sym same.committed;
  }

  pub looked_then : {B F : Type 0} (new : State) (r : Result B F) → IsLookUp mid new r (λ _ _. ⊤) → IsLookUp old new r (λ _ _. ⊤)
  looked_then new r second = record {
    answer = second.answer;
    same = λ clean is_open.
        let late = second.same clean is_open in
        let soon = first.same (omega (arith, clean, second.survives.clean)) late.was_open in
        record { was_open = soon.was_open; now = late.now ∙ soon.now; committed = late.committed ∙ soon.now };
    is_open = second.is_open;
    ended = second.ended;
    survives = survives_then old mid new _ _ _ (λ clean db made. made)
        (λ clean db made.
        let soon = first.same (omega (arith, clean, second.survives.clean)) made.0 in
        (soon.was_open, made.1 ∙ ap (λ (d : Database). d.trees) soon.now))
        first.survives second.survives;
  }

  -- the same look-up, with what comes of another call that asks nothing of the connection
  pub looked_still : {B F : Type 0} (r : Result B F) → IsLookUp old mid r (λ _ _. ⊤)
  looked_still r = record {
    answer = λ clean. nothing r;
    same = first.same;
    is_open = λ clean. open_or_not r (first.is_open clean);
    ended = first.ended;
    survives = first.survives;
  }
    where
      open_or_not : {B F : Type 0} (r : Result B F) → IsTrue mid.is_open → OnOk r (IsTrue mid.is_open)
      open_or_not (Ok y) is_open = is_open
      open_or_not (Err e) is_open = tt
