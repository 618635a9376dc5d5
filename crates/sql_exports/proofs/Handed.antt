-- What a sink of rows was handed, as the sink of entries behind it saw it.
use Rattle.std.proofs.Common.{◌≡◌, inl, inr, List, [], ◌∷◌, ◌++◌, Option, sym, ap, subst, ◌∙◌, append_assoc}
use Rattle.std.specs.Borrow.{MutBor}
use Rattle.std.specs.List.{filter_map}
use Rattle.std.proofs.lemmas.List.Elements.{filter_map-append}
use Rattle.po_text.specs.declared.entry.Entry.{Entry}
use Rattle.sqlite.specs.Order.{Row}
use Rattle.tables.specs.declared.faults.EachFault.{EachFault}
use Rattle.tables.specs.declared.faults.EachFault.TheVariants.{NoTables, NoSink}
use Rattle.tables.specs.Sinks.{TookSome, WasCutShort}
use Rattle.sql_streams.specs.Walks.{GaveAll, GaveSome, GaveUpTo, CutShort}
use Rattle.sql_streams.specs.declared.walking.WalkFault.{WalkFault}
use Rattle.sql_streams.specs.declared.walking.WalkFault.TheVariants.{NoRows, NoSink as RowRefused}
use Rattle.sql_exports.specs.RowEntries.{TookEntries, RefusedEntry}
use Rattle.sql_exports.specs.Handing.{TookAllBut, IsTold}

-- `are`: the entries of an answer are these
module _ {E K R : Type 0} (sink : E → MutBor K) (held : E → MutBor Entry) (Took : K → List Entry → K → Type 0) (Refuses : K → Entry → R → K → Type 0) (entry : Row → Option Entry) (IsAnswer : List Row → Type 0)
    (entries : List Entry) (are : (rows : List Row) → IsAnswer rows → filter_map entry rows ≡ entries) (first last : E) where
  abbrev TookRows : E → List Row → E → Type 0
  TookRows a rows b = TookEntries Took entry (sink a) (held a) rows (sink b) (held b)

  abbrev RefusedRow : E → Row → EachFault R → E → Type 0
  RefusedRow a row fault b = RefusedEntry Refuses (sink a) (held a) fault (sink b) (held b)

  pub all_given : GaveAll TookRows IsAnswer first last → TookAllBut Took (sink first).now (sink last).now ((held first).now ∷ entries) (held last).now
  all_given h = record {
    front = h.took.front;
    whole = ap (λ es. (held first).now ∷ es) (sym (are h.rows h.answer)) ∙ h.took.whole;
    took = h.took.took;
  }

  -- what was held back comes behind what the sink took, and the entries of further rows behind that
  behind : (mid : E) (front : List Row) (took : TookRows first front mid) (more : List Entry) → entries ≡ filter_map entry front ++ more → (held first).now ∷ entries ≡ took.front ++ (held mid).now ∷ more
  behind mid front took more parted =
      ap (λ es. (held first).now ∷ es) parted ∙ ap (λ es. es ++ more) took.whole ∙ append_assoc took.front ((held mid).now ∷ []) more

  parted : (front rest : List Row) → IsAnswer (front ++ rest) → entries ≡ filter_map entry front ++ filter_map entry rest
  parted front rest answer = sym (are (front ++ rest) answer) ∙ filter_map-append entry front rest

  some_given : GaveSome TookRows IsAnswer first last → TookSome Took (sink first).now (sink last).now ((held first).now ∷ entries)
  some_given h = elim h.answer [
    | inl none ↦ record {
      front = h.took.front;
      rest = (held last).now ∷ entries;
      whole = behind last h.front h.took entries (ap (λ rows. filter_map entry rows ++ entries) (sym none));
      took = h.took.took;
    }
    | inr answer ↦ record {
      front = h.took.front;
      rest = (held last).now ∷ filter_map entry h.rest;
      whole = behind last h.front h.took (filter_map entry h.rest) (parted h.front h.rest answer);
      took = h.took.took;
    }
  ]

  given_up_to : (fault : EachFault R) → GaveUpTo TookRows RefusedRow IsAnswer first last fault → WasCutShort Took Refuses (sink first).now (sink last).now ((held first).now ∷ entries) fault
  given_up_to (NoTables lost) h = record {
    front = h.took.front;
    rest = (held h.mid).now ∷ filter_map entry (h.row ∷ h.rest);
    whole = behind h.mid h.front h.took (filter_map entry (h.row ∷ h.rest)) (parted h.front (h.row ∷ h.rest) h.answer);
    took = subst (λ k. Took (sink first).now h.took.front k) (sym h.refused.refused) h.took.took;
  }
  given_up_to (NoSink refusal) h = record {
    front = h.took.front;
    entry = (held h.mid).now;
    rest = filter_map entry (h.row ∷ h.rest);
    mid = (sink h.mid).now;
    whole = behind h.mid h.front h.took (filter_map entry (h.row ∷ h.rest)) (parted h.front (h.row ∷ h.rest) h.answer);
    took = h.took.took;
    refused = h.refused.refused;
  }

  pub cut_given : (fault : WalkFault (EachFault R)) (told : EachFault R) → IsTold fault told → CutShort TookRows RefusedRow IsAnswer first last fault
      → WasCutShort Took Refuses (sink first).now (sink last).now ((held first).now ∷ entries) told
  cut_given (NoRows error) told is h = subst (WasCutShort Took Refuses (sink first).now (sink last).now ((held first).now ∷ entries)) (sym is.1) (some_given h)
  cut_given (RowRefused (NoTables lost)) told is h = subst (WasCutShort Took Refuses (sink first).now (sink last).now ((held first).now ∷ entries)) (sym is.1) (given_up_to (NoTables lost) h)
  cut_given (RowRefused (NoSink refusal)) told is h = subst (WasCutShort Took Refuses (sink first).now (sink last).now ((held first).now ∷ entries)) (sym is) (given_up_to (NoSink refusal) h)

  pub cut_same : (fault : WalkFault (EachFault R)) → CutShort TookRows RefusedRow IsAnswer first last fault → (sink last).ghost_name ≡ (sink first).ghost_name
  cut_same (NoRows error) h = h.took.same_reference
  cut_same (RowRefused fault) h = h.refused.same_reference ∙ h.took.same_reference
