-- What a sink took of some entries, and of more of them.
use Rattle.std.proofs.Common.{◌≡◌, List, [], ◌∷◌, ◌++◌, Result, Ok, Err, IsErrAnd, refl, sym, ap, subst, ◌∙◌, append_assoc}
use Rattle.std.proofs.lemmas.List.{append-nil}
use Rattle.po_text.specs.declared.entry.Entry.{Entry}
use Rattle.tables.specs.declared.faults.EachFault.{EachFault}
use Rattle.tables.specs.declared.faults.EachFault.TheVariants.{NoTables, NoSink}
use Rattle.tables.specs.declared.faults.Lost.TheVariants.{Memory}
use Rattle.tables.specs.Sinks.{WasCutShort}
use Rattle.tables.specs.Handing.{CutShort, Hands, HandedSoFar}

-- `none` and `join` are the laws of the sink
module _ {S : Type 0} {Took : S → List Entry → S → Type 0} where
  -- nothing was handed on yet
  pub begin : ((s : S) → Took s [] s) → (s : S) {all left : List Entry} → all ≡ left → HandedSoFar Took s s all left
  begin none s same = record { front = []; cut = same; took = none s }

  -- some more was taken
  pub more : ((a b c : S) (xs ys : List Entry) → Took a xs b → Took b ys c → Took a (xs ++ ys) c) → {old mid new : S} {all left piece behind : List Entry} →
      HandedSoFar Took old mid all left → left ≡ piece ++ behind → Took mid piece new → HandedSoFar Took old new all behind
  more join {old} {mid} {new} {all} {left} {piece} {behind} so_far is took = record {
    front = so_far.front ++ piece;
    cut = so_far.cut ∙ ap (λ xs. so_far.front ++ xs) is ∙ sym (append_assoc so_far.front piece behind);
    took = join old mid new so_far.front piece so_far.took took;
  }

  -- all was taken
  pub whole : {old new : S} {all left : List Entry} → HandedSoFar Took old new all left → left ≡ [] → Took old all new
  whole {old} {new} {all} {left} so_far none_left =
      let is : so_far.front ≡ all = sym (append-nil so_far.front) ∙ ap (λ xs. so_far.front ++ xs) (sym none_left) ∙ sym so_far.cut in
      subst (λ xs. Took old xs new) is so_far.took

module _ {S R : Type 0} {Took : S → List Entry → S → Type 0} (Refuses : S → Entry → R → S → Type 0) where
  -- there was no room for the next
  pub no_room : {old now : S} {all left : List Entry} → HandedSoFar Took old now all left → CutShort Took Refuses old now all (NoTables Memory)
  no_room {left = left} so_far = record {
    cut = record { front = so_far.front; rest = left; whole = so_far.cut; took = so_far.took };
    no_disk = λ e. cc;
    memory = λ lost e. cc;
  }

  cut_in : ((a b c : S) (xs ys : List Entry) → Took a xs b → Took b ys c → Took a (xs ++ ys) c) → {old mid : S} (new : S) {all left : List Entry} (piece behind : List Entry) (fault : EachFault R) →
      HandedSoFar Took old mid all left → left ≡ piece ++ behind → WasCutShort Took Refuses mid new piece fault → WasCutShort Took Refuses old new all fault
  cut_in join {old} {mid} new {all} {left} piece behind (NoTables lost) so_far is part = record {
    front = so_far.front ++ part.front;
    rest = part.rest ++ behind;
    whole = so_far.cut ∙ ap (λ xs. so_far.front ++ xs) (is ∙ ap (λ xs. xs ++ behind) part.whole ∙ append_assoc part.front part.rest behind)
        ∙ sym (append_assoc so_far.front part.front (part.rest ++ behind));
    took = join old mid new so_far.front part.front so_far.took part.took;
  }
  cut_in join {old} {mid} new {all} {left} piece behind (NoSink refusal) so_far is part = record {
    front = so_far.front ++ part.front;
    entry = part.entry;
    rest = part.rest ++ behind;
    mid = part.mid;
    whole = so_far.cut ∙ ap (λ xs. so_far.front ++ xs) (is ∙ ap (λ xs. xs ++ behind) part.whole ∙ append_assoc part.front (part.entry ∷ part.rest) behind)
        ∙ sym (append_assoc so_far.front part.front (part.entry ∷ part.rest ++ behind));
    took = join old mid part.mid so_far.front part.front so_far.took part.took;
    refused = part.refused;
  }

  -- some more was cut short
  pub cut_off : ((a b c : S) (xs ys : List Entry) → Took a xs b → Took b ys c → Took a (xs ++ ys) c) → {old mid new : S} {all left piece : List Entry} (behind : List Entry) (fault : EachFault R) →
      HandedSoFar Took old mid all left → left ≡ piece ++ behind → CutShort Took Refuses mid new piece fault → CutShort Took Refuses old new all fault
  cut_off join {new = new} {piece = piece} behind fault so_far is part = record { cut = cut_in join new piece behind fault so_far is part.cut; no_disk = part.no_disk; memory = part.memory }

  -- the same of what `?` passes on
  pub stopped : {T : Type 0} → ((a b c : S) (xs ys : List Entry) → Took a xs b → Took b ys c → Took a (xs ++ ys) c) → {old mid new : S} {all left piece : List Entry} (behind : List Entry)
      (r : Result T (EachFault R)) (fault : EachFault R) → IsErrAnd r (λ e. e ≡ fault) → HandedSoFar Took old mid all left → left ≡ piece ++ behind →
      CutShort Took Refuses mid new piece fault → Hands Took Refuses old new all r
  stopped join behind (Ok t) fault is_fault so_far is part = absurd is_fault
  stopped join {old} {mid} {new} {all} behind (Err e) fault is_fault so_far is part = subst (λ f. CutShort Took Refuses old new all f) (sym is_fault) (cut_off join behind fault so_far is part)

  -- the last piece
  pub ends : {T : Type 0} → ((a b c : S) (xs ys : List Entry) → Took a xs b → Took b ys c → Took a (xs ++ ys) c) → {old mid : S} (new : S) {all left : List Entry} (piece : List Entry)
      (r : Result T (EachFault R)) → HandedSoFar Took old mid all left → left ≡ piece → Hands Took Refuses mid new piece r → Hands Took Refuses old new all r
  ends join new piece (Ok t) so_far is took = whole (more join so_far (is ∙ sym (append-nil piece)) took) refl
  ends join new piece (Err e) so_far is part = cut_off join [] e so_far (is ∙ sym (append-nil piece)) part

  -- the sink refuses an entry
  pub refused : ((s : S) → Took s [] s) → (old new : S) (entry : Entry) (refusal : R) → Refuses old entry refusal new → CutShort Took Refuses old new (entry ∷ []) (NoSink refusal)
  refused none old new entry refusal said = record {
    cut = record { front = []; entry = entry; rest = []; mid = old; whole = refl; took = none old; refused = said };
    no_disk = λ e. cc;
    memory = λ lost e. cc;
  }
