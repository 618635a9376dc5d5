-- What was taken in two parts was taken.
use Rattle.std.proofs.Common.{List, [], ◌∷◌, ◌++◌, Option, refl, sym, ap, ◌∙◌, append_assoc}
use Rattle.std.specs.Borrow.{MutBor}
use Rattle.std.specs.List.{filter_map}
use Rattle.std.proofs.lemmas.List.Elements.{filter_map-append}
use Rattle.po_text.specs.declared.entry.Entry.{Entry}
use Rattle.sqlite.specs.Order.{Row}
use Rattle.sql_exports.specs.RowEntries.{TookEntries}

module _ {K : Type 0} (Took : K → List Entry → K → Type 0) (entry : Row → Option Entry) where
  pub took_none : ((s : K) → Took s [] s) → (s : MutBor K) (held : MutBor Entry) → TookEntries Took entry s held [] s held
  took_none none s held = record { same_reference = refl; held_reference = refl; front = []; whole = refl; took = none s.now }

  pub took_more : ((a b c : K) (xs ys : List Entry) → Took a xs b → Took b ys c → Took a (xs ++ ys) c) → (a b c : MutBor K) (x y z : MutBor Entry) (xs ys : List Row)
      → TookEntries Took entry a x xs b y → TookEntries Took entry b y ys c z → TookEntries Took entry a x (xs ++ ys) c z
  took_more more a b c x y z xs ys one two = record {
    same_reference = two.same_reference ∙ one.same_reference;
    held_reference = two.held_reference ∙ one.held_reference;
    front = one.front ++ two.front;
    whole = ap (λ es. x.now ∷ es) (filter_map-append entry xs ys)
        ∙ ap (λ es. es ++ filter_map entry ys) one.whole
        ∙ append_assoc one.front (y.now ∷ []) (filter_map entry ys)
        ∙ ap (λ es. one.front ++ es) two.whole
        ∙ sym (append_assoc one.front two.front (z.now ∷ []));
    took = more a.now b.now c.now one.front two.front one.took two.took;
  }
