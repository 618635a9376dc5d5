use Rattle.std.proofs.Common.{◌≡◌, Bool, true, false, ◌&&◌, List, [], ◌∷◌, Result, Ok, Err, OnOk, OnErr, string_bytes, refl, ap, ◌∙◌}
use Rattle.std.specs.List.{list_all}
use Rattle.std.proofs.lemmas.Result.{on_ok_weaker}
use Rattle.std.specs.BTreeMap.{insert_entry}
use Rattle.std.specs.Ordering.{match_ordering}
use Rattle.std.specs.declared.cmp.Ordering.{Ordering}
use Rattle.std.specs.declared.cmp.Ordering.TheVariants.{Less, Equal, Greater}
use Rattle.std.proofs.lemmas.Bool.{and_from}
use Rattle.po_text.specs.Texts.{text_cmp}
use Rattle.units.specs.Limits.{is_lang}
use Rattle.units.specs.Orders.{text_total, text_IsAntisymmetric}
use Rattle.office_maps.proofs.MapEntries.{insert-mapped}
use Rattle.office_maps.proofs.Plans.{both_hold}
use Rattle.office_maps.proofs.languages.Languages.insert_under.Goals as goal

-- what holds of all keys, and of one more, holds of all keys then
all_keys-insert : {K X : Type 0} (p : K → Bool) (cmp : K → K → Ordering) (k : K) (v : X) (es : List (K × X)) → p k ≡ true → list_all (λ (e : K × X). p e.0) es ≡ true
    → list_all (λ (e : K × X). p e.0) (insert_entry cmp es k v) ≡ true
all_keys-insert {K} {X} p cmp k v [] own all = and_from (p k) true own refl
all_keys-insert {K} {X} p cmp k v (e ∷ es) own all =
    let parts = both_hold (p e.0) (list_all (λ (x : K × X). p x.0) es) all in
    elim (cmp k e.0) as (λ r. list_all (λ (x : K × X). p x.0) (match_ordering r ((k, v) ∷ e ∷ es) ((e.0, v) ∷ es) (e ∷ insert_entry cmp es k v)) ≡ true) [
      | Less ↦ and_from (p k) (list_all (λ (x : K × X). p x.0) (e ∷ es)) own all
      | Equal ↦ all
      | Greater ↦ and_from (p e.0) (list_all (λ (x : K × X). p x.0) (insert_entry cmp es k v)) parts.0 (all_keys-insert p cmp k v es own parts.1)
    ]

-- after a call that put an entry in, or left the entries as they were
all_keys-after : {T E K X : Type 0} (p : K → Bool) (r : Result T E) (old more new : List (K × X)) → OnOk r (new ≡ more) → OnErr r (new ≡ old)
    → list_all (λ (e : K × X). p e.0) old ≡ true → list_all (λ (e : K × X). p e.0) more ≡ true → list_all (λ (e : K × X). p e.0) new ≡ true
all_keys-after {K = K} {X = X} p (Ok x) old more new put same before after = ap (λ (es : List (K × X)). list_all (λ (e : K × X). p e.0) es) put ∙ after
all_keys-after {K = K} {X = X} p (Err x) old more new put same before after = ap (λ (es : List (K × X)). list_all (λ (e : K × X). p e.0) es) same ∙ before

pub invariant_of-self : goal.invariant_of-self
invariant_of-self c = record {
  coded = all_keys-after (λ k. is_lang (string_bytes k)) c.put_in.result c.args.self.now.rows.entries
      (insert_entry (λ x y. text_cmp (string_bytes x) (string_bytes y)) c.args.self.now.rows.entries c.args.own c.args.language) c.put_in.new.map.entries
      c.put_in.ensures.ok c.put_in.ensures.err c.args.self.now.coded
      (all_keys-insert (λ k. is_lang (string_bytes k)) (λ x y. text_cmp (string_bytes x) (string_bytes y)) c.args.own c.args.language c.args.self.now.rows.entries
      c.requires c.args.self.now.coded);
}

pub returns-clause-ok : goal.returns-clause-ok
returns-clause-ok c =
    on_ok_weaker c.put_in.result (insert-mapped text_cmp string_bytes (λ language. language.header) text_total text_IsAntisymmetric c.args.self.now.rows c.put_in.new.map c.args.own c.args.language) c.put_in.ensures.ok
