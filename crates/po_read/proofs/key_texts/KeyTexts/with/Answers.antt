use Rattle.std.proofs.Common.{◌≡◌, ◌++◌, ◌∷◌, [], ℕ, List, map, length, sym, ◌∙◌, ap, subst, arith}
use Rattle.std.specs.List.{AllByRecursion}
use Rattle.po_text.specs.declared.key.EntryKey.{EntryKey}
use Rattle.po_read.specs.Found.{key_at_hand}
use Rattle.po_read.specs.KeyTexts.{key_at_place, IsPlaced}
use Rattle.po_read.specs.declared.place.Place.{Place}
use Rattle.po_read.proofs.KeyPlaces.{keys_added, placed_added}
use Rattle.po_read.proofs.key_texts.KeyTexts.with.Goals as goal

pub invariant_of-result : goal.invariant_of-result
invariant_of-result c =
    let bytes = c.self.inside.bytes.items in
    let grown = c.extend_from_slice.new.self.items in
    let all = c.add.new.bytes.items in
    let place : Place = record { start = c.in_ok-start.start; end = c.in_ok-end.end; ctx_end = c.in_ok-ctx_end.ctx_end } in
    let start : c.in_ok-start.start ≡ length bytes = c.in_ok-start.ensures ∙ omega (arith, c.len.ensures) in
    let end : c.in_ok-end.end ≡ length grown = c.in_ok-end.ensures ∙ omega (arith, c.len-2.ensures) in
    let grows : grown ≡ bytes ++ c.args.id.now = c.in_ok-extend_from_slice.ensures.items ∙ ap (λ (t : List ℕ). bytes ++ t) (c.as_bytes.ensures.value ∙ c.as_str.ensures.value) in
    subst (λ (ps : List Place). AllByRecursion (IsPlaced (length all)) ps) (sym c.in_ok-push.ensures.items)
    (placed_added bytes grown all c.self.inside.places.items place c.args.ctx.now c.args.id.now c.self.invariant start grows end c.in_ok-ctx_end.ensures.bytes c.in_ok-ctx_end.ensures.end)

pub returns : goal.returns
returns c =
    let bytes = c.self.inside.bytes.items in
    let grown = c.extend_from_slice.new.self.items in
    let all = c.add.new.bytes.items in
    let place : Place = record { start = c.in_ok-start.start; end = c.in_ok-end.end; ctx_end = c.in_ok-ctx_end.ctx_end } in
    let start : c.in_ok-start.start ≡ length bytes = c.in_ok-start.ensures ∙ omega (arith, c.len.ensures) in
    let end : c.in_ok-end.end ≡ length grown = c.in_ok-end.ensures ∙ omega (arith, c.len-2.ensures) in
    let grows : grown ≡ bytes ++ c.args.id.now = c.in_ok-extend_from_slice.ensures.items ∙ ap (λ (t : List ℕ). bytes ++ t) (c.as_bytes.ensures.value ∙ c.as_str.ensures.value) in
    ap (map (key_at_place all)) c.in_ok-push.ensures.items
    ∙ keys_added bytes grown all c.self.inside.places.items place c.args.ctx.now c.args.id.now c.self.invariant start grows end c.in_ok-ctx_end.ensures.bytes c.in_ok-ctx_end.ensures.end
    ∙ ap (λ (ks : List EntryKey). ks ++ key_at_hand c.args.ctx.now c.args.id.now ∷ []) c.self.view_is
