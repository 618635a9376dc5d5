use Rattle.std.proofs.Common.{◌≡◌, ℕ, List, Some, length, refl, sym, ◌∙◌, ap, subst, arith}
use Rattle.std.specs.List.{slice_get}
use Rattle.std.proofs.lemmas.List.{length-map}
use Rattle.std.proofs.lemmas.Option.{slice_get_read}
use Rattle.po_text.specs.Entries.{same_key}
use Rattle.po_text.specs.declared.key.EntryKey.{EntryKey}
use Rattle.po_read.specs.Found.{pair_of}
use Rattle.po_read.specs.KeyTexts.{key_at_place, IsPlaced}
use Rattle.po_read.proofs.KeyPlaces.{placed_at, key_there}
use Rattle.po_read.proofs.key_texts.KeyTexts.is.Goals as goal

pub is_at-requires : goal.is_at-requires
is_at-requires c =
    let places = c.self.inside.places.items in
    let few : length places ≡ length c.args.self.now = sym (length-map places (key_at_place c.self.inside.bytes.items)) ∙ ap length c.self.view_is in
    let there : slice_get places c.args.number ≡ Some c.index.result.now = slice_get_read places (length places) c.args.number c.index.result.now refl (omega (arith, c.requires)) c.index.ensures in
    subst (λ (bytes : List ℕ). IsPlaced (length bytes) c.index.result.now) (sym c.as_slice.ensures.value) (placed_at (length c.self.inside.bytes.items) c.args.number places c.index.result.now c.self.invariant there)

pub returns : goal.returns
returns c = λ key is.
    let places = c.self.inside.places.items in
    let bytes = c.self.inside.bytes.items in
    let few : length places ≡ length c.args.self.now = sym (length-map places (key_at_place bytes)) ∙ ap length c.self.view_is in
    let there : slice_get places c.args.number ≡ Some c.index.result.now = slice_get_read places (length places) c.args.number c.index.result.now refl (omega (arith, c.requires)) c.index.ensures in
    let same : key ≡ key_at_place bytes c.index.result.now = key_there bytes c.args.number places c.index.result.now key there (ap (λ (ks : List EntryKey). slice_get ks c.args.number) c.self.view_is ∙ is) in
    c.is_at.ensures ∙ ap (λ (k : EntryKey). same_key (pair_of k) (c.args.ctx.now, c.args.id.now)) (ap (λ (bs : List ℕ). key_at_place bs c.index.result.now) c.as_slice.ensures.value ∙ sym same)
