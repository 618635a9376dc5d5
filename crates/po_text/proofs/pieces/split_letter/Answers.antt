use Rattle.std.proofs.Common.{◌≡◌, ℕ, ◌<◌, get_or, length, Some, None, sym, ◌∙◌, ap, subst}
use Rattle.std.specs.Option.{option_copied}
use Rattle.std.specs.List.{slice_get}
use Rattle.std.proofs.lemmas.Option.{slice_get_within, get_or_from_slice_get}
use Rattle.std.proofs.lemmas.Str.{lead_after_ascii}
use Rattle.po_lex.specs.Escapes.{meaning_of}
use Rattle.po_text.proofs.PieceCuts.{behind_nothing, behind_other, behind_letter}
use Rattle.po_text.proofs.pieces.split_letter.Goals as goal

pub returns-in_err-letter-clause-value : goal.returns-in_err-letter-clause-value
returns-in_err-letter-clause-value c =
    let none : slice_get c.args.text.now 0 ≡ None = ap (λ s. slice_get s 0) (sym c.as_bytes.ensures.value) ∙ sym c.first.ensures.value ∙ ap option_copied c.in_err-letter.was in
    rw c.from_residual.ensures (behind_nothing c.args.text.now none)

pub returns-in_err-character-clause-value : goal.returns-in_err-character-clause-value
returns-in_err-character-clause-value c =
    let some : slice_get c.args.text.now 0 ≡ Some c.in_ok-letter.field-0.now = ap (λ s. slice_get s 0) (sym c.as_bytes.ensures.value) ∙ sym c.first.ensures.value ∙ ap option_copied c.in_ok-letter.was in
    let none : meaning_of c.in_ok-letter.field-0.now ≡ None = sym c.meaning.ensures.value ∙ c.in_err-character.was in
    rw c.from_residual-in_err-character.ensures (behind_other c.args.text.now c.in_ok-letter.field-0.now some none)

pub range_from-requires : goal.range_from-requires
range_from-requires c =
    let some : slice_get c.args.text.now 0 ≡ Some c.in_ok-letter.field-0.now = ap (λ s. slice_get s 0) (sym c.as_bytes.ensures.value) ∙ sym c.first.ensures.value ∙ ap option_copied c.in_ok-letter.was in
    let within : 0 < length c.args.text.now = slice_get_within c.args.text.now 0 c.in_ok-letter.field-0.now some in
    let first : get_or c.args.text.now 0 0 ≡ c.in_ok-letter.field-0.now = get_or_from_slice_get c.args.text.now 0 c.in_ok-letter.field-0.now 0 some in
    let low : c.in_ok-letter.field-0.now < 128 = rw c.in_ok-character.was at c.meaning.ensures.letter in
    let ascii : get_or c.args.text.now 0 0 < 128 = subst (λ (n : ℕ). n < 128) (sym first) low in
    λ _. (within, λ more high. lead_after_ascii c.args.text.now 0 c.utf8.text ascii more high)

pub returns-clause-value : goal.returns-clause-value
returns-clause-value c =
    let some : slice_get c.args.text.now 0 ≡ Some c.in_ok-letter.field-0.now = ap (λ s. slice_get s 0) (sym c.as_bytes.ensures.value) ∙ sym c.first.ensures.value ∙ ap option_copied c.in_ok-letter.was in
    let is : meaning_of c.in_ok-letter.field-0.now ≡ Some c.in_ok-character.character = sym c.meaning.ensures.value ∙ c.in_ok-character.was in
    rw c.range_from.ensures.value (behind_letter c.args.text.now c.in_ok-letter.field-0.now c.in_ok-character.character some is)
