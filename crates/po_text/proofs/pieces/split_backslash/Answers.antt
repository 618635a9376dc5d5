use Rattle.std.proofs.Common.{◌≡◌, ◌-◌, take, Option, ℕ, ◌∙◌, ap, subst, arith}
use Rattle.std.proofs.lemmas.Str.{IsCharBoundary-after_ascii}
use Rattle.memchr.specs.Find.{IsFirstByte, is_byte}
use Rattle.po_text.proofs.PieceCuts.{backslash_found, backslash_low, no_backslash}
use Rattle.po_text.proofs.pieces.split_backslash.Goals as goal

pub returns-in_err-len-clause-cut : goal.returns-in_err-len-clause-cut
returns-in_err-len-clause-cut c =
    let here = subst (λ t. IsFirstByte (is_byte 92) t c.memchr.result) c.as_bytes.ensures.value c.memchr.ensures in
    rw c.from_residual.ensures (no_backslash c.args.raw.now (subst (λ (o : Option ℕ). IsFirstByte (is_byte 92) c.args.raw.now o) c.in_err-len.was here))

pub range_from-requires : goal.range_from-requires
range_from-requires c =
    let here = subst (λ t. IsFirstByte (is_byte 92) t c.memchr.result) c.as_bytes.ensures.value c.memchr.ensures in
    let found = subst (λ (o : Option ℕ). IsFirstByte (is_byte 92) c.args.raw.now o) c.in_ok-len.was here in
    λ _. IsCharBoundary-after_ascii c.args.raw.now c.in_ok-len.len c.utf8.raw found.0.high (backslash_low c.args.raw.now c.in_ok-len.len found)

pub returns-clause-cut : goal.returns-clause-cut
returns-clause-cut c =
    let here = subst (λ t. IsFirstByte (is_byte 92) t c.memchr.result) c.as_bytes.ensures.value c.memchr.ensures in
    let found = subst (λ (o : Option ℕ). IsFirstByte (is_byte 92) c.args.raw.now o) c.in_ok-len.was here in
    let front : c.range.result.now ≡ take c.in_ok-len.len c.args.raw.now = c.range.ensures.value ∙ ap (λ k. take k c.args.raw.now) (let e : c.in_ok-len.len - 0 ≡ c.in_ok-len.len = omega arith in e) in
    rw (front, c.range_from.ensures.value) (backslash_found c.args.raw.now c.in_ok-len.len found)
