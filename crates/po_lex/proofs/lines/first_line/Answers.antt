use Rattle.std.proofs.Common.{◌≡◌, ◌<◌, ◌-◌, length, take, Option, ℕ, ◌∙◌, ap, subst, arith}
use Rattle.std.proofs.lemmas.Bool.Decides.{nat_tests}
use Rattle.std.proofs.lemmas.Str.{IsCharBoundary-after_ascii}
use Rattle.memchr.specs.Find.{IsFirstByte, is_byte}
use Rattle.po_lex.proofs.SliceLemmas.{no_lines, lf_found, lf_ends, lf_nowhere}
use Rattle.po_lex.proofs.lines.first_line.Goals as goal

pub returns-then-is_empty-clause-cut : goal.returns-then-is_empty-clause-cut
returns-then-is_empty-clause-cut c =
    let none : length c.args.text.now ≡ 0 = grind (arith, nat_tests) in
    no_lines c.args.text.now none

pub range_from-requires : goal.range_from-requires
range_from-requires c =
    let here = subst (λ t. IsFirstByte (is_byte 10) t c.memchr.result) c.as_bytes.ensures.value c.memchr.ensures in
    let found = subst (λ (o : Option ℕ). IsFirstByte (is_byte 10) c.args.text.now o) c.in-Some.is here in
    λ _. IsCharBoundary-after_ascii c.args.text.now c.in-Some.len c.utf8.text found.0.high (lf_ends c.args.text.now c.in-Some.len found)

pub returns-in-Some-clause-cut : goal.returns-in-Some-clause-cut
returns-in-Some-clause-cut c =
    let here = subst (λ t. IsFirstByte (is_byte 10) t c.memchr.result) c.as_bytes.ensures.value c.memchr.ensures in
    let found = subst (λ (o : Option ℕ). IsFirstByte (is_byte 10) c.args.text.now o) c.in-Some.is here in
    let front : c.range.result.now ≡ take c.in-Some.len c.args.text.now = c.range.ensures.value ∙ ap (λ k. take k c.args.text.now) (let e : c.in-Some.len - 0 ≡ c.in-Some.len = omega arith in e) in
    rw (front, c.range_from.ensures.value) (lf_found c.args.text.now c.in-Some.len found)

pub returns-in-None-clause-cut : goal.returns-in-None-clause-cut
returns-in-None-clause-cut c =
    let here = subst (λ t. IsFirstByte (is_byte 10) t c.memchr.result) c.as_bytes.ensures.value c.memchr.ensures in
    let nowhere = subst (λ (o : Option ℕ). IsFirstByte (is_byte 10) c.args.text.now o) c.in-None.is here in
    let some : 0 < length c.args.text.now = grind (arith, nat_tests) in
    lf_nowhere c.args.text.now some nowhere
