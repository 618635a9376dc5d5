use Rattle.std.proofs.Common.{sym, ◌∙◌, subst}
use Rattle.request_book.specs.Acts.{IsNumber}
use Rattle.http_api.proofs.NumberLemmas.{no_number, another_number, is_written, not_written}
use Rattle.http_api.proofs.posts.number_in.Goals as goal

pub returns-in_default-clause-none : goal.returns-in_default-clause-none
returns-in_default-clause-none c = no_number c.args.part.now (sym c.in_default.is ∙ c.parsed_number.ensures)

pub returns-then-eq-clause-some : goal.returns-then-eq-clause-some
returns-then-eq-clause-some c = (
  is_written c.args.part.now c.as_bytes-2.result.now c.in-Some.number c.hyphenated.result c.eq.result c.if-eq.true c.eq.ensures (c.as_bytes-2.ensures.value ∙ c.encode_lower-written.ensures.text) c.hyphenated.ensures,
  subst IsNumber c.as_bytes.ensures c.bytes_fit.ensures,
)

pub returns-else-eq-clause-none : goal.returns-else-eq-clause-none
returns-else-eq-clause-none c =
    another_number c.args.part.now c.in-Some.number (sym c.in-Some.is ∙ c.parsed_number.ensures)
    (not_written c.args.part.now c.as_bytes-2.result.now c.in-Some.number c.hyphenated.result c.eq.result c.if-eq.false c.eq.ensures (c.as_bytes-2.ensures.value ∙ c.encode_lower-written.ensures.text) c.hyphenated.ensures)
