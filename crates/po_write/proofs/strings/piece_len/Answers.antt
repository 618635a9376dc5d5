use Rattle.std.proofs.Common.{Option, ℕ, subst, arith}
use Rattle.memchr.specs.Find.{IsFirstByte, is_byte}
use Rattle.po_write.proofs.Pieces.{lf_place, lf_nowhere}
use Rattle.po_write.proofs.strings.piece_len.Goals as goal

pub overflow_add-result : goal.overflow_add-result
overflow_add-result c =
    let found = subst (λ (o : Option ℕ). IsFirstByte (is_byte 10) c.args.text.now o) c.in-Some.is c.memchr.ensures in
    omega (arith, found.0.high)

pub returns-in-Some-clause-some : goal.returns-in-Some-clause-some
returns-in-Some-clause-some c = (lf_place c.args.text.now c.in-Some.before (subst (λ (o : Option ℕ). IsFirstByte (is_byte 10) c.args.text.now o) c.in-Some.is c.memchr.ensures)).some

pub returns-in-Some-clause-before : goal.returns-in-Some-clause-before
returns-in-Some-clause-before c = (lf_place c.args.text.now c.in-Some.before (subst (λ (o : Option ℕ). IsFirstByte (is_byte 10) c.args.text.now o) c.in-Some.is c.memchr.ensures)).before

pub returns-in-Some-clause-last : goal.returns-in-Some-clause-last
returns-in-Some-clause-last c = (lf_place c.args.text.now c.in-Some.before (subst (λ (o : Option ℕ). IsFirstByte (is_byte 10) c.args.text.now o) c.in-Some.is c.memchr.ensures)).last

pub returns-in-Some-clause-within : goal.returns-in-Some-clause-within
returns-in-Some-clause-within c = (lf_place c.args.text.now c.in-Some.before (subst (λ (o : Option ℕ). IsFirstByte (is_byte 10) c.args.text.now o) c.in-Some.is c.memchr.ensures)).within

pub returns-in-None-clause-before : goal.returns-in-None-clause-before
returns-in-None-clause-before c = (lf_nowhere c.args.text.now (subst (λ (o : Option ℕ). IsFirstByte (is_byte 10) c.args.text.now o) c.in-None.is c.memchr.ensures)).before
