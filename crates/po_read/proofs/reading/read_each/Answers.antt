use Rattle.std.proofs.Common.{◌≤◌, length, List, refl, subst, inl, arith}
use Rattle.std.proofs.lemmas.Result.{err_from_is_err_and}
use Rattle.po_text.specs.declared.entry.Entry.{Entry}
use Rattle.po_read.specs.Plain.{entries_of}
use Rattle.po_read.proofs.Answered.{is_no_text, told_of, read_of, memory_line, memory_then, same_catalogue}
use Rattle.po_read.proofs.reading.read_each.Goals as goal

pub returns-in_err-read_text-in-Ok-clause-spelled : goal.returns-in_err-read_text-in-Ok-clause-spelled
returns-in_err-read_text-in-Ok-clause-spelled g c =
    let small : length c.args.bytes.now ≤ 16777216 = omega arith in
    let p = err_from_is_err_and c.from_residual.result c.from_residual.ensures.1 in
    rw (p.1, p.2) (memory_then c.args.bytes.now c.in_err-read_text-in-Ok.field-0.0 (told_of c.args.bytes.now c.in-Ok.text.now c.in_err-read_text-in-Ok.field-0.0 c.in-Ok.ensures.cases small c.in_err-read_text-in-Ok.ensures.err))

pub returns-in_err-read_text-in-Ok-clause-fault : goal.returns-in_err-read_text-in-Ok-clause-fault
returns-in_err-read_text-in-Ok-clause-fault g c =
    let small : length c.args.bytes.now ≤ 16777216 = omega arith in
    let p = err_from_is_err_and c.from_residual.result c.from_residual.ensures.1 in
    rw (p.1, p.2) (told_of c.args.bytes.now c.in-Ok.text.now c.in_err-read_text-in-Ok.field-0.0 c.in-Ok.ensures.cases small c.in_err-read_text-in-Ok.ensures.err)

pub returns-in_err-read_text-in-Ok-clause-memory : goal.returns-in_err-read_text-in-Ok-clause-memory
returns-in_err-read_text-in-Ok-clause-memory g c =
    let small : length c.args.bytes.now ≤ 16777216 = omega arith in
    let p = err_from_is_err_and c.from_residual.result c.from_residual.ensures.1 in
    rw (p.1, p.2) (λ m. memory_line c.args.bytes.now c.in-Ok.text.now c.in_err-read_text-in-Ok.field-0.0.line c.in-Ok.ensures.cases small (c.in_err-read_text-in-Ok.ensures.memory m))

pub returns-in_ok-read_text-in-Ok-clause-catalogue : goal.returns-in_ok-read_text-in-Ok-clause-catalogue
returns-in_ok-read_text-in-Ok-clause-catalogue g c =
    let small : length c.args.bytes.now ≤ 16777216 = omega arith in
    let told = c.in_ok-read_text-in-Ok.ensures.ok in
    let read = read_of c.args.bytes.now c.in-Ok.text.now (entries_of c.in-Ok.text.now) c.in-Ok.ensures.cases small (told.0, refl) in
    (entries_of c.in-Ok.text.now, read.0, read.1, told.1)

pub returns-in_ok-read_text-in-Ok-clause-spelled : goal.returns-in_ok-read_text-in-Ok-clause-spelled
returns-in_ok-read_text-in-Ok-clause-spelled g c =
    let small : length c.args.bytes.now ≤ 16777216 = omega arith in
    let told = c.in_ok-read_text-in-Ok.ensures.ok in
    let read = read_of c.args.bytes.now c.in-Ok.text.now (entries_of c.in-Ok.text.now) c.in-Ok.ensures.cases small (told.0, refl) in
    λ other s w. subst (λ (es : List Entry). g.S.ReadSink.Took c.args.sink es c.read_text.new.sink) (same_catalogue c.args.bytes.now (entries_of c.in-Ok.text.now) other read.0 s) told.1

pub returns-in-Err-clause-fault : goal.returns-in-Err-clause-fault
returns-in-Err-clause-fault g c =
    let small : length c.args.bytes.now ≤ 16777216 = omega arith in
    inl (is_no_text c.args.bytes.now small c.in-Err.ensures.cases.0)
