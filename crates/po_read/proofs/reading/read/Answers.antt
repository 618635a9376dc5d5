use Rattle.std.proofs.Common.{List, sym, ◌∙◌, subst}
use Rattle.std.proofs.lemmas.Result.{err_from_is_err_and}
use Rattle.po_text.specs.declared.entry.Entry.{Entry}
use Rattle.po_read.specs.Spells.{Spells, IsWithin, limits}
use Rattle.po_read.proofs.Answered.{memory_then, same_catalogue, gathered}
use Rattle.po_read.proofs.reading.read.Goals as goal

pub returns-in_err-entries-clause-spelled : goal.returns-in_err-entries-clause-spelled
returns-in_err-entries-clause-spelled c =
    let p = err_from_is_err_and c.from_residual.result c.from_residual.ensures.1 in
    rw (p.1, p.2) (memory_then c.args.bytes.now c.in_err-entries.field-0.0 c.in_err-entries.ensures.fault)

pub returns-in_err-entries-clause-fault : goal.returns-in_err-entries-clause-fault
returns-in_err-entries-clause-fault c =
    let p = err_from_is_err_and c.from_residual.result c.from_residual.ensures.1 in
    rw (p.1, p.2) c.in_err-entries.ensures.fault

pub returns-in_err-entries-clause-memory : goal.returns-in_err-entries-clause-memory
returns-in_err-entries-clause-memory c =
    let p = err_from_is_err_and c.from_residual.result c.from_residual.ensures.1 in
    rw (p.1, p.2) c.in_err-entries.ensures.memory

pub new-requires-2 : goal.new-requires-2
new-requires-2 c = (gathered c.args.bytes.now c.new.result.items c.in_ok-entries.entries.items c.new.ensures.items c.in_ok-entries.ensures.catalogue).0.valid

pub returns-clause-catalogue : goal.returns-clause-catalogue
returns-clause-catalogue c =
    subst (λ (es : List Entry). Spells c.args.bytes.now es × IsWithin limits c.args.bytes.now es) (sym c.new-2.ensures)
    (gathered c.args.bytes.now c.new.result.items c.in_ok-entries.entries.items c.new.ensures.items c.in_ok-entries.ensures.catalogue)

pub returns-clause-spelled : goal.returns-clause-spelled
returns-clause-spelled c =
    let read = gathered c.args.bytes.now c.new.result.items c.in_ok-entries.entries.items c.new.ensures.items c.in_ok-entries.ensures.catalogue in
    λ other s w. c.new-2.ensures ∙ same_catalogue c.args.bytes.now c.in_ok-entries.entries.items other read.0 s
