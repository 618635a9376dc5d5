use Rattle.std.proofs.Common.{sym, ap, ◌∙◌}
use Rattle.po_read.specs.Plain.{reading_of}
use Rattle.po_read.specs.Spells.{limits}
use Rattle.outcomes.proofs.ReadTexts.{read_whole, told_fault}
use Rattle.outcomes.proofs.catalogue_text.read_text.Goals as goal

pub returns-in-Ok : goal.returns-in-Ok
returns-in-Ok c = ap (reading_of limits) (sym (c.as_bytes.ensures.value ∙ c.as_str.ensures)) ∙ read_whole c.as_bytes.result.now c.in-Ok.catalogue c.in-Ok.ensures.catalogue

pub returns-in_default : goal.returns-in_default
returns-in_default c =
    ap (reading_of limits) (sym (c.as_bytes.ensures.value ∙ c.as_str.ensures))
    ∙ told_fault c.as_bytes.result.now c.in-Err.fault c.in-Err.ensures.fault c.in_default.not-Memory
