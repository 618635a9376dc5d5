use Rattle.std.proofs.Common.{lit<}
use Rattle.po_read.specs.Spells.{limits}
use Rattle.po_read.specs.Plain.{entries_of}
use Rattle.po_read.proofs.Accepts.{no_fault, plain_entries}
use Rattle.po_read.proofs.Passing.{spelled_passes}
use Rattle.po_read.proofs.laws.one_fault_or_catalogue.Goals as goal

pub returns-clause-law : goal.returns-clause-law
returns-clause-law c = λ bytes. (λ none. let a = no_fault limits bytes none in (entries_of bytes, a.spells, a.within), λ s. spelled_passes limits bytes s.0 (lit< tt) s.1 s.2)

pub returns-clause-plain : goal.returns-clause-plain
returns-clause-plain c = plain_entries
