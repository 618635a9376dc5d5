-- What an office act comes to, as the program tells it, beside the definition's step. This project's own words, for inner functions.
use Rattle.std.specs.Prelude.{◌≡◌, List, None, Result, Ok, Err}
use Rattle.po_lex.specs.declared.fault.PoFault.{PoFault}
use Rattle.po_read.specs.Faults.{Fault}
use Rattle.po_text.specs.declared.entry.Entry.{Entry}
use Rattle.units.specs.Project.{Project}
use Rattle.units.specs.Office.{Office}
use Rattle.request_book.specs.Replies.{Reply}
use Rattle.outcomes.specs.declared.outcome.DomainOutcome.{DomainOutcome}
use Rattle.outcomes.specs.declared.outcome.OfficeOutcome.{OfficeOutcome}
use Rattle.replies.specs.Bodies.{Stepped}
use Rattle.office_specification.specs.OfficeChanges.{changed_project_by, IsPossibleChangeIn, changed_by, IsPossibleChange}

-- the project and the reply are those of the step, and the change can be made
pub record IsSettledIn (project : Project) (outcome : DomainOutcome) (stepped : Stepped Project) : Type 0 where
  pub is : ◌≡◌ {A = Stepped Project} (changed_project_by project outcome.change, outcome.reply) stepped
  pub possible : IsPossibleChangeIn project outcome.change

-- the same of the office
pub record IsSettled (office : Office) (outcome : OfficeOutcome) (stepped : Stepped Office) : Type 0 where
  pub is : ◌≡◌ {A = Stepped Office} (changed_by office outcome.change, outcome.reply) stepped
  pub possible : IsPossibleChange office outcome.change

-- nothing changes
abbrev pub no_change : Reply → DomainOutcome
no_change reply = record { change = None; reply = reply }

abbrev pub without_change : Reply → OfficeOutcome
without_change reply = record { change = None; reply = reply }

-- what was read of a text, its fault as a line and a kind
abbrev pub told : Result (List Entry) PoFault → Result (List Entry) Fault
told (Ok entries) = Ok entries
told (Err fault) = Err (fault.line, fault.kind)
