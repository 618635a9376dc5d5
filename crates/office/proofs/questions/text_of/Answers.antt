use Rattle.std.proofs.Common.{rules}
use Rattle.office.proofs.questions.text_of.Goals as goal

pub returns-in-None-clause-faults : goal.returns-in-None-clause-faults
returns-in-None-clause-faults c = search rules
