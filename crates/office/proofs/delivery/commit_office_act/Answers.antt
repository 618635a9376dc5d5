use Rattle.std.proofs.Common.{rules}
use Rattle.office.proofs.delivery.commit_office_act.Goals as goal

pub commit_office-requires-clause-new : goal.commit_office-requires-clause-new
commit_office-requires-clause-new g c = search rules

pub commit_office-requires-clause-rules : goal.commit_office-requires-clause-rules
commit_office-requires-clause-rules g c = search rules

pub returns-clause-done : goal.returns-clause-done
returns-clause-done g c = search rules

pub returns-clause-kept : goal.returns-clause-kept
returns-clause-kept g c = search rules
