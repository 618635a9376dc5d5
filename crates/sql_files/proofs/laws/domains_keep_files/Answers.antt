use Rattle.sql_files.proofs.DomainKept.{domain_keeps}
use Rattle.sql_files.proofs.laws.domains_keep_files.Goals as goal

pub returns : goal.returns
returns c = domain_keeps
