use Rattle.sql_files.proofs.TemplateKept.{template_keeps}
use Rattle.sql_files.proofs.laws.templates_keep_files.Goals as goal

pub returns : goal.returns
returns c = template_keeps
