use Rattle.sql_files.proofs.LanguageKept.{language_keeps}
use Rattle.sql_files.proofs.laws.languages_keep_files.Goals as goal

pub returns : goal.returns
returns c = language_keeps
