use Rattle.std.proofs.lemmas.Str.Pattern.{strip_prefix_char}
use Rattle.po_lex.proofs.SliceLemmas.{behind_found}
use Rattle.po_lex.proofs.forms.behind.Goals as goal

pub returns : goal.returns
returns c = behind_found _ _ _ (strip_prefix_char c.args.mark c.args.text.now c.strip_prefix.result c.strip_prefix.ensures.cases c.requires)
