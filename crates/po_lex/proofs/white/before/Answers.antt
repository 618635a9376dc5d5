use Rattle.std.proofs.lemmas.Str.Pattern.{strip_suffix_char}
use Rattle.po_lex.proofs.white.before.Goals as goal

pub returns : goal.returns
returns c = strip_suffix_char c.args.mark c.args.text.now c.strip_suffix.result c.strip_suffix.ensures.cases c.requires
