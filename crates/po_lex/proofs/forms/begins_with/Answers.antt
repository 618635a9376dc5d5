use Rattle.std.proofs.lemmas.Str.Pattern.{starts_char}
use Rattle.po_lex.proofs.SliceLemmas.{first_tested}
use Rattle.po_lex.proofs.forms.begins_with.Goals as goal

pub returns : goal.returns
returns c =
    first_tested c.args.mark c.args.text.now c.starts_with.result c.requires.some
    (starts_char c.args.mark c.args.text.now c.starts_with.result c.starts_with.ensures.cases c.requires.ascii c.requires.some)
