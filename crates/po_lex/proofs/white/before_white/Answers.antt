use Rattle.std.proofs.Common.{◌∙◌, ap, refl}
use Rattle.po_lex.specs.Reading.{drop_white_end}
use Rattle.po_lex.proofs.SliceLemmas.{end_white, tab_before}
use Rattle.po_lex.proofs.white.before_white.Goals as goal

pub returns-in-Some-clause-front : goal.returns-in-Some-clause-front
returns-in-Some-clause-front c = ap drop_white_end c.in-Some.ensures ∙ end_white c.in-Some.front.now 32 refl

pub returns-in-None-clause-front : goal.returns-in-None-clause-front
returns-in-None-clause-front c = tab_before c.args.text.now c.before-in-None.result c.in-None.ensures c.before-in-None.ensures
