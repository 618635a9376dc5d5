use Rattle.std.proofs.Common.{lit<}
use Rattle.std.proofs.lemmas.Str.Pattern.{split_parts}
use Rattle.po_text.proofs.Charsets.{semicolon_cut, semicolon_none}
use Rattle.po_text.proofs.header.up_to_semicolon.Goals as goal

pub returns-in-Some : goal.returns-in-Some
returns-in-Some c =
    let parts = split_parts 59 c.args.text.now c.split_once.result c.split_once.ensures.cases (lit< tt) in
    semicolon_cut c.args.text.now c.in-Some.front.now _ (rw c.in-Some.is at parts)

pub returns-in-None : goal.returns-in-None
returns-in-None c =
    let parts = split_parts 59 c.args.text.now c.split_once.result c.split_once.ensures.cases (lit< tt) in
    semicolon_none c.args.text.now (rw c.in-None.is at parts)
