use Rattle.std.proofs.Common.{lit<, ◌≡◌, Some, codes, ◌∙◌, ap}
use Rattle.po_lex.specs.Reading.{trim}
use Rattle.po_text.specs.Header.{all_of, after_word, up_to_semicolon, is_charset}
use Rattle.po_text.proofs.Charsets.{no_word, word_found}
use Rattle.po_text.proofs.header.names_charset.Goals as goal

pub returns-in-Some : goal.returns-in-Some
returns-in-Some c =
    let cut = rw c.in-Some.is at c.split_once.ensures.cases in
    let found = word_found (codes "charset=") c.args.value.now cut.0 cut.1 (lit< tt) cut.2.0 cut.2.1.split cut.2.1.ends in
    let rest : Some c.in-Some.rest.now ≡ after_word (codes "charset=") c.args.value.now = ap Some cut.4 ∙ found in
    c.is_charset.ensures ∙ ap is_charset (c.trim.ensures ∙ ap trim c.up_to_semicolon.ensures) ∙ ap (all_of (λ rest. is_charset (trim (up_to_semicolon rest)))) rest

pub returns-in-None : goal.returns-in-None
returns-in-None c = ap (all_of (λ rest. is_charset (trim (up_to_semicolon rest)))) (no_word (codes "charset=") c.args.value.now (rw c.in-None.is at c.split_once.ensures.cases))
