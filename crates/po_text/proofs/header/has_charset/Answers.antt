use Rattle.std.proofs.Common.{◌≡◌, Some, None, codes, sym, ◌∙◌, ap}
use Rattle.std.specs.Option.{option_copied}
use Rattle.po_lex.specs.Reading.{trim}
use Rattle.po_text.specs.Header.{all_of, after_word, up_to_semicolon, is_charset, field_value, has_charset}
use Rattle.po_text.proofs.header.has_charset.Goals as goal

pub returns-in-Some : goal.returns-in-Some
unfolding has_charset
returns-in-Some c =
    let value : Some c.in-Some.value.now ≡ field_value (codes "Content-Type") c.args.header.now = sym (ap option_copied c.in-Some.is) ∙ c.field_value.ensures in
    c.names_charset.ensures ∙ ap (all_of (λ value. all_of (λ rest. is_charset (trim (up_to_semicolon rest))) (after_word (codes "charset=") value))) value

pub returns-in-None : goal.returns-in-None
unfolding has_charset
returns-in-None c =
    let value : None ≡ field_value (codes "Content-Type") c.args.header.now = sym (ap option_copied c.in-None.is) ∙ c.field_value.ensures in
    ap (all_of (λ value. all_of (λ rest. is_charset (trim (up_to_semicolon rest))) (after_word (codes "charset=") value))) value
