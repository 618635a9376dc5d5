use Rattle.po_text.specs.Strings.{is_forms}
use Rattle.request_book.proofs.TokenReads.{passed_list, all_strings}
use Rattle.request_book.proofs.straight.FormsFromTokens.from_tokens.Goals as goal

pub try_new-requires : goal.try_new-requires
try_new-requires c = all_strings c.in_ok-strings.strings.items c.in_ok-strings.ensures.fits

pub returns-clause-tokens : goal.returns-clause-tokens
returns-clause-tokens c = passed_list is_forms c.in_ok-strings.strings.items c.try_new.result c.args.reader.now c.items_in.new.reader c.in_ok-strings.ensures.tokens c.try_new.ensures
