use Rattle.request_book.proofs.TokenReads.{number_tokens, number_fits}
use Rattle.request_book.proofs.straight.UuidFromTokens.from_tokens.Goals as goal

pub returns-clause-tokens : goal.returns-clause-tokens
returns-clause-tokens c = number_tokens c.in_ok-text.text.now c.number_in.result c.args.reader.now c.text_in.new.reader c.in_ok-text.ensures c.number_in.ensures

pub returns-clause-fits : goal.returns-clause-fits
returns-clause-fits c = number_fits c.in_ok-text.text.now c.number_in.result c.number_in.ensures
