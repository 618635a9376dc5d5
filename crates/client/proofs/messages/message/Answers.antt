use Rattle.std.proofs.Common.{◌∙◌, ap, List, ℕ}
use Rattle.client.specs.Messages.{message_of}
use Rattle.request_book.specs.Words.{number_text}
use Rattle.client.proofs.messages.message.Goals as goal

pub returns : goal.returns
returns c =
    let request = c.args.request.now in
    c.from_string.ensures ∙ (c.in_ok-text.ensures
    ∙ (ap (λ (n : List ℕ). message_of n c.as_str.result.now c.as_str-2.result.now) (c.encode_lower-number.ensures.text ∙ ap number_text c.hyphenated.ensures)
    ∙ (ap (λ (n : List ℕ). message_of (number_text request.number) n c.as_str-2.result.now) c.as_str.ensures.value
    ∙ ap (λ (n : List ℕ). message_of (number_text request.number) request.caller n) (c.as_str-2.ensures ∙ c.in_ok-body.ensures.value))))
