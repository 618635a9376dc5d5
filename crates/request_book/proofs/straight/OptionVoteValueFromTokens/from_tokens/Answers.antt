use Rattle.std.proofs.Common.{◌≡◌, ℕ, ◌∷◌, List, sym, ap, ◌∙◌, rules}
use Rattle.std.specs.Prelude.{codes}
use Rattle.json.specs.Token.{number}
use Rattle.request_book.proofs.TokenReads.{zero_digits, one_digits}
use Rattle.request_book.proofs.straight.OptionVoteValueFromTokens.from_tokens.Goals as goal

pub returns-in-text-clause-tokens : goal.returns-in-text-clause-tokens
returns-in-text-clause-tokens c =
    let read : c.in_ok-digits_in.field-0.now ≡ codes "0" = search rules in
    c.in_ok-digits_in.ensures ∙ ap (λ (t : List ℕ). number t ∷ c.digits_in.new.reader) (read ∙ sym zero_digits)

pub returns-in-text-2-clause-tokens : goal.returns-in-text-2-clause-tokens
returns-in-text-2-clause-tokens c =
    let read : c.in_ok-digits_in.field-0.now ≡ codes "1" = search rules in
    c.in_ok-digits_in.ensures ∙ ap (λ (t : List ℕ). number t ∷ c.digits_in.new.reader) (read ∙ sym one_digits)

pub returns-in-text-3-clause-tokens : goal.returns-in-text-3-clause-tokens
returns-in-text-3-clause-tokens c =
    let read : c.in_ok-digits_in.field-0.now ≡ codes "-1" = search rules in
    c.in_ok-digits_in.ensures ∙ ap (λ (t : List ℕ). number t ∷ c.digits_in.new.reader) (read ∙ sym (ap (λ (ds : List ℕ). 45 ∷ ds) one_digits))
