use Rattle.std.proofs.Common.{◌≡◌, [], ◌∷◌, ◌++◌, ap, ◌∙◌, append_assoc}
use Rattle.std.specs.Prelude.{codes}
use Rattle.std.proofs.lemmas.Result.{on_ok_weaker}
use Rattle.json.specs.Token.{key, string}
use Rattle.po_text.specs.Texts.{Text}
use Rattle.request_book.specs.Words.{number_text}
use Rattle.outcomes.proofs.values.put_suggestion.Goals as goal

pub returns-clause-value : goal.returns-clause-value
returns-clause-value c =
    let tokens = c.args.out.now.tokens in
    let written = c.encode_lower-written.result.now in
    let named : c.key.new.self.tokens ≡ tokens ++ key (codes "suggestion") ∷ [] = rw c.in_ok-key.was at c.key.ensures.ok in
    on_ok_weaker c.string.result
    (λ put. put ∙ ap (λ ts. ts ++ string written ∷ []) named ∙ append_assoc tokens (key (codes "suggestion") ∷ []) (string written ∷ [])
    ∙ ap (λ (t : Text). tokens ++ key (codes "suggestion") ∷ string t ∷ []) (c.encode_lower-written.ensures.text ∙ ap number_text c.hyphenated.ensures))
    c.string.ensures.ok
