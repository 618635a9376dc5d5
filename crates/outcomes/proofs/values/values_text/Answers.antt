-- What the writer holds is the body.
use Rattle.std.proofs.Common.{◌≡◌, [], ◌∷◌, ◌++◌, sym, ap, ◌∙◌, subst, rules}
use Rattle.std.specs.Prelude.{IsUtf8}
use Rattle.json.specs.Token.{begin_object, end_object}
use Rattle.json.specs.Print.{print}
use Rattle.replies.specs.Bodies.{value_fields}
use Rattle.outcomes.specs.ValueTokens.{tokens_of}
use Rattle.outcomes.proofs.ValueTexts.{print_values}
use Rattle.outcomes.proofs.values.values_text.Goals as goal

pub text_of-requires : goal.text_of-requires
text_of-requires c =
    let out = c.end_object.new.self in
    let before : out.before ≡ [] = search rules in
    subst IsUtf8 (sym (c.into_inner.ensures.items ∙ ap (λ b. b ++ print out.tokens) before)) c.into_inner.ensures.utf8

pub returns : goal.returns
returns c =
    let out = c.end_object.new.self in
    let before : out.before ≡ [] = search rules in
    let tokens : out.tokens ≡ ((begin_object ∷ []) ++ tokens_of (value_fields c.args.values)) ++ end_object ∷ [] = search rules in
    c.text_of.ensures ∙ c.into_inner.ensures.items ∙ ap (λ b. b ++ print out.tokens) before ∙ print_values c.args.values out.tokens tokens
