-- What the writer holds is the object's text.
use Rattle.std.proofs.Common.{◌≡◌, [], ◌∷◌, ◌++◌, false, None, sym, ap, ◌∙◌, subst, rules}
use Rattle.std.specs.Prelude.{IsUtf8}
use Rattle.json.specs.Token.{begin_object, end_object}
use Rattle.json.specs.Print.{print}
use Rattle.request_book.specs.Acts.{fields_of}
use Rattle.request_book.specs.Tokens.{body_tokens}
use Rattle.request_book.proofs.TokenLemmas.{print_body}
use Rattle.request_book.proofs.written.act_bytes.Goals as goal

pub returns-clause-value : goal.returns-clause-value
returns-clause-value c =
    let out = c.end_object.new.self in
    let fields = (fields_of false None None c.args.act.now) in
    let before : out.before ≡ [] = search rules in
    let tokens : out.tokens ≡ ((begin_object ∷ []) ++ body_tokens fields) ++ end_object ∷ [] = search rules in
    c.into_inner.ensures.items ∙ ap (λ b. b ++ print out.tokens) before ∙ print_body fields out.tokens tokens

pub returns-clause-utf8 : goal.returns-clause-utf8
returns-clause-utf8 c =
    let out = c.end_object.new.self in
    let before : out.before ≡ [] = search rules in
    subst IsUtf8 (sym (c.into_inner.ensures.items ∙ ap (λ b. b ++ print out.tokens) before)) c.into_inner.ensures.utf8
