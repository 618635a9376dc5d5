use Rattle.std.proofs.Common.{◌≡◌, [], ◌∷◌, ◌++◌, map, take, ap, ◌∙◌, rules}
use Rattle.std.proofs.lemmas.Result.{on_ok_weaker}
use Rattle.json.specs.Token.{begin_array, end_array, key, string}
use Rattle.request_book.proofs.TokenLemmas.{all_added}
use Rattle.request_book.proofs.written.put_texts.Goals as goal

pub returns-clause-value : goal.returns-clause-value
returns-clause-value c =
    let texts = c.args.texts.now in
    let i = c.loop-text.text-index in
    let begun : c.begin_array.new.self.tokens ≡ (c.args.out.now.tokens ++ key c.args.key.now ∷ []) ++ begin_array ∷ [] = search rules in
    let so_far = c.loop-text.invariant.tokens ∙ ap (λ o. o ++ map string (take i texts)) begun in
    on_ok_weaker c.end_array.result (λ e. e ∙ ap (λ ts. ts ++ end_array ∷ []) so_far ∙ all_added c.args.out.now.tokens c.args.key.now texts i c.loop-text-test.false) c.end_array.ensures.ok
