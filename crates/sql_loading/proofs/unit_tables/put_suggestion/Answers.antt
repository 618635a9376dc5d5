use Rattle.std.proofs.Common.{[], ◌∷◌, ◌++◌, cond, ap, ◌∙◌}
use Rattle.std.specs.Ordering.{is_eq}
use Rattle.sql_schema.specs.Keys.{text_at}
use Rattle.sql_decoding.specs.TablesRead.{by_texts, suggestions_of, with_own_votes}
use Rattle.sql_loading.proofs.TwoTexts.{texts_tie}
use Rattle.sql_loading.proofs.unit_tables.put_suggestion.Goals as goal

pub returns-clause-shown : goal.returns-clause-shown
returns-clause-shown c = λ lang key.
    let row = c.args.row.now in
    let unit = c.in_ok-unit.unit in
    let was = suggestions_of c.args.all.now lang key in
    c.in_ok-put_behind.ensures lang key
    ∙ (λ i. cond (is_eq (by_texts (lang, key) (c.in_ok-unit.ensures.lang i, c.in_ok-unit.ensures.key i))) (was ++ c.in_ok-suggestion.ensures.shown i ∷ []) was)
    ∙ ap (λ b. cond b (was ++ with_own_votes c.args.votes.now row ∷ []) was) (texts_tie lang key (text_at 4 row) (text_at 5 row))
