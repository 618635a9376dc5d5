use Rattle.std.proofs.Common.{◌≡◌, [], ◌∷◌, ◌++◌, unwrap_or, string_bytes, refl, ap, ◌∙◌}
use Rattle.sql_decoding.specs.TablesRead.{by_texts, two_bytes, suggestions_of}
use Rattle.sql_loading.proofs.PutAnew.{put_stepped}
use Rattle.sql_loading.proofs.TwoTexts.{by_texts_total, by_texts_IsAntisymmetric}
use Rattle.sql_loading.proofs.unit_tables.put_behind.Goals.{in-Some, in-None}
use Rattle.sql_loading.proofs.unit_tables.put_behind.Goals as goal

pub returns : goal.returns
returns c = λ lang key.
    let own = c.args.unit in
    let was : c.match-remove.own ≡ suggestions_of c.args.all.now (string_bytes own.0) (string_bytes own.1) =
    elim c.match-remove.branch [
      | in-Some w ↦ w.own-is ∙ ap (λ o. unwrap_or o []) w.in-Some.ensures.value
      | in-None w ↦ w.own-is ∙ w.new-own.ensures ∙ ap (λ o. unwrap_or o []) w.in-None.ensures.value
    ] in
    put_stepped by_texts by_texts_total by_texts_IsAntisymmetric two_bytes c.args.all.now c.remove.new.self c.insert.new.self (two_bytes own) own c.push.new.self refl
    c.remove.ensures.entries c.remove.ensures.updates.1 c.in_ok-insert.ensures.entries [] (λ all. all ++ c.args.suggestion ∷ [])
    (c.in_ok-push.ensures.ok ∙ ap (λ all. all ++ c.args.suggestion ∷ []) was) (lang, key)
