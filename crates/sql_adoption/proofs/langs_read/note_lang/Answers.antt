use Rattle.std.proofs.Common.{rules, ◌≡◌, [], ◌∷◌, ◌++◌, refl, sym, ap, ◌∙◌}
use Rattle.std.specs.List.{list_any}
use Rattle.po_text.specs.Texts.{text_eq}
use Rattle.sql_adoption.proofs.Langs.{noted_before, noted_now}
use Rattle.sql_adoption.proofs.langs_read.note_lang.Goals as goal

pub returns-then-contains : goal.returns-then-contains
returns-then-contains c =
    let langs = c.args.langs.now.items in
    noted_before c.args.lang langs langs refl
    (ap (list_any (λ y. text_eq y c.args.lang)) (sym c.as_slice.ensures.value) ∙ sym c.contains.ensures.value ∙ c.if-contains.true)

pub returns : goal.returns
returns c =
    let pushed : c.push.new.self.items ≡ c.args.langs.now.items ++ c.args.lang ∷ [] = search rules in
    noted_now c.args.lang c.args.langs.now.items c.push.new.self.items pushed
