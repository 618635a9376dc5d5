-- What a list of entries took stands behind those that it had: this project's own words.
use Rattle.std.specs.Prelude.{◌≡◌, List, [], ◌++◌}
use Rattle.std.proofs.Common.{sym, ap, ◌∙◌, append-nil, append_assoc}
use Rattle.po_text.specs.declared.entry.Entry.{Entry}

pub took_none : (es : List Entry) → es ≡ es ++ []
took_none es = sym (append-nil es)

pub took_more : (a b c xs ys : List Entry) → b ≡ a ++ xs → c ≡ b ++ ys → c ≡ a ++ (xs ++ ys)
took_more a b c xs ys p q = q ∙ ap (λ (es : List Entry). es ++ ys) p ∙ append_assoc a xs ys
