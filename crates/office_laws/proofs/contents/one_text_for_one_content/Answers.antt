use Rattle.std.proofs.Common.{◌≡◌}
use Rattle.po_text.specs.Texts.{Text}
use Rattle.request_book.specs.Acts.{canon_text, content_text}
use Rattle.request_book.specs.declared.act.Act.{Act}
use Rattle.request_book.proofs.CanonLemmas.{one_content}
use Rattle.office_laws.proofs.contents.one_text_for_one_content.Goals as goal

same_texts : (c d : Text) (a b : Act) → (c ≡ d) × (a ≡ b) → canon_text c a ≡ canon_text d b
same_texts c d a b same = (λ i. canon_text (same.0 i) (same.1 i))

pub returns : goal.returns
unfolding content_text
returns c = λ x y fits_x fits_y. (
  λ e. one_content x.caller y.caller x.act y.act fits_x.1 fits_y.1 fits_x.2 fits_y.2 e,
  λ same. same_texts x.caller y.caller x.act y.act same,
)
