-- The order of two texts.
use Rattle.std.proofs.Common.{◌≡◌, ◌&&◌, refl, ◌∙◌}
use Rattle.std.specs.Cmp.{IsTotalOrder, eq_by_cmp_equiv}
use Rattle.std.specs.declared.cmp.Ordering.{Ordering}
use Rattle.std.specs.declared.cmp.Ordering.TheVariants.{Less, Equal, Greater}
use Rattle.std.specs.Ordering.{ordering_then, is_eq}
use Rattle.std.specs.FinMap.{IsAntisymmetric}
use Rattle.std.proofs.lemmas.Cmp.{on_total, then_total}
use Rattle.std.proofs.lemmas.Map.Lookups.{exact_pairs}
use Rattle.po_text.specs.Texts.{Text, text_cmp}
use Rattle.units.specs.Orders.{text_total, text_IsAntisymmetric}
use Rattle.sql_decoding.specs.TablesRead.{by_texts}

pub by_texts_total : IsTotalOrder by_texts
by_texts_total = then_total (on_total (λ t. t.0) text_total) (on_total (λ t. t.1) text_total)

pub by_texts_IsAntisymmetric : IsAntisymmetric by_texts
by_texts_IsAntisymmetric = exact_pairs text_cmp text_cmp text_IsAntisymmetric text_IsAntisymmetric

-- ties are tests of each text, which can be asked the other way round
both_tie : (r s : Ordering) → is_eq (ordering_then r s) ≡ (is_eq r && is_eq s)
both_tie Less s = refl
both_tie Equal s = refl
both_tie Greater s = refl

pub text_tie : (a b : Text) → is_eq (text_cmp a b) ≡ is_eq (text_cmp b a)
text_tie a b = (eq_by_cmp_equiv text_total).symm a b

pub texts_tie : (lang key a b : Text) → is_eq (by_texts (lang, key) (a, b)) ≡ (is_eq (text_cmp a lang) && is_eq (text_cmp b key))
texts_tie lang key a b = both_tie (text_cmp lang a) (text_cmp key b) ∙ (λ i. text_tie lang a i && text_tie key b i)
