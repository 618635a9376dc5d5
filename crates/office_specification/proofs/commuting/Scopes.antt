-- Two requests clash exactly where both count for one unit.
use Rattle.std.proofs.Common.{◌≡◌, [], true, refl, sym, ◌∙◌, ap, None}
use Rattle.std.specs.Cmp.{eq_by_cmp_equiv}
use Rattle.po_text.specs.Texts.{Text}
use Rattle.units.specs.Office.{OfficePlace, same_domain}
use Rattle.units.specs.Orders.{text_total, office_place_total}
use Rattle.office_specification.proofs.domains.Places.{same_office_place}
use Rattle.request_book.specs.Clash.{Scope, of_office, of_domain, of_unit, overlap, counts_for}

-- a place in a domain
in_it : Text → OfficePlace
in_it domain = (domain, ([], record { ctx = None; id = [] }))

-- each act counts for some unit
pub its_place : (s : Scope) → (p : OfficePlace) × (counts_for p s ≡ true)
unfolding in_it
its_place of_office = (in_it [], refl)
its_place (of_domain domain) = (in_it domain, (eq_by_cmp_equiv text_total).refl domain)
its_place (of_unit place) = (place, (eq_by_cmp_equiv office_place_total).refl place)

pub record Shared (s t : Scope) : Type 0 where
  pub place : OfficePlace
  pub first : counts_for place s ≡ true
  pub second : counts_for place t ≡ true

pub shared : (s t : Scope) → overlap s t ≡ true → Shared s t
unfolding in_it
shared of_office t e = let p = its_place t in record { place = p.0; first = refl; second = p.1 }
shared (of_domain domain) of_office e = record { place = in_it domain; first = (eq_by_cmp_equiv text_total).refl domain; second = refl }
shared (of_domain domain) (of_domain other) e = record { place = in_it domain; first = (eq_by_cmp_equiv text_total).refl domain; second = e }
shared (of_domain domain) (of_unit place) e = record { place = place; first = (eq_by_cmp_equiv text_total).symm place.0 domain ∙ e; second = (eq_by_cmp_equiv office_place_total).refl place }
shared (of_unit place) of_office e = record { place = place; first = (eq_by_cmp_equiv office_place_total).refl place; second = refl }
shared (of_unit place) (of_domain domain) e = record { place = place; first = (eq_by_cmp_equiv office_place_total).refl place; second = e }
shared (of_unit place) (of_unit other) e = record { place = place; first = (eq_by_cmp_equiv office_place_total).refl place; second = e }

pub both_count : (p : OfficePlace) (s t : Scope) → counts_for p s ≡ true → counts_for p t ≡ true → overlap s t ≡ true
both_count p of_office t a b = refl
both_count p (of_domain domain) of_office a b = refl
both_count p (of_domain domain) (of_domain other) a b = (eq_by_cmp_equiv text_total).congr domain p.0 other ((eq_by_cmp_equiv text_total).symm domain p.0 ∙ a) ∙ b
both_count p (of_domain domain) (of_unit place) a b = (eq_by_cmp_equiv text_total).symm domain place.0 ∙ (ap (λ (q : OfficePlace). same_domain q.0 domain) (sym (same_office_place p place b)) ∙ a)
both_count p (of_unit place) of_office a b = refl
both_count p (of_unit place) (of_domain domain) a b = ap (λ (q : OfficePlace). same_domain q.0 domain) (sym (same_office_place p place a)) ∙ b
both_count p (of_unit place) (of_unit other) a b = (eq_by_cmp_equiv office_place_total).congr place p other ((eq_by_cmp_equiv office_place_total).symm place p ∙ a) ∙ b
