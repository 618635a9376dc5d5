use Rattle.std.proofs.Common.{◌≡◌, ◌∙◌, ◌++◌, ◌∷◌, List, [], Option, Some, None, sym, subst}
use Rattle.std.specs.Prelude.{MatchOption, codes}
use Rattle.po_text.specs.declared.entry.Entry.{Entry}
use Rattle.po_text.specs.Valid.{IsValid}
use Rattle.units.specs.Openings.{plain_entry}
use Rattle.office_specification.proofs.rules.StartLemmas.{valid_template}
use Rattle.office_maps.proofs.openings.demo_catalogue.Goals as goal

-- what `try_new` makes of entries
abbrev IsMadeOf : Option (List Entry) → List Entry → Type 0
IsMadeOf made entries = MatchOption made (IsValid entries → ⊥) (λ (catalogue : List Entry). (catalogue ≡ entries) × IsValid entries)

never_refused : (made : Option (List Entry)) (entries : List Entry) → IsMadeOf made entries → made ≡ None → IsValid entries → ⊥
never_refused None entries m is valid = m valid
never_refused (Some catalogue) entries m is valid = cc

made_of : (made : Option (List Entry)) (entries catalogue : List Entry) → IsMadeOf made entries → made ≡ Some catalogue → catalogue ≡ entries
made_of None entries catalogue m is = cc
made_of (Some own) entries catalogue m is = let same : own ≡ catalogue = cc in sym same ∙ m.0

pub unreachable-requires : goal.unreachable-requires
unreachable-requires c =
    let one : c.push.new.self.items ≡ plain_entry (codes "Hello") [] ∷ [] = c.in_ok-push.ensures.items ∙ (λ i. c.new-entries.ensures.items i ++ c.in_ok-entry.ensures i ∷ []) in
    never_refused c.in_ok-made.made c.push.new.self.items c.in_ok-made.ensures c.in-None.is (subst IsValid (sym one) valid_template)

pub returns : goal.returns
returns c =
    made_of c.in_ok-made.made c.push.new.self.items c.in-Some.catalogue c.in_ok-made.ensures c.in-Some.is
    ∙ (c.in_ok-push.ensures.items ∙ (λ i. c.new-entries.ensures.items i ++ c.in_ok-entry.ensures i ∷ []))
