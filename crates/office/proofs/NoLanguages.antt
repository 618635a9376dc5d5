-- In a domain that isn't there is no language.
use Rattle.std.proofs.Common.{◌≡◌, List, [], ◌∷◌, false, map, length, refl, sym, ap, ◌∙◌}
use Rattle.std.specs.FinMap as maps
use native.Mathlib.Omega.{arith}
use Rattle.po_text.specs.Texts.{Text, text_cmp}
use Rattle.po_text.specs.declared.entry.Entry.{Entry}
use Rattle.units.specs.Project.{Project, languages}
use Rattle.units.specs.Office.{Office, project_in}
use Rattle.office_specification.proofs.domains.InDomains.{no_domain_yet}

no_items : {A : Type 0} (xs : List A) → length xs ≡ 0 → xs ≡ []
no_items [] e = refl
no_items (x ∷ xs) e = absurd (omega arith)

no_entries : maps.entries (maps.empty {X = Entry} {R = text_cmp}) ≡ []
no_entries = no_items (maps.entries (maps.empty {X = Entry} {R = text_cmp})) (sym (maps.len-entries (maps.empty {X = Entry} {R = text_cmp})) ∙ maps.len-empty text_cmp Entry)

pub no_languages : (office : Office) (domain : Text) (none : List Text) → maps.contains_key office.domains domain ≡ false → none ≡ [] → none ≡ languages (project_in office domain)
no_languages office domain none missing is =
    is ∙ sym (ap (λ (p : Project). languages p) (no_domain_yet office domain missing) ∙ ap (map (λ (e : Text × Entry). e.0)) no_entries)
