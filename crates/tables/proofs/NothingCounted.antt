-- In a domain that isn't there nothing is counted.
use Rattle.std.proofs.Common.{◌≡◌, [], None, false, ap, ◌∙◌}
use Rattle.std.specs.FinMap as maps
use Rattle.std.specs.Prelude.{option_map}
use Rattle.po_text.specs.declared.entry.Entry.{Entry}
use Rattle.po_text.specs.Texts.{Text, text_cmp}
use Rattle.units.specs.Project.{Project, units_of}
use Rattle.units.specs.Office.{Office, project_in, as_project, empty_domain}
use Rattle.office_specification.proofs.domains.InDomains.{no_domain_yet}
use Rattle.office_specification.specs.Tally.{counts_in, counts_of}

pub nothing_counted : (office : Office) (domain : Text) → maps.contains_key office.domains domain ≡ false → (lang : Text) → counts_of (project_in office domain) lang ≡ None
nothing_counted office domain missing lang =
    ap (λ (p : Project). counts_of p lang) (no_domain_yet office domain missing)
    ∙ ap (option_map (λ (h : Entry). counts_in [] (units_of (as_project office empty_domain) lang))) (maps.get-empty text_cmp lang)
