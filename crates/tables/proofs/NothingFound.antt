-- In a domain that isn't there nothing is found.
use Rattle.std.proofs.Common.{◌≡◌, [], map, None, Some, false, ap, ◌∙◌}
use Rattle.std.specs.Option.{option_map_or}
use Rattle.std.specs.FinMap as maps
use Rattle.po_text.specs.declared.entry.Entry.{Entry}
use Rattle.po_text.specs.Texts.{Text, text_cmp}
use Rattle.units.specs.Project.{Project, place_cmp, entry_of, role_of, view_of}
use Rattle.units.specs.Rules.{rule_at}
use Rattle.units.specs.Office.{Office, project_in, as_project, empty_domain}
use Rattle.units.specs.Units.{suggestion_of}
use Rattle.units.specs.declared.unit.Key.{Key}
use Rattle.units.specs.declared.unit.Unit.{Unit}
use Rattle.units.specs.declared.unit.UnitView.{UnitView}
use Rattle.review.specs.Parts.{without_votes}
use Rattle.office_specification.specs.declared.values.UnitWrite.{UnitWrite}
use Rattle.std.specs.Prelude.{option_map, option_and_then}
use Rattle.office_specification.specs.ExportedEntries.{catalogue_of}
use Rattle.office_specification.specs.UnitAccess.{context_of, suggestions_at, suggestion_at, view_written, written_at}
use Rattle.office_specification.proofs.domains.InDomains.{no_domain_yet}
use Rattle.tables.specs.Entries.{entries_of}

module _ (office : Office) (domain : Text) (missing : maps.contains_key office.domains domain ≡ false) where
  pub nothing_found : (lang : Text) (key : Key) (name : Text) → context_of (project_in office domain) lang key name ≡ None
  nothing_found lang key name =
      ap (λ (p : Project). context_of p lang key name) (no_domain_yet office domain missing)
      ∙ ap (option_map (λ (h : Entry). record {
        rule = rule_at (as_project office empty_domain) lang;
        policy = office.policy;
        role = role_of (as_project office empty_domain) name;
        view = view_of (as_project office empty_domain) (lang, key);
      })) (maps.get-empty text_cmp lang)

  -- no unit is there, so that none has suggestions, and none is written
  no_unit : (lang : Text) (key : Key) → maps.get (project_in office domain).units (lang, key) ≡ None
  no_unit lang key = ap (λ (p : Project). maps.get p.units (lang, key)) (no_domain_yet office domain missing) ∙ maps.get-empty place_cmp (lang, key)

  pub nothing_suggested : (lang : Text) (key : Key) → suggestions_at (project_in office domain) lang key ≡ []
  nothing_suggested lang key = ap (λ o. option_map_or (λ (unit : Unit). map without_votes unit.suggestions) o []) (no_unit lang key)

  pub no_suggestion : (lang : Text) (key : Key) (number : Text) → suggestion_at (project_in office domain) lang key number ≡ None
  no_suggestion lang key number = ap (option_and_then (suggestion_of number)) (no_unit lang key)

  pub nothing_written : (lang : Text) (key : Key) (write : UnitWrite) → option_map (λ (view : UnitView). view.unit) (written_at (project_in office domain) lang key (Some write)) ≡ None
  nothing_written lang key write =
      ap (λ o. option_map (λ (view : UnitView). view.unit) (option_map (view_written write) (option_map (λ (unit : Unit). record { unit = unit; source = entry_of (project_in office domain).template key }) o))) (no_unit lang key)

  pub nothing_handed : (lang : Text) → entries_of (project_in office domain) lang ≡ []
  nothing_handed lang =
      ap (λ (p : Project). entries_of p lang) (no_domain_yet office domain missing)
      ∙ ap (λ o. option_map_or (catalogue_of (as_project office empty_domain) lang) o []) (maps.get-empty text_cmp lang)
