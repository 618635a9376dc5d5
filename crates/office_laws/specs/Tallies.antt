-- Tallies that are kept, and how what is done to an office moves them. This project's own rule.
use Rattle.std.specs.Prelude.{◌+◌, ◌-◌, List, [], ◌∷◌, flat_map, if◌then◌else◌}
use Rattle.po_text.specs.declared.entry.Entry.{Entry}
use Rattle.po_text.specs.Texts.{Text, text_eq}
use Rattle.units.specs.declared.unit.Policy.{Policy}
use Rattle.units.specs.declared.unit.Unit.{Unit}
use Rattle.office_specification.specs.ProjectActs.{LanguagePlan}
use Rattle.office_specification.specs.declared.tally.Tally.{Tally}
use Rattle.office_specification.specs.Tally.{counts_in}

-- what one unit counts
abbrev pub counted : List Entry → Unit → Tally
counted template unit = counts_in template (unit ∷ [])

-- without what one unit counted and with what another counts
abbrev pub moved : Tally → Tally → Tally → Tally
moved before was is = record {
  approved = before.approved + is.approved - was.approved;
  needs_editing = before.needs_editing + is.needs_editing - was.needs_editing;
  obsolete = before.obsolete + is.obsolete - was.obsolete;
  read_only = before.read_only + is.read_only - was.read_only;
  suggestions = before.suggestions + is.suggestions - was.suggestions;
  translated = before.translated + is.translated - was.translated;
  untranslated = before.untranslated + is.untranslated - was.untranslated;
}

-- Under a policy without reviews what was approved is translated.
abbrev pub counts_under : Policy → Tally → Tally
counts_under policy counts =
    if policy.reviews then counts else record counts { approved = 0; translated = counts.translated + counts.approved }

-- the units that plans have for a language
abbrev pub planned : Text → List LanguagePlan → List Unit
planned lang plans = flat_map (λ p. if text_eq lang p.0 then p.1.units else []) plans
