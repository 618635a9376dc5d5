-- Tallies that are kept, and how a unit's new view moves them. This project's own rule.
use Rattle.std.specs.Prelude.{◌+◌, ◌-◌, List, [], ◌∷◌}
use Rattle.po_text.specs.declared.entry.Entry.{Entry}
use Rattle.units.specs.declared.unit.Unit.{Unit}
use Rattle.office_specification.specs.declared.tally.Tally.{Tally}
use Rattle.office_specification.specs.Tally.{counts_in}

-- what one unit counts
abbrev pub counted : List Entry → Unit → Tally
counted template unit = counts_in template (unit ∷ [])

-- without what one unit counted and with what another counts
abbrev pub moved : Tally → Tally → Tally → Tally
moved before was is = record {
  approved = before.approved + is.approved - was.approved;
  needs_editing = before.needs_editing + is.needs_editing - was.needs_editing;
  obsolete = before.obsolete + is.obsolete - was.obsolete;
  read_only = before.read_only + is.read_only - was.read_only;
  suggestions = before.suggestions + is.suggestions - was.suggestions;
  translated = before.translated + is.translated - was.translated;
  untranslated = before.untranslated + is.untranslated - was.untranslated;
}

-- what was approved is translated
abbrev pub none_approved : Tally → Tally
none_approved counts = record counts { approved = 0; translated = counts.translated + counts.approved }
