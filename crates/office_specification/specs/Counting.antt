-- A tally, one unit after another. This project's own words.
use Rattle.std.specs.Prelude.{ℕ, ◌+◌, ◌≤◌}
use Rattle.units.specs.declared.unit.ShownState.{ShownState}
use Rattle.units.specs.declared.unit.ShownState.TheVariants.{Untranslated, NeedsEditing, Translated, Approved, ReadOnly}
use Rattle.office_specification.specs.declared.tally.Tally.{Tally}

abbrev pub none_counted : Tally
none_counted = record { approved = 0; needs_editing = 0; obsolete = 0; read_only = 0; suggestions = 0; translated = 0; untranslated = 0 }

abbrev pub plus : Tally → Tally → Tally
plus a b = record {
  approved = a.approved + b.approved;
  needs_editing = a.needs_editing + b.needs_editing;
  obsolete = a.obsolete + b.obsolete;
  read_only = a.read_only + b.read_only;
  suggestions = a.suggestions + b.suggestions;
  translated = a.translated + b.translated;
  untranslated = a.untranslated + b.untranslated;
}

-- one more unit in a state
abbrev pub one_more : ShownState → Tally → Tally
one_more Untranslated counts = record counts { untranslated = counts.untranslated + 1 }
one_more NeedsEditing counts = record counts { needs_editing = counts.needs_editing + 1 }
one_more Translated counts = record counts { translated = counts.translated + 1 }
one_more Approved counts = record counts { approved = counts.approved + 1 }
one_more ReadOnly counts = record counts { read_only = counts.read_only + 1 }

-- 150,000 units of a language with 100 suggestions each
abbrev pub count_limit : ℕ
count_limit = 15000000

pub record AreWithin (counts : Tally) : Type 0 where
  pub approved : counts.approved ≤ count_limit
  pub needs_editing : counts.needs_editing ≤ count_limit
  pub obsolete : counts.obsolete ≤ count_limit
  pub read_only : counts.read_only ≤ count_limit
  pub suggestions : counts.suggestions ≤ count_limit
  pub translated : counts.translated ≤ count_limit
  pub untranslated : counts.untranslated ≤ count_limit
