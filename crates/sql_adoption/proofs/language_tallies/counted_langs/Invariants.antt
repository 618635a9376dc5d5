use Rattle.std.proofs.Common.{take}
use Rattle.units.specs.Offices.{IsOffice}
use Rattle.office_maps.specs.OfficeIn.{office_in}
use Rattle.sql_figures.specs.KeptTallies.{office_counts}
use Rattle.sql_adoption.specs.FigureRows.{places_of, AreCounted}
use Rattle.sql_adoption.proofs.language_tallies.counted_langs.Given as goal

-- the domains so far
abbrev pub invariant-loop-domain : goal.invariant-loop-domain
invariant-loop-domain l = IsOffice (office_in l.read.maps) → AreCounted (office_counts (office_in l.read.maps)) (places_of (take l.domain-index l.domains) l.read.langs.items) l.counted.items
