use Rattle.std.proofs.Common.{List, ◌++◌, map, take}
use Rattle.units.specs.Offices.{IsOffice}
use Rattle.office_maps.specs.OfficeIn.{office_in}
use Rattle.sql_figures.specs.KeptTallies.{office_counts}
use Rattle.sql_adoption.specs.FigureRows.{Place, AreCounted}
use Rattle.sql_adoption.proofs.language_tallies.count_langs.Given as goal

-- the languages so far
abbrev pub invariant-loop-lang : goal.invariant-loop-lang
invariant-loop-lang l = IsOffice (office_in l.read.maps) → (before : List Place) → AreCounted (office_counts (office_in l.read.maps)) before l.fn.counted.items
    → AreCounted (office_counts (office_in l.read.maps)) (before ++ map (λ lang. (l.domain, lang)) (take l.lang-index l.langs)) l.counted.items
