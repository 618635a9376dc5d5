-- What tables begin with keeps the rules.
use Rattle.std.proofs.Common.{◌≡◌, sym, subst, ◌∙◌}
use Rattle.std.specs.FinMap as maps
use Rattle.office_specification.specs.OfficeRules.{KeepsRules}
use Rattle.office_specification.proofs.rules.StartLemmas.{demo_starts, opening_starts}
use Rattle.office_maps.specs.declared.office_maps.OfficeMaps.{OfficeMaps}
use Rattle.office_maps.specs.OfficeIn.{office_in}
use Rattle.tables.specs.declared.record_maps.Maps.{Maps}
use Rattle.tables.specs.declared.start.Start.{Start}
use Rattle.tables.specs.declared.start.Start.TheVariants.{Opening, Demo}
use Rattle.tables.specs.MapsMeaning.{meaning}
use Rattle.tables.specs.Starts.{office_of_start, started}

starts : (start : Start) → KeepsRules (started start)
starts (Opening manager) = opening_starts manager
starts Demo = demo_starts

pub means_start : (held : Maps) (office : OfficeMaps) (start : Start) → meaning held ≡ record { office = office_in office; book = maps.empty } → office_in office ≡ office_of_start start → meaning held ≡ started start
means_start held office start new opens = new ∙ (λ i. record { office = opens i; book = maps.empty })

pub keeps_rules : (held : Maps) (office : OfficeMaps) (start : Start) → meaning held ≡ record { office = office_in office; book = maps.empty } → office_in office ≡ office_of_start start → KeepsRules (meaning held)
keeps_rules held office start new opens = subst KeepsRules (sym (means_start held office start new opens)) (starts start)
