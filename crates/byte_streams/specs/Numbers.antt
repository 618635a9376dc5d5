-- The numbers of the faults of sinks and sources, which have one kind each: this project's own rule.
use Rattle.std.specs.Prelude.{ℕ}
use Rattle.byte_streams.specs.declared.streams.SinkFault.{SinkFault}
use Rattle.byte_streams.specs.declared.streams.SourceFault.{SourceFault}

abbrev pub sink_fault_number : SinkFault → ℕ
sink_fault_number _ = 1

abbrev pub source_fault_number : SourceFault → ℕ
source_fault_number _ = 1
