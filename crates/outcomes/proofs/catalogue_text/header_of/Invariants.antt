use Rattle.std.proofs.Common.{◌≡◌, drop}
use Rattle.std.specs.List.{find}
use Rattle.po_text.specs.Entries.{is_header}
use Rattle.outcomes.proofs.catalogue_text.header_of.Given as goal

-- none of the entries so far is the header
abbrev pub invariant-loop-entry : goal.invariant-loop-entry
invariant-loop-entry l = find is_header (drop l.entry-index l.entries) ≡ find is_header l.entries
