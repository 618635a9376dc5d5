-- The columns that take memory. Only private clauses and proofs cite this file.
use Rattle.po_text.specs.declared.entry.Entry.{Entry}
use Rattle.units.specs.Units.{key_text, key_of}
use Rattle.units.specs.declared.unit.Unit.{Unit}
use Rattle.sql_columns.specs.Written.{texts_text, previous_text}
use Rattle.sql_commits.specs.declared.unit_writes.UnitColumns.{UnitColumns}
use Rattle.sql_commits.specs.declared.entries.EntryColumns.{EntryColumns}

abbrev pub columns_of_unit : Unit → UnitColumns
columns_of_unit unit = record {
  key = key_text unit.key;
  forms = texts_text unit.forms;
  comment = texts_text unit.comment;
  previous = previous_text unit.previous;
}

abbrev pub columns_of_entry : Entry → EntryColumns
columns_of_entry entry = record {
  key = key_text (key_of entry);
  extracted = texts_text entry.extracted;
  references = texts_text entry.references;
  flags = texts_text entry.flags;
}
