use Rattle.std.proofs.Common.{take}
use Rattle.sql_meaning.specs.OfficeShown.{headers_shown}
use Rattle.sql_adoption.specs.Reading.{NotesLangs}
use Rattle.sql_adoption.proofs.langs_read.note_langs.Given as goal

-- the languages of the rows so far
abbrev pub invariant-loop-row : goal.invariant-loop-row
invariant-loop-row l = NotesLangs (headers_shown (take l.row-index l.rows)) l.fn.langs.items l.langs.items
