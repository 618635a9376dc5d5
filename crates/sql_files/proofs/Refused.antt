-- An office's file is adopted, but for want of memory, a failed disk and a refused statement; and what is adopted is one.
use Rattle.std.proofs.Common.{inl, inr, refl}
use Rattle.sqlite.specs.Effect.{Database, IsDatabase}
use Rattle.office_specification.specs.OfficeRules.{KeepsRules}
use Rattle.sql_schema.specs.Layouts.{Form, rows_named}
use Rattle.sql_meaning.specs.Domains.{meaning_for}
use Rattle.sql_adoption.specs.Adoption.{Refuses, TellsForm, KeepsFigures, StandForOfficeOf, StandForBook, IsAdopted}
use Rattle.sql_adoption.proofs.Kept.{lacks_own}
use Rattle.sql_adoption.specs.declared.faults.OpenFault.{OpenFault}
use Rattle.sql_adoption.specs.declared.faults.OpenFault.TheVariants.{Memory, Disk, Foreign, Exists, Refused}
use Rattle.sql_adoption.specs.declared.faults.Mismatch.TheVariants.{OtherTables, OtherForm, UnreadRow, OtherFigures, BrokenRules}
use Rattle.sql_files.specs.Files.{IsOfficeDatabase, IsOfficeFile, IsLost}
use Rattle.sql_files.proofs.Listed.{database_read, file_left}

lost_of : (form : Form) (db : Database) → IsOfficeDatabase form db → (fault : OpenFault) → Refuses db fault → IsLost fault
lost_of form db file Memory refused = inl refl
lost_of form db file Disk refused = inr (inl refl)
lost_of form db file Refused refused = inr (inr refl)
lost_of form db file (Foreign OtherTables) refused = absurd (refused (form, record { schema = file.ready.schema; tables = file.ready.tables }))
lost_of form db file (Foreign OtherForm) refused = absurd (lacks_own (λ f. TellsForm f (rows_named db)) db form file.ready.schema refused file.rows.form_told)
lost_of form db file (Foreign UnreadRow) refused =
    absurd (lacks_own (λ f. StandForOfficeOf f (rows_named db) × StandForBook (rows_named db)) db form file.ready.schema refused (file.rows.office, file.rows.book))
lost_of form db file (Foreign OtherFigures) refused = absurd (lacks_own (λ f. KeepsFigures f (rows_named db)) db form file.ready.schema refused file.rows.figures)
lost_of form db file (Foreign BrokenRules) refused = absurd (lacks_own (λ f. KeepsRules (meaning_for f (rows_named db))) db form file.ready.schema refused file.rows.rules)
lost_of form db file Exists refused = absurd refused

pub lost_alone : (db : Database) → IsDatabase db → IsOfficeFile db.trees → (fault : OpenFault) → Refuses db fault → IsLost fault
lost_alone db shown file = let it = database_read db shown file in lost_of it.0 db it.1

pub adopted_file : (db : Database) → IsDatabase db → IsAdopted db → IsOfficeFile db.trees
adopted_file db shown (form, holds, it) = file_left form db (record {
  ready = record { schema = holds.schema; sound = shown; tables = holds.tables };
  rows = record { form_told = it.told; office = it.office; book = it.book; figures = it.figures; rules = it.rules };
})
