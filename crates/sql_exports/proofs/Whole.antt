-- What the rows of the two queries stand for, of an office that keeps its rules.
use Rattle.std.specs.Prelude.{IsSome}
use Rattle.std.proofs.Common.{◌≡◌, List, cond, Some, None, ◌∙◌}
use Rattle.std.specs.List.{filter_map}
use Rattle.std.specs.FinMap as maps
use Rattle.sqlite.specs.Order.{Row}
use Rattle.po_text.specs.Texts.{Text}
use Rattle.units.specs.Projects.{IsProject}
use Rattle.sql_meaning.specs.Meaning.{project_of_rows, headers_in}
use Rattle.sql_meaning.specs.RowKeys.{AreOfficeRows}
use Rattle.sql_statements.specs.Queries.{ShowsMessagesIn, ShowsObsoleteIn}
use Rattle.sql_decoding.specs.ShownEntries.{message_shown, obsolete_shown, is_translated_row}
use Rattle.sql_exports.specs.Entries.{messages_of, obsolete_of}
use Rattle.sql_exports.proofs.Messages.{messages_are}
use Rattle.sql_exports.proofs.ObsoleteUnits.{obsolete_are}
use Rattle.sql_exports.proofs.RowsInTurn.{each_one, those_that_pass}
use Rattle.sql_exports.proofs.UnitColumns.{HasUnitColumns}
use Rattle.sql_exports.proofs.UnitsThere.{unit_at, units_there}
use Rattle.sql_schema.specs.Layouts.{NamedRows}

pub messages_read : (tables : NamedRows) (office : AreOfficeRows tables) (rules : IsProject (project_of_rows tables)) (lang : Text) (there : IsSome (maps.get (headers_in tables) lang)) (rows : List Row)
    → ShowsMessagesIn (unit_at tables office rules lang there) tables rows → filter_map (λ row. Some (message_shown row)) rows ≡ messages_of (project_of_rows tables) lang
messages_read tables office rules lang there rows shows =
    each_one message_shown rows ∙ messages_are tables office lang (unit_at tables office rules lang there) (units_there tables office rules lang there) rows shows

pub obsolete_read : (tables : NamedRows) → AreOfficeRows tables → HasUnitColumns tables → (lang : Text) (rows : List Row) → ShowsObsoleteIn lang tables rows
    → filter_map (λ row. cond (is_translated_row row) (Some (obsolete_shown row)) None) rows ≡ obsolete_of (project_of_rows tables) lang
obsolete_read tables office units lang rows shows = those_that_pass is_translated_row obsolete_shown rows ∙ obsolete_are tables office units lang rows shows
