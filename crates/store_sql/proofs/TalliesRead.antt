-- What the look-up of a tally finds is what the units of the language count; where it finds none, the language isn't there.
use Rattle.std.proofs.Common.{◌≡◌, Option, option_map, codes, subst, IsTrue}
use Rattle.sqlite.specs.Order.{Row}
use Rattle.sqlite.specs.State.{State, HasCleanDisk}
use Rattle.po_text.specs.Texts.{Text}
use Rattle.units.specs.Office.{project_in}
use Rattle.office_specification.specs.Tally.{counts_of}
use Rattle.sql_statements.specs.DomainAnswers.{ShowsTally}
use Rattle.sql_schema.specs.Layouts.{rows_named}
use Rattle.sql_meaning.specs.Domains.{office_of_rows}
use Rattle.sql_meaning.specs.Shown.{shown_tally}
use Rattle.sql_figures.specs.KeptTallies.{office_counts}
use Rattle.sql_figures.proofs.TallyRows.{tally_found}
use Rattle.store_sql.specs.TablesInFile.{KeepsOffice}
use Rattle.store_sql.proofs.RowsHeld.{own_figures}

pub reads_tally : (s : State) (domain lang asked_domain asked_lang : Text) (found : Option Row) → KeepsOffice s → asked_domain ≡ domain → asked_lang ≡ lang → HasCleanDisk s → IsTrue s.is_open
    → ShowsTally asked_domain asked_lang s.now found → counts_of (project_in (office_of_rows (rows_named s.now)) domain) lang ≡ option_map shown_tally found
reads_tally s domain lang asked_domain asked_lang found keeps is_domain is_lang clean is_open shows =
    tally_found (office_counts (office_of_rows (rows_named s.now))) (rows_named s.now (codes "d_tally")) domain lang found
    (subst (λ (asked : Text × Text). ShowsTally asked.0 asked.1 s.now found) (λ i. (is_domain i, is_lang i)) shows) (own_figures s keeps clean is_open).tallies
