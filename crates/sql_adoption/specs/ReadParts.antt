-- How much of tables by domains is read. This project's own words.
use Rattle.sql_schema.specs.Layouts.{NamedRows}
use Rattle.sql_statements.specs.WholeOffice.{without_units}
use Rattle.sql_adoption.specs.declared.domains_read.Part.{Part}
use Rattle.sql_adoption.specs.declared.domains_read.Part.TheVariants.{Whole, Frame}

abbrev pub part_of : Part → NamedRows → NamedRows
part_of Whole rows = rows
part_of Frame rows = without_units rows
