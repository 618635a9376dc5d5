-- The text that reads all tallies.
use Rattle.std.proofs.Common.{ℕ, List, [], ◌∷◌, codes, refl}
use Rattle.sqlite.specs.Listing.{understood}
use Rattle.sqlite_tied.specs.Compute.{everything}
use Rattle.sql_schema.specs.Schema.{d_tally_table}
use Rattle.sql_schema.specs.Layouts.{by_domain, made_last, from_first, from_second}
use Rattle.sql_schema.proofs.Layouts.{d_tally_placed}
use Rattle.sql_schema.proofs.Queries.{ReadsAllOf}
use Rattle.sql_statements.proofs.TableQueries.{IsTableQueryOf, reads_table}
use Rattle.sql_figures.specs.KeptTallies.{tally_columns}
use Rattle.sql_adoption.specs.FigureRows.{ShowsAllTallies}

abbrev tallies_text : List ℕ
tallies_text = codes "SELECT domain, lang, untranslated, needs_editing, translated, approved, read_only, suggestions, obsolete FROM d_tally ORDER BY domain, lang"

tallies_are : IsTableQueryOf by_domain tallies_text d_tally_table tally_columns (1 ∷ 2 ∷ [])
    (codes "domain" ∷ codes "lang" ∷ codes "untranslated" ∷ codes "needs_editing" ∷ codes "translated" ∷ codes "approved" ∷ codes "read_only" ∷ codes "suggestions" ∷ codes "obsolete" ∷ [])
unfolding understood everything
tallies_are made_last = record { command = refl; own_tables = refl; plain = (refl, refl) }
tallies_are from_first = record { command = refl; own_tables = refl; plain = (refl, refl) }
tallies_are from_second = record { command = refl; own_tables = refl; plain = (refl, refl) }

pub reads_all_tallies : ReadsAllOf by_domain tallies_text [] ShowsAllTallies
reads_all_tallies = reads_table tallies_text d_tally_table d_tally_placed tally_columns (1 ∷ 2 ∷ []) (0 ∷ 1 ∷ []) _ tallies_are (λ tree r s. refl)
