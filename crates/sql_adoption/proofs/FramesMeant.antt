-- What the frame of tables by domains stands for beside all rows: the same domains, each with its project, but for the units; so a domain keeps its rules exactly where its frame does and
-- the rows that walks show.
use Rattle.std.proofs.Common.{◌≡◌, ◌≤◌, List, true, false, map, length, refl, sym, subst, ◌∙◌, codes}
use Rattle.std.specs.FinMap as maps
use Rattle.std.specs.FinMap.{len-entries}
use Rattle.std.proofs.lemmas.List.{length-map}
use Rattle.std.proofs.lemmas.List.Sorted.{length_permutation}
use Rattle.sqlite.specs.Effect.{Database}
use Rattle.sqlite.specs.Order.{Row}
use Rattle.sqlite_rules.specs.Lists.{Has}
use Rattle.sqlite_rules.proofs.ListLemmas.{some_has}
use Rattle.sql_laws.specs.RowMaps.{map_of}
use Rattle.sql_laws.proofs.RowMaps.{texts_are_one}
use Rattle.po_text.specs.Texts.{Text, text_cmp}
use Rattle.units.specs.Limits.{vote_limit}
use Rattle.units.specs.Office.{Domain, Office, has_domain, project_in}
use Rattle.units.specs.Orders.{text_total, text_IsAntisymmetric}
use Rattle.units.specs.Projects.{IsProject}
use Rattle.units.specs.Project.{Project}
use Rattle.sql_schema.specs.Inside.{AreOfficeTablesOf}
use Rattle.sql_schema.specs.Keys.{first_text, has_text}
use Rattle.sql_schema.specs.Layouts.{by_domain, NamedRows, rows_named}
use Rattle.sql_schema.specs.SeenRows.{seen_in}
use Rattle.sql_statements.specs.WalkedRows.{is_unplaced}
use Rattle.sql_statements.specs.WholeOffice.{without_units}
use Rattle.sql_meaning.specs.Domains.{domain_of_rows, is_domain, office_of_rows}
use Rattle.sql_meaning.specs.Meaning.{project_of_rows, units_in}
use Rattle.sql_meaning.proofs.DomainChanges.{has_domain_of_rows, project_of_domain}
use Rattle.sql_meaning.proofs.DomainOfficeRows.{one_domain_each}
use Rattle.sql_figures.specs.KeptSums.{votes_among}
use Rattle.sql_adoption.specs.FramesKept.{KeepsDomain, StandsDomain}
use Rattle.sql_adoption.proofs.CountedValues.{entries_permuted}
use Rattle.sql_adoption.proofs.DomainByLanguages.{keeps_bare, keeps_language, languages_kept}
use Rattle.sql_adoption.proofs.DomainByWalks.{KeepByWalks, keeps_walks, walks_keep}
use Rattle.sql_adoption.proofs.OtherUnits.{domain_too}

module _ (db : Database) (ready : AreOfficeTablesOf by_domain db) where
  abbrev rows : NamedRows
  rows = rows_named db

  abbrev pub frame : Office
  frame = office_of_rows (without_units rows)

  abbrev pub whole : Office
  whole = office_of_rows rows

  -- ---- the domains

  pub same_domains : (domain : Text) → has_domain frame domain ≡ has_domain whole domain
  same_domains domain = sym (has_domain_of_rows (without_units rows) domain) ∙ has_domain_of_rows rows domain

  abbrev named : List Row
  named = rows (codes "domain")

  counted : (domain : Row → Domain) → maps.len (map_of text_cmp first_text domain named) ≡ length named
  counted domain =
      let entries = maps.entries (map_of text_cmp first_text domain named) in
      let listed = map (λ row. (first_text row, domain row)) named in
      len-entries (map_of text_cmp first_text domain named)
      ∙ length_permutation listed entries (entries_permuted text_cmp text_total text_IsAntisymmetric first_text domain named (ready.tables (codes "domain") refl).once (one_domain_each db ready))
      ∙ length-map named (λ row. (first_text row, domain row))

  pub as_many_domains : maps.len frame.domains ≡ maps.len whole.domains
  as_many_domains = counted (λ row. domain_of_rows (without_units rows) (first_text row)) ∙ sym (counted (λ row. domain_of_rows rows (first_text row)))

  -- ---- one that is there

  module _ (domain : Text) (there : is_domain rows domain ≡ true) where
    row : (d : Row) × Has named d × (first_text d ≡ domain)
    row = let d = some_has (has_text 1 domain) named there in (d.0, d.1, texts_are_one (first_text d.0) domain d.2)

    abbrev pub own : Project
    own = project_of_rows (seen_in domain rows)

    abbrev pub own_frame : Project
    own_frame = project_of_rows (seen_in domain (without_units rows))

    pub whole_is : project_in whole domain ≡ own
    whole_is = project_of_domain rows (one_domain_each db ready) domain row.0 row.1 row.2

    pub frame_is : project_in frame domain ≡ own_frame
    frame_is = project_of_domain (without_units rows) (one_domain_each db ready) domain row.0 row.1 row.2

    -- its rows stand alike
    pub stands_whole : StandsDomain db (project_in frame domain) domain → StandsDomain db own domain
    stands_whole it = subst (λ (p : Project). StandsDomain db p domain) frame_is it

    pub stands_frame : StandsDomain db own domain → StandsDomain db (project_in frame domain) domain
    stands_frame it = subst (λ (p : Project). StandsDomain db p domain) (sym frame_is) it

    -- what is asked of its frame is asked of it
    keeps_own : KeepsDomain db (project_in frame domain) domain → KeepsDomain db own domain
    keeps_own keep = domain_too own_frame (units_in (seen_in domain rows)) db domain (subst (λ (p : Project). KeepsDomain db p domain) frame_is keep)

    keeps_frame : KeepsDomain db own domain → KeepsDomain db (project_in frame domain) domain
    keeps_frame keep = subst (λ (p : Project). KeepsDomain db p domain) (sym frame_is) (domain_too own (units_in (seen_in domain (without_units rows))) db domain keep)

    pub domain_kept : ((u : Row) → Has (rows (codes "d_unit")) u → is_unplaced rows u ≡ false)
        → ((s : Row) → Has (rows (codes "d_suggestion")) s → maps.len (votes_among (rows (codes "d_vote")) (first_text s)) ≤ vote_limit) → KeepsDomain db (project_in frame domain) domain
        → IsProject (project_in whole domain)
    domain_kept placed voted keep =
        let it = keeps_own keep in
        subst IsProject (sym whole_is) (walks_keep db ready domain (languages_kept db ready domain placed it.bare it.each (λ s listed of. voted s listed)))

    -- and back
    pub by_walks : IsProject (project_in whole domain) → KeepByWalks db ready domain
    by_walks rules = keeps_walks db ready domain (subst IsProject whole_is rules)

    pub domain_keeps : IsProject (project_in whole domain) → KeepsDomain db (project_in frame domain) domain
    domain_keeps rules =
        let keep = by_walks rules in
        keeps_frame (record { bare = keeps_bare db ready domain keep; each = λ lang headed. keeps_language db ready domain keep lang headed })
