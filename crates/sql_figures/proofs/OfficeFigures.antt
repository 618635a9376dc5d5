-- What the domains of an office of rows count: one that isn't there nothing, and one that is there what the rows do that it sees. And the figures of an
-- office that is behind an act what becomes of the one before it.
use Rattle.std.specs.Prelude.{⊤, option_map, unwrap_or}
use Rattle.std.proofs.Common.{◌≡◌, [], true, false, Option, Some, None, is_some, codes, refl, sym, ap, ◌∙◌}
use Rattle.std.specs.FinMap as maps
use Rattle.sqlite.specs.Effect.{Database}
use Rattle.sql_laws.specs.RowMaps.{IsFound}
use Rattle.sql_laws.proofs.RowMaps.{get-found}
use Rattle.po_text.specs.declared.entry.Entry.{Entry}
use Rattle.po_text.specs.Texts.{Text, text_cmp}
use Rattle.units.specs.Office.{Domain, Office, has_domain, empty_domain, as_project, project_in, with_project}
use Rattle.units.specs.Orders.{text_total, text_IsAntisymmetric}
use Rattle.units.specs.Project.{Project, units_of}
use Rattle.office_specification.specs.Tally.{counts_in, counts_of}
use Rattle.office_specification.proofs.domains.InDomains.{no_domain_yet, nothing_put}
use Rattle.sql_schema.specs.Keys.{first_text}
use Rattle.sql_schema.specs.Layouts.{NamedRows, rows_named}
use Rattle.sql_meaning.specs.Domains.{project_seen, domain_of_rows, domains_in, office_of_rows, is_domain}
use Rattle.sql_meaning.proofs.DomainChanges.{has_domain_of_rows}
use Rattle.sql_figures.specs.KeptTallies.{Counts, office_counts}
use Rattle.sql_figures.specs.Figures.{HasFigures, FiguresFollowWhere, FiguresFollow, FiguresStay}
use Rattle.sql_figures.proofs.TallyRows.{tallies_alike}

-- ---- a domain that isn't there

pub none_counted_in : (office : Office) (domain lang : Text) → has_domain office domain ≡ false → office_counts office domain lang ≡ None
none_counted_in office domain lang missing =
    ap (λ (p : Project). counts_of p lang) (no_domain_yet office domain missing)
    ∙ ap (option_map (λ (header : Entry). counts_in [] (units_of (as_project office empty_domain) lang))) (maps.get-empty {X = Entry} text_cmp lang)

module _ (rows : NamedRows) (domain : Text) where
  module _ (missing : is_domain rows domain ≡ false) where
    not_there : has_domain (office_of_rows rows) domain ≡ false
    not_there = sym (has_domain_of_rows rows domain) ∙ missing

    pub nothing_counted_in : (lang : Text) → office_counts (office_of_rows rows) domain lang ≡ None
    nothing_counted_in lang = none_counted_in (office_of_rows rows) domain lang not_there

    -- what is put into it leaves the office as it is
    pub nothing_put_in : (project : Project) → with_project (office_of_rows rows) domain project ≡ office_of_rows rows
    nothing_put_in project = nothing_put (office_of_rows rows) domain project not_there

  -- ---- one that is there

  module _ (there : is_domain rows domain ≡ true) where
    pub is_there : has_domain (office_of_rows rows) domain ≡ true
    is_there = sym (has_domain_of_rows rows domain) ∙ there

    -- what it sees is its project
    pub project_there : project_in (office_of_rows rows) domain ≡ project_seen domain rows
    project_there =
        by (maps.get (domains_in rows) domain) refl
        (get-found text_cmp text_total text_IsAntisymmetric first_text (λ row. domain_of_rows rows (first_text row)) (rows (codes "domain")) domain)
      where
        by : (found : Option Domain) → maps.get (domains_in rows) domain ≡ found → IsFound first_text (λ row. domain_of_rows rows (first_text row)) (rows (codes "domain")) domain found
            → project_in (office_of_rows rows) domain ≡ project_seen domain rows
        by (Some d) is (row, listed, named, same) =
            ap (λ (o : Option Domain). as_project (office_of_rows rows) (unwrap_or o empty_domain)) (is ∙ ap Some (sym same ∙ ap (domain_of_rows rows) named))
        by None is none = absurd (let no : true ≡ false = sym is_there ∙ ap is_some is in cc)

-- ---- the figures behind an act

module _ (old new : Database) (figures : HasFigures (rows_named old)) where
  abbrev counts : Counts
  counts = office_counts (office_of_rows (rows_named old))

  -- where each language counts what becomes of its counts
  pub figures_follow_where : (Asked : Counts → Type 0) (change : Counts → Counts) → Asked counts → ((d l : Text) → office_counts (office_of_rows (rows_named new)) d l ≡ change counts d l)
      → FiguresFollowWhere Asked change old new → HasFigures (rows_named new)
  figures_follow_where Asked change asked same follows = record {
    tallies = tallies_alike (change counts) (office_counts (office_of_rows (rows_named new))) (rows_named new (codes "d_tally")) same (follows.tallies counts asked figures.tallies);
    sums = follows.sums figures.sums;
  }

  pub figures_follow : (change : Counts → Counts) → ((d l : Text) → office_counts (office_of_rows (rows_named new)) d l ≡ change counts d l) → FiguresFollow change old new → HasFigures (rows_named new)
  figures_follow change same follows = figures_follow_where (λ asked. ⊤) change tt same follows

  -- where none counts more or less
  pub figures_stay : ((d l : Text) → office_counts (office_of_rows (rows_named new)) d l ≡ counts d l) → FiguresStay old new → HasFigures (rows_named new)
  figures_stay same stays = figures_follow (λ before. before) same stays

  pub office_stays : office_of_rows (rows_named new) ≡ office_of_rows (rows_named old) → FiguresStay old new → HasFigures (rows_named new)
  office_stays is stays = figures_stay (λ d l. ap (λ (o : Office). office_counts o d l) is) stays
