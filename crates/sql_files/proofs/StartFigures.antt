-- Sums and tallies of the rows of a start are what counting these gives: no suggestion is there; of an opening no language either, and the demo's one
-- language has its tally.
use Rattle.std.proofs.Common.{◌≡◌, ◌≢◌, ℕ, List, [], ◌∷◌, Bool, true, false, cond, Option, Some, None, option_map, unwrap_or, map, filter, codes, refl, sym, ap, ◌∙◌}
use Rattle.std.specs.Prelude.{◌&&◌}
use Rattle.std.specs.FinMap as maps
use Rattle.sqlite.specs.Effect.{Database}
use Rattle.sqlite.specs.Order.{Row}
use Rattle.po_text.specs.declared.entry.Entry.{Entry}
use Rattle.po_text.specs.Texts.{Text, text_cmp, text_eq}
use Rattle.units.specs.Office.{Office, Domain, main, empty_domain, same_domain, as_project}
use Rattle.units.specs.Openings.{opening, demo, demo_domain, demo_header, demo_unit, plain_entry}
use Rattle.units.specs.Orders.{text_total, place_total}
use Rattle.units.specs.Project.{place_cmp, units_of}
use Rattle.units.specs.declared.unit.Unit.{Unit}
use Rattle.request_book.specs.Book.{OfficeWithBook}
use Rattle.office_specification.specs.Tally.{counts_in, counts_of}
use Rattle.office_specification.specs.declared.tally.Tally.{Tally}
use Rattle.office_specification.proofs.rows.DemoRequests.{demo_project}
use Rattle.sql_schema.specs.Layouts.{NamedRows, rows_named}
use Rattle.sql_schema.proofs.Layouts.{names_differ}
use Rattle.sql_meaning.specs.Beginnings.{MakesOpening, MakesDemo}
use Rattle.sql_meaning.proofs.MainBeginnings.{opening_means, demo_means}
use Rattle.sql_meaning.proofs.RowsPut.{no_entries}
use Rattle.sql_figures.specs.Figures.{HasFigures, with_tally}
use Rattle.sql_figures.specs.KeptSums.{HaveSums}
use Rattle.sql_figures.specs.KeptTallies.{Counts, AreTalliesOf, office_counts}
use Rattle.sql_figures.proofs.TallyRows.{same_text, tallies_alike, tally_put}
use Rattle.sql_files.specs.Files.{office_of}
use Rattle.sql_files.proofs.CountsFollow.{tests_alike}
use Rattle.sql_files.proofs.Puts.{no_row}

-- ---- no row

no_sums : (rows : NamedRows) → rows (codes "d_suggestion") ≡ [] → HaveSums rows
no_sums rows none s there = no_row (rows (codes "d_suggestion")) s none there

abbrev none_counts : Counts
none_counts d l = None

no_tallies : (rows : List Row) → rows ≡ [] → AreTalliesOf none_counts rows
no_tallies rows none = record {
  counted = λ row there. no_row rows row none there;
  all = λ d l some. absurd cc;
}

-- ---- what an office of one domain counts

alone_at : (own : Domain) (d : Text) → unwrap_or (maps.get (maps.insert (maps.empty {X = Domain} {R = text_cmp}) main own) d) empty_domain ≡ cond (same_domain d main) own empty_domain
alone_at own d =
    ap (λ (o : Option Domain). unwrap_or o empty_domain)
    (maps.get-insert text_total maps.empty main own d ∙ ap (λ (o : Option Domain). cond (same_domain d main) (Some own) o) (maps.get-empty {X = Domain} text_cmp d))
    ∙ by (same_domain d main)
  where
    by : (b : Bool) → unwrap_or (cond b (Some own) None) empty_domain ≡ cond b own empty_domain
    by true = refl
    by false = refl

nothing_counted : (office : Office) (l : Text) → counts_of (as_project office empty_domain) l ≡ None
nothing_counted office l = ap (option_map (λ (h : Entry). counts_in [] (units_of (as_project office empty_domain) l))) (maps.get-empty {X = Entry} text_cmp l)

-- ---- an opening

opening_counts : (name d l : Text) → office_counts (opening name) d l ≡ None
opening_counts name d l = ap (λ (own : Domain). counts_of (as_project (opening name) own) l) (alone_at empty_domain d ∙ by (same_domain d main)) ∙ nothing_counted (opening name) l
  where
    by : (b : Bool) → cond b empty_domain empty_domain ≡ empty_domain
    by true = refl
    by false = refl

opening_none : (name : Text) (old new : Database) → MakesOpening name old new → (t : List ℕ) → t ≢ codes "team" → t ≢ codes "policy" → t ≢ codes "domain" → rows_named new t ≡ []
opening_none name old new (made, tables, (first, member, policy)) t no_team no_policy no_domain = policy.others t no_policy ∙ member.others t no_team ∙ tables.2.others t no_domain ∙ tables.1 t

pub opening_figures : (name : Text) (old new : Database) → MakesOpening name old new → HasFigures (rows_named new)
opening_figures name old new made =
    let is = (opening_means name old new made).0 in
    let none = opening_none name old new made in
    record {
      tallies = tallies_alike none_counts (office_counts (office_of new)) (rows_named new (codes "d_tally"))
          (λ d l. ap (λ (m : OfficeWithBook). office_counts m.office d l) is ∙ opening_counts name d l)
          (no_tallies (rows_named new (codes "d_tally")) (none (codes "d_tally") (names_differ refl) (names_differ refl) (names_differ refl)));
      sums = no_sums (rows_named new) (none (codes "d_suggestion") (names_differ refl) (names_differ refl) (names_differ refl));
    }

-- ---- the demo

abbrev demo_tally : Tally
demo_tally = counts_in demo_domain.template (demo_unit ∷ [])

german_units : counts_in demo_domain.template (units_of demo_project (codes "de")) ≡ demo_tally
german_units =
    ap (λ es. counts_in demo_domain.template (map (λ e. e.1) (filter (λ e. text_eq (codes "de") e.0.0) es)))
    (maps.entries-insert place_total maps.empty (codes "de", demo_unit.key) demo_unit ∙ ap (maps.put place_cmp (codes "de", demo_unit.key) demo_unit) (no_entries place_cmp Unit))

german_counts : (l : Text) → counts_of demo_project l ≡ cond (text_eq l (codes "de")) (Some demo_tally) None
german_counts l =
    ap (option_map (λ (h : Entry). counts_in demo_domain.template (units_of demo_project l)))
    (maps.get-insert text_total maps.empty (codes "de") (plain_entry [] demo_header) l
    ∙ (λ i. cond (sym (tests_alike l (codes "de")) i) (Some (plain_entry [] demo_header)) (maps.get-empty {X = Entry} text_cmp l i)))
    ∙ by (text_eq l (codes "de")) refl
  where
    by : (b : Bool) → text_eq l (codes "de") ≡ b → option_map (λ (h : Entry). counts_in demo_domain.template (units_of demo_project l)) (cond b (Some (plain_entry [] demo_header)) None) ≡ cond b (Some demo_tally) None
    by true is = ap Some (ap (λ (t : Text). counts_in demo_domain.template (units_of demo_project t)) (same_text l (codes "de") is) ∙ german_units)
    by false apart = refl

demo_counts : (d l : Text) → office_counts demo d l ≡ with_tally main (codes "de") demo_tally none_counts d l
demo_counts d l = ap (λ (own : Domain). counts_of (as_project demo own) l) (alone_at demo_domain d) ∙ by (same_domain d main)
  where
    by : (b : Bool) → counts_of (as_project demo (cond b demo_domain empty_domain)) l ≡ cond (b && text_eq l (codes "de")) (Some demo_tally) None
    by true = german_counts l
    by false = nothing_counted demo l

demo_kept : (old new : Database) → MakesDemo old new
    → AreTalliesOf (with_tally main (codes "de") demo_tally none_counts) (rows_named new (codes "d_tally")) × (rows_named new (codes "d_suggestion") ≡ [])
demo_kept old new (made, tables, (team, (one, root, ann), (closed, policy, (hello, entry, (german, language, (unit, put, tally)))))) =
    let none : (t : List ℕ) → t ≢ codes "d_unit" → t ≢ codes "d_language" → t ≢ codes "d_template" → t ≢ codes "policy" → t ≢ codes "team" → t ≢ codes "domain" → rows_named unit t ≡ [] =
    λ t a b c d e f. put.others t a ∙ language.others t b ∙ entry.others t c ∙ policy.others t d ∙ ann.others t e ∙ root.others t e ∙ tables.2.others t f ∙ tables.1 t in (
      tally_put none_counts (rows_named unit (codes "d_tally")) (rows_named new (codes "d_tally")) main (codes "de") demo_tally tally.row tally.put tally.is_row
          (no_tallies (rows_named unit (codes "d_tally")) (none (codes "d_tally") (names_differ refl) (names_differ refl) (names_differ refl) (names_differ refl) (names_differ refl) (names_differ refl))),
      tally.others (codes "d_suggestion") (names_differ refl)
          ∙ none (codes "d_suggestion") (names_differ refl) (names_differ refl) (names_differ refl) (names_differ refl) (names_differ refl) (names_differ refl),
    )

pub demo_figures : (old new : Database) → MakesDemo old new → HasFigures (rows_named new)
demo_figures old new made =
    let is = (demo_means old new made).0 in
    let it = demo_kept old new made in
    record {
      tallies = tallies_alike (with_tally main (codes "de") demo_tally none_counts) (office_counts (office_of new)) (rows_named new (codes "d_tally"))
          (λ d l. ap (λ (m : OfficeWithBook). office_counts m.office d l) is ∙ demo_counts d l) it.0;
      sums = no_sums (rows_named new) it.1;
    }
