-- The figures that rows show are those of an office, or why they are refused.
use Rattle.std.proofs.Common.{◌≡◌, List, Bool, true, false, ◌&&◌, Result, Ok, Err, IfErr, OnOk, refl, sym, subst, ◌∙◌}
use Rattle.std.specs.Bool.{Decides}
use Rattle.std.proofs.lemmas.Bool.{false≢true, and_parts, and_from}
use Rattle.sqlite.specs.Order.{Row}
use Rattle.sqlite.specs.Effect.{Database}
use Rattle.sqlite.specs.State.{State, HasCleanDisk}
use Rattle.sqlite.specs.declared.error.Error.{Error}
use Rattle.units.specs.Office.{Office}
use Rattle.units.specs.Offices.{IsOffice}
use Rattle.tables.specs.declared.faults.Lost.{Lost}
use Rattle.tables.specs.declared.faults.Lost.TheVariants as lost
use Rattle.sql_schema.specs.Inside.{AreOfficeTablesOf}
use Rattle.sql_schema.specs.Layouts.{for_main, rows_named}
use Rattle.sql_schema.specs.Whole.{IsIdleOver, IsLookUp}
use Rattle.sql_decoding.specs.declared.faults.Failure.{Failure}
use Rattle.sql_decoding.specs.RowTests.{IsUnread}
use Rattle.sql_decoding.proofs.RowsTold.{disk_is_other}
use Rattle.sql_figures.specs.Figures.{figures_of_main}
use Rattle.sql_figures.specs.KeptTallies.{Counts, office_counts}
use Rattle.sql_adoption.specs.FigureRows.{ShowsMainFigures, AreTalliesShown, ShowFigures, have_shown_sums, votes_stand}
use Rattle.sql_adoption.specs.Reading.{unread, FiguresOf, RefusesFigureRows, RefusesFigures, RefusesShown}
use Rattle.sql_adoption.specs.declared.faults.OpenFault.{OpenFault}
use Rattle.sql_adoption.specs.declared.faults.OpenFault.TheVariants.{Memory, Disk, Foreign, Exists, Refused}
use Rattle.sql_adoption.specs.declared.faults.Mismatch.TheVariants.{OtherTables, OtherForm, UnreadRow, OtherFigures, BrokenRules}
use Rattle.sql_adoption.specs.declared.figure_rows.FigureRows.{FigureRows}
use Rattle.sql_adoption.proofs.FiguresTold.{figures_told, figures_shown, they_stand, keyed_for_main, main_numbers_stand}
use Rattle.sql_layouts.proofs.Looked.{looked_on, looked_in_vain, looked_ready}

-- ---- rows at hand

pub both_told : (counts : Counts) (rows : FigureRows) (shown : List Row) (tallies sums : Bool) → shown ≡ rows.tallies.items → Decides tallies (AreTalliesShown counts shown) → sums ≡ have_shown_sums rows
    → Decides (tallies && sums) (ShowFigures counts rows)
both_told counts rows shown tallies sums same told is = (
  λ e. let both = and_parts tallies sums e in record { tallies = subst (AreTalliesShown counts) same (told.0 both.0); sums = sym is ∙ both.1 },
  λ show. and_from tallies sums (told.1 (subst (AreTalliesShown counts) (sym same) show.tallies)) (is ∙ show.sums),
)

-- rows that weren't read
pub figures_unread : (rows : FigureRows) (failure : Failure) (fault : OpenFault) → fault ≡ unread failure.lost → IsUnread (votes_stand rows) failure → RefusesFigureRows rows fault
figures_unread rows failure fault is unread_rows = subst (RefusesFigureRows rows) (sym is) (by failure.lost refl)
  where
    by : (l : Lost) → failure.lost ≡ l → RefusesFigureRows rows (unread l)
    by lost.Memory e = tt
    by lost.Refused e = tt
    by lost.Disk e = unread_rows (disk_is_other failure.lost e)

-- the office whose figures are refused too
pub shown_refused : (office : Office) (rows : FigureRows) (fault : OpenFault) → RefusesFigureRows rows fault → RefusesShown office rows fault
shown_refused office rows (Foreign UnreadRow) h = h
shown_refused office rows (Foreign OtherFigures) h = absurd h
shown_refused office rows (Foreign BrokenRules) h = absurd h
shown_refused office rows (Foreign OtherForm) h = absurd h
shown_refused office rows (Foreign OtherTables) h = absurd h
shown_refused office rows Exists h = absurd h
shown_refused office rows Memory h = tt
shown_refused office rows Disk h = tt
shown_refused office rows Refused h = tt

pub others_shown : (office : Office) (rows : FigureRows) (are : Bool) → (IsOffice office → Decides are (ShowFigures (office_counts office) rows)) → are ≡ false → RefusesShown office rows (Foreign OtherFigures)
others_shown office rows are told e is_office show = false≢true (sym e ∙ (told is_office).1 show)

-- ---- those of tables without a column for a domain

module _ (old new : State) (rows : FigureRows) (office : Office) (idle : IsIdleOver (for_main true) old) (it : IsLookUp {E = Error} old new (Ok rows) ShowsMainFigures) where
  abbrev Hold : Database → Unit {0} → Type 0
  Hold db _ = IsOffice office → FiguresOf (for_main true) office db

  ready : HasCleanDisk new → AreOfficeTablesOf (for_main true) old.now
  ready clean = looked_ready old new {E = Error} rows ShowsMainFigures idle it clean

  refused_rows : HasCleanDisk new → (fault : OpenFault) → RefusesShown office rows fault → RefusesFigures (for_main true) office old.now fault
  refused_rows clean (Foreign UnreadRow) h = λ stand. false≢true (sym h
      ∙ they_stand (figures_of_main (rows_named old.now)) (keyed_for_main old.now (ready clean)) rows (it.answer clean) stand.votes (main_numbers_stand (rows_named old.now) stand))
  refused_rows clean (Foreign OtherFigures) h = λ is_office hold.
      h is_office (figures_shown (figures_of_main (rows_named old.now)) (keyed_for_main old.now (ready clean)) rows (it.answer clean) office hold)
  refused_rows clean (Foreign BrokenRules) h = absurd h
  refused_rows clean (Foreign OtherForm) h = absurd h
  refused_rows clean (Foreign OtherTables) h = absurd h
  refused_rows clean Exists h = absurd h
  refused_rows clean Memory h = tt
  refused_rows clean Disk h = tt
  refused_rows clean Refused h = tt

  -- what was told of the rows that were read is so of the tables
  pub figures_found : (r : Result (Unit {0}) OpenFault) → (IsOffice office → OnOk r (ShowFigures (office_counts office) rows)) → IsLookUp old new r Hold
  figures_found (Ok u) shown = looked_on old new {E = Error} rows (Ok u) ShowsMainFigures Hold it (λ early is_open shows is_office.
      figures_told (figures_of_main (rows_named old.now)) (keyed_for_main old.now (idle.ready early is_open)) rows shows office (shown is_office))
  figures_found (Err fault) shown = looked_in_vain old new (Ok rows) fault ShowsMainFigures Hold it

  pub figures_in_vain : (r : Result (Unit {0}) OpenFault) → IfErr r (RefusesShown office rows) → IfErr r (λ fault. HasCleanDisk new → RefusesFigures (for_main true) office old.now fault)
  figures_in_vain (Ok u) refused = tt
  figures_in_vain (Err fault) refused = λ clean. refused_rows clean fault refused
