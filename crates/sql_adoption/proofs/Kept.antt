-- An office that was read keeps the rules with the book of the rows, or doesn't.
use Rattle.std.proofs.Common.{◌≡◌, Result, Ok, Err, IfOk, IfErr, OnOk, MatchResult, true, false, codes, refl, sym, ap, subst, ◌∙◌, arith}
use Rattle.sqlite.specs.Effect.{Database}
use Rattle.sqlite.specs.State.{State, HasCleanDisk}
use Rattle.request_book.specs.Book.{OfficeWithBook}
use Rattle.office_specification.specs.OfficeRules.{KeepsRules}
use Rattle.office_maps.specs.OfficeIn.{office_in}
use Rattle.units.specs.Office.{Office}
use Rattle.units.specs.Offices.{IsOffice}
use Rattle.sql_figures.specs.Figures.{HoldFigures, figures_of_main}
use Rattle.sql_figures.specs.KeptTallies.{office_counts, AreTalliesOf}
use Rattle.sql_schema.specs.Whole.{IsIdleOver, IsLookUp}
use Rattle.sql_meaning.specs.Meaning.{book_in, AreNumbered}
use Rattle.sql_meaning.specs.Domains.{meaning_for}
use Rattle.sql_adoption.specs.declared.faults.OpenFault.{OpenFault}
use Rattle.sql_adoption.specs.declared.faults.OpenFault.TheVariants.{Memory, Disk, Foreign, Exists, Refused}
use Rattle.sql_adoption.specs.declared.faults.Mismatch.TheVariants.{OtherTables, OtherForm, UnreadRow, OtherFigures, BrokenRules}
use Rattle.sql_adoption.specs.declared.office_put.ReadOffice.{ReadOffice}
use Rattle.sql_adoption.specs.Adoption.{KeepsFigures, AreContents, StandForBook, IsAdoptedAs, Lacks, Refuses}
use Rattle.sql_layouts.proofs.LaidOut.{one_form}
use Rattle.sql_layouts.specs.Tables.{form_told}
use Rattle.sql_layouts.specs.declared.office_tables.Form as told
use Rattle.sql_adoption.specs.declared.tested.MainOffice.{MainOffice}
use Rattle.sql_adoption.specs.Reading.{HoldsAll, IsReadOf, KeepsBook, KeepsRows, FiguresOf, RefusesWith, RefusesOf, RefusesBook, RefusesKept, RefusesFigures, RefusesKeptRows}
use Rattle.sql_layouts.proofs.Looked.{idle_still, if_ok, looked_on, looked_in_vain, looked_weaker, both_looked, looked_same}
use Rattle.sql_schema.specs.Layouts.{Form, for_main, by_domain, HasLayoutOf, NamedRows, rows_named}

-- where the rules were tested
pub book_is_kept : {X E : Type 0} (r : Result X E) (office : Office) (db : Database) → StandForBook (rows_named db) → AreNumbered (rows_named db) → AreContents (rows_named db)
    → OnOk r (KeepsRules (record { office = office; book = book_in (rows_named db) })) → IfOk r (λ _. KeepsBook office db)
book_is_kept (Ok x) office db stand numbered contents rules = record { stand = stand; numbered = numbered; contents = contents; rules = rules }
book_is_kept (Err e) office db stand numbered contents rules = tt

-- why a book, or an office with it, isn't kept
pub book_refused : (office : Office) (db : Database) (fault : OpenFault) → RefusesBook db fault → RefusesKept office db fault
book_refused office db (Foreign UnreadRow) h = h
book_refused office db (Foreign OtherFigures) h = absurd h
book_refused office db (Foreign BrokenRules) h = absurd h
book_refused office db (Foreign OtherForm) h = absurd h
book_refused office db (Foreign OtherTables) h = absurd h
book_refused office db Exists h = absurd h
book_refused office db Memory h = tt
book_refused office db Disk h = tt
book_refused office db Refused h = tt

pub rules_refused : (office : Office) (db : Database) (fault : OpenFault) → RefusesWith (record { office = office; book = book_in (rows_named db) }) fault → RefusesKept office db fault
rules_refused office db (Foreign UnreadRow) h = absurd h
rules_refused office db (Foreign OtherFigures) h = absurd h
rules_refused office db (Foreign BrokenRules) h = h
rules_refused office db (Foreign OtherForm) h = absurd h
rules_refused office db (Foreign OtherTables) h = absurd h
rules_refused office db Exists h = absurd h
rules_refused office db Memory h = tt
rules_refused office db Disk h = tt
rules_refused office db Refused h = tt

-- also with the figures
pub kept_refused : (form : Form) (office : Office) (db : Database) (fault : OpenFault) → RefusesKept office db fault → RefusesKeptRows form office db fault
kept_refused form office db (Foreign UnreadRow) h = λ stand. h stand.1
kept_refused form office db (Foreign OtherFigures) h = absurd h
kept_refused form office db (Foreign BrokenRules) h = h
kept_refused form office db (Foreign OtherForm) h = absurd h
kept_refused form office db (Foreign OtherTables) h = absurd h
kept_refused form office db Exists h = absurd h
kept_refused form office db Memory h = tt
kept_refused form office db Disk h = tt
kept_refused form office db Refused h = tt

-- ---- the figures

-- those of the office that the rows mean
pub figures_kept : (form : Form) (office : Office) (db : Database) → office ≡ (meaning_for form (rows_named db)).office → FiguresOf form office db → KeepsFigures form (rows_named db)
figures_kept (for_main false) office db is figures = tt
figures_kept (for_main true) office db is figures = subst (λ (o : Office). HoldFigures o (figures_of_main (rows_named db))) is figures
figures_kept by_domain office db is figures = record {
  tallies = subst (λ (o : Office). AreTalliesOf (office_counts o) (rows_named db (codes "d_tally"))) is figures.tallies;
  sums = figures.sums;
}

pub figures_of : (form : Form) (office : Office) (db : Database) → office ≡ (meaning_for form (rows_named db)).office → KeepsFigures form (rows_named db) → FiguresOf form office db
figures_of (for_main false) office db is figures = tt
figures_of (for_main true) office db is figures = subst (λ (o : Office). HoldFigures o (figures_of_main (rows_named db))) (sym is) figures
figures_of by_domain office db is figures = record {
  tallies = subst (λ (o : Office). AreTalliesOf (office_counts o) (rows_named db (codes "d_tally"))) (sym is) figures.tallies;
  sums = figures.sums;
}

-- why an office whose book is kept isn't kept with its figures
figures_refused : (form : Form) (office : Office) (db : Database) → KeepsBook office db → (fault : OpenFault) → RefusesFigures form office db fault → RefusesKeptRows form office db fault
figures_refused form office db kept (Foreign UnreadRow) h = λ stand. h stand.0
figures_refused form office db kept (Foreign OtherFigures) h = h kept.rules.office
figures_refused form office db kept (Foreign BrokenRules) h = absurd h
figures_refused form office db kept (Foreign OtherForm) h = absurd h
figures_refused form office db kept (Foreign OtherTables) h = absurd h
figures_refused form office db kept Exists h = absurd h
figures_refused form office db kept Memory h = tt
figures_refused form office db kept Disk h = tt
figures_refused form office db kept Refused h = tt

-- where none are kept
pub book_alone_kept : {U : Type 0} (office : Office) (Given : Database → Type 0) (old new : State) (r : Result U OpenFault) → IsLookUp old new r (λ db _. KeepsBook office db)
    → IsLookUp old new r (λ db _. Given db → KeepsRows (for_main false) office db)
book_alone_kept office Given old new r it =
    looked_weaker old new r (λ db _. KeepsBook office db) (λ db _. Given db → KeepsRows (for_main false) office db) (λ db u book given. record { book = book; figures = tt }) it

pub kept_anyway : {U : Type 0} (office : Office) (Given : Database → Type 0) (old new : State) (r : Result U OpenFault) → IsLookUp old new r (λ db _. KeepsBook office db)
    → IsLookUp old new r (λ db _. Given db → KeepsBook office db)
kept_anyway office Given old new r it = looked_weaker old new r (λ db _. KeepsBook office db) (λ db _. Given db → KeepsBook office db) (λ db u book given. book) it

pub figures_anyway : {U : Type 0} (form : Form) (office : Office) (Given : Database → Type 0) (old new : State) (r : Result U OpenFault) → IsLookUp old new r (λ db _. IsOffice office → FiguresOf form office db)
    → IsLookUp old new r (λ db _. Given db → IsOffice office → FiguresOf form office db)
figures_anyway form office Given old new r it =
    looked_weaker old new r (λ db _. IsOffice office → FiguresOf form office db) (λ db _. Given db → IsOffice office → FiguresOf form office db) (λ db u figures given. figures) it

-- with the figures, where something is given
module _ {U V : Type 0} (form : Form) (u : U) (office : Office) (Given : Database → Type 0) (old mid new : State) (r : Result V OpenFault) (one : IsLookUp {E = OpenFault} old mid (Ok u) (λ db _. Given db → KeepsBook office db))
    (two : IsLookUp mid new r (λ db _. Given db → IsOffice office → FiguresOf form office db)) where
  pub rows_are_kept : IsLookUp old new r (λ db _. Given db → KeepsRows form office db)
  rows_are_kept =
      let both = both_looked old mid new u r (λ db _. Given db → KeepsBook office db) (λ db _. Given db → IsOffice office → FiguresOf form office db) one two in
      record {
        answer = λ clean. if_ok r (λ v it given. record { book = it.0 given; figures = it.1 given (it.0 given).rules.office }) (both.answer clean);
        same = both.same;
        is_open = both.is_open;
        ended = both.ended;
        survives = both.survives;
      }

  pub rows_refused : IfErr r (λ fault. HasCleanDisk new → Given mid.now → RefusesFigures form office mid.now fault) → IfErr r (λ fault. HasCleanDisk new → Given old.now → RefusesKeptRows form office old.now fault)
  rows_refused h = by r two h
    where
      by : (s : Result V OpenFault) → IsLookUp mid new s (λ db _. Given db → IsOffice office → FiguresOf form office db) → IfErr s (λ fault. HasCleanDisk new → Given mid.now → RefusesFigures form office mid.now fault)
          → IfErr s (λ fault. HasCleanDisk new → Given old.now → RefusesKeptRows form office old.now fault)
      by (Ok v) looked k = tt
      by (Err fault) looked k = λ clean given.
          let before : HasCleanDisk mid = omega (arith, clean, looked.survives.clean) in
          let same = looked_same old mid new u (Err fault) (λ db _. Given db → KeepsBook office db) (λ db _. Given db → IsOffice office → FiguresOf form office db) one looked clean in
          figures_refused form office old.now (one.answer before given) fault (subst (λ db. RefusesFigures form office db fault) same (k clean (subst Given (sym same) given)))

-- the rows stay those of a form's tables
pub read_idle : (form : told.Form) (old mid : State) (read : ReadOffice) → IsIdleOver (form_told form) old → IsLookUp {E = OpenFault} old mid (Ok read) (IsReadOf (form_told form))
    → IsIdleOver (form_told form) mid
read_idle form old mid read idle one = idle_still old mid (Ok read) (IsReadOf (form_told form)) idle one

-- the book is the same in both forms
abbrev with_book : Office → NamedRows → OfficeWithBook
with_book office rows = record { office = office; book = book_in rows }

in_both : (form : Form) (rows : NamedRows) → with_book (meaning_for form rows).office rows ≡ meaning_for form rows
in_both (for_main figures) rows = refl
in_both by_domain rows = refl

-- the office with its languages
module _ (form : told.Form) (old mid new : State) (read : ReadOffice) (all : HoldsAll read) (one : IsLookUp {E = OpenFault} old mid (Ok read) (IsReadOf (form_told form))) where
  meant : (db : Database) → IsReadOf (form_told form) db read → with_book (office_in read.maps) (rows_named db) ≡ meaning_for (form_told form) (rows_named db)
  meant db is = ap (λ office. with_book office (rows_named db)) is.office ∙ in_both (form_told form) (rows_named db)

  -- what is answered
  abbrev pub Answered : MainOffice
  Answered = record { form = form; maps = read.maps; langs = read.langs }

  adopted_as : (db : Database) → IsReadOf (form_told form) db read → KeepsRows (form_told form) (office_in read.maps) db → IsAdoptedAs db Answered
  adopted_as db is kept = record {
    office = is.office;
    langs = all.langs;
    rows = record {
      told = is.told;
      office = is.stand;
      book = kept.book.stand;
      numbered = kept.book.numbered;
      contents = kept.book.contents;
      figures = figures_kept (form_told form) (office_in read.maps) db is.office kept.figures;
      rules = subst KeepsRules (meant db is) kept.book.rules;
    };
  }

  -- what is asked of the rows behind the read of the office
  abbrev pub KeepsRead : Database → Type 0
  KeepsRead db = IsReadOf (form_told form) db read → KeepsRows (form_told form) (office_in read.maps) db

  pub office_form : {U : Type 0} (kept : Result U OpenFault) (r : Result MainOffice OpenFault) → MatchResult kept (λ _. r ≡ Ok Answered) (λ fault. r ≡ Err fault) → IfOk r (λ office. office.form ≡ form)
  office_form (Ok u) r is = subst (λ s. IfOk s (λ (office : MainOffice). office.form ≡ form)) (sym is) refl
  office_form (Err f) r is = subst (λ s. IfOk s (λ (office : MainOffice). office.form ≡ form)) (sym is) tt

  pub office_adopted : {U : Type 0} (kept : Result U OpenFault) (r : Result MainOffice OpenFault) → IsLookUp mid new kept (λ db _. KeepsRead db)
      → MatchResult kept (λ _. r ≡ Ok Answered) (λ fault. r ≡ Err fault) → IsLookUp old new r IsAdoptedAs
  office_adopted (Ok u) r two is =
      subst (λ s. IsLookUp old new s IsAdoptedAs) (sym is)
      (looked_on old new {E = OpenFault} u (Ok Answered) _ IsAdoptedAs (both_looked old mid new read (Ok u) (IsReadOf (form_told form)) (λ db _. KeepsRead db) one two)
      (λ early was_open both. adopted_as old.now both.0 (both.1 both.0)))
  office_adopted (Err f) r two is =
      subst (λ s. IsLookUp old new s IsAdoptedAs) (sym is)
      (looked_in_vain old new (Err f) f _ IsAdoptedAs (both_looked old mid new read (Err f) (IsReadOf (form_told form)) (λ db _. KeepsRead db) one two))

  refused_with : (db : Database) → IsReadOf (form_told form) db read → (fault : OpenFault) → RefusesKeptRows (form_told form) (office_in read.maps) db fault → RefusesOf (form_told form) db fault
  refused_with db is (Foreign UnreadRow) h = h
  refused_with db is (Foreign OtherFigures) h = λ keeps. h (figures_of (form_told form) (office_in read.maps) db is.office keeps)
  refused_with db is (Foreign BrokenRules) h = λ rules. h (subst KeepsRules (sym (meant db is)) rules)
  refused_with db is (Foreign OtherForm) h = absurd h
  refused_with db is (Foreign OtherTables) h = absurd h
  refused_with db is Exists h = absurd h
  refused_with db is Memory h = tt
  refused_with db is Disk h = tt
  refused_with db is Refused h = tt

  pub office_refused : {U : Type 0} (kept : Result U OpenFault) (r : Result MainOffice OpenFault) → IsLookUp mid new kept (λ db _. KeepsRead db)
      → IfErr kept (λ fault. HasCleanDisk new → IsReadOf (form_told form) mid.now read → RefusesKeptRows (form_told form) (office_in read.maps) mid.now fault)
      → MatchResult kept (λ _. r ≡ Ok Answered) (λ fault. r ≡ Err fault) → IfErr r (λ fault. HasCleanDisk new → RefusesOf (form_told form) old.now fault)
  office_refused (Ok u) r two h is = subst (λ s. IfErr s (λ fault. HasCleanDisk new → RefusesOf (form_told form) old.now fault)) (sym is) tt
  office_refused (Err f) r two h is = subst (λ s. IfErr s (λ fault. HasCleanDisk new → RefusesOf (form_told form) old.now fault)) (sym is) (λ clean.
      let before : HasCleanDisk mid = omega (arith, clean, two.survives.clean) in
      let same = looked_same old mid new read (Err f) (IsReadOf (form_told form)) (λ db _. KeepsRead db) one two clean in
      refused_with old.now (one.answer before) f (subst (λ db. RefusesKeptRows (form_told form) (office_in read.maps) db f) same (h clean (subst (λ db. IsReadOf (form_told form) db read) (sym same) (one.answer before)))))

-- why tables of a form are refused, whatever their form
pub refused_so : (form : Form) (db : Database) → HasLayoutOf form db → (fault : OpenFault) → RefusesOf form db fault → Refuses db fault
refused_so form db has (Foreign OtherTables) h = absurd h
refused_so form db has (Foreign OtherForm) h = (form, has, h)
refused_so form db has (Foreign UnreadRow) h = (form, has, h)
refused_so form db has (Foreign OtherFigures) h = (form, has, h)
refused_so form db has (Foreign BrokenRules) h = (form, has, h)
refused_so form db has Exists h = absurd h
refused_so form db has Memory h = tt
refused_so form db has Disk h = tt
refused_so form db has Refused h = tt

-- what tables of one form lack, they lack in whichever form they are found to have
pub lacks_own : (P : Form → Type 0) (db : Database) (form : Form) → HasLayoutOf form db → Lacks P db → ¬ P form
lacks_own P db form has lacks holds = lacks.2 (subst P (one_form db.schema form lacks.0 has lacks.1) holds)
