-- What is taken over, and what is given back where that fails.
use Rattle.std.proofs.Common.{◌≡◌, inl, inr, false, Result, Ok, Err, OnOk, OnErr, refl, sym, ap, subst, ◌∙◌, arith, true, ◌≤◌}
use Rattle.std.specs.Prelude.{MatchResult, IsErrAnd, IfErr}
use Rattle.sqlite.specs.Effect.{Database}
use Rattle.sqlite.specs.State.{State, HasCleanDisk}
use Rattle.sqlite.specs.Tree.{Trees}
use Rattle.request_book.specs.Book.{OfficeWithBook}
use Rattle.sql_schema.specs.Inside.{AreOfficeTablesOf}
use Rattle.sql_schema.specs.Layouts.{Form, IsForMain, by_domain, NamedRows, rows_named}
use Rattle.sql_schema.specs.Whole.{IsCommitOf}
use Rattle.sql_meaning.specs.Meaning.{meaning_in}
use Rattle.sql_meaning.specs.Domains.{meaning_by_domain, meaning_for, DatabaseMeans, TreesMean}
use Rattle.sql_adoption.specs.Adoption.{IsAdopted, IsAdoptedOf, IsAdoptedIn, StaysAsItWas, Refuses}
use Rattle.sql_layouts.specs.Tables.{form_told}
use Rattle.sql_adoption.specs.declared.faults.OpenFault.{OpenFault}
use Rattle.sql_adoption.specs.declared.tested.Adopted.{Adopted}
use Rattle.sql_adoption.specs.declared.tested.Adopted.TheVariants as adopted_so
use Rattle.sql_adoption.specs.declared.tested.MainOffice.{MainOffice}
use Rattle.sql_schema.proofs.Layouts.{of_main}
use Rattle.sql_files.specs.Files.{IsOfficeFile}
use Rattle.sql_files.proofs.Listed.{database_means, file_left}
use Rattle.sql_conversion.specs.Conversion.{KeepsOldRows, Converts, IsLeftOf, IsTakenOver, IsGivenBack}
use Rattle.tables.specs.declared.faults.Lost.{Lost}
use Rattle.tables.specs.declared.faults.Lost.TheVariants as lost
use Rattle.sql_decoding.specs.declared.faults.Failure.{Failure}
use Rattle.sql_decoding.specs.DiskFailures.{FailsTruly}
use Rattle.sql_adoption.specs.declared.faults.OpenFault.TheVariants.{Disk}
use Rattle.sql_adoption.specs.Faults.{fault_of}
use Rattle.sql_adoption.specs.Reading.{OpensTruly}

-- what was told in other words
module _ {A E F : Type 0} (Tells : E → F → Type 0) (X : Type 0) where
  abbrev IsTold : Result A E → Result A F → Type 0
  IsTold r told = MatchResult r (λ x. told ≡ Ok x) (λ e. IsErrAnd told (Tells e))

  pub told_ok : (r : Result A E) (told : Result A F) → IsTold r told → OnOk r X → OnOk told X
  told_ok (Ok x) told is h = subst (λ t. OnOk t X) (sym is) h
  told_ok (Err e) (Ok x) is h = absurd is
  told_ok (Err e) (Err f) is h = tt

  pub told_err : (r : Result A E) (told : Result A F) → IsTold r told → OnErr r X → OnErr told X
  told_err (Ok x) told is h = subst (λ t. OnErr t X) (sym is) tt
  told_err (Err e) (Ok x) is h = absurd is
  told_err (Err e) (Err f) is h = h

-- a failure that is told as a fault
pub disk_told : (why : Lost) → fault_of why ≡ Disk → why ≡ lost.Disk
disk_told lost.Memory same = absurd cc
disk_told lost.Disk same = refl
disk_told lost.Refused same = absurd cc

pub told_truly : {A : Type 0} (old new : State) (r : Result A Failure) (told : Result A OpenFault) → MatchResult r (λ x. told ≡ Ok x) (λ failure. IsErrAnd told (λ fault. fault ≡ fault_of failure.lost)) → FailsTruly old new r → OpensTruly old new told
told_truly old new (Ok x) told is fails = subst (OpensTruly old new) (sym is) (λ clean. tt)
told_truly old new (Err failure) (Ok x) is fails = absurd is
told_truly old new (Err failure) (Err fault) is fails = λ clean disk. fails clean (disk_told failure.lost (sym is ∙ disk))

-- ---- tables without a column for a domain

-- they mean what they always meant
meant_so : (form : Form) → IsForMain form → (rows : NamedRows) → meaning_for form rows ≡ meaning_in rows
meant_so form is_main rows = of_main (λ f. meaning_for f rows ≡ meaning_in rows) form is_main (λ figures. refl)

module _ (old new : State) (adopted : MainOffice) (it : IsAdoptedIn old (adopted_so.ForMain adopted)) (is_main : IsForMain (form_told adopted.form)) where
  ready : HasCleanDisk old → AreOfficeTablesOf (form_told adopted.form) old.now
  ready clean = it.idle.ready clean (it.is_open clean)

  rows : HasCleanDisk old → IsAdopted old.now
  rows clean = (form_told adopted.form, record { schema = (ready clean).schema; tables = (ready clean).tables }, (it.adopted clean).rows)

  means : HasCleanDisk old → DatabaseMeans old.now (meaning_in (rows_named old.now))
  means clean = (form_told adopted.form, (ready clean).schema, sym (meant_so (form_told adopted.form) is_main (rows_named old.now)))

  abbrev LeavesMade : Trees → OfficeWithBook → Type 0
  LeavesMade db m = TreesMean db m × IsOfficeFile db

  module _ {A E : Type 0} where
    early : (r : Result A E) → IsCommitOf by_domain old new r Converts → HasCleanDisk new → HasCleanDisk old
    early r commits clean = omega (arith, clean, commits.survives.clean)

    left : (r : Result A E) → IsCommitOf by_domain old new r Converts → HasCleanDisk new → (db : Trees) → new.may_leave db → IsLeftOf old db
    left r commits clean db leaves = elim (commits.survives.crash clean db leaves) [
      | inl was ↦ inl was
      | inr made ↦
          let m = meaning_in (rows_named old.now) in
          let trees = subst (TreesMean made.1.trees) made.2.meaning (database_means by_domain made.1 made.3) in
          let leaves = subst (λ t. LeavesMade t m) (sym made.4) (trees, file_left by_domain made.1 made.2.file) in
          inr (inr (m, means (early r commits clean), leaves.0, leaves.1))
    ]

    pub conversion_taken : (r : Result A E) → IsCommitOf by_domain old new r Converts → OnOk r (IsTakenOver old new)
    conversion_taken (Ok x) commits = record {
      honest = early (Ok x) commits;
      was_open = λ clean. it.is_open (early (Ok x) commits clean);
      is_open = commits.is_open;
      idle = record { ready = λ clean is_open. (commits.made clean).1; settled = λ clean is_open. (commits.made clean).2 };
      rows = λ clean. rows (early (Ok x) commits clean);
      means = λ clean. subst (DatabaseMeans old.now) (sym (commits.made clean).0.meaning) (means (early (Ok x) commits clean));
      file = λ clean. (commits.made clean).0.file;
      kept = λ clean. (commits.made clean).0.kept;
      committed = λ clean. (commits.made clean).2;
      ended = commits.ended;
      stops = left (Ok x) commits;
      limit = commits.survives.limit;
    }
    conversion_taken (Err e) commits = tt

    pub conversion_given_back : (r : Result A E) → IsCommitOf by_domain old new r Converts → OnErr r (IsGivenBack old new)
    conversion_given_back (Ok x) commits = tt
    conversion_given_back (Err e) commits = record {
      honest = early (Err e) commits;
      was_open = commits.was_open;
      now = λ clean is_open. (commits.same clean is_open).now;
      committed = λ clean is_open.
          let same = commits.same clean is_open in
          same.committed ∙ it.idle.settled (early (Err e) commits clean) same.was_open;
      ended = commits.ended;
      stops = left (Err e) commits;
      limit = commits.survives.limit;
    }

-- ---- tables by domains

pub as_they_stand : (s : State) → IsAdoptedIn s adopted_so.ByDomain → s.in_transaction ≡ false → IsTakenOver s s
as_they_stand s it ended =
    let ready : HasCleanDisk s → AreOfficeTablesOf by_domain s.now = λ clean. it.idle.ready clean (it.is_open clean) in
    let rows : HasCleanDisk s → IsAdoptedOf by_domain s.now = λ clean. it.adopted clean in
    record {
      honest = λ clean. clean;
      was_open = it.is_open;
      is_open = it.is_open;
      idle = it.idle;
      rows = λ clean. (by_domain, record { schema = (ready clean).schema; tables = (ready clean).tables }, rows clean);
      means = λ clean. (by_domain, (ready clean).schema, refl);
      file = λ clean.
          let own = rows clean in
          record { ready = ready clean; rows = record { form_told = own.told; office = own.office; book = own.book; figures = own.figures; rules = own.rules } };
      kept = λ clean name own apart. refl;
      committed = λ clean. it.idle.settled clean (it.is_open clean);
      ended = ended;
      stops = λ clean db leaves. inl leaves;
      limit = refl;
    }

-- ---- behind the tests

module _ (old mid new : State) (first : StaysAsItWas old mid) where
  -- what was refused before
  pub tests_given_back : IsGivenBack old mid
  tests_given_back = record {
    honest = first.honest;
    was_open = first.was_open;
    now = first.now;
    committed = first.committed;
    ended = first.ended;
    stops = λ clean db leaves. elim (first.stops clean db leaves) [ inl was ↦ inl was | inr same ↦ inr (inl same) ];
    limit = first.limit;
  }

  module _ (adopted : Adopted) (it : IsAdoptedIn mid adopted) where
    same_now : HasCleanDisk mid → mid.now ≡ old.now
    same_now clean = first.now clean (it.is_open clean)

    left_before : (db : Trees) → HasCleanDisk mid → IsLeftOf mid db → IsLeftOf old db
    left_before db clean (inl was) = elim (first.stops clean db was) [ inl before ↦ inl before | inr same ↦ inr (inl same) ]
    left_before db clean (inr (inl same)) = inr (inl (same ∙ ap (λ (d : Database). d.trees) (same_now clean)))
    left_before db clean (inr (inr (m, was, trees, file))) = inr (inr (m, subst (λ d. DatabaseMeans d m) (same_now clean) was, trees, file))

    taken_behind : IsTakenOver mid new → IsTakenOver old new
    taken_behind second = record {
      honest = λ clean. first.honest (second.honest clean);
      was_open = λ clean. first.was_open (second.honest clean) (second.was_open clean);
      is_open = second.is_open;
      idle = second.idle;
      rows = λ clean. subst IsAdopted (same_now (second.honest clean)) (second.rows clean);
      means = λ clean. subst (λ d. DatabaseMeans d (meaning_by_domain (rows_named new.now))) (same_now (second.honest clean)) (second.means clean);
      file = second.file;
      kept = λ clean. subst (λ d. KeepsOldRows d new.now) (same_now (second.honest clean)) (second.kept clean);
      committed = second.committed;
      ended = second.ended;
      stops = λ clean db leaves. left_before db (second.honest clean) (second.stops clean db leaves);
      limit = second.limit ∙ first.limit;
    }

    given_back_behind : IsGivenBack mid new → IsGivenBack old new
    given_back_behind second = record {
      honest = λ clean. first.honest (second.honest clean);
      was_open = λ clean is_open. first.was_open (second.honest clean) (second.was_open clean is_open);
      now = λ clean is_open. second.now clean is_open ∙ same_now (second.honest clean);
      committed = λ clean is_open. second.committed clean is_open ∙ first.committed (second.honest clean) (it.is_open (second.honest clean));
      ended = second.ended;
      stops = λ clean db leaves. left_before db (second.honest clean) (second.stops clean db leaves);
      limit = second.limit ∙ first.limit;
    }

    module _ {A : Type 0} where
      pub all_taken : (r : Result A OpenFault) → OnOk r (IsTakenOver mid new) → OnOk r (IsTakenOver old new)
      all_taken (Ok x) h = taken_behind h
      all_taken (Err e) h = tt

      pub all_given_back : (r : Result A OpenFault) → OnErr r (IsGivenBack mid new) → OnErr r (IsGivenBack old new)
      all_given_back (Ok x) h = tt
      all_given_back (Err e) h = given_back_behind h

      pub all_refused : (r : Result A OpenFault) → OnErr r (IsGivenBack mid new) → IfErr r (Refuses mid.now) → IfErr r (λ fault. HasCleanDisk new → Refuses old.now fault)
      all_refused (Ok x) h refused = tt
      all_refused (Err e) h refused = λ clean. subst (λ d. Refuses d e) (same_now (h.honest clean)) refused

      -- where the disk failed behind the tests, it failed: what was adopted isn't shut
      pub all_truly : (r : Result A OpenFault) → old.faults ≤ mid.faults → OnErr r (IsGivenBack mid new) → OpensTruly mid new r → OpensTruly old new r
      all_truly (Ok x) counts h opens clean = tt
      all_truly (Err e) counts h opens clean = λ disk. elim (opens clean disk) [
        | inl shut ↦ absurd (let never : true ≡ false = sym (it.is_open (h.honest clean)) ∙ shut in cc)
        | inr more ↦ inr (omega (arith, more, counts))
      ]
