-- The commit of a template keeps an office's file one: its entries, and the units that are fitted to it.
use Rattle.std.proofs.Common.{◌≡◌, ◌≢◌, ℕ, ◌+◌, inl, inr, List, [], ◌∷◌, true, refl, sym, subst, codes}
use Rattle.std.specs.Prelude.{IsTrue}
use Rattle.std.proofs.lemmas.Bool.{and_from}
use Rattle.sqlite.specs.Order.{Row}
use Rattle.sqlite_rules.specs.Lists.{Has}
use Rattle.po_text.specs.declared.entry.Entry.{Entry}
use Rattle.po_text.specs.Valid.{IsValid}
use Rattle.units.specs.KeyTexts.{HasStrings}
use Rattle.units.specs.Units.{key_of, key_text}
use Rattle.office_specification.specs.ProjectActs.{LanguagePlan}
use Rattle.office_specification.specs.OfficeRules.{KeepsRules}
use Rattle.request_book.specs.declared.book.Record.{Record}
use Rattle.sql_columns.specs.Written.{texts_text}
use Rattle.sql_schema.specs.Inside.{Then, AreOfficeTablesOf}
use Rattle.sql_schema.specs.Keys.{row_number, columns}
use Rattle.po_text.specs.Texts.{Text}
use Rattle.units.specs.Projects.{IsProject}
use Rattle.sql_meaning.specs.Meaning.{template_in, project_of_rows}
use Rattle.sql_meaning.specs.Domains.{meaning_by_domain}
use Rattle.sql_changes.specs.Commits.{PutsNumberedRecord, entry_row, PutsEntries, WritesTemplate, MakesTemplate, MakesIn}
use Rattle.sql_changes.specs.EntryWrites.{IsRowOf, HaveRows, HoldsEntries}
use Rattle.sql_changes.specs.UnitWrites.{LeavesRows, WritesPlansBack}
use Rattle.sql_changes.proofs.PlannedUnits.{plans_from_last}
use Rattle.sql_decoding.specs.RowTests.{is_key, are_texts, is_entry_row}
use Rattle.sql_decoding.proofs.ColumnsTested.{text_stands, key_stands, texts_stand}
use Rattle.sql_keepable.specs.Keepable.{IsKeepableEntry, AreKeepableEntries, AreKeepablePlans}
use Rattle.sql_figures.specs.Figures.{HasFigures}
use Rattle.sql_files.specs.Files.{IsKeepable, StandForAll, IsOfficeDatabase}
use Rattle.sql_files.proofs.Puts.{all_put, template_same, form_same, book_same}
use Rattle.sql_files.proofs.UnitKept.{plural_stands, plans_keep}
use Rattle.sql_files.proofs.ActKept.{record_step, kept_in}
use Rattle.sql_schema.specs.Layouts.{by_domain, NamedRows, rows_named}
use Rattle.sql_schema.proofs.Layouts.{names_differ}
use Rattle.sqlite.specs.Effect.{Database}
use Rattle.sql_schema.specs.SeenRows.{seen_in}

-- ---- an entry's row

abbrev pub EntryStands : Row → Type 0
EntryStands row = IsTrue (is_entry_row (columns (3 ∷ 4 ∷ 5 ∷ 6 ∷ 2 ∷ 0 ∷ []) row))

entry_stands : (place : ℕ) (entry : Entry) → HasStrings (key_of entry) → IsKeepableEntry entry → is_entry_row (columns (3 ∷ 4 ∷ 5 ∷ 6 ∷ 2 ∷ 0 ∷ []) (entry_row place entry)) ≡ true
entry_stands place entry strings fits =
    let shown : Row = columns (3 ∷ 4 ∷ 5 ∷ 6 ∷ 2 ∷ 0 ∷ []) (entry_row place entry) in
    and_from _ _ (text_stands 4 shown (key_text (key_of entry)) refl is_key fits.key_column (key_stands (key_text (key_of entry)) (key_of entry) strings refl))
    (and_from _ _ (plural_stands entry.plural (columns (4 ∷ 5 ∷ 6 ∷ 2 ∷ 0 ∷ []) (entry_row place entry)) fits.plural)
    (and_from _ _ (text_stands 1 shown (texts_text entry.extracted) refl are_texts fits.extracted_column (texts_stand (texts_text entry.extracted) entry.extracted refl))
    (and_from _ _ (text_stands 2 shown (texts_text entry.references) refl are_texts fits.references_column (texts_stand (texts_text entry.references) entry.references refl))
    (text_stands 3 shown (texts_text entry.flags) refl are_texts fits.flags_column (texts_stand (texts_text entry.flags) entry.flags refl)))))

pub entries_stand : (place : ℕ) (entries : List Entry) → AreKeepableEntries entries → (old new : NamedRows) → PutsEntries place entries old new
    → ((row : Row) → Has (old (codes "template")) row → EntryStands row) → (row : Row) → Has (new (codes "template")) row → EntryStands row
entries_stand place [] fits old new is each row there = each row (subst (λ (d : NamedRows). Has (d (codes "template")) row) is there)
entries_stand place (entry ∷ more) fits old new (mid, put, rest) each row there =
    let made = put.0.0 in
    entries_stand (place + 1) more (λ e there. fits e (inr there)) mid new rest
    (all_put row_number EntryStands (old (codes "template")) (mid (codes "template")) made.row made.put each
    (subst EntryStands (sym made.is_row) (entry_stands place entry put.1 (fits entry (inl refl))))) row there

-- and so do the rows that are those of keepable entries
rows_stand : (place : ℕ) (entries : List Entry) (rows : List Row) → AreKeepableEntries entries → HaveRows place entries rows → (row : Row) → IsRowOf place entries row → EntryStands row
rows_stand place [] rows fits all row is = absurd is
rows_stand place (entry ∷ more) rows fits all row (inl is) = subst EntryStands (sym is) (entry_stands place entry all.1 (fits entry (inl refl)))
rows_stand place (entry ∷ more) rows fits all row (inr later) = rows_stand (place + 1) more rows (λ e there. fits e (inr there)) all.2 row later

pub template_step : (old new : NamedRows) → ((t : List ℕ) → t ≢ codes "template" → new t ≡ old t) → IsValid (template_in new) → ((row : Row) → Has (new (codes "template")) row → EntryStands row)
    → StandForAll old → StandForAll new
template_step old new apart valid entries it =
    let policy = apart (codes "policy") (names_differ refl) in
    record {
      form = form_same old new policy it.form;
      office = record {
        members = λ row there. it.office.members row (subst (λ rows. Has rows row) (apart (codes "team") (names_differ refl)) there);
        policy = λ row there. it.office.policy row (subst (λ rows. Has rows row) policy there);
        entries = entries;
        template = valid;
        languages = λ row there. it.office.languages row (subst (λ rows. Has rows row) (apart (codes "language") (names_differ refl)) there);
        units = λ row there. it.office.units row (subst (λ rows. Has rows row) (apart (codes "unit") (names_differ refl)) there);
        suggestions = λ row there. it.office.suggestions row (subst (λ rows. Has rows row) (apart (codes "suggestion") (names_differ refl)) there);
        votes = λ row there. it.office.votes row (subst (λ rows. Has rows row) (apart (codes "vote") (names_differ refl)) there);
      };
      book = book_same old new (apart (codes "record") (names_differ refl)) it.book;
    }

-- ---- the commit

module _ (mid next after : NamedRows) (entries : List Entry) (plans : List LanguagePlan) (held : LeavesRows (HoldsEntries entries) mid next) (written : WritesPlansBack plans next after)
    (project : IsProject (project_of_rows after)) where
  template_stays : after (codes "template") ≡ next (codes "template")
  template_stays = (plans_from_last plans next after held.1 written).others.template

  changed_step : AreKeepableEntries entries → AreKeepablePlans plans → StandForAll mid → StandForAll after
  changed_step fits all it =
      plans_keep plans all next after written
      (template_step mid next held.0.others (template_same after next (sym template_stays) project.template_valid)
      (λ row there. rows_stand 0 entries (next (codes "template")) fits held.0.all row (held.0.only row there)) it)

makes_template : (old new : NamedRows) (row : Record) (entries : List Entry) (plans : List LanguagePlan) → Then (PutsNumberedRecord row) (WritesTemplate entries plans) old new
    → IsKeepable row → AreKeepableEntries entries → AreKeepablePlans plans → IsProject (project_of_rows new) → StandForAll old → StandForAll new
makes_template old new row entries plans (mid, recorded, (next, held, written)) keepable fits all project it =
    changed_step mid next new entries plans held written project fits all (record_step old mid row recorded keepable it)

stand_after_template : (old new : NamedRows) (row : Record) (entries : List Entry) (plans : List LanguagePlan) → MakesTemplate row entries plans old new
    → IsKeepable row → AreKeepableEntries entries → AreKeepablePlans plans → IsProject (project_of_rows new) → StandForAll old → StandForAll new
unfolding MakesTemplate
stand_after_template old new row entries plans it keepable fits all project = makes_template old new row entries plans it keepable fits all project

pub template_keeps : (old new : Database) (row : Record) (domain : Text) (entries : List Entry) (plans : List LanguagePlan) → MakesIn domain row (MakesTemplate row entries plans) old new → AreOfficeTablesOf by_domain new
    → IsKeepable row → AreKeepableEntries entries → AreKeepablePlans plans → KeepsRules (meaning_by_domain (rows_named new))
    → HasFigures (rows_named new) → IsOfficeDatabase by_domain old → IsOfficeDatabase by_domain new
template_keeps old new row domain entries plans it ready keepable fits all rules figures file =
    kept_in old new row ready keepable rules figures file domain (MakesTemplate row entries plans) it
    (λ made project. stand_after_template (seen_in domain (rows_named old)) (seen_in domain (rows_named new)) row entries plans made keepable fits all project)
