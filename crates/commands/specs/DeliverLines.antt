-- What comes of `office deliver`: the lines of a text, what each is answered, and behind the answers the text of a domain's language. This
-- project's own rule.
use Rattle.std.specs.Prelude.{◌≡◌, ◌≤◌, ◌-◌, ◌^◌, ◌⊎◌, ℕ, List, [], ◌++◌, length, Option, Some, None, IsSomeAnd}
use Rattle.po_text.specs.Texts.{Text}
use Rattle.units.specs.Office.{Office, project_in}
use Rattle.byte_streams.specs.Streams.{Took, RoseOrStands}
use Rattle.request_book.specs.Book.{OfficeWithBook}
use Rattle.office_specification.specs.ExportText.{export_text}
use Rattle.office.specs.declared.faults.ExportFault.TheVariants.{NoLanguage}
use Rattle.office.specs.Writers.{Writer, TakesAll, TakesPart}
use Rattle.commands.specs.TextLines.{AreLinesOf}
use Rattle.office.specs.Exchanges.{Exchange, IsDelivered, Answered}
use Rattle.commands.specs.declared.deliver.AtLost.{AtLost}
use Rattle.commands.specs.declared.deliver.AtLost.TheVariants.{End}
use Rattle.commands.specs.ExportLines.{EndedWithFault}
use Rattle.commands.specs.LostLines.{GoingOn, BrokenOff, EndedAt}

-- ---- lines and their answers

-- All lines of a text were answered,
pub record AllAnswered (Did : List Exchange → Type 0) (Wrote : List ℕ → Type 0) (text : List ℕ) : Type 0 where
  pub lines : List (List ℕ)
  pub are : AreLinesOf text lines
  pub answered : Answered Did Wrote lines

-- or only the first of them.
pub record SomeAnswered (Did : List Exchange → Type 0) (Wrote : List ℕ → Type 0) (text : List ℕ) : Type 0 where
  pub lines : List (List ℕ)
  pub are : AreLinesOf text lines
  pub front : List (List ℕ)
  pub back : List (List ℕ)
  pub cut : lines ≡ front ++ back
  pub answered : Answered Did Wrote front

-- A stream failed: which, and what was written of the answers till then.
pub data Stopped (HandedOn : Type 0) (text : List ℕ) (reads_failed_old reads_failed_new : ℕ) (old new : Writer) (answers : List ℕ) : Type 0 where
  -- before a read the answers so far were handed on
  no_source : RoseOrStands reads_failed_old reads_failed_new → TakesAll old new answers → HandedOn
      → Stopped HandedOn text reads_failed_old reads_failed_new old new answers
  no_sink : TakesPart old new answers
      → Stopped HandedOn text reads_failed_old reads_failed_new old new answers
  -- there are more reads than a number counts
  endless : 2 ^ 64 - 1 ≤ length text → TakesAll old new answers
      → Stopped HandedOn text reads_failed_old reads_failed_new old new answers

-- ---- the text of a language

-- What came of an export of an office, on the two outputs and in the exit status:
pub data Exported (Honest Whole Gone : Type 0) (office : Office) (domain : Text) (lang : Option Text) (out_old out_new faults_old faults_new : Writer) (status : ℕ) : Type 0 where
  -- no language is named;
  unnamed : lang ≡ None → TakesAll out_old out_new [] → TakesAll faults_old faults_new [] → status ≡ 0
      → Exported Honest Whole Gone office domain lang out_old out_new faults_old faults_new status
  -- or its text was written, of tables that aren't shut;
  written : (named : Text) → lang ≡ Some named → (Honest → Whole) → (Honest → IsSomeAnd (export_text (project_in office domain) named) (Took out_old.taken out_new.taken))
      → TakesAll faults_old faults_new [] → status ≡ 0
      → Exported Honest Whole Gone office domain lang out_old out_new faults_old faults_new status
  -- or there is a fault. That the language isn't there is told by tables that aren't shut.
  faulted : (named : Text) → lang ≡ Some named
      → (ended : EndedWithFault Honest Gone office domain named out_old out_new faults_old faults_new) → (Honest → ended.fault ≡ NoLanguage → Whole) → status ≡ 1
      → Exported Honest Whole Gone office domain lang out_old out_new faults_old faults_new status

-- An export leaves what the tables mean, unless it shuts them.
pub record LeavesMeaning (Honest WholeBefore Whole : Type 0) (before after : OfficeWithBook) : Type 0 where
  pub whole : Honest → Whole → WholeBefore
  pub same : Honest → Whole → after ≡ before

-- ---- the whole

-- A writer took the answers, and then what an export made of it; at last it handed on what it held back, or failed to.
pub record TookBehind (Exports Flushed : Writer → Writer → Type 0) (old new : Writer) (text : List ℕ) : Type 0 where
  pub answered : Writer
  pub exported : Writer
  pub answers : TakesAll old answered text
  pub export : Exports answered exported
  pub flush : Flushed exported new

-- nothing more was written, and nothing is held back
abbrev pub HandsOn : Type 0 → Writer → Writer → Type 0
HandsOn HandedOn old new = TakesAll old new [] × HandedOn

abbrev pub HoldsBack : Writer → Writer → Type 0
HoldsBack old new = TakesPart old new []

-- the answers were handed on, or the writer failed
abbrev pub HandsOnOrFails : Type 0 → Writer → Writer → List ℕ → Type 0
HandsOnOrFails HandedOn old new answers = (TakesAll old new answers × HandedOn) ⊎ TakesPart old new answers

-- What came of a text, at the desk, on the outputs and in the exit status. The lines lead from the office before to that between them and the export, and the
-- export is of the latter. A stop when all is done loses no line's request that got a reply, also where a failure shut the tables, at a later line or at the
-- export.
pub data Delivered (at : AtLost) (HandedOn Honest WholeBetween Whole Gone WasWhole : Type 0) (MayLeave StillMayLeave : OfficeWithBook → Type 0) (before between after : OfficeWithBook) (domain : Text)
    (lang : Option Text) (text : List ℕ) (reads_failed_old reads_failed_new : ℕ) (replies_old replies_new faults_old faults_new : Writer) (status : ℕ) : Type 0 where
  -- Each line was answered, and the language exported behind the answers;
  done : AllAnswered (GoingOn at (IsDelivered Honest WholeBetween Gone WasWhole MayLeave StillMayLeave before between))
      (TookBehind (λ old new. Exported Honest Whole Gone between.office domain lang old new faults_old faults_new status) (HandsOn HandedOn) replies_old replies_new) text
      → Delivered at HandedOn Honest WholeBetween Whole Gone WasWhole MayLeave StillMayLeave before between after domain lang text reads_failed_old reads_failed_new replies_old replies_new faults_old faults_new status
  -- or the writer held back some of that;
  held : (exit : ℕ) → AllAnswered (GoingOn at (IsDelivered Honest WholeBetween Gone WasWhole MayLeave StillMayLeave before between))
      (TookBehind (λ old new. Exported Honest Whole Gone between.office domain lang old new faults_old faults_new exit) HoldsBack replies_old replies_new) text
      → status ≡ 1
      → Delivered at HandedOn Honest WholeBetween Whole Gone WasWhole MayLeave StillMayLeave before between after domain lang text reads_failed_old reads_failed_new replies_old replies_new faults_old faults_new status
  -- or a stream failed behind the first lines;
  stopped : SomeAnswered (BrokenOff at (IsDelivered Honest Whole Gone WasWhole MayLeave StillMayLeave before after)) (Stopped HandedOn text reads_failed_old reads_failed_new replies_old replies_new) text
      → TakesAll faults_old faults_new [] → status ≡ 1
      → Delivered at HandedOn Honest WholeBetween Whole Gone WasWhole MayLeave StillMayLeave before between after domain lang text reads_failed_old reads_failed_new replies_old replies_new faults_old faults_new status
  -- or the list was to end at a lost line, and did: nothing behind it was delivered.
  lost : at ≡ End → SomeAnswered (EndedAt (IsDelivered Honest Whole Gone WasWhole MayLeave StillMayLeave before after)) (HandsOnOrFails HandedOn replies_old replies_new) text
      → TakesAll faults_old faults_new [] → status ≡ 1
      → Delivered at HandedOn Honest WholeBetween Whole Gone WasWhole MayLeave StillMayLeave before between after domain lang text reads_failed_old reads_failed_new replies_old replies_new faults_old faults_new status
