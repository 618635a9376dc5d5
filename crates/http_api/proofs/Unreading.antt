-- A message for which there was no memory to read what it asks.
use Rattle.std.proofs.Common.{◌≡◌, ℕ, Bool, inl, inr, refl}
use Rattle.request_book.specs.Book.{OfficeWithBook}
use Rattle.tables.specs.declared.faults.Lost.TheVariants as lost
use Rattle.http_messages.specs.declared.refusal.Refusal.TheVariants.{Memory}
use Rattle.http_api.specs.Answers.{refusal_text}
use Rattle.http_messages.specs.Asked.{Asked}
use Rattle.http_messages.specs.Asked as ask
use Rattle.http_messages.specs.Askings.{MayTakeMemory}
use Rattle.http_api.specs.Outcomes.{Outcome, failed, outcome_answer, unit_lost}
use Rattle.http_api.specs.Answering.{Came}
use Rattle.http_api.proofs.Coming.{told}

pub record ToldOfMemory (Honest Whole Stopped : Type 0) (Runs : ℕ → Type 0) (MayLeave : OfficeWithBook → Type 0) (meaning : OfficeWithBook) (asked : Asked) : Type 0 where
  pub outcome : Outcome
  pub came : Came Honest Whole Stopped Honest Whole Stopped Runs Runs MayLeave MayLeave meaning meaning asked outcome
  pub text : (last : Bool) → outcome_answer outcome last ≡ refusal_text Memory last

pub unread_told : (Honest Whole Stopped : Type 0) (Runs : ℕ → Type 0) (MayLeave : OfficeWithBook → Type 0) (meaning : OfficeWithBook) (asked : Asked) → MayTakeMemory asked → ToldOfMemory Honest Whole Stopped Runs MayLeave meaning asked
unread_told Honest Whole Stopped Runs MayLeave meaning (ask.refused _) may = absurd may
unread_told Honest Whole Stopped Runs MayLeave meaning (ask.request number callers body) may = absurd may
unread_told Honest Whole Stopped Runs MayLeave meaning (ask.export name) may = absurd may
unread_told Honest Whole Stopped Runs MayLeave meaning (ask.unit name) may = record {
  outcome = failed Memory;
  came = told Honest Whole Stopped Honest Whole Stopped meaning meaning (ask.unit name) (failed Memory) refl (λ h. h) (λ h w. w) (λ s. s) (λ since ran. ran) (λ h w. refl) (λ h m left. inl left) (λ office place. unit_lost lost.Memory refl (λ never. absurd (let is : lost.Memory ≡ lost.Disk = never in cc)));
  text = λ last. refl;
}
unread_told Honest Whole Stopped Runs MayLeave meaning ask.unnamed may = record {
  outcome = failed Memory;
  came = told Honest Whole Stopped Honest Whole Stopped meaning meaning ask.unnamed (failed Memory) refl (λ h. h) (λ h w. w) (λ s. s) (λ since ran. ran) (λ h w. refl) (λ h m left. inl left) (λ office place. inr refl);
  text = λ last. refl;
}
unread_told Honest Whole Stopped Runs MayLeave meaning (ask.stats name) may = absurd may
