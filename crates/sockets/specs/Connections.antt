-- What one connection over a socket leaves. Nothing is known of its bytes: some messages came, whatever they ask, and each was answered in its
-- turn. This project's own words.
use Rattle.std.specs.Prelude.{ℕ, List, length}
use Rattle.request_book.specs.Book.{OfficeWithBook}
use Rattle.http_messages.specs.Asked.{Asked}
use Rattle.http_api.specs.Outcomes.{Outcome}
use Rattle.http_api.specs.Served.{HasServed}

-- Some messages were served, so many as the count says.
pub record ServedSome (Honest Whole Stopped WasWhole : Type 0) (MayLeave StillMayLeave : OfficeWithBook → Type 0) (before after : OfficeWithBook) (IsCount : ℕ → Type 0) : Type 0 where
  pub asked : List Asked
  pub outcomes : List Outcome
  pub served : HasServed Honest Whole Stopped WasWhole MayLeave StillMayLeave before after asked outcomes
  pub count : IsCount (length asked)
