-- What a connection leaves, where nothing is known of its bytes.
use Rattle.std.proofs.Common.{◌≡◌, List, ℕ, Option, Result, Ok, Err, MatchResult, sym, ◌∙◌}
use Rattle.std.proofs.lemmas.List.{length-map}
use Rattle.std.specs.Prelude.{[], IfSome, IfOk}
use Rattle.request_book.specs.Book.{OfficeWithBook}
use Rattle.http_messages.specs.Streams.{items_of}
use Rattle.office.specs.Writers.{Writer}
use Rattle.http_api.specs.declared.connection.Served.{Served}
use Rattle.http_api.specs.declared.faults.ServeFault.{ServeFault}
use Rattle.http_api.specs.Connection.{questions, AllServed, SomeServed}
use Rattle.http_api.proofs.Serving.{none_served}
use Rattle.sockets.specs.Connections.{ServedSome}

module _ (Honest Whole Stopped WasWhole : Type 0) (MayLeave StillMayLeave : OfficeWithBook → Type 0) (before after : OfficeWithBook) (left : Option (List ℕ)) (failed_old failed_new : ℕ) (old new : Writer) where
  abbrev Comes : Result Served ServeFault → Type 0
  Comes r = (bytes : List ℕ) × IfSome left (λ all. bytes ≡ all)
      × MatchResult r (λ served. AllServed Honest Whole Stopped WasWhole MayLeave StillMayLeave before after bytes old new served.answered) (SomeServed Honest Whole Stopped WasWhole MayLeave StillMayLeave before after bytes failed_old failed_new old new)

  pub serves_some : (r : Result Served ServeFault) → Comes r → ServedSome Honest Whole Stopped WasWhole MayLeave StillMayLeave before after (λ count. IfOk r (λ served. served.answered ≡ count))
  serves_some (Ok served) comes = record {
    asked = questions (items_of comes.0);
    outcomes = comes.2.outcomes;
    served = comes.2.served;
    count = comes.2.count ∙ sym (length-map (items_of comes.0) (λ item. item.asked));
  }
  serves_some (Err fault) comes = record {
    asked = questions comes.2.front;
    outcomes = comes.2.outcomes;
    served = comes.2.served;
    count = tt;
  }

-- nothing was served
pub serves_none : (Honest Whole Stopped : Type 0) (MayLeave : OfficeWithBook → Type 0) (start : OfficeWithBook) (IsCount : ℕ → Type 0) → IsCount 0 → ServedSome Honest Whole Stopped Whole MayLeave MayLeave start start IsCount
serves_none Honest Whole Stopped MayLeave start IsCount none = record { asked = []; outcomes = []; served = none_served Honest Whole Stopped MayLeave start; count = none }
