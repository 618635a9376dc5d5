use Rattle.std.proofs.Common.{◌≡◌, ◌++◌, ◌∷◌, [], List, Result, Ok, Err}
use Rattle.std.specs.Result.{OnOk}
use Rattle.po_text.specs.declared.entry.Entry.{Entry}
use Rattle.po_read.specs.Found.{key_at_hand}
use Rattle.po_read.specs.SoFar.{so_far, IsEntry, IsSoFar, IsHanded}
use Rattle.po_read.specs.declared.reading.Reader.{Reader}
use Rattle.po_read.proofs.reading.Reader.close.Goals as goal

handed : {S A E : Type 0} (Took : S → List Entry → S → Type 0) (r : Result A E) (before after : S) (old new : Reader) (entry : Entry)
    → IsEntry (so_far old.current) entry → IsSoFar (so_far new.current) [] → (new.keys ≡ old.keys ++ key_at_hand entry.ctx entry.id ∷ []) → OnOk r (Took before (entry ∷ []) after)
    → OnOk r (IsHanded Took old new before after)
handed Took (Ok x) before after old new entry was rest keys took = record { entry = entry; closed = record { was = was; keys = keys; current = rest }; took = took }
handed Took (Err e) before after old new entry was rest keys took = tt

pub returns : goal.returns
returns g c = handed g.S.ReadSink.Took c.take-2.result c.args.sink.now c.take-2.new.self c.args.self.now (record { keys = c.push.new.self; current = c.take.new.self; alloc = c.args.self.now.alloc }) c.in_ok-entry.entry c.in_ok-entry.ensures.was c.in_ok-entry.ensures.rest c.in_ok-push.ensures c.take-2.ensures
