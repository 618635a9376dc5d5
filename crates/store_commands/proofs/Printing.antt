-- What a writer took of the lines of records.
use Rattle.std.proofs.Common.{◌≡◌, ◌≢◌, inr, ℕ, true, false, List, [], ◌∷◌, ◌++◌, Option, Some, None, refl, sym, ap, subst, ◌∙◌, append-nil}
use Rattle.std.specs.Borrow.{MutBor}
use Rattle.std.proofs.lemmas.List.Concat.{flat_map-append}
use Rattle.sqlite.specs.Order.{Row}
use Rattle.sqlite.specs.Effect.{Database}
use Rattle.byte_streams.proofs.Taking.{beginning_of_longer}
use Rattle.po_text.specs.Texts.{Text}
use Rattle.request_book.specs.Words.{number_text}
use Rattle.sql_decoding.specs.RecordHeads.{shown_head, is_head}
use Rattle.sql_decoding.specs.declared.record_heads.RecordHead.{RecordHead}
use Rattle.commands.specs.RecordLines.{record_line}
use Rattle.tables.specs.declared.faults.Lost.{Lost}
use Rattle.tables.specs.declared.faults.Lost.TheVariants as lost
use Rattle.sql_streams.specs.Walks.{GaveAll, GaveSome, GaveUpTo}
use Rattle.store_sql.specs.declared.recorded.HandingFault.{HandingFault}
use Rattle.store_sql.specs.declared.recorded.HandingFault.TheVariants as handing
use Rattle.store_sql.specs.RecordsBehind.{AreBehind, AreHeads, WereCut as HandedCut}
use Rattle.office.specs.Writers.{Writer, writer_at, TakesAll, TakesPart}
use Rattle.office.proofs.Streaming.{took_all, took_part}
use Rattle.store_commands.specs.declared.records.RecordsFault.{RecordsFault}
use Rattle.store_commands.specs.declared.records.RecordsFault.TheVariants.{NoRecord, Device, Memory, Disk, Refused}
use Rattle.store_commands.specs.Records.{row_line, lines_of, AllPrinted, SomePrinted, DeviceFailed, WereCut}
use Rattle.store_commands.specs.RecordLines.{TookLines, IsRefusal, RefusedLine, lost_told, fault_told}

-- a beginning of a text is one of a longer text
part_of_longer : (old new : Writer) (a b : List ℕ) → TakesPart old new a → TakesPart old new (a ++ b)
part_of_longer old new a b part = record { beginning = beginning_of_longer old.taken new.taken a b part.beginning; count = part.count }

-- a row among those behind a record can be read
read_behind : (after : Option Text) (db : Database) (rows : List Row) → AreBehind after db rows → AreHeads rows
read_behind None db rows are = are.1
read_behind (Some number) db rows (place, is, shown, heads) = heads

next_read : (front rest : List Row) (row : Row) → AreHeads (front ++ row ∷ rest) → is_head row ≡ true
next_read [] rest row heads = heads.0
next_read (x ∷ front) rest row heads = next_read front rest row heads.1

module _ {W : Type 0} (taken : W → Option (List ℕ)) (failed : W → ℕ) where
  abbrev as_writer : W → Writer
  as_writer = writer_at taken failed

  -- a row that wasn't read was refused, and nothing was written
  unread_so : (why : Lost) (row : Row) (w : W) → (why ≢ lost.Memory → is_head row ≡ false) → IsRefusal taken failed w row (lost_told why) w
  unread_so lost.Memory row w unread = refl
  unread_so lost.Refused row w unread = (unread (λ is. cc), refl)
  unread_so lost.Disk row w unread = (unread (λ is. cc), refl)

  pub refused_unread : (old : MutBor W) (row : Row) (why : Lost) (fault : RecordsFault) → fault ≡ lost_told why → (why ≢ lost.Memory → is_head row ≡ false) → RefusedLine taken failed old row fault old
  refused_unread old row why fault is unread = record {
    same_reference = refl;
    refused = subst (λ f. IsRefusal taken failed old.now row f old.now) (sym is) (unread_so why row old.now unread);
  }

  -- the line of a row was written, by what was read of the row
  pub took_line : (old new : MutBor W) (row : Row) (head : RecordHead) → new.ghost_name ≡ old.ghost_name → head ≡ shown_head row
      → TakesAll (as_writer old.now) (as_writer new.now) (record_line (number_text head.number) head.status) → TookLines taken failed old (row ∷ []) new
  took_line old new row head same is all = record {
    same_reference = same;
    lines = subst (TakesAll (as_writer old.now) (as_writer new.now)) (ap (λ (h : RecordHead). record_line (number_text h.number) h.status) is ∙ sym (append-nil (row_line row))) all;
  }

  -- or a beginning of it
  pub broke_line : (old new : MutBor W) (row : Row) (head : RecordHead) → new.ghost_name ≡ old.ghost_name → head ≡ shown_head row
      → TakesPart (as_writer old.now) (as_writer new.now) (record_line (number_text head.number) head.status) → RefusedLine taken failed old row Device new
  broke_line old new row head same is part = record {
    same_reference = same;
    refused = subst (TakesPart (as_writer old.now) (as_writer new.now)) (ap (λ (h : RecordHead). record_line (number_text h.number) h.status) is) part;
  }

  -- by what a sink over this writer took
  module _ {K : Type 0} (writer : K → MutBor W) (after : Option Text) (db : Database) (first last : K) where
    abbrev Took : K → List Row → K → Type 0
    Took a rows b = TookLines taken failed (writer a) rows (writer b)

    abbrev Refuses : K → Row → RecordsFault → K → Type 0
    Refuses a row fault b = RefusedLine taken failed (writer a) row fault (writer b)

    pub all_printed : GaveAll Took (AreBehind after db) first last → AllPrinted after db (as_writer (writer first).now) (as_writer (writer last).now)
    all_printed h = record { rows = h.rows; are = h.answer; taken = h.took.lines }

    some_printed : GaveSome Took (AreBehind after db) first last → SomePrinted after db (as_writer (writer first).now) (as_writer (writer last).now)
    some_printed h = record { front = h.front; rest = h.rest; are = h.answer; taken = h.took.lines }

    -- a row wasn't read behind the front
    unread : (fault : RecordsFault) (h : GaveUpTo Took Refuses (AreBehind after db) first last fault) → (writer last).now ≡ (writer h.mid).now
        → SomePrinted after db (as_writer (writer first).now) (as_writer (writer last).now)
    unread fault h same = record {
      front = h.front;
      rest = h.row ∷ h.rest;
      are = inr h.answer;
      taken = subst (λ w. TakesAll (as_writer (writer first).now) (as_writer w) (lines_of h.front)) (sym same) h.took.lines;
    }

    printed_up_to : (fault : RecordsFault) → GaveUpTo Took Refuses (AreBehind after db) first last fault → WereCut after db (as_writer (writer first).now) (as_writer (writer last).now) fault
    printed_up_to NoRecord h = absurd h.refused.refused
    printed_up_to Device h = record {
      rows = h.front ++ h.row ∷ h.rest;
      are = h.answer;
      taken = subst (TakesPart (as_writer (writer first).now) (as_writer (writer last).now)) (sym (flat_map-append row_line h.front (h.row ∷ h.rest)))
          (took_part (lines_of h.front) (row_line h.row ++ lines_of h.rest) h.took.lines (part_of_longer (as_writer (writer h.mid).now) (as_writer (writer last).now) (row_line h.row) (lines_of h.rest) h.refused.refused));
    }
    printed_up_to Memory h = unread Memory h h.refused.refused
    printed_up_to Refused h = unread Refused h h.refused.refused.1
    printed_up_to Disk h = unread Disk h h.refused.refused.1

    pub cut_printed : (fault : HandingFault RecordsFault) → HandedCut Took Refuses after db first last fault → WereCut after db (as_writer (writer first).now) (as_writer (writer last).now) (fault_told fault)
    cut_printed handing.NoRecord h = (h.0, ap (λ k. as_writer (writer k).now) h.1)
    cut_printed (handing.NoTables lost.Memory) h = some_printed h
    cut_printed (handing.NoTables lost.Disk) h = some_printed h
    cut_printed (handing.NoTables lost.Refused) h = some_printed h
    cut_printed (handing.NoSink fault) h = printed_up_to fault h

    -- each row can be read: that the disk failed is told where the tables say so
    pub disk_told : (Gone : Type 0) (fault : HandingFault RecordsFault) → (fault ≡ handing.NoTables lost.Disk → Gone) → HandedCut Took Refuses after db first last fault → fault_told fault ≡ Disk → Gone
    disk_told Gone handing.NoRecord gone h told = absurd cc
    disk_told Gone (handing.NoTables lost.Memory) gone h told = absurd cc
    disk_told Gone (handing.NoTables lost.Refused) gone h told = absurd cc
    disk_told Gone (handing.NoTables lost.Disk) gone h told = gone refl
    disk_told Gone (handing.NoSink NoRecord) gone h told = absurd cc
    disk_told Gone (handing.NoSink Device) gone h told = absurd cc
    disk_told Gone (handing.NoSink Memory) gone h told = absurd cc
    disk_told Gone (handing.NoSink Refused) gone h told = absurd cc
    disk_told Gone (handing.NoSink Disk) gone h told =
        let reads : is_head h.row ≡ true = next_read h.front h.rest h.row (read_behind after db (h.front ++ h.row ∷ h.rest) h.answer) in
        let apart : is_head h.row ≡ false = h.refused.refused.0 in
        absurd cc

    -- it is the same writer
    pub cut_same : (fault : HandingFault RecordsFault) → HandedCut Took Refuses after db first last fault → (writer last).ghost_name ≡ (writer first).ghost_name
    cut_same handing.NoRecord h = ap (λ k. (writer k).ghost_name) h.1
    cut_same (handing.NoTables why) h = h.took.same_reference
    cut_same (handing.NoSink fault) h = h.refused.same_reference ∙ h.took.same_reference

-- all was printed, and then handed on, or not
pub printed_on : (after : Option Text) (db : Database) (w0 w1 w2 : Writer) → AllPrinted after db w0 w1 → TakesAll w1 w2 [] → AllPrinted after db w0 w2
printed_on after db w0 w1 w2 h then = record { rows = h.rows; are = h.are; taken = subst (TakesAll w0 w2) (append-nil (lines_of h.rows)) (took_all (lines_of h.rows) [] h.taken then) }

pub not_handed_on : (after : Option Text) (db : Database) (w0 w1 w2 : Writer) → AllPrinted after db w0 w1 → TakesPart w1 w2 [] → DeviceFailed after db w0 w2
not_handed_on after db w0 w1 w2 h then = record { rows = h.rows; are = h.are; taken = subst (TakesPart w0 w2) (append-nil (lines_of h.rows)) (took_part (lines_of h.rows) [] h.taken then) }
