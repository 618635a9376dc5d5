-- How lines are gathered from the pieces of a stream and answered on the way. This project's own words, for the code's own steps.
use Rattle.std.specs.Prelude.{◌≡◌, ◌<◌, ◌⊎◌, ℕ, List, ◌++◌, length, flat_map, true, false, Bool, Option, IfSome, Result, MatchResult}
use Rattle.std.specs.List.{AllByRecursion}
use Rattle.byte_streams.specs.Streams.{prepend_known, IsAtEnd, RoseOrStands}
use Rattle.commands.specs.declared.lines.Gathered.{Gathered}
use Rattle.commands.specs.declared.lines.Gathered.TheVariants.{Whole, TooLong, NoMemory}
use Rattle.commands.specs.declared.lines.Line.{Line}
use Rattle.commands.specs.declared.deliver.AtLost.{AtLost}
use Rattle.commands.specs.declared.deliver.AtLost.TheVariants.{End}
use Rattle.commands.specs.declared.deliver.Broken.{Broken}
use Rattle.commands.specs.declared.deliver.Broken.TheVariants.{Stream, Lost}
use Rattle.commands.specs.LostLines.{GoingOn, BrokenOff, EndedAt}
use Rattle.commands.specs.TextLines.{HasNoEnd, with_end, IsCut}
use Rattle.office.specs.Exchanges.{Exchange, line_limit, Answered}
use Rattle.office.specs.Writers.{Writer, TakesAll, TakesPart}
use Rattle.commands.specs.DeliverLines.{AllAnswered, SomeAnswered, Stopped, HandsOn, HoldsBack}

-- what is known of bytes by how they were gathered, how many they are, and which were kept
abbrev pub IsGathered : Gathered → ℕ → List ℕ → List ℕ → Type 0
IsGathered Whole count kept text = (kept ≡ text) × (count ≡ length text)
IsGathered TooLong count kept text = line_limit < length text
IsGathered NoMemory count kept text = count ≡ length text

-- a line that so far has these bytes
abbrev pub Gathers : Line → List ℕ → Type 0
Gathers line text = IsGathered line.gathered line.count line.bytes.items text

-- The text's ended lines were answered, and the line is gathered of what stands behind them.
pub record Passed (Did : List Exchange → Type 0) (Wrote : List ℕ → Type 0) (text : List ℕ) (line : Line) : Type 0 where
  pub lines : List (List ℕ)
  pub rest : List ℕ
  pub cut : IsCut text lines rest
  pub gathers : Gathers line rest
  pub answered : Answered Did Wrote lines

-- Only the first of the text's ended lines were taken.
pub record BrokeOff (Did : List Exchange → Type 0) (Wrote : List ℕ → Type 0) (text : List ℕ) : Type 0 where
  pub lines : List (List ℕ)
  pub rest : List ℕ
  pub whole : text ≡ flat_map with_end lines ++ rest
  pub each : AllByRecursion HasNoEnd lines
  pub answered : Answered Did Wrote lines

-- By why no further one was: the writer failed, or the list ends at the last of them, which is lost.
abbrev pub BreaksOff : Broken → AtLost → (List Exchange → Type 0) → (List ℕ → Type 0) → (List ℕ → Type 0) → List ℕ → Type 0
BreaksOff Stream at Did Wrote WrotePart text = BrokeOff (BrokenOff at Did) WrotePart text
BreaksOff Lost at Did Wrote WrotePart text = (at ≡ End) × BrokeOff (EndedAt Did) Wrote text

-- A piece was read behind what was begun, or the end was found.
pub record ReadOn (left_old left_new : Option (List ℕ)) (failed_old failed_new : ℕ) (Did : List Exchange → Type 0) (Wrote : List ℕ → Type 0) (begun : List ℕ) (line : Line) (more : Bool) : Type 0 where
  pub piece : List ℕ
  pub read : left_old ≡ prepend_known piece left_new
  pub count : failed_new ≡ failed_old
  pub some : more ≡ true → 0 < length piece
  pub end : more ≡ false → IsAtEnd left_new
  pub passed : Passed Did Wrote (begun ++ piece) line

-- No further line is taken.
pub record ReadOff (left_old left_new : Option (List ℕ)) (Did : List Exchange → Type 0) (Wrote : List ℕ → Type 0) (begun : List ℕ) : Type 0 where
  pub piece : List ℕ
  pub read : left_old ≡ prepend_known piece left_new
  pub broke : BrokeOff Did Wrote (begun ++ piece)

-- A stream failed, a reader behind answers that were handed on; or the list ends at a lost line.
abbrev pub ReadsOff : Broken → AtLost → Type 0 → Option (List ℕ) → Option (List ℕ) → ℕ → ℕ → (List Exchange → Type 0) → Writer → Writer → List ℕ → Type 0
ReadsOff Stream at HandedOn left_old left_new failed_old failed_new Did old new begun =
    ReadOff left_old left_new (BrokenOff at Did) (λ answers. (RoseOrStands failed_old failed_new × TakesAll old new answers × HandedOn) ⊎ TakesPart old new answers) begun
ReadsOff Lost at HandedOn left_old left_new failed_old failed_new Did old new begun = (at ≡ End) × ReadOff left_old left_new (EndedAt Did) (TakesAll old new) begun

-- The first lines of a text were answered, and no further one, for this reason.
abbrev pub EndsBy : Broken → AtLost → Type 0 → (List Exchange → Type 0) → ℕ → ℕ → Writer → Writer → List ℕ → Type 0
EndsBy Stream at HandedOn Did failed_old failed_new old new text = SomeAnswered (BrokenOff at Did) (Stopped HandedOn text failed_old failed_new old new) text
EndsBy Lost at HandedOn Did failed_old failed_new old new text = (at ≡ End) × SomeAnswered (EndedAt Did) (TakesAll old new) text

-- What came of the text that a source gives.
pub record LinesAnswered {T : Type 0} (at : AtLost) (HandedOn : Type 0) (Did : List Exchange → Type 0) (left_old : Option (List ℕ)) (reads_failed_old reads_failed_new : ℕ) (old new : Writer) (result : Result T Broken) : Type 0 where
  pub text : List ℕ
  pub given : IfSome left_old (λ all. text ≡ all)
  pub outcome : MatchResult result (λ _. AllAnswered (GoingOn at Did) (TakesAll old new) text) (λ why. EndsBy why at HandedOn Did reads_failed_old reads_failed_new old new text)

-- An export, with its exit status, and then the writer handed on what it held back, whatever the status, or failed to.
pub data Finished (HandedOn : Type 0) (Exports : Writer → Writer → ℕ → Type 0) (old new : Writer) (status : ℕ) : Type 0 where
  flushed : (mid : Writer) → Exports old mid status → HandsOn HandedOn mid new → Finished HandedOn Exports old new status
  held : (mid : Writer) (exit : ℕ) → Exports old mid exit → HoldsBack mid new → status ≡ 1 → Finished HandedOn Exports old new status
