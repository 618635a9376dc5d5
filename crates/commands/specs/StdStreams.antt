-- What a source reads from and a sink writes to: a reader and a writer of std, whose own traits say which of their bytes are known.
use Rattle.std.specs.Prelude.{ℕ, Bool}
use Rattle.commands.specs.declared.streams.Input.{Input}
use Rattle.commands.specs.declared.streams.Output.{Output}

abbrev pub reader_of : {R : Type 0} → Input R → R
reader_of input = input.reader

abbrev pub writer_of : {W : Type 0} → Output W → W
writer_of output = output.writer

abbrev pub reads_failed : {R : Type 0} → Input R → ℕ
reads_failed input = input.failures

abbrev pub writes_failed : {W : Type 0} → Output W → ℕ
writes_failed output = output.failures

-- whether bytes were written behind the last flush that succeeded
abbrev pub writes_held_back : {W : Type 0} → Output W → Bool
writes_held_back output = output.holds_back
