-- What words do between a std reader and a std writer, each with a buffer.
use Rattle.std.specs.Prelude.{ℕ, ◌≡◌, ◌⊎◌, List, [], Option, Result, Err}
use Rattle.std.specs.Io.Buffered.{reader_buffer, reader_capacity, reader_inner, reader_remaining, writer_buffer, writer_capacity, writer_contents, writer_inner}
use Rattle.std.specs.Io.KnownBytes.{Keeps}
use Rattle.std.specs.declared.io.buffered.BufReader.{BufReader}
use Rattle.std.specs.declared.io.buffered.BufWriter.{BufWriter}
use Rattle.std.specs.declared.alloc.Global.{Global}
use Rattle.tb_records.specs.Transport.{Counted, Input, Output, uncounted}
use Rattle.tb_records.specs.declared.devices.Sink as sinks
use Rattle.tb_records.specs.declared.faults.FrameFault.TheVariants.{Device}
use Rattle.tb_machine.specs.declared.serving.RunFault.TheVariants.{Frame, NoMemory}
use Rattle.tb_edge_commands.specs.Forms.{form_of}
use Rattle.tb_edge_commands.specs.Streams.{Change, new, old}
use Rattle.tb_edge_commands.specs.ExitStatuses.{Does, LeavesUntouched, Reports}
use Rattle.tb_edge_commands.specs.declared.commands.CommandFault.{CommandFault}
use Rattle.tb_edge_commands.specs.declared.commands.CommandFault.TheVariants.{Serving}

-- the bytes that are held of an input, and of an output
abbrev pub buffer_size : ℕ
buffer_size = 65536

module _ {R W : Type 0} (remaining : R → Option (List ℕ)) (contents : W → Option (List ℕ)) where
  abbrev pub input_of : Counted (BufReader R Global) → Input
  input_of r = record { left = reader_remaining remaining r.inner; failed = r.failures; halted = r.halted; at_hand = reader_buffer r.inner }

  abbrev pub output_of : Counted (BufWriter W Global) → Output
  output_of w = record { written = writer_contents contents w.inner; failed = w.failures; stalled = w.stalls; halted = w.halted; held = w.held }

  -- Words were done between two buffers, and at the end what the output's held was sent, each known byte once. If that failed, this is the
  -- outcome in place of any other: what is in `last` still is lost.
  pub record EndsWithin (words : List (List ℕ)) (outcome : Result ℕ CommandFault) (input : BufReader R Global) (output : BufWriter W Global) : Type 0 where
    pub done : Result ℕ CommandFault
    pub end : Counted (BufReader R Global)
    pub final : Counted (BufWriter W Global)
    pub does : Does (form_of words) done (input_of (uncounted input)) (input_of end) (output_of (uncounted output)) (output_of final)
    pub untouched : LeavesUntouched words (uncounted input) end (uncounted output) final
    pub last : BufWriter W Global
    pub kept : Keeps (writer_contents contents final.inner) (writer_contents contents last)
    pub ends : ((outcome ≡ done) × (writer_buffer last ≡ [])) ⊎ (outcome ≡ Err (Serving (Frame Device)))

  -- words were done between an input and an output, each with a buffer that was empty at first
  pub record EndsOver (words : List (List ℕ)) (outcome : Result ℕ CommandFault) (input : R) (output : W) : Type 0 where
    pub reader : BufReader R Global
    pub of_input : reader_inner reader ≡ input
    pub read_ahead : reader_buffer reader ≡ []
    pub holds_input : reader_capacity reader ≡ buffer_size
    pub writer : BufWriter W Global
    pub of_output : writer_inner writer ≡ output
    pub held_back : writer_buffer writer ≡ []
    pub holds_output : writer_capacity writer ≡ buffer_size
    pub within : EndsWithin words outcome reader writer

  -- the same; or there is no memory for the buffers, and nothing is read or written
  abbrev pub EndsBetween : List (List ℕ) → Result ℕ CommandFault → R → W → Type 0
  EndsBetween words outcome input output = EndsOver words outcome input output ⊎ (outcome ≡ Err (Serving NoMemory))

  -- words were done so, and the exit status and the line are those of the outcome
  abbrev pub ServesOn : {E : Type 0} → sinks.Ghosts E → List (List ℕ) → ℕ → R → W → Change E → Type 0
  ServesOn lines words exit_status input output faults =
      (outcome : Result ℕ CommandFault) × EndsBetween words outcome input output × Reports outcome exit_status (lines.output (old faults)) (lines.output (new faults))
