-- What a command does between a std reader and a std writer, each with a buffer.
use Rattle.std.specs.Prelude.{ℕ, ◌≡◌, ◌⊎◌, ◌^◌, List, [], Option}
use Rattle.std.specs.Io.Buffered.{reader_buffer, reader_capacity, reader_inner, reader_remaining, writer_buffer, writer_capacity, writer_contents, writer_inner}
use Rattle.std.specs.declared.io.buffered.BufReader.{BufReader}
use Rattle.std.specs.declared.io.buffered.BufWriter.{BufWriter}
use Rattle.std.specs.declared.alloc.Global.{Global}
use Rattle.tb_records.specs.Transport.{Input, Output}
use Rattle.tb_records.specs.declared.devices.Sink as sinks
use Rattle.tb_edge_file.specs.declared.arguments.Command.{Command}
use Rattle.tb_edge_file.specs.declared.arguments.Form.{Form}
use Rattle.tb_edge_file.specs.declared.arguments.Form.TheVariants as form
use Rattle.tb_edge_file.specs.declared.faults.KeepCommandFault.TheVariants.{NoMemory}
use Rattle.tb_edge_commands.specs.Streams.{Change}
use Rattle.tb_edge_file.specs.Ends.{KnownFiles, OnOpener, OpenerOutput}
use Rattle.tb_edge_file.specs.ExitStatuses.{SaysLine, file_fault_line}
use Rattle.tb_edge_file.specs.Outlets.{Watched, outgoing}
use Rattle.tb_edge_file.specs.declared.executing.Terminals.{Terminals}
use Rattle.tb_edge_file.specs.Exits.{ExitsWith}

-- the bytes of input that a form holds at a time; the others read none
abbrev pub input_size : Form → ℕ
input_size (form.Run clients_max profile options) = 2 ^ 20
input_size (form.Follow clients_max profile) = 2 ^ 20
input_size asked = 0

-- the bytes of output that a form holds at a time: those of a dump; and of a log, whose replies are sent before more of it is read.
-- The other forms hold none, so that each reply is sent when it is written
abbrev pub output_size : Form → ℕ
output_size (form.Dump after follows) = 2 ^ 16
output_size (form.Follow clients_max profile) = 2 ^ 16
output_size asked = 0

abbrev pub input_of : {R : Type 0} → (R → Option (List ℕ)) → Watched (BufReader R Global) → Input
input_of remaining r = record { left = reader_remaining remaining r.inner; failed = r.failures; halted = r.halted; at_hand = reader_buffer r.inner }

abbrev pub output_of : {W : Type 0} → (W → Option (List ℕ)) → Watched (BufWriter W Global) → Output
output_of contents w = record { written = writer_contents contents w.inner; failed = w.failures; stalled = w.stalls; halted = w.halted; held = w.held }

-- what contracts know of a host: of what opens its files, of its input and its output, and of the writer of its lines
pub record KnownHost (O D E R W L : Type 0) : Type 1 where
  pub files : KnownFiles O D E
  pub remaining : R → Option (List ℕ)
  pub contents : W → Option (List ℕ)
  pub lines : sinks.Ghosts L

abbrev pub known_host : {O D E R W L : Type 0} → KnownFiles O D E → (R → Option (List ℕ)) → (W → Option (List ℕ)) → sinks.Ghosts L → KnownHost O D E R W L
known_host files remaining contents lines = record { files = files; remaining = remaining; contents = contents; lines = lines }

-- an allocation of the buffers failed: nothing is opened, and that is reported
abbrev pub WantsMemory : {O : Type 0} → ℕ → OpenerOutput O → OpenerOutput O → Type 0
WantsMemory exit_status first last = (exit_status ≡ 1) × (last.opener ≡ first.opener) × SaysLine (file_fault_line NoMemory []) first.sink last.sink

module _ {O D E R W L : Type 0} (host : KnownHost O D E R W L) (ends : Terminals) (command : Command) where
  -- a command was done, or not to its end; if it was done, the buffer of the output is empty then. Its lines are what is written before and
  -- after it
  pub record Hosted (exit_status : ℕ) (input : BufReader R Global) (output : BufWriter W Global) (first last : OpenerOutput O) : Type 0 where
    pub end : Watched (BufReader R Global)
    pub final : Watched (BufWriter W Global)
    pub exits : ExitsWith host.files ends command first.opener last.opener (writer_buffer final.inner ≡ []) exit_status
        (record { source = input_of host.remaining (outgoing input); sink = output_of host.contents (outgoing output); faults = first.sink })
        (record { source = input_of host.remaining end; sink = output_of host.contents final; faults = last.sink })

  -- a command was done over an input and an output, each with a buffer that was empty at first
  pub record ServesStreams (exit_status : ℕ) (input : R) (output : W) (first last : OpenerOutput O) : Type 0 where
    pub reader : BufReader R Global
    pub of_input : reader_inner reader ≡ input
    pub read_ahead : reader_buffer reader ≡ []
    pub holds_input : reader_capacity reader ≡ input_size command.form
    pub writer : BufWriter W Global
    pub of_output : writer_inner writer ≡ output
    pub held_back : writer_buffer writer ≡ []
    pub holds_output : writer_capacity writer ≡ output_size command.form
    pub hosted : Hosted exit_status reader writer first last

  -- the same; or an allocation of the buffers failed
  abbrev pub ServesStreamsOn : ℕ → Change O → R → W → Change L → Type 0
  ServesStreamsOn exit_status opener input output faults =
      OnOpener host.lines (λ first last. ServesStreams exit_status input output first last ⊎ WantsMemory exit_status first last) opener faults

  -- what only private functions cite

  abbrev pub HostedOn : ℕ → Change O → BufReader R Global → BufWriter W Global → Change L → Type 0
  HostedOn exit_status opener input output faults = OnOpener host.lines (Hosted exit_status input output) opener faults
