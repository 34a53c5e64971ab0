-- The exit status of each outcome: 0 done, 1 a device or memory failed, 2 the input or the arguments are wrong. And the line that reports a fault.
use Rattle.std.specs.Prelude.{ℕ, ◌≡◌, ◌⊎◌, ◌++◌, List, Option, Some, None, Result, Ok, Err, codes}
use Rattle.std.specs.IoError.{error_kind}
use Rattle.std.specs.declared.io.Error.{Error}
use Rattle.std.specs.declared.io.ErrorKind.{ErrorKind}
use Rattle.std.specs.declared.io.ErrorKind.TheVariants.{OutOfMemory}
use Rattle.tb_records.specs.declared.devices.Sink as sinks
use Rattle.tb_records.specs.declared.devices.Source as sources
use Rattle.tb_records.specs.declared.faults.FrameFault.{FrameFault}
use Rattle.tb_records.specs.declared.faults.FrameFault.TheVariants as frame
use Rattle.tb_records.specs.Transport.{Input, Output, Sent, CutOff}
use Rattle.tb_records.specs.declared.dumps.DumpFault.{DumpFault}
use Rattle.tb_records.specs.declared.dumps.DumpFault.TheVariants as dump
use Rattle.tb_records.specs.DumpFaults.{dump_fault_name}
use Rattle.tb_machine.specs.declared.serving.RunFault.{RunFault}
use Rattle.tb_machine.specs.declared.serving.RunFault.TheVariants.{Frame, NoMemory, TimeExhausted, TooLong}
use Rattle.tb_machine.specs.RunFaults.{run_fault_name}
use Rattle.tb_machine.specs.Runs.{Ran}
use Rattle.tb_machine.specs.DumpRuns.{DumpRan}
use Rattle.tb_machine.specs.Replays.{ReplayRan}
use Rattle.tb_edge_commands.specs.declared.arguments.Form.{Form}
use Rattle.tb_edge_commands.specs.declared.arguments.Form.TheVariants.{Run, Dump, Replay}
use Rattle.tb_edge_commands.specs.Forms.{form_of}
use Rattle.tb_edge_commands.specs.Streams.{Change, new, old}
use Rattle.tb_edge_commands.specs.declared.commands.CommandFault.{CommandFault}
use Rattle.tb_edge_commands.specs.declared.commands.CommandFault.TheVariants.{Usage, Serving, Replaying}

abbrev pub frame_exit_status : FrameFault → ℕ
frame_exit_status frame.Device = 1
frame_exit_status frame.NoMemory = 1
frame_exit_status fault = 2

abbrev pub run_exit_status : RunFault → ℕ
run_exit_status (Frame fault) = frame_exit_status fault
run_exit_status NoMemory = 1
run_exit_status TimeExhausted = 2
run_exit_status TooLong = 2

abbrev pub dump_exit_status : DumpFault → ℕ
dump_exit_status (dump.Frame fault) = frame_exit_status fault
dump_exit_status dump.NoMemory = 1
dump_exit_status fault = 2

abbrev pub fault_exit_status : CommandFault → ℕ
fault_exit_status Usage = 2
fault_exit_status (Serving fault) = run_exit_status fault
fault_exit_status (Replaying fault) = dump_exit_status fault

-- the exit status of a form that was done, or ended with a fault
abbrev pub outcome_exit_status : Result ℕ CommandFault → ℕ
outcome_exit_status (Ok count) = 0
outcome_exit_status (Err fault) = fault_exit_status fault

abbrev pub words_fault_of : ErrorKind → CommandFault
words_fault_of OutOfMemory = Serving NoMemory
words_fault_of kind = Usage

-- an argument is not UTF-8, or there is no memory for one
abbrev pub words_fault : Error → CommandFault
words_fault error = words_fault_of (error_kind error)

-- a fault's name, as its line shows it
abbrev pub command_fault_name : CommandFault → List ℕ
command_fault_name Usage = codes "Usage"
command_fault_name (Serving fault) = run_fault_name fault
command_fault_name (Replaying fault) = dump_fault_name fault

-- the line of a fault with a name
abbrev pub line_named : List ℕ → List ℕ
line_named name = codes "tbs: " ++ name ++ codes "\n"

abbrev pub fault_line : CommandFault → List ℕ
fault_line fault = line_named (command_fault_name fault)

-- a line was written; or a prefix of it, if the writer failed or took nothing
abbrev pub PrintsLine : List ℕ → Output → Output → Type 0
PrintsLine line before after = Sent line before after ⊎ CutOff line before after

-- nothing is reported for a form that was done, and its line for a fault
abbrev pub Prints : Result ℕ CommandFault → Output → Output → Type 0
Prints (Ok count) before after = after ≡ before
Prints (Err fault) before after = PrintsLine (fault_line fault) before after

-- what a form did, and its outcome: the number of replies or of entries, or the fault that came
abbrev pub Performs : Form → Result ℕ CommandFault → Input → Input → Output → Output → Type 0
Performs (Run clients_max profile) (Ok count) before after start written = Ran profile clients_max (Ok count) before after start written
Performs (Run clients_max profile) (Err (Serving fault)) before after start written = Ran profile clients_max (Err fault) before after start written
Performs (Dump clients_max at) (Ok count) before after start written = DumpRan clients_max at (Ok count) before after start written
Performs (Dump clients_max at) (Err (Serving fault)) before after start written = DumpRan clients_max at (Err fault) before after start written
Performs Replay (Ok count) before after start written = ReplayRan (Ok count) before after start written
Performs Replay (Err (Replaying fault)) before after start written = ReplayRan (Err fault) before after start written
Performs form outcome before after start written = ⊥

-- the same for what a reader gave and a writer took
abbrev pub PerformsOn : {R W : Type 0} → sources.Ghosts R → sinks.Ghosts W → Form → Result ℕ CommandFault → Change R → Change W → Type 0
PerformsOn source sink form outcome reader writer =
    Performs form outcome (source.input (old reader)) (source.input (new reader)) (sink.output (old writer)) (sink.output (new writer))

-- what words do: their form, done or not to its end; and of no form nothing, which is their fault
abbrev pub Does : Option Form → Result ℕ CommandFault → Input → Input → Output → Output → Type 0
Does None outcome before after start written = outcome ≡ Err Usage
Does (Some form) outcome before after start written = Performs form outcome before after start written

-- the same for what a reader gave and a writer took
abbrev pub DoesOn : {R W : Type 0} → sources.Ghosts R → sinks.Ghosts W → List (List ℕ) → Result ℕ CommandFault → Change R → Change W → Type 0
DoesOn source sink words outcome reader writer =
    Does (form_of words) outcome (source.input (old reader)) (source.input (new reader)) (sink.output (old writer)) (sink.output (new writer))

-- words of no form: nothing is read or written
abbrev pub LeavesUntouched : {R W : Type 0} → List (List ℕ) → R → R → W → W → Type 0
LeavesUntouched words before after start written = form_of words ≡ None → (after ≡ before) × (written ≡ start)

-- the exit status and the line are those of an outcome
abbrev pub Reports : Result ℕ CommandFault → ℕ → Output → Output → Type 0
Reports outcome exit_status before after = (exit_status ≡ outcome_exit_status outcome) × Prints outcome before after
