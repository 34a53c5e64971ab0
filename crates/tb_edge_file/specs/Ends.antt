-- What contracts know of what a command works with: its files, its reader, and its writers.
use Rattle.std.specs.Prelude.{ℕ, Bool, true, false, List, Result, Ok, Err}
use Rattle.tb_records.specs.Transport.{Output}
use Rattle.tb_records.specs.declared.devices.Sink as sinks
use Rattle.tb_records.specs.declared.devices.Source as sources
use Rattle.tb_file_journal.specs.declared.devices.Device as devices
use Rattle.tb_file.specs.declared.recovering.Rules.{Rules}
use Rattle.tb_edge_commands.specs.Streams.{Change, Streams, new, old, streams}
use Rattle.tb_edge_file.specs.declared.ends.Pipes.{Pipes}
use Rattle.tb_edge_file.specs.declared.openers.Opener as openers
use Rattle.tb_edge_file.specs.declared.openers.OpeningFault.{OpeningFault}

-- a file that is read, with all that is in it at a moment
pub record KnownReading (E : Type 0) : Type 1 where
  pub device : devices.Ghosts E
  pub whole : E → List ℕ → Type 0

abbrev pub known_reading : {E : Type 0} → devices.Ghosts E → (E → List ℕ → Type 0) → KnownReading E
known_reading device whole = record { device = device; whole = whole }

-- what opens files; a file that is served or made; and one that is read, with all that is in it at a moment
pub record KnownFiles (O D E : Type 0) : Type 1 where
  pub opener : openers.Ghosts O D E
  pub file : devices.Ghosts D
  pub reading : devices.Ghosts E
  pub whole : E → List ℕ → Type 0

abbrev pub reading_of : {O D E : Type 0} → KnownFiles O D E → KnownReading E
reading_of its = known_reading its.reading its.whole

-- how the device of a name that is served is opened: if it has to exist, none is made
abbrev pub made_by : {O D E : Type 0} → KnownFiles O D E → Bool → O → List ℕ → Result D OpeningFault → O → Type 0
made_by its true = its.opener.takes
made_by its false = its.opener.makes

-- files, a reader, a writer that says whether it holds nothing back, and a writer of lines
pub record KnownEnds (O D E R W L : Type 0) : Type 1 where
  pub files : KnownFiles O D E
  pub source : sources.Ghosts R
  pub sink : sinks.Ghosts W
  pub gone : W → Type 0
  pub lines : sinks.Ghosts L

-- a relation of the contents of a reader, a writer and a writer of lines, before a call and after it
abbrev pub OnPipes : {R W L : Type 0} → sources.Ghosts R → sinks.Ghosts W → sinks.Ghosts L → (Streams → Streams → Type 0) → Change (Pipes R W) → Change L → Type 0
OnPipes source sink lines Does pipes faults =
    Does (streams source sink lines (old pipes).reader (old pipes).writer (old faults)) (streams source sink lines (new pipes).reader (new pipes).writer (new faults))

-- the same between the ends of a command
abbrev pub OnEnds : {O D E R W L : Type 0} → KnownEnds O D E R W L → (Streams → Streams → Type 0) → Change (Pipes R W) → Change L → Type 0
OnEnds its = OnPipes its.source its.sink its.lines

-- done, or the fault by the name that this form has for it
abbrev pub outcome_by : {T F G : Type 0} → (F → G) → Result T F → Result (Unit {0}) G
outcome_by name (Ok done) = Ok tt
outcome_by name (Err fault) = Err (name fault)

-- a relation of what a writer took, before a call and after it
abbrev pub OnWriter : {W : Type 0} → sinks.Ghosts W → (Output → Output → Type 0) → Change W → Type 0
OnWriter sink Does writer = Does (sink.output (old writer)) (sink.output (new writer))

-- a file that is read, and what a writer took, at one moment
pub record FileOutput (D : Type 0) : Type 0 where
  pub file : D
  pub sink : Output

-- a relation of both, before a call and after it
abbrev pub OnDevice : {D W : Type 0} → sinks.Ghosts W → (FileOutput D → FileOutput D → Type 0) → Change D → Change W → Type 0
OnDevice sink Does device writer =
    Does (record { file = old device; sink = sink.output (old writer) }) (record { file = new device; sink = sink.output (new writer) })

-- what opens files, and what a writer took, at one moment
pub record OpenerOutput (O : Type 0) : Type 0 where
  pub opener : O
  pub sink : Output

abbrev pub opener_output : {O : Type 0} → O → Output → OpenerOutput O
opener_output opener sink = record { opener = opener; sink = sink }

-- of both, before a call and after it
abbrev pub OnOpener : {O W : Type 0} → sinks.Ghosts W → (OpenerOutput O → OpenerOutput O → Type 0) → Change O → Change W → Type 0
OnOpener sink Does opener writer = Does (opener_output (old opener) (sink.output (old writer))) (opener_output (new opener) (sink.output (new writer)))

-- the file that a ledger or a log is kept in: its path, whether there has to be one, and the rules
pub record KeptFile : Type 0 where
  pub path : List ℕ
  pub existing : Bool
  pub rules : Rules

abbrev pub kept_file : List ℕ → Bool → Rules → KeptFile
kept_file path existing rules = record { path = path; existing = existing; rules = rules }
