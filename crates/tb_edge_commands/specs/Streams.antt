-- What a command reads and writes, before it and after it.
use Rattle.tb_records.specs.declared.devices.Sink as sinks
use Rattle.tb_records.specs.declared.devices.Source as sources
use Rattle.tb_records.specs.Transport.{Input, Output}
use denote.MutBor.{MutBor}
use denote.Triple.Both.{Both}

-- what a reference points at before a call, and after it
abbrev pub Change : Type 0 → Type 0
Change T = Both (MutBor T) (MutBor T)

abbrev pub old : {T : Type 0} → Change T → T
old it = it.entry.now

abbrev pub new : {T : Type 0} → Change T → T
new it = it.exit.now

-- what a reader gives, and what a writer and a writer of lines took, at one moment
pub record Streams : Type 0 where
  pub source : Input
  pub sink : Output
  pub faults : Output

module _ {R W E : Type 0} (source : sources.Ghosts R) (sink : sinks.Ghosts W) (lines : sinks.Ghosts E) where
  abbrev pub streams : R → W → E → Streams
  streams reader writer faults = record { source = source.input reader; sink = sink.output writer; faults = lines.output faults }
