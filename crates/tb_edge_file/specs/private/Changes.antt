-- What a call writes, as private contracts say it.
use Rattle.std.specs.Prelude.{ℕ, List, Result}
use Rattle.tb_records.specs.Transport.{IsSent}
use Rattle.tb_records.specs.declared.devices.Sink as sinks
use Rattle.tb_records.specs.declared.faults.FrameFault.{FrameFault}
use Rattle.tb_edge_commands.specs.Streams.{Change}
use Rattle.tb_edge_file.specs.Ends.{OnWriter}

-- a writer was sent a text, or failed within it
abbrev pub PutsText : {W : Type 0} → sinks.Ghosts W → Result (Unit {0}) FrameFault → List ℕ → Change W → Type 0
PutsText sink result text writer = OnWriter sink (IsSent result text) writer
