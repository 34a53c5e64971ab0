-- Sectors of a batch whose last one has a latch that is open or closed: only private functions use them.
use Rattle.std.specs.Prelude.{ℕ, Bool, if◌then◌else◌, List}
use Rattle.tb_sectors.specs.Stamped.{Stamped, further_sectors}
use Rattle.tb_sectors.specs.Encoding.{raws, pieces_of}
use Rattle.tb_sectors.specs.Latches.{closed_last}

-- a sector with this latch
abbrev pub latched : Bool → Stamped → Stamped
latched closed s = record { number = s.number; begun = s.begun; ends = s.ends; bytes = s.bytes; closed = closed }

-- the latch of the last one is closed, or none is
abbrev pub latched_batch : Bool → List Stamped → List Stamped
latched_batch closed sectors = if closed then closed_last sectors else sectors

-- the bytes of the further sectors of a batch
abbrev pub latched_further : Bool → ℕ → List ℕ → List ℕ
latched_further closed number bytes = raws (latched_batch closed (further_sectors number (pieces_of bytes)))
