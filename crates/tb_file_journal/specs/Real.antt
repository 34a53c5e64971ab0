-- A file of which nothing is known.
use Rattle.std.specs.Prelude.{[], true}
use Rattle.tb_file_journal.specs.Device.{Disk}

-- a disk of which no proof knows anything
abbrev pub untold : Disk
untold = record { seen = []; may_leave = λ left. ⊥; moment = 0; left_since = λ t left. ⊥; failures = λ fault. 0; sound = true }
