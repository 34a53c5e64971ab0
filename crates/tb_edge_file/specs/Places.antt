-- A file that is compared with what its name leads to.
use Rattle.std.specs.Prelude.{ℕ, ◌≡◌, ◌+◌, ◌&&◌, Bool, true, false, not, List, [], drop, Result, Ok, Err}
use Rattle.tb_file_journal.specs.declared.faults.JournalFault.{JournalFault}
use Rattle.tb_file_journal.specs.Device.{AddsNone, Disk}
use Rattle.tb_edge_file.specs.declared.places.Named.{Named}
use Rattle.tb_edge_file.specs.Refusals.{refused}

-- a disk on which further calls have failed, and a further sync if that is lost
abbrev pub failed_further : Disk → (JournalFault → ℕ) → Bool → Disk
failed_further disk further lost = record disk { failures = λ fault. disk.failures fault + further fault; sound = disk.sound && not lost }

-- the disk of the file, on which the calls have failed too that were refused because the name led to another file, or to none, or for want of
-- memory: after a sync that was refused so no sync keeps anything
abbrev pub named_disk : {D P : Type 0} → (D → Disk) → Named D P → Disk
named_disk disk named = failed_further (disk named.device) (refused named.refusals) named.lost

-- what its name leads to
abbrev pub place_of : {D P : Type 0} → Named D P → P
place_of named = named.place

-- if this is returned, there is nothing in the file from this offset on
abbrev pub IsNothingAt : ℕ → List ℕ → Result Bool JournalFault → Type 0
IsNothingAt at file (Ok false) = drop at file ≡ []
IsNothingAt at file other = Unit {0}

-- a read returns what it returned, and a crash leaves nothing that it might not have left before
pub record IsOnlyRead (before after : Disk) : Type 0 where
  pub seen : after.seen ≡ before.seen
  pub crash : AddsNone before after
