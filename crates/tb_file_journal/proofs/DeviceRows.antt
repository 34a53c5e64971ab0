-- Examples of what a device and a file that grows do not do.
use Rattle.std.specs.Prelude.{◌≡◌, ◌⊎◌, [], ◌∷◌, ◌++◌, codes}
use Rattle.std.proofs.Common.{arith, ⊎_elim}
use Rattle.tb_file_journal.specs.declared.faults.JournalFault.TheVariants.{Memory, Full}
use Rattle.tb_file_journal.specs.Checksum.{byte_on, bit_on}
use Rattle.tb_file_journal.specs.Contents.{latch_closed, block, Records}
use Rattle.tb_file_journal.specs.Device.{Disk, IsCause}
use Rattle.tb_file_journal.specs.Growing.{Later}

-- if a device was full nothing else is reported
pub full_is_not_memory : (before after : Disk) → before.failures Full ≡ 0 → after.failures Full ≡ 1 → IsCause before after Memory → ⊥
full_is_not_memory before after none one cause = ⊎_elim (λ failed. by_others (failed.others Full)) (λ own. at_one (own.1 Full)) cause
  where
    at_one : after.failures Full ≡ before.failures Full → ⊥
    at_one same = absurd (omega (arith, same, none, one))

    by_others : (Full ≡ Memory) ⊎ (after.failures Full ≡ before.failures Full) → ⊥
    by_others either = ⊎_elim (λ is. let no : Full ≡ Memory = is in absurd (cc)) at_one either

-- no record is lost
pub keeps_its_records : Later (codes "TBJRNL02" ++ (block [] ++ latch_closed)) (codes "TBJRNL02" ++ latch_closed) → ⊥
unfolding byte_on bit_on
keeps_its_records later = let e : Records [] ≡ Records ([] ∷ later.more) = later.reads in absurd (cc)
