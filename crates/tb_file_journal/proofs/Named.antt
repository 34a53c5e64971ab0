-- No call on a device fails as NotEmpty.
use Rattle.std.proofs.Common.{arith, ◌≡◌, true, List, ℕ, Result, Ok, Err, IfErr}
use Rattle.std.proofs.lemmas.Grind.{common_steps}
use Rattle.tb_file_journal.specs.declared.faults.JournalFault.{JournalFault}
use Rattle.tb_file_journal.specs.declared.faults.JournalFault.TheVariants.{NotEmpty}
use Rattle.tb_file_journal.specs.declared.opening.NotOpened.{NotOpened}
use Rattle.tb_file_journal.specs.declared.opening.OpenFault.TheVariants as open_faults
use Rattle.tb_file_journal.specs.Device.{IsOfCall, IsOfSync}
use Rattle.tb_file_journal.specs.Ready.{Kept}
use Rattle.tb_file_journal.specs.Creating.{is_blank, CreatesIn}

pub call_other : (fault : JournalFault) → IsOfCall fault → fault ≡ NotEmpty → ⊥
call_other fault named is = grind (arith, common_steps)

pub sync_other : (fault : JournalFault) → IsOfSync fault → fault ≡ NotEmpty → ⊥
sync_other fault named is = grind (arith, common_steps)

pub syncs_other : {T : Type 0} (result : Result T JournalFault) → IfErr result IsOfSync → IfErr result (λ fault. fault ≡ NotEmpty → ⊥)
syncs_other (Ok value) named = tt
syncs_other (Err fault) named = sync_other fault named

-- what holds of a blank file if a journal is begun in it

pub creates_in : {D : Type 0} (holds : D → List ℕ → Type 0) (result : Result (Kept D) (NotOpened D)) (file : List ℕ) → is_blank file ≡ true
    → IfErr result (λ failed. failed.fault ≡ open_faults.Device NotEmpty → ⊥) → CreatesIn holds result file
creates_in holds (Ok journal) file blank other = blank
creates_in holds (Err failed) file blank other = λ is. absurd (other is)
