use Rattle.std.proofs.Common.{◌≡◌, refl, rules}
use Rattle.std.specs.declared.io.ErrorKind.{ErrorKind}
use Rattle.std.specs.declared.io.ErrorKind.TheVariants as kinds
use Rattle.tb_file_journal.specs.declared.faults.JournalFault.TheVariants as faults
use Rattle.tb_file_journal.specs.System.{fault_of}
use Rattle.tb_file_journal.proofs.posix.fault_of.Goals as goal

fails_else : (kind : ErrorKind) → (kind ≡ kinds.OutOfMemory → ⊥) → (kind ≡ kinds.StorageFull → ⊥) → (kind ≡ kinds.QuotaExceeded → ⊥) → (kind ≡ kinds.FileTooLarge → ⊥) → faults.Failed ≡ fault_of kind
unfolding fault_of
fails_else kinds.OutOfMemory memory space quota large = absurd (memory refl)
fails_else kinds.StorageFull memory space quota large = absurd (space refl)
fails_else kinds.QuotaExceeded memory space quota large = absurd (quota refl)
fails_else kinds.FileTooLarge memory space quota large = absurd (large refl)
fails_else _ memory space quota large = refl

pub returns-in_default : goal.returns-in_default
returns-in_default c = record {
  is = fails_else c.args.kind c.in_default.not-OutOfMemory c.in_default.not-StorageFull c.in_default.not-QuotaExceeded c.in_default.not-FileTooLarge;
  names = search rules;
}
