-- The faults of a pair: after which nothing is sent, and before which all is.
use Rattle.std.proofs.Common.{arith, ◌≡◌, true, false, List, [], ◌∷◌, ℕ, Err, inl, refl}
use Rattle.std.proofs.lemmas.Grind.{common_steps}
use Rattle.tb_records.specs.Transport.{Input, Output}
use Rattle.tb_file_journal.specs.Device.{Disk}
use Rattle.tb_machine.specs.Scripts.{Pair}
use Rattle.tb_machine.specs.Runs.{Reads}
use Rattle.tb_file.specs.declared.faults.KeepFault.{KeepFault}
use Rattle.tb_file.specs.Keeping.{Keeping}
use Rattle.tb_file.specs.private.Steps.{IsSudden, is_end_of_time, KeepsPair, EndsReplying, EndsNext, replies_at, round_at}

module _ (tells : Type 0) {D : Type 0} (disk : D → Disk) where
  pub ends_refused : (f : KeepFault) (p : Pair) (before after : Keeping D) (first last : Input) (held left : List ℕ) (start : Output)
      → Reads (p ∷ []) first last → KeepsPair (Err f) p before after held left → is_end_of_time f ≡ false
      → EndsNext tells disk f (round_at before first held start) (round_at after last left start)
  ends_refused f p before after first last held left start read turn is =
      inl (refused f turn is, record { pair = p; read = read; turn = turn }, refl)
    where
      refused : (f : KeepFault) → KeepsPair (Err f) p before after held left → is_end_of_time f ≡ false → IsSudden f
      refused f turn is = grind (arith, common_steps)

  pub ends_untimely : (stop f : KeepFault) (p : Pair) (before middle after : Keeping D) (first last : Input) (held kept left : List ℕ) (start written : Output)
      → Reads (p ∷ []) first last → KeepsPair (Err stop) p before middle held kept → is_end_of_time stop ≡ true
      → EndsReplying tells disk stop f (replies_at middle kept start) (replies_at after left written)
      → EndsNext tells disk f (round_at before first held start) (round_at after last left written)
  ends_untimely stop f p before middle after first last held kept left start written read turn is told =
      grind (arith, common_steps)
