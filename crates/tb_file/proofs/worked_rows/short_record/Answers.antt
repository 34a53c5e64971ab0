use Rattle.std.proofs.Common.{◌≡◌, [], ◌∷◌, inl, refl, lit<}
use Rattle.tb_records.specs.DumpBytes.{numbers_bytes}
use Rattle.tb_records.specs.Numbers.{le_bytes}
use Rattle.tb_machine.specs.Dumps.{dumped}
use Rattle.tb_file.proofs.worked_rows.short_record.Goals as goal

pub returns : goal.returns
unfolding le_bytes numbers_bytes
returns c = (refl, (inl (lit< tt), λ e is. let clash : 1 ∷ 2 ∷ [] ≡ dumped e = is.bytes_are in absurd (cc)))
