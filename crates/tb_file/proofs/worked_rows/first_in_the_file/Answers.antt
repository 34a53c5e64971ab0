use Rattle.std.proofs.Common.{ℕ, ◌≡◌, List, [], ◌∷◌, inl, inr, refl, lit<}
use Rattle.tb_records.specs.declared.limits.Profile.TheVariants.{Two}
use Rattle.tb_records.specs.DumpBytes.{numbers_bytes}
use Rattle.tb_records.specs.Numbers.{le_bytes}
use Rattle.tb_file_journal.specs.Checksum.{bit_on, byte_on}
use Rattle.tb_machine.specs.Dumps.{dumped}
use Rattle.tb_machine.specs.declared.entries.Entry.{Entry}
use Rattle.tb_machine.specs.Histories.{State, start as start_state}
use Rattle.tb_file.specs.Keeping.{head_record}
use Rattle.tb_file.proofs.Leading.{leads_none}
use Rattle.tb_file.proofs.worked_rows.first_in_the_file.Goals as goal

pub returns-clause-record : goal.returns-clause-record
unfolding byte_on bit_on le_bytes numbers_bytes
returns-clause-record c =
    let S : State = start_state Two 8 in
    let bytes : List ℕ = 1 ∷ 2 ∷ [] in
    record {
      records = head_record Two 8 ∷ bytes ∷ [];
      begins = refl;
      stops = (
        head_record Two 8,
        bytes ∷ [],
        refl,
        inr (refl, (S, ([], bytes, [], refl, leads_none S, (refl, (inl (lit< tt), λ (e : Entry) is. let clash : 1 ∷ 2 ∷ [] ≡ dumped e = is.bytes_are in absurd (cc)))))),
      );
    }

pub returns-clause-block : goal.returns-clause-block
unfolding byte_on bit_on
returns-clause-block c = refl
