-- The dump of a file spells its history.
use Rattle.std.proofs.Common.{ℕ, ◌≡◌, List, [], ◌∷◌, ◌++◌, map, flat_map, refl, sym, ap, ◌∙◌, arith}
use Rattle.tb_file_journal.specs.Contents.{content_records as records_in}
use Rattle.tb_records.specs.Ordered.{Each}
use Rattle.tb_records.specs.DumpBytes.{head_bytes}
use Rattle.tb_machine.specs.declared.entries.Entry.{Entry}
use Rattle.tb_machine.specs.Histories.{State, start, step, LegalFrom}
use Rattle.tb_machine.specs.Dumps.{dumped, IsDumpedEntry}
use Rattle.tb_machine.proofs.Judging.{may_come}
use Rattle.tb_file.specs.Keeping.{AreRecorded}
use Rattle.tb_file.specs.Reading.{joined_bytes, behind_head, DumpIsOfHistory}

joined_map : (es : List Entry) → joined_bytes (map dumped es) ≡ flat_map dumped es
joined_map [] = refl
joined_map (e ∷ es) = ap (λ (l : List ℕ). dumped e ++ l) (joined_map es)

are_dumped : (S : State) (es : List Entry) → LegalFrom S es → AreRecorded es → Each IsDumpedEntry es
are_dumped S [] legal are = tt
are_dumped S (e ∷ es) legal are = (
  record { entry = omega (arith, (may_come S e legal.0).commit); commit_fits = are.0.commit_fits; time_fits = are.0.time_fits; request = are.0.request },
  are_dumped (step S e) es legal.1 are.1,
)

pub dump_is_of_history : DumpIsOfHistory
dump_is_of_history rules h file profile clients is = record {
  bytes_are =
      ap (λ (records : List (List ℕ)). head_bytes rules.profile rules.clients_max ++ joined_bytes (behind_head records)) (ap records_in is.reads)
      ∙ ap (λ (l : List ℕ). head_bytes rules.profile rules.clients_max ++ l) (joined_map h.entries)
      ∙ sym (ap (λ p. head_bytes p h.clients_max ++ flat_map dumped h.entries) profile ∙ ap (λ n. head_bytes rules.profile n ++ flat_map dumped h.entries) clients);
  clients = is.keepable.clients;
  entries = are_dumped (start h.profile h.clients_max) h.entries is.keepable.legal is.keepable.recorded_are;
  marked = tt;
}
