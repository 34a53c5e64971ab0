-- A file that was read is cut after its closed latch.
use Rattle.std.proofs.Common.{◌≡◌, ℕ, ◌+◌, ◌≤◌, List, ◌++◌, length, take, sym, ◌∙◌, ap, subst, arith, Result, Ok, Err, OnOk}
use Rattle.tb_file_journal.specs.declared.faults.JournalFault.{JournalFault}
use Rattle.tb_file_journal.specs.Device.{Disk, Cut}
use Rattle.tb_file_journal.specs.Contents.{latch_closed, Records, contents, recorded, records_end}
use Rattle.tb_file_journal.specs.Steps.{IsWholeFile, Shortens}
use Rattle.tb_file_journal.specs.Opening.{Repairs}
use Rattle.tb_file_journal.proofs.Moments.{weaker}
use Rattle.tb_file_journal.proofs.Steps.{room, rested, reads_rested, rested_closed, cut_torn}
use Rattle.tb_file_journal.proofs.Publishing.{wholly}

module _ (before : Disk) (reads : contents before.seen ≡ Records (recorded before.seen)) (end : ℕ) (ends : end ≡ records_end (recorded before.seen)) where
  abbrev known : List (List ℕ)
  known = recorded before.seen

  abbrev left : List ℕ
  left = rested before.seen known reads

  pub room_behind : end + 4 ≤ length before.seen
  room_behind = omega (arith, ends, room before.seen known reads)

  shorter : (c : List ℕ) → Cut (end + 4) before.seen c → contents c ≡ Records known
  shorter c cut = cut_torn before.seen known reads c (subst (λ (e : ℕ). Cut (e + 4) before.seen c) ends cut)

  pub repaired : (after : Disk) (result : Result (Unit {0}) JournalFault) → Shortens (end + 4) result before after → Repairs result before after
  repaired after result cut = record {
    ok = done result cut.ok;
    settled = cut.settled;
    any_moment = λ settled. weaker before after (Cut (end + 4) before.seen) (λ c. contents c ≡ Records known) shorter (cut.any_moment settled);
    cause = cut.cause;
  }
    where
      done : (r : Result (Unit {0}) JournalFault) → OnOk r (after.seen ≡ take (end + 4) before.seen) → OnOk r (IsWholeFile after × (recorded after.seen ≡ known))
      done (Err fault) shown = tt
      done (Ok x) shown =
          let is : after.seen ≡ left = shown ∙ ap (λ (e : ℕ). take (e + 4) before.seen) ends in
          wholly after known (ap contents is ∙ reads_rested before.seen known reads) (subst (λ (f : List ℕ). f ≡ take (records_end known) f ++ latch_closed) (sym is) (rested_closed before.seen known reads))
