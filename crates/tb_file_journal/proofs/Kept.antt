-- A write or a cut that is followed by a sync.
use Rattle.std.proofs.Common.{◌≡◌, ⊎_elim, ℕ, ◌≤◌, List, length, take, true, sym, ◌∙◌, subst, arith, Result, Ok, Err, OnOk}
use Rattle.tb_file_journal.specs.declared.faults.JournalFault.{JournalFault}
use Rattle.tb_file_journal.specs.Device.{Disk, Only, IsOnDisk, IsSettled, Torn, Cut, LeavesOnly, FailsNone, HasCause, Writes, Cuts, Syncs, overwritten}
use Rattle.tb_file_journal.specs.private.MemoryLaws.{torn_part, torn_same, cut_same, cut_whole}
use Rattle.tb_file_journal.specs.Steps.{Overwrites, Shortens}
use Rattle.tb_file_journal.proofs.Moments.{started, goes_on}
use Rattle.tb_file_journal.proofs.Causes.{has_cause_since}

-- what a sync keeps
settled_by : (before mid after : Disk) (synced : Result (Unit {0}) JournalFault) → mid.sound ≡ before.sound → IsSettled before
    → Syncs synced mid after → OnOk synced (IsSettled after)
settled_by before mid after synced same settled sync = by_answer synced sync.durable sync.sound
  where
    by_answer : (r : Result (Unit {0}) JournalFault) → OnOk r (mid.sound ≡ true → Only mid.seen after.may_leave)
        → OnOk r (after.sound ≡ mid.sound) → OnOk r (IsSettled after)
    by_answer (Ok x) durable sound = record {
      kept = λ c left. durable (same ∙ settled.sound) c left ∙ sym sync.seen;
      sound = sound ∙ same ∙ settled.sound;
    }
    by_answer (Err fault) durable sound = tt

shown_by : (after : Disk) (file mid : List ℕ) (synced : Result (Unit {0}) JournalFault) → after.seen ≡ mid → mid ≡ file
    → OnOk synced (after.seen ≡ file)
shown_by after file mid (Ok x) same is = same ∙ is
shown_by after file mid (Err fault) same is = tt

module _ (at : ℕ) (bytes : List ℕ) (before mid : Disk) (within : at ≤ length before.seen) (now : (c : List ℕ) → before.left_since before.moment c → before.may_leave c) (result : Result (Unit {0}) JournalFault) (write : Writes at bytes result before mid) where
  abbrev Outcome : List ℕ → Type 0
  Outcome = Torn at (length bytes) before.seen

  torn : IsOnDisk before → (c : List ℕ) → mid.may_leave c → Outcome c
  torn kept c left = let from = write.crash c left in subst (λ (d : List ℕ). Torn at (length bytes) d c) (kept from.0 from.1) from.2

  written : IsOnDisk before → LeavesOnly before mid Outcome
  written kept =
      goes_on before before mid Outcome
      (started before Outcome (λ c left. subst Outcome (sym (kept c (now c left))) (torn_same at (length bytes) before.seen)))
      write.time (torn kept)

  pub overwrite_failed : (fault : JournalFault) → result ≡ Err fault → Overwrites at bytes (Err fault) before mid
  overwrite_failed fault is = record {
    ok = tt;
    settled = λ settled. tt;
    any_moment = λ settled. written settled.kept;
    cause = subst (λ (r : Result (Unit {0}) JournalFault). HasCause r before mid) is write.cause;
  }

  pub overwrite_synced : (after : Disk) (synced : Result (Unit {0}) JournalFault) → result ≡ Ok tt
      → Syncs synced mid after → Overwrites at bytes synced before after
  overwrite_synced after synced is sync = record {
    ok = shown_by after (overwritten before.seen at bytes) mid.seen synced sync.seen shown;
    settled = λ settled. settled_by before mid after synced write.sound settled sync;
    any_moment = λ settled. goes_on before mid after Outcome (written settled.kept) sync.time
        (λ c left. ⊎_elim (torn settled.kept c)
        (λ all. subst Outcome (sym (all ∙ shown)) (torn_part at (length bytes) bytes before.seen within (omega arith)))
        (sync.crash c left));
    cause = has_cause_since before mid after synced none sync.cause;
  }
    where
      shown : mid.seen ≡ overwritten before.seen at bytes
      shown = subst (λ (r : Result (Unit {0}) JournalFault). OnOk r (mid.seen ≡ overwritten before.seen at bytes)) is write.written

      none : FailsNone before mid
      none = subst (λ (r : Result (Unit {0}) JournalFault). OnOk r (FailsNone before mid)) is write.cause.ok

module _ (len : ℕ) (before mid : Disk) (now : (c : List ℕ) → before.left_since before.moment c → before.may_leave c) (result : Result (Unit {0}) JournalFault) (cut : Cuts len result before mid) where
  abbrev Shorter : List ℕ → Type 0
  Shorter = Cut len before.seen

  shorter : IsOnDisk before → (c : List ℕ) → mid.may_leave c → Shorter c
  shorter kept c left = let from = cut.crash c left in subst (λ (d : List ℕ). Cut len d c) (kept from.0 from.1) from.2

  shortened : IsOnDisk before → LeavesOnly before mid Shorter
  shortened kept =
      goes_on before before mid Shorter
      (started before Shorter (λ c left. subst Shorter (sym (kept c (now c left))) (cut_same len before.seen)))
      cut.time (shorter kept)

  pub shorten_failed : (fault : JournalFault) → result ≡ Err fault → Shortens len (Err fault) before mid
  shorten_failed fault is = record {
    ok = tt;
    settled = λ settled. tt;
    any_moment = λ settled. shortened settled.kept;
    cause = subst (λ (r : Result (Unit {0}) JournalFault). HasCause r before mid) is cut.cause;
  }

  pub shorten_synced : (after : Disk) (synced : Result (Unit {0}) JournalFault) → result ≡ Ok tt
      → Syncs synced mid after → Shortens len synced before after
  shorten_synced after synced is sync = record {
    ok = shown_by after (take len before.seen) mid.seen synced sync.seen shown;
    settled = λ settled. settled_by before mid after synced cut.sound settled sync;
    any_moment = λ settled. goes_on before mid after Shorter (shortened settled.kept) sync.time
        (λ c left. ⊎_elim (shorter settled.kept c)
        (λ all. subst Shorter (sym (all ∙ shown)) (cut_whole len before.seen))
        (sync.crash c left));
    cause = has_cause_since before mid after synced none sync.cause;
  }
    where
      shown : mid.seen ≡ take len before.seen
      shown = subst (λ (r : Result (Unit {0}) JournalFault). OnOk r (mid.seen ≡ take len before.seen)) is cut.cut

      none : FailsNone before mid
      none = subst (λ (r : Result (Unit {0}) JournalFault). OnOk r (FailsNone before mid)) is cut.cause.ok
