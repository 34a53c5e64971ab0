-- A scan of a file, from its first bytes on: what a loop over it knows.
use Rattle.std.proofs.Common.{◌≡◌, inl, true, List, [], ◌∷◌, length, ℕ, refl, sym, ◌∙◌, arith, Result, Ok}
use Rattle.tb_file_journal.specs.declared.faults.JournalFault.{JournalFault}
use Rattle.tb_file_journal.specs.Device.{Disk, IsOnDisk, IsLookedAt, LeavesOnly, FailsNone, Syncs}
use Rattle.tb_file_journal.specs.Opening.{IsAsBefore}
use Rattle.tb_file_journal.specs.Reading.{LooksKept}
use Rattle.tb_file_journal.specs.Scans.{HasRead, IsAhead, ScanState}
use Rattle.tb_file_journal.proofs.Moments.{started, goes_on}
use Rattle.tb_file_journal.proofs.Causes.{none_since}
use Rattle.tb_file_journal.proofs.SystemCalls.{CountsNow}

-- the file is as it was, and no call has failed
pub record IsScanning (before now : Disk) : Type 0 where
  pub seen : now.seen ≡ before.seen
  pub kept : before.sound ≡ true → IsOnDisk now
  pub sound : now.sound ≡ before.sound
  pub left : LeavesOnly before now (IsAsBefore before)
  pub none : FailsNone before now

-- some records of the file were read that the device still holds
abbrev pub IsReading : {D : Type 0} → (D → List ℕ → Type 0) → D → ScanState → List ℕ → Type 0
IsReading holds now scan file = holds now file × ((records : List (List ℕ)) × HasRead records file scan)

-- one look more

pub left_on : (before now after : Disk) → CountsNow now → IsScanning before now → IsLookedAt now after → LeavesOnly before after (IsAsBefore before)
left_on before now after counts scanning looks =
    goes_on before now after (IsAsBefore before) scanning.left looks.time (λ c left. scanning.left.each c (counts before.moment c scanning.left.later (looks.crash c left)))

pub kept_on : (before now after : Disk) → IsScanning before now → IsLookedAt now after → before.sound ≡ true → IsOnDisk after
kept_on before now after scanning looks sound c left = scanning.kept sound c (looks.crash c left) ∙ sym looks.seen

pub scans_on : (before now after : Disk) → CountsNow now → IsScanning before now → IsLookedAt now after → FailsNone now after → IsScanning before after
scans_on before now after counts scanning looks none = record {
  seen = looks.seen ∙ scanning.seen;
  kept = kept_on before now after scanning looks;
  sound = looks.sound ∙ scanning.sound;
  left = left_on before now after counts scanning looks;
  none = none_since before now after scanning.none none;
}

-- before the first read: a sync, and then a look

abbrev pub OnlyNow : Disk → Type 0
OnlyNow before = (c : List ℕ) → before.left_since before.moment c → before.may_leave c

pub left_at_first : (before : Disk) → OnlyNow before → LeavesOnly before before (IsAsBefore before)
left_at_first before only = started before (IsAsBefore before) (λ c left. inl (only c left))

pub left_by_sync : (before mid : Disk) (result : Result (Unit {0}) JournalFault) → OnlyNow before → Syncs result before mid → LeavesOnly before mid (IsAsBefore before)
left_by_sync before mid result only syncs = goes_on before before mid (IsAsBefore before) (left_at_first before only) syncs.time syncs.crash

pub left_by_look : (before mid after : Disk) (result : Result (Unit {0}) JournalFault) → OnlyNow before → Syncs result before mid → IsLookedAt mid after → LeavesOnly before after (IsAsBefore before)
left_by_look before mid after result only syncs looks =
    goes_on before mid after (IsAsBefore before) (left_by_sync before mid result only syncs) looks.time (λ c left. syncs.crash c (looks.crash c left))

pub looks_kept : {T : Type 0} (x : T) (before mid after : Disk) → OnlyNow before → Syncs (Ok tt) before mid → IsLookedAt mid after → LooksKept (Ok x) before after
looks_kept x before mid after only syncs looks =
    let seen = looks.seen ∙ syncs.seen in
    record {
      settled = λ sound. record { kept = λ c left. syncs.durable sound c (looks.crash c left) ∙ sym seen; sound = looks.sound ∙ syncs.sound ∙ sound };
      seen = seen;
      any_moment = left_by_look before mid after (Ok tt) only syncs looks;
    }

pub nothing_ahead : (at : ℕ) (file ahead : List ℕ) → length ahead ≡ 0 → IsAhead at file ahead
nothing_ahead at file [] none = refl
nothing_ahead at file (x ∷ more) none = absurd (omega (arith, none))
