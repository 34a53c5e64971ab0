-- A disk whose sectors are old or new: what its calls do to a file, and what a crash may leave between two syncs.
use Rattle.std.specs.Prelude.{◌≡◌, ◌⊎◌, ℕ, ◌+◌, ◌*◌, ◌≤◌, min, max, Bool, true, false, List, [], ◌∷◌, ◌++◌, length, take, drop, replicate, Result, OnOk, OnErr}
use Rattle.tb_sectors.specs.declared.devices.SectorFault.{SectorFault}

-- a sector of a file, 512 bytes at a multiple of 512: what the file has there, and zeros after its end
abbrev pub sector : ℕ → List ℕ → List ℕ
sector k file = take 512 (drop (512 * k) file ++ replicate 512 0)

-- a crash while a file became another one: each sector is that of the one or of the other, in any combination, and the length is between theirs
pub record IsMixed (old new left : List ℕ) : Type 0 where
  pub each : (k : ℕ) → (sector k left ≡ sector k old) ⊎ (sector k left ≡ sector k new)
  pub no_shorter : min (length old) (length new) ≤ length left
  pub no_longer : length left ≤ max (length old) (length new)

-- a disk with one file, and its clock
pub record Disk : Type 1 where
  pub seen : List ℕ  -- the bytes that a read returns
  pub may_leave : List ℕ → Type 0  -- what a crash at this moment may leave
  pub moment : ℕ  -- a number that does not fall
  pub left_since : ℕ → List ℕ → Type 0  -- what a crash at some moment from that one on might have left
  pub sound : Bool  -- no sync has failed

-- a crash leaves exactly this
abbrev pub Only : List ℕ → (List ℕ → Type 0) → Type 0
Only file outcomes = (c : List ℕ) → outcomes c → c ≡ file

-- all that a read returns is durable, and a sync still makes durable what is written
pub record IsSettled (disk : Disk) : Type 0 where
  pub kept : Only disk.seen disk.may_leave
  pub sound : disk.sound ≡ true

-- the file with these bytes in the place of those at this offset
abbrev pub overwritten : List ℕ → ℕ → List ℕ → List ℕ
overwritten file at bytes = take at file ++ (bytes ++ drop (at + length bytes) file)

-- time goes on: a crash since t might have left what it might have left before, or what it may leave now
pub record Elapses (before after : Disk) : Type 0 where
  pub later : before.moment ≤ after.moment
  pub nothing_else : (t : ℕ) (c : List ℕ) → t ≤ before.moment → after.left_since t c → before.left_since t c ⊎ after.may_leave c
  pub keeps : (t : ℕ) (c : List ℕ) → t ≤ before.moment → before.left_since t c → after.left_since t c

-- a crash at any moment since before leaves a file that has P
pub record LeavesOnly (before after : Disk) (P : List ℕ → Type 0) : Type 0 where
  pub later : before.moment ≤ after.moment
  pub each : (c : List ℕ) → after.left_since before.moment c → P c
  -- for a run that began earlier
  pub earlier : (t : ℕ) (c : List ℕ) → t ≤ before.moment → after.left_since t c → before.left_since t c ⊎ P c

-- what a crash may leave of a file that was synced, after these writes since, each by the file that it made, the newest first
abbrev pub LeftAfter : List ℕ → List (List ℕ) → List ℕ → Type 0
LeftAfter synced [] left = left ≡ synced
LeftAfter synced (newest ∷ earlier) left = (d : List ℕ) × LeftAfter synced earlier d × IsMixed d newest left

-- a sector is as it was synced, or as it was after one of these writes
abbrev pub IsAVersion : ℕ → List ℕ → List (List ℕ) → List ℕ → Type 0
IsAVersion k synced [] left = sector k left ≡ sector k synced
IsAVersion k synced (newest ∷ earlier) left = (sector k left ≡ sector k newest) ⊎ IsAVersion k synced earlier left

-- so each sector of what a crash leaves is one of its versions, whatever the others are
abbrev pub EachSectorIsAVersion : Type 0
EachSectorIsAVersion = (synced : List ℕ) (writes : List (List ℕ)) (left : List ℕ) → LeftAfter synced writes left → (k : ℕ) → IsAVersion k synced writes left

-- each new outcome of a crash is an old outcome after a step
abbrev pub Follows : (List ℕ → List ℕ → Type 0) → Disk → Disk → Type 0
Follows step before after = (c : List ℕ) → after.may_leave c → (d : List ℕ) × before.may_leave d × step d c

-- a write, after which a crash may leave what it might have left before, with this step
pub record WritesBy (step : List ℕ → List ℕ → Type 0) (at : ℕ) (bytes : List ℕ) (result : Result (Unit {0}) SectorFault) (before after : Disk) : Type 0 where
  pub written : OnOk result (after.seen ≡ overwritten before.seen at bytes)
  pub crash : Follows step before after
  pub time : Elapses before after
  pub sound : after.sound ≡ before.sound

-- a write whose sectors are old or new: each is as it was there, or as the write made it. So a sector that several writes changed since the last sync may
-- be as any of them made it, or as it was synced
abbrev pub Writes : ℕ → List ℕ → Result (Unit {0}) SectorFault → Disk → Disk → Type 0
Writes at bytes result before after = WritesBy (λ d c. IsMixed d (overwritten before.seen at bytes) c) at bytes result before after

-- a sync: until it ends, a crash may leave what it might have left before, or what a read returns. After a failed sync no later sync makes anything
-- durable, whatever it returns
pub record Syncs (result : Result (Unit {0}) SectorFault) (before after : Disk) : Type 0 where
  pub durable : OnOk result (before.sound ≡ true → Only before.seen after.may_leave)
  pub sound : OnOk result (after.sound ≡ before.sound)
  pub unsound : OnErr result (after.sound ≡ false)
  pub seen : after.seen ≡ before.seen
  pub crash : (c : List ℕ) → after.may_leave c → before.may_leave c ⊎ (c ≡ before.seen)
  pub time : Elapses before after

-- a call that only reads
pub record Looks (before after : Disk) : Type 0 where
  pub seen : after.seen ≡ before.seen
  pub crash : (c : List ℕ) → after.may_leave c → before.may_leave c
  pub time : Elapses before after
  pub sound : after.sound ≡ before.sound

-- bytes that were read from an offset on: as many as fit or as are left, and they come first
pub record ReadsAt (count at : ℕ) (file into : List ℕ) : Type 0 where
  pub counts : count ≡ min (length into) (length (drop at file))
  pub bytes : take count into ≡ take count (drop at file)
