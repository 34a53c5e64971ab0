-- A journal over a file that was read.
use Rattle.std.proofs.Common.{rules, ◌≡◌, inl, inr, ⊎_elim, ◌<◌, ◌+◌, ◌^◌, ℕ, true, List, [], length, refl, sym, ap, ◌∙◌, arith, Result, Ok, Err, IfOk, IfErr}
use Rattle.std.proofs.lemmas.Grind.{common_steps}
use Rattle.tb_file_journal.specs.declared.faults.JournalFault.TheVariants as faults
use Rattle.tb_file_journal.specs.declared.opening.OpenFault.{OpenFault}
use Rattle.tb_file_journal.specs.declared.opening.OpenFault.TheVariants as open_faults
use Rattle.tb_file_journal.specs.declared.opening.NotOpened.{NotOpened}
use Rattle.tb_file_journal.specs.declared.reading.Extent.{Extent}
use Rattle.tb_file_journal.specs.Device.{Disk, IsOnDisk, IsSettled, LeavesOnly}
use Rattle.tb_file_journal.specs.Contents.{Contents, Records, contents, recorded, content_records, records_end}
use Rattle.tb_file_journal.specs.Opening.{HasOpenCause, IsAsBefore, StandsForTheSame, IsOfDevice, IsOfExtent, IsUntouched, GivesBack, Recovers, RefusesFile, Repairs, IsOpened}
use Rattle.tb_file_journal.specs.Reading.{ReadsExtent, extent_of}
use Rattle.tb_file_journal.specs.Ready.{Kept, IsOver}
use Rattle.tb_file_journal.proofs.Moments.{started, then, weaker}
use Rattle.tb_file_journal.proofs.Causes.{none_at_once}
use Rattle.tb_file_journal.proofs.Steps.{within}

-- what an extent says of its file
pub record IsTold (found : Contents) (extent : Extent) : Type 0 where
  pub reads : found ≡ Records (content_records found)
  pub end : extent.end ≡ records_end (content_records found)
  pub count : extent.count ≡ length (content_records found)

pub is_told : (found : Contents) (extent : Extent) → extent_of found ≡ Ok extent → IsTold found extent
is_told found extent is = grind (arith, common_steps)

pub too_long : (disk : Disk) (extent : Extent) → extent_of (contents disk.seen) ≡ Ok extent → 2 ^ 62 < extent.end + 4 → HasOpenCause {T = Unit {0}} (Err (open_faults.Device faults.Full)) disk disk
too_long disk extent read long =
    let told = is_told (contents disk.seen) extent read in
    record { ok = tt; cause = inr (refl, omega (arith, long, told.end, within disk.seen (recorded disk.seen) told.reads), none_at_once disk) }

-- a file that was read, before a call
pub left_as_read : (disk : Disk) (extent : Extent) → extent_of (contents disk.seen) ≡ Ok extent → ((c : List ℕ) → disk.left_since disk.moment c → disk.may_leave c)
    → IsOnDisk disk → LeavesOnly disk disk (λ file. contents file ≡ Records (recorded disk.seen))
left_as_read disk extent read only kept =
    started disk (λ (file : List ℕ). contents file ≡ Records (recorded disk.seen)) (λ c left. ap contents (kept c (only c left)) ∙ (is_told (contents disk.seen) extent read).reads)

-- a journal of what was read
pub recovers : {D : Type 0} (file : List ℕ) (extent : Extent) (result : Result (Kept D) (NotOpened D)) → extent_of (contents file) ≡ Ok extent
    → IfOk result (IsOfExtent extent) → IfErr result (λ failed. IsOfDevice failed.fault) → Recovers result file
recovers file extent (Ok journal) read of_extent other =
    let told = is_told (contents file) extent read in
    (told.reads, (of_extent.0 ∙ told.end, of_extent.1 ∙ told.count, of_extent.2))
recovers file extent (Err failed) read of_extent other = by_fault failed.fault other
  where
    by_fault : (fault : OpenFault) → IsOfDevice fault → RefusesFile fault file
    by_fault (open_faults.Refused why) other = absurd other
    by_fault (open_faults.Device fault) other = tt

pub refuses : (file : List ℕ) (fault : OpenFault) → ReadsExtent (Err fault) file → RefusesFile fault file
refuses file (open_faults.Refused why) tells = tells
refuses file (open_faults.Device fault) tells = tt

-- a file that is not opened

pub untouched_read : (before after : Disk) (fault : OpenFault) → after.seen ≡ before.seen → LeavesOnly before after (IsAsBefore before) → IsUntouched before after fault
untouched_read before after (open_faults.Refused why) seen left = (seen, left)
untouched_read before after (open_faults.Device fault) seen left = tt

untouched_by : (before after : Disk) (fault : OpenFault) → IsOfDevice fault → IsUntouched before after fault
untouched_by before after (open_faults.Refused why) other = absurd other
untouched_by before after (open_faults.Device fault) other = tt

pub not_refused : {D : Type 0} (disk : D → Disk) (device : D) (result : Result (Kept D) (NotOpened D)) → IfErr result (λ failed. IsOfDevice failed.fault)
    → GivesBack disk device result IsUntouched
not_refused disk device (Ok journal) other = tt
not_refused disk device (Err failed) other = untouched_by (disk device) (disk failed.device) failed.fault other

pub left_standing : (before after : Disk) → LeavesOnly before after (IsAsBefore before) → LeavesOnly before after (StandsForTheSame before)
left_standing before after left = weaker before after (IsAsBefore before) (StandsForTheSame before) (λ c either. ⊎_elim (λ was. inl was) (λ is. inr (ap contents is)) either) left

-- a file that was read and then opened
pub read_then_opened : (before mid after : Disk) (extent : Extent) → extent_of (contents before.seen) ≡ Ok extent → mid.seen ≡ before.seen
    → LeavesOnly before mid (IsAsBefore before) → LeavesOnly mid after (λ c. contents c ≡ Records (recorded mid.seen)) → LeavesOnly before after (StandsForTheSame before)
read_then_opened before mid after extent read seen first second = search (rules, then, weaker, as_before, same)
  where
    as_before : (c : List ℕ) → IsAsBefore before c → StandsForTheSame before c
    as_before c either = grind (arith, common_steps)

    same : (c : List ℕ) → contents c ≡ Records (recorded mid.seen) → StandsForTheSame before c
    same c is = inr (is ∙ ap (λ (f : List ℕ). Records (recorded f)) seen ∙ sym (is_told (contents before.seen) extent read).reads)

-- the journal of a file that was read, after the cut
pub opens : {D : Type 0} (disk : D → Disk) (before : Disk) (new : D) (extent : Extent) (done : Unit {0}) (batch : List (List ℕ)) → extent_of (contents before.seen) ≡ Ok extent
    → Repairs (Ok done) before (disk new) → IsSettled before → batch ≡ []
    → IsOpened disk before.seen (record { device = new; end = extent.end; count = extent.count; waiting = batch; usable = true })
opens disk before new extent done batch read repairs settled none =
    let told = is_told (contents before.seen) extent read in
    let after = repairs.settled settled in
    record {
      reads = told.reads;
      ready = record {
        at_rest = record { reads = repairs.ok.0.reads; closed = repairs.ok.0.closed; kept = after.kept; sound = after.sound };
        ends = told.end ∙ ap records_end (sym repairs.ok.1);
        counts = told.count ∙ ap length (sym repairs.ok.1);
      };
      same = repairs.ok.1;
      none_waits = none;
    }

pub is_over : {D : Type 0} (disk : D → Disk) (before : Disk) (new : D) (extent : Extent) (done : Unit {0}) (batch : List (List ℕ)) → extent_of (contents before.seen) ≡ Ok extent
    → Repairs (Ok done) before (disk new)
    → IsOver disk (recorded before.seen) (record { device = new; end = extent.end; count = extent.count; waiting = batch; usable = true })
is_over disk before new extent done batch read repairs =
    let told = is_told (contents before.seen) extent read in
    record {
      writable = record { whole = repairs.ok.0; ends = told.end ∙ ap records_end (sym repairs.ok.1); counts = told.count ∙ ap length (sym repairs.ok.1) };
      are = repairs.ok.1;
    }
