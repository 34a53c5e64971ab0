-- The journal's numbers after a commit.
use Rattle.std.proofs.Common.{rules, ◌≡◌, inl, ap, ◌∙◌, ℕ, Bool, ◌+◌, ◌-◌, ◌≤◌, List, [], ◌∷◌, ◌++◌, length, arith, length-append}
use Rattle.tb_file_journal.specs.Device.{Disk, IsSettled, LeavesOnly}
use Rattle.tb_file_journal.specs.Contents.{contents, at_rest, recorded, blocks_length, records_end}
use Rattle.tb_file_journal.specs.Steps.{IsWholeFile, IsAtRest, IsBeforeOrAfter}
use Rattle.tb_file_journal.specs.Ready.{Kept, IsWritable, IsReady}
use Rattle.tb_file_journal.proofs.Moments.{started}
use Rattle.tb_file_journal.proofs.Waiting.{many_blocks, length-at_rest}

pub blocks_length-append : (xs ys : List (List ℕ)) → blocks_length (xs ++ ys) ≡ blocks_length xs + blocks_length ys
blocks_length-append [] ys = let e : blocks_length ys ≡ 0 + blocks_length ys = omega arith in e
blocks_length-append (x ∷ xs) ys = omega (arith, blocks_length-append xs ys)

-- a batch has a byte for each record, and four more
pub fewer : (batch : List (List ℕ)) → length batch + 4 ≤ length (at_rest batch)
fewer batch = omega (arith, length-at_rest batch, many_blocks batch)

next_end : (olds batch : List (List ℕ)) (end bytes : ℕ) → end ≡ records_end olds
    → bytes ≡ length (at_rest batch) → end + (bytes - 4) ≡ records_end (olds ++ batch)
next_end olds batch end bytes ends long = omega (arith, ends, long, length-at_rest batch, blocks_length-append olds batch)

-- after the whole batch the journal may be written to again
pub next_writable : {D : Type 0} (disk : D → Disk) (old : Kept D) (new : D) (bytes many : ℕ) (waiting : List (List ℕ)) (usable : Bool)
    → IsWritable disk old → IsWholeFile (disk new) → recorded (disk new).seen ≡ recorded (disk old.device).seen ++ old.waiting → bytes ≡ length (at_rest old.waiting) → many ≡ length old.waiting
    → IsWritable disk (record { device = new; end = old.end + (bytes - 4); count = old.count + many; waiting = waiting; usable = usable })
next_writable disk old new bytes many waiting usable writable whole reads long counts = search (rules, length-append, next_end)

-- a journal that may be written to is ready if all that is read is durable and no sync has failed
pub settled_of : {D : Type 0} (disk : D → Disk) (journal : Kept D) → IsReady disk journal → IsSettled (disk journal.device)
settled_of disk journal ready = record { kept = ready.at_rest.kept; sound = ready.at_rest.sound }

pub ready_of : {D : Type 0} (disk : D → Disk) (journal : Kept D) → IsWritable disk journal → IsSettled (disk journal.device) → IsReady disk journal
ready_of disk journal writable settled = record {
  at_rest = record { reads = writable.whole.reads; closed = writable.whole.closed; kept = settled.kept; sound = settled.sound };
  ends = writable.ends;
  counts = writable.counts;
}

-- without a call the records from before are left
pub left_at_rest : (disk : Disk) (batch : List (List ℕ)) → ((c : List ℕ) → disk.left_since disk.moment c → disk.may_leave c) → IsAtRest disk
    → LeavesOnly disk disk (IsBeforeOrAfter (recorded disk.seen) batch)
left_at_rest disk batch only rest = started disk (IsBeforeOrAfter (recorded disk.seen) batch) (λ c left. inl (ap contents (rest.kept c (only c left)) ∙ rest.reads))
