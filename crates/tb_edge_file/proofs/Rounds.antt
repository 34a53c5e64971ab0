-- The entries that are written of a file as it grows.
use Rattle.std.proofs.Common.{◌≡◌, ◌⊎◌, ℕ, Bool, true, false, List, [], ◌++◌, Option, Result, Ok, Err, refl, subst, inl, inr, ⊎_elim, append-nil}
use Rattle.tb_file_journal.specs.declared.opening.OpenFault.{OpenFault}
use Rattle.tb_file_journal.specs.declared.opening.OpenFault.TheVariants as open_faults
use Rattle.tb_file_journal.specs.declared.faults.JournalFault.{JournalFault}
use Rattle.tb_file_journal.specs.Growing.{Later}
use Rattle.tb_file_journal.specs.Opening.{RefusesFile}
use Rattle.tb_file_journal.specs.Scans.{BeginsWith, ScanState, BeginsScan}
use Rattle.tb_records.specs.Transport.{Output, Sent, CutOff}
use Rattle.tb_records.specs.declared.faults.FrameFault.TheVariants as frame
use Rattle.tb_records.proofs.Sendings.{sent_rest, sent_few}
use Rattle.tb_file.specs.declared.faults.DumpFault.{DumpFault}
use Rattle.tb_file.specs.declared.faults.DumpFault.TheVariants as dump
use Rattle.tb_file.specs.declared.recovering.Rules.{Rules}
use Rattle.tb_file.specs.Following.{entries_above, WritesEntries}
use Rattle.tb_file_journal.proofs.Growths.{later_same}
use Rattle.tb_file.proofs.Dumping.{entries_once}
use Rattle.tb_edge_file.specs.declared.faults.KeepCommandFault.{KeepCommandFault}
use Rattle.tb_edge_file.specs.declared.faults.KeepCommandFault.TheVariants.{Device}
use Rattle.tb_edge_file.specs.declared.faults.Failed.TheVariants as failed
use Rattle.tb_edge_file.specs.ExitStatuses.{disk_fault, opened_fault, dumped_fault}
use Rattle.tb_edge_file.specs.Following.{GrowsTo, StopsWriting, EndsWriting, SendsRound, WritesGrown, Breaks, GrowsBy, EndsRounds, WritesSome, WritesPart, start_of, floor_of}

-- two parts that were sent
pub both : (xs ys : List ℕ) (old mid new : Output) → Sent xs old mid → Sent ys mid new → Sent (xs ++ ys) old new
both xs ys old mid new one two = sent_rest xs ys old mid new (xs ++ ys) refl one (Ok tt) two

-- one that was sent, and a prefix of the next
pub then_cut : (xs ys : List ℕ) (old mid new : Output) → Sent xs old mid → CutOff ys mid new → CutOff (xs ++ ys) old new
then_cut xs ys old mid new one two = (sent_rest xs ys old mid new (xs ++ ys) refl one (Err frame.Device) (refl, two)).1

-- a fault of a file that is not read on, with what went out before it
pub stopped : (fault : KeepCommandFault) (file : List ℕ) (P Q : Type 0) → (P → Q) → StopsWriting fault file P → StopsWriting fault file Q
stopped fault file P Q f stops = record { why = stops.why; named = stops.named; refuses = stops.refuses; went = f stops.went }

-- one that was sent, before what ends by a fault
pub behind_ends : (fault : KeepCommandFault) (file xs ys : List ℕ) (old mid new : Output) → Sent xs old mid → EndsWriting fault file ys mid new → EndsWriting fault file (xs ++ ys) old new
behind_ends fault file xs ys old mid new one two =
    ⊎_elim (λ stops. inl (stopped fault file (Sent ys mid new) (Sent (xs ++ ys) old new) (both xs ys old mid new one) stops))
    (λ cut. inr (cut.0, then_cut xs ys old mid new one cut.1)) two

-- what was sent is a prefix of it that the output held back and lost
pub lost_held : (fault : KeepCommandFault) (file xs : List ℕ) (old mid new : Output) → fault ≡ Device failed.Output → Sent xs old mid → CutOff [] mid new
    → EndsWriting fault file xs old new
lost_held fault file xs old mid new is one two =
    inr (is, subst (λ (l : List ℕ). CutOff l old new) (append-nil xs) (then_cut xs [] old mid new one two))

-- and this all of it
pub sent_held : (xs : List ℕ) (old mid new : Output) → Sent xs old mid → Sent [] mid new → Sent xs old new
sent_held xs old mid new one two = subst (λ (l : List ℕ). Sent l old new) (append-nil xs) (both xs [] old mid new one two)

-- one round of entries was written, and went out
pub round_done : (after : ℕ) (read : List (List ℕ)) (file : List ℕ) (scan : ScanState) (count : ℕ) (old mid new : Output)
    → WritesEntries (Ok count) after read file scan old mid → Sent [] mid new → SendsRound (Ok tt) after read file scan old new
round_done after read file scan count old mid new (more, whole, place, counted, sent) held = (more, whole, place, sent_held _ old mid new sent held)

pub round_lost : (after : ℕ) (read : List (List ℕ)) (file : List ℕ) (scan : ScanState) (count : ℕ) (fault : KeepCommandFault) (old mid new : Output)
    → fault ≡ Device failed.Output → WritesEntries (Ok count) after read file scan old mid → CutOff [] mid new → SendsRound (Err fault) after read file scan old new
round_lost after read file scan count fault old mid new is (more, whole, place, counted, sent) held =
    (more, place.begins, lost_held fault file _ old mid new is sent held)

pub round_broken : (after : ℕ) (read : List (List ℕ)) (file : List ℕ) (scan : ScanState) (cause : DumpFault) (fault : KeepCommandFault) (old new : Output)
    → fault ≡ dumped_fault cause → WritesEntries (Err cause) after read file scan old new → SendsRound (Err fault) after read file scan old new
round_broken after read file scan (dump.Journal cause) fault old new is (refuses, (more, begins, sent)) =
    (more, begins, inl (record { why = cause; named = is; refuses = refuses; went = sent }))
round_broken after read file scan (dump.Writer cause) fault old new is (device, (more, begins, cut)) = (more, begins, inr (is, cut))

-- one more round after those that were written
module _ {D : Type 0} (holds : D → List ℕ → Type 0) (after : ℕ) (file : List ℕ) (start : Output) where
  pub once_more : (records : List (List ℕ)) (now : List ℕ) (device : D) (scan : ScanState) (result : Result (Unit {0}) KeepCommandFault) (mid new : Output)
      → Later file now → holds device now → Sent (entries_above after [] records) start mid → SendsRound result after records now scan mid new
      → GrowsBy (holds device) result after file scan start new
  once_more records now device scan (Ok done) mid new since held sent (more, whole, place, also) = record {
    later = now;
    since = since;
    held = held;
    records = records ++ more;
    whole = whole;
    place = place;
    sent = subst (λ (l : List ℕ). Sent l start new) (entries_once after [] records more) (both _ _ start mid new sent also);
  }
  once_more records now device scan (Err fault) mid new since held sent (more, begins, ends) = record {
    later = now;
    since = since;
    records = records ++ more;
    begins = begins;
    ends = subst (λ (l : List ℕ). EndsWriting fault now l start new) (entries_once after [] records more) (behind_ends fault now _ _ start mid new sent ends);
  }

  -- no round more: the file could not be read on
  pub no_more : (cause : JournalFault) (fault : KeepCommandFault) (device : D) (scan : ScanState) (mid : Output) → fault ≡ disk_fault cause → WritesGrown (holds device) after file scan start mid
      → Breaks fault true after file start mid
  no_more cause fault device scan mid is g = record {
    later = g.later;
    since = g.since;
    records = g.records;
    begins = g.place.begins;
    ends = inl (record { why = open_faults.Device cause; named = is; refuses = tt; went = g.sent });
  }

  pub reached : (device : D) (scan : ScanState) (mid : Output) → WritesGrown (holds device) after file scan start mid
      → EndsRounds (holds device) (Ok tt) true after file start mid
  reached device scan mid g = record { later = g.later; since = g.since; held = g.held; records = g.records; whole = g.whole; sent = g.sent }

-- the entries, after what comes before them
module _ (holds : List ℕ → Type 0) (follows : Bool) (after : Option ℕ) (rules : Rules) (file : List ℕ) (old mid new : Output) where
  pub part_sent : (result : Result (Unit {0}) KeepCommandFault) → Sent (start_of after rules) old mid → EndsRounds holds result follows (floor_of after) file mid new
      → WritesPart holds result follows after rules file old new
  part_sent (Ok done) one two = record {
    later = two.later;
    since = two.since;
    held = two.held;
    records = two.records;
    whole = two.whole;
    sent = both _ _ old mid new one two.sent;
  }
  part_sent (Err fault) one two = inr (record {
    later = two.later;
    since = two.since;
    records = two.records;
    begins = two.begins;
    ends = behind_ends fault two.later _ _ old mid new one two.ends;
  })

-- a file that nobody has appended to yet
pub grows_same : (follows : Bool) (file : List ℕ) → GrowsTo follows file file
grows_same false file = refl
grows_same true file = later_same file

-- what comes before the entries was cut off
pub start_cut : (follows : Bool) (after : Option ℕ) (rules : Rules) (file : List ℕ) (old new : Output) (fault : KeepCommandFault)
    → fault ≡ Device failed.Output → CutOff (start_of after rules) old new → BeginsWith [] file
    → StopsWriting fault file (new ≡ old) ⊎ WritesSome fault follows after rules file old new
start_cut follows after rules file old new fault is cut begins = inr (record {
  later = file;
  since = grows_same follows file;
  records = [];
  begins = begins;
  ends = inr (is, sent_few _ _ _ old new refl cut);
})

-- the first round, of a file of which nothing was read
module _ {D : Type 0} (holds : D → List ℕ → Type 0) (after : ℕ) (file : List ℕ) (start written : Output) where
  pub first_round : (device : D) (scan : ScanState) → holds device file → SendsRound (Ok tt) after [] file scan start written → WritesGrown (holds device) after file scan start written
  first_round device scan held (more, whole, place, sent) = record {
    later = file;
    since = later_same file;
    held = held;
    records = more;
    whole = whole;
    place = place;
    sent = sent;
  }

-- and no other
pub one_round : (holds : List ℕ → Type 0) (after : ℕ) (file : List ℕ) (scan : ScanState) (start written : Output) → holds file
    → SendsRound (Ok tt) after [] file scan start written → EndsRounds holds (Ok tt) false after file start written
one_round holds after file scan start written held (more, whole, place, sent) =
    record { later = file; since = refl; held = held; records = more; whole = whole; sent = sent }

-- or a fault in it
pub first_broken : (follows : Bool) (after : ℕ) (file : List ℕ) (scan : ScanState) (start written : Output) (fault : KeepCommandFault)
    → SendsRound (Err fault) after [] file scan start written → Breaks fault follows after file start written
first_broken follows after file scan start written fault (more, begins, ends) =
    record { later = file; since = grows_same follows file; records = more; begins = begins; ends = ends }

-- a file of which nothing is read
pub unread : (follows : Bool) (after : Option ℕ) (rules : Rules) (file : List ℕ) (cause : OpenFault) (fault : KeepCommandFault) (old : Output)
    → fault ≡ opened_fault cause → BeginsScan (Err cause) file
    → StopsWriting fault file (old ≡ old) ⊎ WritesSome fault follows after rules file old old
unread follows after rules file cause fault old is starts = inl (record { why = cause; named = is; refuses = refused cause starts; went = refl })
  where
    refused : (cause : OpenFault) → BeginsScan (Err cause) file → RefusesFile cause file
    refused (open_faults.Refused why) starts = starts
    refused (open_faults.Device failure) starts = tt
