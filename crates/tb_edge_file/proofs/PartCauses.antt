-- Why the writing of a part of a file's history ends, over a device that reports what its calls do.
use Rattle.std.proofs.Common.{◌≡◌, ℕ, List, ◌++◌, Result, Ok, Err, refl, sym, subst, ap, ◌∙◌, inl}
use Rattle.tb_file_journal.specs.declared.faults.JournalFault.{JournalFault}
use Rattle.tb_file_journal.specs.declared.opening.OpenFault.{OpenFault}
use Rattle.tb_file_journal.specs.declared.opening.OpenFault.TheVariants as open_faults
use Rattle.tb_file_journal.specs.Device.{Disk, FailsNone, Looks}
use Rattle.tb_file_journal.specs.Growing.{Later}
use Rattle.tb_file_journal.specs.Opening.{IsOpenCause}
use Rattle.tb_file_journal.specs.Scans.{HasRead, ScanState}
use Rattle.tb_file_journal.proofs.Causes.{none_since}
use Rattle.tb_file_journal.proofs.Growths.{later_same}
use Rattle.tb_records.specs.Transport.{Output}
use Rattle.tb_records.specs.declared.faults.FrameFault.TheVariants as frame
use Rattle.tb_file.specs.declared.faults.DumpFault.{DumpFault}
use Rattle.tb_file.specs.declared.faults.DumpFault.TheVariants as dump
use Rattle.tb_file.specs.Following.{WritesEntries}
use Rattle.tb_file.specs.Reading.{HasDumpCause}
use Rattle.tb_file.proofs.Causes.{has_dump_then}
use Rattle.tb_edge_file.specs.declared.faults.KeepCommandFault.{KeepCommandFault}
use Rattle.tb_edge_file.specs.declared.faults.KeepCommandFault.TheVariants.{Device}
use Rattle.tb_edge_file.specs.declared.faults.Failed.TheVariants as failed
use Rattle.tb_edge_file.specs.ExitStatuses.{disk_fault, opened_fault, dumped_fault}
use Rattle.tb_edge_file.specs.Following.{HasPartCause, IsReadOnFrom, RoundCause}

-- after calls of which none failed

module _ (before mid after : Disk) (quiet : FailsNone before mid) (seen : mid.seen ≡ before.seen) where
  pub part_cause_then : (outcome : Result (Unit {0}) KeepCommandFault) → HasPartCause outcome mid after → HasPartCause outcome before after
  part_cause_then outcome is = record {
    result = is.result;
    outcome_is = is.outcome_is;
    cause = has_dump_then before mid after quiet seen is.result is.cause;
  }

  pub reads_on_then : (scan : ScanState) → IsReadOnFrom mid after scan → IsReadOnFrom before after scan
  reads_on_then scan is = record { quiet = none_since before mid after quiet is.quiet; seen = is.seen ∙ seen; read = is.read; place = is.place }

  pub round_cause_then : (outcome : Result (Unit {0}) KeepCommandFault) (scan : ScanState) → RoundCause outcome mid after scan → RoundCause outcome before after scan
  round_cause_then (Ok done) scan is = reads_on_then scan is
  round_cause_then (Err fault) scan is = part_cause_then (Err fault) is

module _ (before after : Disk) where
  -- done, or standard output failed: no call has
  pub all_quiet : FailsNone before after → HasPartCause (Ok tt) before after
  all_quiet quiet = record { result = Ok tt; outcome_is = refl; cause = record { ok = quiet; cause = tt } }

  pub output_failed : (fault : KeepCommandFault) → fault ≡ Device failed.Output → FailsNone before after → HasPartCause (Err fault) before after
  output_failed fault is quiet =
      record { result = Err (dump.Writer frame.Device); outcome_is = ap Err is; cause = record { ok = tt; cause = quiet } }

  -- the file is not read on
  pub stopped_reading : (cause : OpenFault) (fault : KeepCommandFault) → fault ≡ opened_fault cause → IsOpenCause before after cause → HasPartCause (Err fault) before after
  stopped_reading cause fault is why = record { result = Err (dump.Journal cause); outcome_is = ap Err is; cause = record { ok = tt; cause = why } }

  pub dump_failed : {T : Type 0} (cause : DumpFault) (fault : KeepCommandFault) → fault ≡ dumped_fault cause → HasDumpCause {T = T} (Err cause) before after
      → HasPartCause (Err fault) before after
  dump_failed {T} cause fault is why = record { result = Err cause; outcome_is = ap Err is; cause = record { ok = tt; cause = why.cause } }

  -- a look at the device that fails
  pub look_failed : {T : Type 0} (cause : JournalFault) (fault : KeepCommandFault) → fault ≡ disk_fault cause → Looks {T = T} (Err cause) before after
      → HasPartCause (Err fault) before after
  look_failed {T} cause fault is looks = stopped_reading (open_faults.Device cause) fault is (inl (inl looks.cause.cause))

  -- one round of entries
  pub round_reads_on : (above : ℕ) (read : List (List ℕ)) (scan : ScanState) (count : ℕ) (start written : Output)
      → WritesEntries (Ok count) above read before.seen scan start written → HasDumpCause {T = ℕ} (Ok count) before after → after.seen ≡ before.seen
      → IsReadOnFrom before after scan
  round_reads_on above read scan count start written (more, whole, place, counted, sent) quiet seen = record {
    quiet = quiet.ok;
    seen = seen;
    read = read ++ more;
    place = subst (λ (file : List ℕ). HasRead (read ++ more) file scan) (sym seen) place;
  }

  -- a file that nobody has appended to
  pub later_seen : after.seen ≡ before.seen → Later before.seen after.seen
  later_seen seen = subst (λ (file : List ℕ). Later before.seen file) (sym seen) (later_same before.seen)
