-- What each form does, and its outcome.
use Rattle.std.specs.Prelude.{ℕ, Bool, true, false, Option, Some, None, ◌≡◌, ◌-◌, List, length, Result, Ok, Err, IfOk, OnOk, MatchResult}
use Rattle.tb_records.specs.Transport.{Output, Sent, CutOff}
use Rattle.tb_file_journal.specs.declared.devices.Device as devices
use Rattle.tb_file_journal.specs.declared.faults.JournalFault.{JournalFault}
use Rattle.tb_file_journal.specs.Device.{Looks, LeavesOnly}
use Rattle.tb_file.specs.declared.faults.DumpFault.{DumpFault}
use Rattle.tb_file.specs.declared.faults.KeepFault.{KeepFault}
use Rattle.tb_file.specs.declared.faults.StartFault.{StartFault}
use Rattle.tb_file.specs.declared.recovering.Rules.{Rules}
use Rattle.tb_file.specs.declared.creating.NotKept.{NotKept}
use Rattle.tb_file.specs.Keeping.{Keeping}
use Rattle.tb_file.specs.Creating.{IsOpenedLedger, IsStarted, OpensFile, StartsFile, IsStartRefused, MayBeOpened, MayBeStarted, HasEitherCause, keeper_device_left, why_left}
use Rattle.tb_file.specs.Creating as kept
use Rattle.tb_file.specs.Reading.{Dumps, HasDumpCause}
use Rattle.tb_file.specs.Recovering.{AreAside, HasStartCause}
use Rattle.tb_file.specs.Rounds.{Served}
use Rattle.tb_edge_file.specs.declared.faults.KeepCommandFault.{KeepCommandFault}
use Rattle.tb_edge_file.specs.declared.faults.KeepCommandFault.TheVariants.{Device, NoMemory, Opening}
use Rattle.tb_edge_file.specs.declared.faults.Failed.TheVariants as failed
use Rattle.tb_edge_file.specs.declared.asides.Reason.{Reason}
use Rattle.tb_edge_file.specs.declared.openers.OpeningFault.{OpeningFault}
use Rattle.tb_edge_file.specs.declared.summaries.Found.{Found}
use Rattle.tb_edge_file.specs.declared.ends.Pipes.{Pipes}
use Rattle.tb_edge_file.specs.declared.keeping.FileStart.{FileStart}
use Rattle.tb_edge_commands.specs.Streams.{Change, Streams, new, old}
use Rattle.tb_edge_file.specs.Ends.{FileOutput, KeptFile, KnownEnds, KnownFiles, OnEnds, kept_file, made_by, outcome_by}
use Rattle.tb_edge_file.specs.ExitStatuses.{disk_fault, dumped_fault, reason_fault, started_fault, kept_fault, failed_pipe, PrintsMade, PrintsCut, PrintsReading, PrintsReady, PrintsFrames}
use Rattle.tb_edge_file.specs.Live.{IsWholeLength, MeasuresWhole}
use Rattle.tb_edge_file.specs.Following.{WritesPart, HasPartCause}
use Rattle.tb_edge_file.specs.Naming.{Names, NamesAsked}
use Rattle.tb_edge_file.specs.Summaries.{ReadsQuick, ReadsWhole, summary_of, summary_text}
use Rattle.tb_edge_file.specs.Waiting.{EndsIf, Followed, ended_by, written_by}

-- done, or not to its end
abbrev pub FileOutcome : Type 0
FileOutcome = Result (Unit {0}) KeepCommandFault

-- a text was sent, or a prefix of it and the writer failed
abbrev pub PrintsWhole : List ℕ → FileOutcome → Output → Output → Type 0
PrintsWhole text (Ok done) start written = Sent text start written
PrintsWhole text (Err fault) start written = (fault ≡ Device failed.Output) × CutOff text start written

-- or an allocation for it failed
abbrev pub PrintsText : List ℕ → FileOutcome → Output → Output → Type 0
PrintsText text (Err NoMemory) start written = written ≡ start
PrintsText text outcome start written = PrintsWhole text outcome start written

module _ {D : Type 0} (its : devices.Ghosts D) where
  -- it holds of the file that a device reads
  abbrev pub OfFile : D → (List ℕ → Type 0) → Type 0
  OfFile device Is = (file : List ℕ) → its.holds device file → Is file

  -- a device was read to the end of its file, as one history, or it is reported why not; the file is as it was
  pub record IsReadWhole (found : Result Found StartFault) (device after : D) : Type 0 where
    pub found_is : OfFile device (ReadsWhole found)
    pub same : OfFile device (its.holds after)
    pub cause : its.tells → HasStartCause found (its.disk device) (its.disk after)

  -- a dump of a file of these rules was written, or as much of it as the result says
  pub record IsLedgerDumped (result : Result (Unit {0}) DumpFault) (rules : Rules) (before after : FileOutput D) : Type 0 where
    pub dumps : OfFile before.file (λ file. Dumps result rules file before.sink after.sink)
    pub cause : its.tells → HasDumpCause result (its.disk before.file) (its.disk after.file)

  -- a file that was read is refused, with what is known of it
  pub record IsRefused (fault : StartFault) (outcome : FileOutcome) (device after : D) : Type 0 where
    pub named : KeepCommandFault
    pub outcome_is : outcome ≡ Err named
    pub names : Names its (started_fault fault) named device after

  -- if a file was found to be one history, its dump was written, or why not; otherwise nothing was
  abbrev pub DumpsFound : Result Found StartFault → FileOutcome → FileOutput D → FileOutput D → Type 0
  DumpsFound (Err fault) outcome before after = IsRefused fault outcome before.file after.file × (after.sink ≡ before.sink)
  DumpsFound (Ok found) outcome before after =
      (result : Result (Unit {0}) DumpFault) × IsLedgerDumped result found.rules before after × (outcome ≡ outcome_by dumped_fault result)

  -- a file was read to its end before a byte of its dump was written
  pub record DumpsFile (outcome : FileOutcome) (before after : FileOutput D) : Type 0 where
    pub found : Result Found StartFault
    pub between : D
    pub whole : IsReadWhole found before.file between
    pub dumps : DumpsFound found outcome (record before { file = between }) after

  -- a part of a dump of a file of these rules was written, with what was committed while more was waited for, or as much of it as the outcome says
  pub record IsFollowed (from : Option ℕ) (follows : Bool) (outcome : FileOutcome) (rules : Rules) (before after : FileOutput D) : Type 0 where
    pub writes : OfFile before.file (λ file. WritesPart (its.holds after.file) outcome follows from rules file before.sink after.sink)
    pub cause : its.tells → HasPartCause outcome (its.disk before.file) (its.disk after.file)

  -- a file was read to its end before a byte of a part of its dump was written: the entries above a commit number, or all. One that is no
  -- history is refused, and nothing was written
  pub record DumpsFollowing (from : Option ℕ) (follows : Bool) (outcome : FileOutcome) (before after : FileOutput D) : Type 0 where
    pub found : Result Found StartFault
    pub between : D
    pub whole : IsReadWhole found before.file between
    pub writes : MatchResult found (λ it. IsFollowed from follows outcome it.rules (record before { file = between }) after)
        (λ fault. IsRefused fault outcome between after.file × (after.sink ≡ before.sink))

  -- a dump, or a part of one
  abbrev pub DumpsPart : Option ℕ → Bool → FileOutcome → FileOutput D → FileOutput D → Type 0
  DumpsPart None false outcome before after = DumpsFile outcome before after
  DumpsPart from follows outcome before after = DumpsFollowing from follows outcome before after

  -- a device was read to the end of its file, only by the numbers and times of its entries, or it is reported why not; the file is as it was
  pub record IsReadQuick (found : Result Found StartFault) (device after : D) : Type 0 where
    pub found_is : OfFile device (ReadsQuick found)
    pub same : OfFile device (its.holds after)
    pub cause : its.tells → HasStartCause found (its.disk device) (its.disk after)

  -- quickly, or as one history
  abbrev pub IsReadBy : Bool → Result Found StartFault → D → D → Type 0
  IsReadBy true = IsReadQuick
  IsReadBy false = IsReadWhole

  -- a file of so many bytes was read to its end before its summary was printed. One that is refused is named, and nothing was printed
  pub record ChecksLong (len : ℕ) (quick : Bool) (outcome : FileOutcome) (before after : FileOutput D) : Type 0 where
    pub found : Result Found StartFault
    pub between : D
    pub read : IsReadBy quick found before.file between
    pub checks : MatchResult found (λ it. PrintsText (summary_text (summary_of it len quick)) outcome before.sink after.sink)
        (λ fault. IsRefused fault outcome between after.file × (after.sink ≡ before.sink))

  -- a device returned the length of its file, which is as it was
  pub record IsAsked (len : Result ℕ JournalFault) (device after : D) : Type 0 where
    pub long : OfFile device (λ file. IfOk len (λ n. n ≡ length file))
    pub same : OfFile device (its.holds after)
    pub looks : its.tells → Looks len (its.disk device) (its.disk after)

  -- a device returned the length of the whole file of which it holds a part: that at some moment of the call. What it holds is as it was
  pub record IsMeasured (whole : D → List ℕ → Type 0) (len : Result ℕ JournalFault) (device after : D) : Type 0 where
    pub long : MeasuresWhole whole len device after
    pub extends : OfFile device (λ file. IfOk len (IsWholeLength file))
    -- nobody else appends to the file of a device that reports what its calls do
    pub told : its.tells → IfOk len (λ n. n ≡ length (its.disk device).seen)
    pub same : OfFile device (its.holds after)
    pub looks : its.tells → Looks len (its.disk device) (its.disk after)

  -- a file's length was read, and then it was checked
  pub record ChecksFile (whole : D → List ℕ → Type 0) (quick : Bool) (outcome : FileOutcome) (before after : FileOutput D) : Type 0 where
    pub len : Result ℕ JournalFault
    pub between : D
    pub asked : IsMeasured whole len before.file between
    pub checks : MatchResult len (λ n. ChecksLong n quick outcome (record before { file = between }) after)
        (λ fault. (outcome ≡ Err (disk_fault fault)) × (after.sink ≡ before.sink))

  -- it was reported if the start made a ledger in a file of so many bytes, which had no record, how much it cut off after the records, and, if its
  -- progress is reported, that it is done; then a ledger was kept
  pub record ServesKept (outcome : FileOutcome) (keeper : Keeping D) (path : List ℕ) (reports : Bool) (len : ℕ) (before after : Streams) : Type 0 where
    pub noted : Output
    pub made : PrintsMade (len - keeper.cut - 4) path before.faults noted
    pub started : Output
    pub cut : PrintsCut keeper.cut (len - keeper.cut - 4) noted started
    pub ready : PrintsReady reports keeper.state.commit keeper.state.books.time started after.faults
    pub result : Result ℕ KeepFault
    pub left : Keeping D
    pub served : Served its.tells its.disk result keeper left before.source after.source before.sink after.sink
    pub outcome_is : outcome ≡ outcome_by (kept_fault (failed_pipe before.source.failed after.source.failed)) result

  -- what a start returns over a device that reports what its calls do; of a ledger that is kept, if no sync has failed before
  pub record Starts (result : Result (Keeping D) (NotKept D)) (rules : Rules) (device : D) : Type 0 where
    pub answers : MatchResult result (λ keeper. (its.disk device).sound ≡ true → IsStarted its.disk rules.profile rules.clients_max (its.disk device).seen keeper)
        (λ failed. IsStartRefused rules.profile rules.clients_max failed.fault (its.disk device) (its.disk failed.device))
    pub cause : HasEitherCause (why_left result) (its.disk device) (its.disk (keeper_device_left result))
    -- a crash at any moment of it, if no sync has failed before
    pub any_moment : (its.disk device).sound ≡ true → LeavesOnly (its.disk device) (its.disk (keeper_device_left result)) (MayBeStarted rules.profile rules.clients_max (its.disk device))

  -- the same if the file has to have a ledger: none is created
  pub record TakesFile (result : Result (Keeping D) (NotKept D)) (rules : Rules) (device : D) : Type 0 where
    pub answers : MatchResult result (λ keeper. (its.disk device).sound ≡ true → IsOpenedLedger its.disk rules.profile rules.clients_max (its.disk device).seen keeper)
        (λ failed. kept.IsOpenRefused rules.profile rules.clients_max failed.fault (its.disk device) (its.disk failed.device))
    pub cause : HasStartCause (why_left result) (its.disk device) (its.disk (keeper_device_left result))
    pub any_moment : (its.disk device).sound ≡ true → LeavesOnly (its.disk device) (its.disk (keeper_device_left result)) (MayBeOpened rules.profile rules.clients_max (its.disk device))

  abbrev pub StartsBy : Bool → Result (Keeping D) (NotKept D) → Rules → D → Type 0
  StartsBy true result rules device = TakesFile result rules device
  StartsBy false result rules device = Starts result rules device

  -- the same, by the file that a device reads
  abbrev pub HandsBy : Bool → Result (Keeping D) (NotKept D) → Rules → D → Type 0
  HandsBy true result rules device = OfFile device (OpensFile result rules.profile rules.clients_max)
  HandsBy false result rules device = OfFile device (StartsFile result rules.profile rules.clients_max)

  -- what a start cut off was copied before
  abbrev pub IsAside : Result (Keeping D) (NotKept D) → D → Type 0
  IsAside result device = OfFile device (λ file. IfOk result (λ keeper. AreAside its.aside keeper.cut file))

  -- a start was refused, with what is known of the file; nothing was read, written or reported
  pub record IsUnstarted (failed : NotKept D) (rules : Rules) (outcome : FileOutcome) (before after : Streams) : Type 0 where
    pub named : KeepCommandFault
    pub outcome_is : outcome ≡ Err named
    pub left : D
    pub names : NamesAsked its rules failed.fault named failed.device left
    pub nothing : after ≡ before

  -- it was reported, if progress is, that the file is read; a ledger was started, or opened if there has to be one; and it was kept, or is
  -- refused
  pub record ServesLong (outcome : FileOutcome) (file : KeptFile) (reports : Bool) (len : ℕ) (device : D) (before after : Streams) : Type 0 where
    pub noted : Output
    pub reading : PrintsReading reports file.path len before.faults noted
    pub started : Result (Keeping D) (NotKept D)
    pub starts : its.tells → StartsBy file.existing started file.rules device
    pub handed : HandsBy file.existing started file.rules device
    pub aside : IsAside started device
    pub serves : MatchResult started (λ keeper. ServesKept outcome keeper file.path reports len (record before { faults = noted }) after)
        (λ failed. IsUnstarted failed file.rules outcome (record before { faults = noted }) after)

  -- the length of a file was read, and then a ledger was started over it, and kept
  pub record ServesFile (outcome : FileOutcome) (file : KeptFile) (reports : Bool) (device : D) (before after : Streams) : Type 0 where
    pub len : Result ℕ JournalFault
    pub between : D
    pub asked : IsAsked len device between
    pub serves : MatchResult len (λ n. ServesLong outcome file reports n between before after)
        (λ fault. (outcome ≡ Err (disk_fault fault)) × (after ≡ before))

-- an opening may return this, and leave what opens so: with a device that was done; at a fault, which has this name, nothing was
pub record Opens {D O F : Type 0} (named : OpeningFault → F) (may : Result D OpeningFault → O → Type 0) (left : O) (outcome : Result (Unit {0}) F) (Nothing : Type 0)
    (Does : D → Type 0) : Type 0 where
  pub answer : Result D OpeningFault
  pub answered : may answer left
  pub done : MatchResult answer Does (λ fault. (outcome ≡ Err (named fault)) × Nothing)

-- an outcome whose fault has the name of the reason, if one is known
abbrev pub named_by : {F : Type 0} → (KeepCommandFault → F) → Option Reason → Result (Unit {0}) F → Result (Unit {0}) F
named_by name (Some reason) (Err fault) = Err (name (reason_fault reason))
named_by name reason outcome = outcome

module _ {D : Type 0} (its : devices.Ghosts D) {O : Type 0} (may : Result D OpeningFault → O → Type 0) (left : O) where
  -- a ledger was served over what an opening returned
  abbrev pub ServesOpened : FileOutcome → KeptFile → Bool → Streams → Streams → Type 0
  ServesOpened outcome file reports before after =
      Opens Opening may left outcome (after ≡ before) (λ device. ServesFile its outcome file reports device before after)

-- what a start reports: how much of the file it has read, and that requests are read from a terminal
pub record StartNotes : Type 0 where
  pub progress : Bool
  pub frames : Bool

abbrev pub start_notes : Bool → Bool → StartNotes
start_notes progress frames = record { progress = progress; frames = frames }

-- if requests are read from a terminal, that is reported first; if it is known why a call on the file failed, the outcome is named by that
pub record RunsOver {O D E : Type 0} (its : KnownFiles O D E) (before left : O) (outcome : FileOutcome) (file : KeptFile) (notes : StartNotes) (first last : Streams) : Type 0 where
  pub noted : Output
  pub frames : PrintsFrames notes.frames first.faults noted
  pub served : FileOutcome
  pub reason : Option Reason
  pub asked : its.opener.reasons left reason
  pub outcome_is : outcome ≡ named_by (λ fault. fault) reason served
  pub runs : ServesOpened its.file (made_by its file.existing before file.path) left served file notes.progress (record first { faults = noted }) last

module _ {O D E : Type 0} (its : KnownFiles O D E) (name : List ℕ) (before left : O) where
  -- a dump of a device that was opened, with what was committed as long as more was waited for. Only if a wait found that the device is not to be
  -- followed any more, the reason is the fault
  pub record DumpsOpened (from : Option ℕ) (follows : Bool) (outcome : FileOutcome) (opened : O) (device : E) (start written : Output) : Type 0 where
    pub after : E
    pub followed : Followed
    pub outcome_is : outcome ≡ ended_by followed
    pub ends : EndsIf (λ at. its.opener.pauses at name) follows followed opened left
    pub dumps : DumpsPart its.reading from follows (written_by followed) (record { file = device; sink = start }) (record { file = after; sink = written })

  abbrev pub DumpsOver : Option ℕ → Bool → FileOutcome → Output → Output → Type 0
  DumpsOver from follows outcome start written =
      (opened : O) × Opens Opening (its.opener.opens before name) opened outcome ((written ≡ start) × (left ≡ opened))
      (λ device. DumpsOpened from follows outcome opened device start written)

  abbrev pub ChecksOver : Bool → FileOutcome → Output → Output → Type 0
  ChecksOver quick outcome start written =
      Opens Opening (its.opener.opens before name) left outcome (written ≡ start)
      (λ device. (after : E) × ChecksFile its.reading its.whole quick outcome (record { file = device; sink = start }) (record { file = after; sink = written }))

-- the file of a start, in which a ledger of its rules is kept
abbrev pub file_of : FileStart → KeptFile
file_of start = kept_file start.path.now start.existing start.rules

module _ {O D E R W L : Type 0} (its : KnownEnds O D E R W L) (start : FileStart) where
  -- a ledger was served over the file of a start, between the ends of a command
  abbrev pub RunsOn : Bool → FileOutcome → Change O → Change (Pipes R W) → Change L → Type 0
  RunsOn talks outcome opener =
      OnEnds its (RunsOver its.files (old opener) (new opener) outcome (file_of start) (start_notes start.reports talks))
