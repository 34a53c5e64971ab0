-- What the private functions of a command do, with its parts as their arguments.
use Rattle.std.specs.Prelude.{ℕ, Bool, true, List, []}
use Rattle.tb_records.specs.Transport.{Output}
use Rattle.tb_records.specs.declared.devices.Sink as sinks
use Rattle.tb_file_journal.specs.declared.devices.Device as devices
use Rattle.tb_file_journal.specs.Scans.{HasRead, ScanState}
use Rattle.tb_file.specs.declared.recovering.Rules.{Rules}
use Rattle.tb_file.specs.Keeping.{Keeping}
use Rattle.tb_edge_commands.specs.Streams.{Change, Streams, new, old}
use Rattle.tb_edge_file.specs.declared.faults.KeepCommandFault.{KeepCommandFault}
use Rattle.tb_edge_file.specs.declared.following.Part.{Part}
use Rattle.tb_edge_file.specs.declared.ends.Pipes.{Pipes}
use Rattle.tb_edge_file.specs.declared.keeping.FileStart.{FileStart}
use Rattle.tb_edge_file.specs.declared.rescues.Finished.{Finished}
use Rattle.tb_edge_file.specs.Copies.{CopiesHeaded, CopiesInto, CopiesMended, MakesCopy, NamesCopied, NotesMended}
use Rattle.tb_edge_file.specs.Ends.{FileOutput, KnownEnds, KnownFiles, KnownReading, OnDevice, OnEnds, OnOpener, OnWriter, made_by}
use Rattle.tb_edge_file.specs.Following.{EndsRounds, WritesGrown, GrowsBy, HasPartCause, RoundCause, SendsRound, WritesPart}
use Rattle.tb_edge_file.specs.Outcomes.{DumpsPart, DumpsFollowing, FileOutcome, ServesFile, ServesKept, ServesLong, ServesOpened, file_of}

-- a start that has this outcome
module _ {D : Type 0} (its : devices.Ghosts D) (outcome : FileOutcome) where
  abbrev pub KeepsOver : Keeping D → FileStart → ℕ → Streams → Streams → Type 0
  KeepsOver keeper start len = ServesKept its outcome keeper start.path.now start.reports len

  abbrev pub StartsOver : FileStart → ℕ → D → Streams → Streams → Type 0
  StartsOver start len device = ServesLong its outcome (file_of start) start.reports len device

  abbrev pub RunsFile : FileStart → D → Streams → Streams → Type 0
  RunsFile start device = ServesFile its outcome (file_of start) start.reports device

-- the part of a dump that was asked for, from what a device holds
module _ {D W : Type 0} (its : devices.Ghosts D) (sink : sinks.Ghosts W) (part : Part) (outcome : FileOutcome) where
  abbrev pub DumpsAsked : Change D → Change W → Type 0
  DumpsAsked device writer = OnDevice sink (DumpsPart its part.after part.follows outcome) device writer

  abbrev pub FollowsAsked : Change D → Change W → Type 0
  FollowsAsked device writer = OnDevice sink (DumpsFollowing its part.after part.follows outcome) device writer

-- a copy, over the files of a command
module _ {O D E W : Type 0} (its : KnownFiles O D E) (sink : sinks.Ghosts W) where
  abbrev pub CopiesHeadedOn : List ℕ → Bool → FileOutcome → E → Change O → Change W → Type 0
  CopiesHeadedOn into whole outcome from opener writer = OnOpener sink (CopiesHeaded its into whole outcome from) opener writer

  abbrev pub CopiesMendedOn : List ℕ → KeepCommandFault → FileOutcome → E → Change O → Change W → Type 0
  CopiesMendedOn into refused outcome from opener writer = OnOpener sink (CopiesMended its into refused outcome from) opener writer

  abbrev pub NamesCopiedOn : List ℕ → Finished D → FileOutcome → Change O → Change W → Type 0
  NamesCopiedOn name finished outcome opener writer = OnOpener sink (NamesCopied its name finished outcome) opener writer

module _ {O D E F W : Type 0} (its : KnownFiles O D E) (reading : KnownReading F) (sink : sinks.Ghosts W) where
  abbrev pub CopiesIntoOn : List ℕ → D → Bool → FileOutcome → Change O → Change F → Change W → Type 0
  CopiesIntoOn name into whole outcome opener from writer = OnOpener sink (CopiesInto its name reading into whole outcome (old from) (new from)) opener writer

  abbrev pub MakesCopyOn : List ℕ → Bool → FileOutcome → Change O → Change F → Change W → Type 0
  MakesCopyOn into whole outcome opener from writer =
      OnDevice sink (MakesCopy its into reading (old opener) (new opener) whole outcome) from writer

abbrev pub NotesMendedOn : {W : Type 0} → sinks.Ghosts W → FileOutcome → FileOutcome → Change W → Type 0
NotesMendedOn sink copied outcome writer = OnWriter sink (NotesMended copied outcome) writer

-- a ledger was served over the ends of a command
module _ {O D E R W L : Type 0} (its : KnownEnds O D E R W L) (start : FileStart) where
  abbrev pub RunsOpened : FileOutcome → Change O → Change (Pipes R W) → Change L → Type 0
  RunsOpened outcome opener =
      OnEnds its (ServesOpened its.files.file (made_by its.files start.existing (old opener) start.path.now) (new opener) outcome (file_of start) start.reports)

-- the entries above a commit number, of any file that a device holds
module _ {D W : Type 0} (holds : D → List ℕ → Type 0) (sink : sinks.Ghosts W) (outcome : FileOutcome) where
  -- a scan has read some records of the file: the entries of the others are written
  abbrev pub SendsRest : ℕ → Change ScanState → Change D → Change W → Type 0
  SendsRest after scan device writer =
      (file : List ℕ) (read : List (List ℕ)) → holds (old device) file → HasRead read file (old scan)
      → OnWriter sink (SendsRound outcome after read file (new scan)) writer

  -- one more round, after those that wrote what was sent so far
  abbrev pub SendsMore : ℕ → Change ScanState → Change D → Change W → Type 0
  SendsMore after scan device writer =
      (file : List ℕ) (start : Output) → WritesGrown (holds (old device)) after file (old scan) start (sink.output (old writer))
      → GrowsBy (holds (new device)) outcome after file (new scan) start (sink.output (new writer))

  -- all rounds that are left
  abbrev pub SendsOn : ℕ → Change ScanState → Change D → Change W → Type 0
  SendsOn after scan device writer =
      (file : List ℕ) (start : Output) → WritesGrown (holds (old device)) after file (old scan) start (sink.output (old writer))
      → EndsRounds (holds (new device)) outcome true after file start (sink.output (new writer))

  -- a scan has read nothing of the file
  abbrev pub SendsUnread : Bool → ℕ → Change ScanState → Change D → Change W → Type 0
  SendsUnread follows after scan device writer =
      (file : List ℕ) → holds (old device) file → HasRead [] file (old scan)
      → OnWriter sink (EndsRounds (holds (new device)) outcome follows after file) writer

  abbrev pub WritesUnread : Part → Rules → Change ScanState → Change D → Change W → Type 0
  WritesUnread part rules scan device writer =
      (file : List ℕ) → holds (old device) file → HasRead [] file (old scan)
      → OnWriter sink (WritesPart (holds (new device)) outcome part.follows part.after rules file) writer

  abbrev pub WritesHeld : Part → Rules → Change D → Change W → Type 0
  WritesHeld part rules device writer =
      (file : List ℕ) → holds (old device) file → OnWriter sink (WritesPart (holds (new device)) outcome part.follows part.after rules file) writer

-- the cause, over a device that reports what its calls do
module _ {D : Type 0} (its : devices.Ghosts D) (outcome : FileOutcome) where
  abbrev pub HasRoundCause : Change ScanState → Change D → Type 0
  HasRoundCause scan device =
      its.tells → (read : List (List ℕ)) → HasRead read (its.disk (old device)).seen (old scan)
      → RoundCause outcome (its.disk (old device)) (its.disk (new device)) (new scan)

  abbrev pub HasRestCause : Change ScanState → Change D → Type 0
  HasRestCause scan device =
      its.tells → (read : List (List ℕ)) → HasRead read (its.disk (old device)).seen (old scan)
      → HasPartCause outcome (its.disk (old device)) (its.disk (new device))

  abbrev pub HasWholeCause : Change ScanState → Change D → Type 0
  HasWholeCause scan device =
      its.tells → HasRead [] (its.disk (old device)).seen (old scan) → HasPartCause outcome (its.disk (old device)) (its.disk (new device))

  abbrev pub HasHeldCause : Change D → Type 0
  HasHeldCause device = its.tells → HasPartCause outcome (its.disk (old device)) (its.disk (new device))
