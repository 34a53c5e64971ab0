-- The exit status of each fault, and the line that names it.
use Rattle.std.specs.Prelude.{ℕ, zero, suc, Bool, true, false, ◌≡◌, ◌⊎◌, ◌==◌, ◌+◌, ◌-◌, ◌/◌, ◌^◌, ◌&&◌, min, nat_le, nat_eq, ◌++◌, List, [], ◌∷◌, Option, Some, None, Result, Ok, Err, IfOk, if◌then◌else◌, take, flat_map, codes, string_bytes, refl}
use Rattle.std.specs.Fmt.{decimal, digits}
use Rattle.std.specs.IoError.{error_kind}
use Rattle.std.specs.Str.{chars}
use Rattle.std.specs.declared.io.Error.{Error}
use Rattle.std.specs.declared.io.ErrorKind.{ErrorKind}
use Rattle.std.specs.declared.io.ErrorKind.TheVariants as kinds
use Rattle.tb_records.specs.declared.faults.FrameFault.TheVariants as frame
use Rattle.tb_records.specs.DumpBytes.{profile_number}
use Rattle.tb_records.specs.declared.limits.TheConstants.{CLIENTS_MAX}
use Rattle.tb_records.specs.Faults.{fault_name}
use Rattle.tb_records.specs.declared.faults.FrameFault.{FrameFault}
use Rattle.tb_records.specs.Transport.{Output, Sent, CutOff}
use Rattle.tb_records.specs.declared.devices.Sink as sinks
use Rattle.tb_file_journal.specs.declared.devices.Device as devices
use Rattle.tb_file_journal.specs.declared.faults.JournalFault.{JournalFault}
use Rattle.tb_file_journal.specs.declared.faults.JournalFault.TheVariants as disk
use Rattle.tb_file_journal.specs.Device.{IsLookedAt}
use Rattle.tb_file_journal.specs.declared.real.FileFault.{FileFault}
use Rattle.tb_file_journal.specs.declared.real.FileFault.TheVariants as file
use Rattle.tb_file_journal.specs.declared.reading.Refusal.{Refusal}
use Rattle.tb_file_journal.specs.declared.reading.Refusal.TheVariants as refusal
use Rattle.tb_file_journal.specs.declared.opening.OpenFault.{OpenFault}
use Rattle.tb_file_journal.specs.declared.opening.OpenFault.TheVariants as opened
use Rattle.tb_machine.specs.declared.serving.RunFault.{RunFault}
use Rattle.tb_machine.specs.declared.serving.RunFault.TheVariants as run
use Rattle.tb_machine.specs.RunFaults.{run_fault_name}
use Rattle.tb_machine.specs.Restoring.{unfit_name}
use Rattle.tb_log.specs.Faults.{log_fault_name}
use Rattle.tb_log.specs.declared.faults.LogFault.{LogFault}
use Rattle.tb_log.specs.declared.faults.LogFault.TheVariants as log
use Rattle.tb_file.specs.declared.faults.DumpFault.{DumpFault}
use Rattle.tb_file.specs.declared.faults.DumpFault.TheVariants as dump
use Rattle.tb_file.specs.declared.faults.KeepFault.{KeepFault}
use Rattle.tb_file.specs.declared.faults.KeepFault.TheVariants as keep
use Rattle.tb_file.specs.declared.faults.StartFault.{StartFault}
use Rattle.tb_file.specs.declared.faults.StartFault.TheVariants as start
use Rattle.tb_file.specs.declared.recovering.Rules.{Rules}
use Rattle.tb_edge_file.specs.declared.faults.Damage.{Damage}
use Rattle.tb_edge_file.specs.declared.faults.Damage.TheVariants.{Block, Record, Entry, Torn}
use Rattle.tb_edge_file.specs.declared.faults.KeepCommandFault.{KeepCommandFault}
use Rattle.tb_edge_file.specs.Asides.{uncopied_text}
use Rattle.tb_edge_file.specs.declared.asides.Reason.{Reason}
use Rattle.tb_edge_file.specs.declared.asides.Reason.TheVariants as reasons
use Rattle.tb_edge_file.specs.declared.faults.KeepCommandFault.TheVariants.{Usage, Device, Opening, Making, Naming, NoMemory, Request, Item, NotAJournal, NoHead, Damaged, Lost, OtherRules, Full, SyncFailed, Gone, NotCopied}
use Rattle.tb_edge_file.specs.declared.faults.Failed.{Failed}
use Rattle.tb_edge_file.specs.declared.faults.Failed.TheVariants.{Input, Output as OutputSide, File, New}
use Rattle.tb_edge_file.specs.declared.faults.Loss.{Loss}
use Rattle.tb_edge_file.specs.declared.faults.Mismatch.{Mismatch}
use Rattle.tb_edge_file.specs.declared.faults.Numbers.{Numbers}
use Rattle.tb_edge_file.specs.declared.kinds.FileKind.{FileKind}
use Rattle.tb_edge_file.specs.declared.kinds.FileKind.TheVariants as kind
use Rattle.tb_edge_words.specs.declared.faults.Fault.TheVariants.{Missing}
use Rattle.tb_edge_words.specs.declared.faults.TheConstants.{CLIENTS_MISSING, CLIENTS_WRONG}
use Rattle.tb_edge_words.specs.declared.faults.Wrong.{Wrong}
use Rattle.tb_edge_words.specs.declared.table.FormName.TheVariants as name
use Rattle.tb_edge_words.specs.declared.table.Operand.TheVariants as operand
use Rattle.tb_edge_words.specs.Words as cli
use Rattle.tb_edge_file.specs.declared.help.TheConstants.{USAGE}
use Rattle.tb_edge_file.specs.declared.openers.OpeningFault.{OpeningFault}
use Rattle.tb_edge_file.specs.declared.openers.OpeningFault.TheVariants as opening
use Rattle.tb_edge_file.specs.declared.reports.Reported.{Reported}
use Rattle.tb_edge_file.specs.Printable.{printable}

-- the fault of a command for each fault of the system and of the libraries

abbrev pub opening_fault_of : ErrorKind → OpeningFault
opening_fault_of kinds.NotFound = opening.Missing
opening_fault_of kinds.PermissionDenied = opening.Forbidden
opening_fault_of kinds.ReadOnlyFilesystem = opening.ReadOnly
opening_fault_of kinds.StorageFull = opening.Full
opening_fault_of kinds.QuotaExceeded = opening.Full
opening_fault_of kinds.IsADirectory = opening.NotAFile
opening_fault_of kinds.OutOfMemory = opening.NoMemory
opening_fault_of kind = opening.Unopened

-- a sync fails because memory ran out, or what was written may be lost
abbrev pub sync_fault : JournalFault → OpeningFault
sync_fault disk.Memory = opening.NoMemory
sync_fault fault = opening.SyncFailed

-- a file was opened, but its length or its first bytes could not be read
abbrev pub unread_fault : JournalFault → OpeningFault
unread_fault disk.Memory = opening.NoMemory
unread_fault fault = opening.Unread

abbrev pub opening_fault : FileFault → OpeningFault
opening_fault file.Locked = opening.Locked
opening_fault file.NotAFile = opening.NotAFile
opening_fault file.Exists = opening.Exists
opening_fault file.Dangling = opening.Dangling
opening_fault (file.Sync fault) = sync_fault fault
opening_fault (file.System error) = opening_fault_of (error_kind error)

abbrev pub words_fault_of : ErrorKind → KeepCommandFault
words_fault_of kinds.OutOfMemory = NoMemory
words_fault_of kind = Usage

-- an argument is not UTF-8, or there is no memory for one
abbrev pub words_fault : Error → KeepCommandFault
words_fault error = words_fault_of (error_kind error)

abbrev pub disk_fault : JournalFault → KeepCommandFault
disk_fault disk.Memory = NoMemory
disk_fault disk.Failed = Device File
disk_fault disk.Full = Full
disk_fault disk.TooLong = Request run.TooLong
disk_fault disk.NotEmpty = NotAJournal kind.Unread
disk_fault disk.SyncFailed = SyncFailed

abbrev pub refused_fault : Refusal → KeepCommandFault
refused_fault refusal.NotAJournal = NotAJournal kind.Unread
refused_fault (refusal.Damaged at) = Damaged (Block at None)

abbrev pub opened_fault : OpenFault → KeepCommandFault
opened_fault (opened.Refused why) = refused_fault why
opened_fault (opened.Device fault) = disk_fault fault

abbrev pub started_fault : StartFault → KeepCommandFault
started_fault (start.Journal fault) = opened_fault fault
started_fault start.Head = NoHead
started_fault start.OtherRules = OtherRules None
started_fault (start.Record place fault) = Damaged (Record place fault)
started_fault (start.Entry fault) = Damaged (Entry fault)
started_fault start.NoMemory = NoMemory
started_fault (start.TornTooLong at bytes) = Damaged (Torn at bytes)

abbrev pub dumped_fault : DumpFault → KeepCommandFault
dumped_fault (dump.Journal fault) = opened_fault fault
dumped_fault (dump.Writer fault) = Device OutputSide

-- a fault of the file, if that is the new one
abbrev pub new_fault : KeepCommandFault → KeepCommandFault
new_fault (Device File) = Device New
new_fault (NotAJournal kind) = Making opening.Exists
new_fault Full = Making opening.Full
new_fault SyncFailed = Making opening.SyncFailed
new_fault fault = fault

-- the fault of a call that failed for this reason
abbrev pub reason_fault : Reason → KeepCommandFault
reason_fault reasons.Gone = Gone
reason_fault reasons.Unseen = Device File
reason_fault (reasons.NotCopied why) = NotCopied why

-- the path that a fault is printed with
abbrev pub fault_path : KeepCommandFault → List ℕ → List ℕ → List ℕ
fault_path (Making fault) file new = new
fault_path (Naming fault) file new = new
fault_path (Device New) file new = new
fault_path fault file new = file

-- if a pipe failed, it is this one
abbrev pub read_fault : Failed → RunFault → KeepCommandFault
read_fault pipe (run.Frame frame.Device) = Device pipe
read_fault pipe (run.Frame frame.NoMemory) = NoMemory
read_fault pipe run.NoMemory = NoMemory
read_fault pipe fault = Request fault

-- the fault of an item of a log that is not served, or of its reply; if a pipe failed, it is this one
abbrev pub item_fault : Failed → LogFault → KeepCommandFault
item_fault pipe log.Device = Device pipe
item_fault pipe log.NoMemory = NoMemory
item_fault pipe fault = Item fault

abbrev pub kept_fault : Failed → KeepFault → KeepCommandFault
kept_fault pipe (keep.Serving fault) = read_fault pipe fault
kept_fault pipe (keep.Journal fault) = disk_fault fault

-- which pipe failed, by the reader's count of errors before and now: standard input if it changed, otherwise standard output
abbrev pub failed_pipe : ℕ → ℕ → Failed
failed_pipe before now = if before == now then OutputSide else Input

-- the rules of a ledger in numbers
abbrev pub numbers_of : Rules → Numbers
numbers_of rules = record { clients_max = rules.clients_max; profile = profile_number rules.profile }

-- the exit status if a file is not opened or made
abbrev pub opening_exit_status : OpeningFault → ℕ
opening_exit_status opening.Locked = 4
opening_exit_status opening.SyncFailed = 9
opening_exit_status opening.Exists = 2
opening_exit_status opening.Empty = 5
opening_exit_status opening.Full = 8
opening_exit_status fault = 1

-- the same if a new file did not get its name
abbrev pub naming_exit_status : OpeningFault → ℕ
naming_exit_status opening.SyncFailed = 9
naming_exit_status opening.Exists = 2
naming_exit_status opening.Full = 8
naming_exit_status fault = 1

-- 1: a device or memory failed. 2: the arguments are wrong, or what was read is no request. From 4 on: why the file is not served
abbrev pub file_exit_status : KeepCommandFault → ℕ
file_exit_status (Device which) = 1
file_exit_status NoMemory = 1
file_exit_status (Opening fault) = opening_exit_status fault
file_exit_status (Making fault) = opening_exit_status fault
file_exit_status (Naming fault) = naming_exit_status fault
file_exit_status Usage = 2
file_exit_status (Request fault) = 2
file_exit_status (Item fault) = 2
file_exit_status (NotAJournal kind) = 5
file_exit_status NoHead = 5
file_exit_status (Damaged damage) = 6
file_exit_status (Lost loss) = 6
file_exit_status (OtherRules numbers) = 7
file_exit_status Full = 8
file_exit_status SyncFailed = 9
file_exit_status Gone = 10
file_exit_status (NotCopied why) = 11

-- a number after a text
abbrev pub numbered : List ℕ → ℕ → List ℕ
numbered text number = text ++ decimal number

-- a number before a text
abbrev pub counted_text : ℕ → List ℕ → List ℕ
counted_text number text = decimal number ++ text

-- a path between two texts, as it is shown
abbrev pub named : List ℕ → List ℕ → List ℕ → List ℕ
named first path last = first ++ (printable path ++ last)

-- a text and the end of its line
abbrev pub line_of : List ℕ → List ℕ
line_of text = text ++ codes "\n"

abbrev pub damage_text : Damage → List ℕ
damage_text (Block at entry) = codes "at byte " ++ decimal at
damage_text (Record place fault) = codes "record " ++ decimal place ++ (codes ": " ++ fault_name fault)
damage_text (Entry fault) = codes "record " ++ decimal fault.place ++ (codes ": " ++ unfit_name fault.cause)
damage_text (Torn at bytes) = (decimal bytes ++ codes " bytes after byte ") ++ (decimal at ++ codes ", more than one batch can have")

-- that a block is not what was written, and which entry it is of: record 0 is the head
abbrev pub unread_text : Option ℕ → List ℕ
unread_text None = codes " is not what was written"
unread_text (Some n) =
    if n == 0 then codes " (the head) is not what was written"
    else codes " (entry " ++ counted_text n (codes ") is not what was written")

-- the same in the words of a line: entry N is record N after the head
abbrev pub harm_text : Damage → List ℕ
harm_text (Block at entry) = numbered (codes "the block at byte ") at ++ unread_text entry
harm_text (Record place fault) = numbered (codes "entry ") place ++ (codes " is none: " ++ fault_name fault)
harm_text (Entry fault) = numbered (codes "entry ") fault.place ++ (codes " may not come next: " ++ unfit_name fault.cause)
harm_text (Torn at bytes) = counted_text bytes (codes " bytes are after byte ") ++ counted_text at (codes ", more than one batch can have")

-- a text, what is damaged in the file of this path, and what to do about it
abbrev pub damaged_text : List ℕ → Damage → List ℕ → List ℕ → List ℕ
damaged_text first damage path next = named first path (codes ": ") ++ (harm_text damage ++ next)

-- how much of the damaged file of this path was not copied, and what to do about it
abbrev pub lost_text : Loss → List ℕ → List ℕ
lost_text loss path =
    named (codes "Damaged: ") path (codes ": ")
    ++ (counted_text loss.bytes (codes " bytes after byte ") ++ counted_text loss.at (codes " were not copied; restore a backup, or enter again what is missing"))

-- the head is known to be damaged: without it no file is read
abbrev pub is_of_head : Damage → Bool
is_of_head (Block at (Some n)) = n == 0
is_of_head damage = false

-- what to do about damage of a ledger's file
abbrev pub next_of : Damage → List ℕ
next_of damage =
    if is_of_head damage then codes "; restore a backup: tbd salvage needs the head"
    else codes "; tbd salvage makes a new file of the entries before it"

abbrev pub sync_text : List ℕ → List ℕ
sync_text path = named (codes "SyncFailed: ") path (codes ": restart the machine or copy the file before the next start")

abbrev pub full_text : List ℕ → List ℕ
full_text path = named (codes "Full: ") path (codes ": the disk is full, or the file has its greatest length; free space, and start again")

-- why a file was not opened, and what to do about it
abbrev pub opening_text : OpeningFault → List ℕ → List ℕ
opening_text opening.Locked path = named (codes "Locked: ") path (codes " is open in another program; end that one first")
opening_text opening.Missing path = named (codes "Device: cannot find ") path (codes "; look at its name and at its folder")
opening_text opening.Forbidden path = named (codes "Device: no permission to open ") path (codes "; change its mode or its folder's, or run tbd as a user that may")
opening_text opening.ReadOnly path = named (codes "Device: ") path (codes " is on a disk that is read-only; mount it for writing, or name a file on another disk")
opening_text opening.TooMany path = named (codes "Device: cannot open ") path (codes ": too many files are open; raise their number by ulimit -n")
opening_text opening.NoMemory path = codes "NoMemory"
opening_text opening.SyncFailed path = sync_text path
opening_text opening.Exists path = named (codes "Usage: ") path (codes " exists; give the name of one that is not there")
opening_text opening.NotAFile path = named (codes "Device: ") path (codes " is no regular file; give the name of one")
opening_text opening.Dangling path = named (codes "Device: ") path (codes " is a link to nothing; remove it, or make the file that it names")
opening_text opening.Unopened path = named (codes "Device: cannot open ") path (codes "; look at its disk and at its folder")
opening_text opening.Unread path = named (codes "Device: ") path (codes ": a read or write failed; look at the disk, and start again")
opening_text opening.Full path = full_text path
opening_text opening.Empty path = codes "NotAJournal: " ++ (printable path ++ codes " is empty; without --existing tbd run makes a ledger in it")

-- why a new file was not made, or not to its end: NEW.part then has a prefix of what was to be in it
abbrev pub making_text : OpeningFault → List ℕ → List ℕ
making_text opening.SyncFailed path = named (codes "SyncFailed: ") path (codes ".part: it may be lost; look at the disk, and start again")
making_text opening.Unread path = named (codes "Device: ") path (codes ".part: a read or write failed; look at the disk, and start again")
making_text opening.Full path = named (codes "Full: ") path (codes ".part: the disk is full, or the file has its greatest length; remove it, free space, and start again")
making_text opening.Locked path = named (codes "Locked: ") path (codes ".part is open in another program; end that one first")
making_text opening.NotAFile path = named (codes "Device: ") path (codes ".part is no regular file; move it elsewhere, or give another name")
making_text fault path = opening_text fault path

-- why a new file, NEW.part, did not get its name; or it did, and a crash may take that
abbrev pub naming_text : OpeningFault → List ℕ → List ℕ
naming_text opening.SyncFailed path = named (codes "SyncFailed: ") path (codes ": its name may be lost; look at the disk, and copy the file again")
naming_text opening.Exists path = named (codes "Usage: ") path (codes ".part has all that was copied, and its name was taken meanwhile; give it another")
naming_text opening.Full path = named (codes "Full: ") path (codes ".part has all that was copied, and there is no space for its name; free space, and rename it")
naming_text opening.Missing path = named (codes "Device: ") path (codes ".part was moved while it was written; copy the file again")
naming_text fault path = named (codes "Device: ") path (codes ".part has all that was copied, but did not get its name; rename it")

-- what failed
abbrev pub failed_text : Failed → List ℕ → List ℕ
failed_text Input path = codes "Device: standard input"
failed_text OutputSide path = codes "Device: standard output"
failed_text File path = named (codes "Device: ") path (codes ": a read or write failed; look at the disk, and start again")
failed_text New path = named (codes "Device: ") path (codes ".part: a read or write failed; look at the disk, and start again")

-- a file that is no ledger, and what it is; only the fault's name if it was not looked at
abbrev pub kind_text : FileKind → List ℕ → List ℕ
kind_text kind.Unread path = codes "NotAJournal"
kind_text kind.Empty path = codes "NotAJournal: " ++ (printable path ++ codes " is empty; tbd run makes a ledger in it")
kind_text kind.Dump path = codes "NotAJournal: " ++ (printable path ++ codes " is a dump; tbs replay and telovamish dump read it")
kind_text kind.NoRecord path = codes "NotAJournal: " ++ (printable path ++ codes " has no record yet; tbd run makes a ledger in it")
kind_text kind.Closed path =
    codes "NotAJournal: " ++ (printable path ++ codes " has a closed first latch at byte 8 and bytes after it; restore a backup if it had a record: tbd salvage finds none, and tbd run may cut these bytes off and begin a new ledger")
kind_text kind.Begun path =
    codes "NotAJournal: " ++ (printable path ++ codes " ends before its first record; restore a backup if it had one, or start without --existing")
kind_text kind.Ledger path = codes "NotAJournal: " ++ (printable path ++ codes " is a ledger; tbd run serves it")
kind_text kind.Script path = codes "NotAJournal: " ++ (printable path ++ codes " is a script; tbs and tbd run read it as standard input")
kind_text kind.Text path = codes "NotAJournal: " ++ (printable path ++ codes " is a text; telovamish script makes request frames of statements")
kind_text kind.Other path = codes "NotAJournal: " ++ (printable path ++ codes " does not begin as a ledger's file")

-- rules in words
unfoldable pub numbers_text : Numbers → List ℕ
numbers_text numbers = (codes "CLIENTS_MAX " ++ decimal numbers.clients_max) ++ (codes " and PROFILE " ++ decimal numbers.profile)

-- the rules that a file was made with and those that were asked for, with a text between them
abbrev pub both_text : Mismatch → List ℕ → List ℕ
both_text both between = numbers_text both.made ++ (between ++ numbers_text both.asked)

abbrev pub mismatch_text : Option Mismatch → List ℕ → List ℕ
mismatch_text None path = named (codes "OtherRules: ") path (codes " was made with others; tbd check shows them")
mismatch_text (Some both) path = (codes "OtherRules: " ++ (printable path ++ codes " was made with ")) ++ both_text both (codes ", not with ")

-- what is wrong with an item of a log, and where
abbrev pub item_text : LogFault → List ℕ
item_text (log.UnknownKind kind) = numbered (codes "UnknownKind ") kind ++ codes ": standard input goes on with no item; those before it were answered"
item_text log.Short = codes "Short: standard input ends within an item; those before it were answered"
item_text (log.Gap at) = numbered (codes "Gap at ") at
item_text (log.Repeat at) = numbered (codes "Repeat at ") at
item_text (log.TooLong at) = numbered (codes "TooLong at ") at
item_text (log.Damaged at) = numbered (codes "Damaged at ") at
item_text (log.TimeExhausted at) = numbered (codes "TimeExhausted at ") at
item_text (log.BadEntry at fault) = numbered (codes "BadEntry at ") at ++ (codes ": " ++ fault_name fault)
item_text fault = log_fault_name fault

-- the fault's name, and after it what more there is to say, over a file of this path
abbrev pub fault_text : KeepCommandFault → List ℕ → List ℕ
fault_text Usage path = codes "Usage: a word is not UTF-8"
fault_text (Device which) path = failed_text which path
fault_text (Opening fault) path = opening_text fault path
fault_text (Making fault) path = making_text fault path
fault_text (Naming fault) path = naming_text fault path
fault_text NoMemory path = codes "NoMemory"
fault_text (Request fault) path = run_fault_name fault ++ codes ": the next request on standard input is refused; those before it were answered"
fault_text (Item fault) path = item_text fault
fault_text (NotAJournal kind) path = kind_text kind path
fault_text NoHead path = named (codes "NotAJournal: ") path (codes " has a first record that is no ledger's head; restore a backup")
fault_text (Damaged damage) path = damaged_text (codes "Damaged: ") damage path (next_of damage)
fault_text (Lost loss) path = lost_text loss path
fault_text (OtherRules numbers) path = mismatch_text numbers path
fault_text Full path = full_text path
fault_text SyncFailed path = sync_text path
fault_text Gone path = codes "Gone: " ++ (printable path ++ codes " is not the file that was opened, or another program cut it; put that file back before the next start")
fault_text (NotCopied why) path = named (codes "NotCopied: ") path (uncopied_text why)

-- a line was sent, and is not held back; or a prefix of it was, because the writer failed or took nothing
abbrev pub SaysLine : List ℕ → Output → Output → Type 0
SaysLine line before after = (Sent line before after × (after.held ≡ false)) ⊎ CutOff line before after

-- the same of a writer of lines, before a call and after it
abbrev pub Says : {E : Type 0} → sinks.Ghosts E → List ℕ → E → E → Type 0
Says lines line before after = SaysLine line (lines.output before) (lines.output after)

abbrev pub file_fault_line : KeepCommandFault → List ℕ → List ℕ
file_fault_line fault path = codes "tbd: " ++ (fault_text fault path ++ codes "\n")

-- the line of a start that made a file of this path
abbrev pub made_line : List ℕ → List ℕ
made_line path = codes "tbd: made " ++ (printable path ++ codes "\n")

-- a line is reported, or nothing is
abbrev pub PrintsWhere : Bool → List ℕ → Output → Output → Type 0
PrintsWhere false line before after = after ≡ before
PrintsWhere true line before after = SaysLine line before after

-- a ledger is reported as made if the records of its file ended at this place before, and so were none: the first one begins at byte 8. For any
-- other file, nothing is reported
abbrev pub PrintsMade : ℕ → List ℕ → Output → Output → Type 0
PrintsMade at path before after = PrintsWhere (nat_le at 8) (made_line path) before after

-- the line of a start that cut bytes off: how many, and where the records that stay end
abbrev pub cut_line : ℕ → ℕ → List ℕ
cut_line bytes at = numbered (codes "tbd: cut ") bytes ++ line_of (numbered (codes " bytes of a batch that was not committed, after byte ") at)

-- how far a file was read, in millions of bytes
abbrev pub read_text : ℕ → ℕ → List ℕ
read_text read all = (decimal read ++ codes " of ") ++ (decimal all ++ codes " MB")

abbrev pub reading_line : List ℕ → ℕ → ℕ → List ℕ
reading_line path read all = (codes "tbd: reading " ++ (printable path ++ codes ", ")) ++ (read_text read all ++ codes "\n")

-- a start that is reported says that it begins to read a file, if that has a million bytes or more
abbrev pub PrintsReading : Bool → List ℕ → ℕ → Output → Output → Type 0
PrintsReading reports path bytes before after = PrintsWhere (reports && nat_le 1000000 bytes) (reading_line path 0 (bytes / 1000000)) before after

-- if a result is no fault, this holds of it and of any file that a device held
abbrev pub IfHeld : {D X F : Type 0} → (D → List ℕ → Type 0) → D → Result X F → (X → List ℕ → Type 0) → Type 0
IfHeld holds device answer Is = (file : List ℕ) → holds device file → IfOk answer (λ x. Is x file)

-- a device was made of another that was looked at, and reports the same about its calls
abbrev pub IsMadeLooking : {D X F : Type 0} → devices.Ghosts D → devices.Ghosts X → D → Result X F → Type 0
IsMadeLooking its made device answer = its.tells → IfOk answer (λ x. IsLookedAt (its.disk device) (made.disk x))

-- the offset from which on it is first reported how far a file was read: the greatest one if no reports are wanted
abbrev pub first_due : Bool → ℕ
first_due reports = if reports then 64000000 else 2 ^ 64 - 1

-- a read at an offset was reported if that was due, and the next report is then due 64 MB after it
abbrev pub ReportsProgress : {D E : Type 0} → sinks.Ghosts E → ℕ → Reported D E → Reported D E → Type 0
ReportsProgress lines at before after =
    (after.path ≡ before.path) × (after.len ≡ before.len)
    × (after.due ≡ (if nat_le before.due at then min (at + 64000000) (2 ^ 64 - 1) else before.due))
    × PrintsWhere (nat_le before.due at) (reading_line (string_bytes before.path) (at / 1000000) (before.len / 1000000))
    (lines.output before.lines) (lines.output after.lines)

-- the line of a start that is reported: requests are served from here on; the last commit and its time, both 0 before the first one
abbrev pub ready_line : ℕ → ℕ → List ℕ
ready_line commit time = numbered (codes "tbd: ready: commit ") commit ++ line_of (numbered (codes ", time ") time)

abbrev pub PrintsReady : Bool → ℕ → ℕ → Output → Output → Type 0
PrintsReady reports commit time before after = PrintsWhere reports (ready_line commit time) before after

-- the line if requests would come from a terminal: which programs read words
abbrev pub frames_line : List ℕ
frames_line = codes "tbd: standard input is a terminal, and run reads request frames there; telovamish repl and telovamish script take words\n"

abbrev pub PrintsFrames : Bool → Output → Output → Type 0
PrintsFrames talks before after = PrintsWhere talks frames_line before after

-- nothing is reported if nothing was cut off
abbrev pub PrintsCut : ℕ → ℕ → Output → Output → Type 0
PrintsCut zero at before after = after ≡ before
PrintsCut (suc more) at before after = SaysLine (cut_line (suc more) at) before after

-- what was sent is passed on, if all of it was sent
abbrev pub PassesOn : Result (Unit {0}) FrameFault → Output → Output → Type 0
PassesOn (Ok done) before after = Sent [] before after × (after.held ≡ false)
PassesOn (Err fault) before after = after ≡ before

-- arguments as they are shown, a space before each
abbrev pub shown_words : List (List ℕ) → List ℕ
shown_words words = flat_map (λ word. 32 ∷ printable word) words

-- arguments that are no form: those that are wrong, and what is wrong with them
abbrev pub said_text : List (List ℕ) → List ℕ → List ℕ
said_text shown what = shown_words shown ++ (codes ": " ++ (what ++ codes "\n"))

abbrev pub wrong_line : Wrong → List (List ℕ) → List ℕ
wrong_line wrong words = codes "tbd: Usage:" ++ said_text (take wrong.shown words) (cli.word_fault_text wrong.fault)

-- the page of usage if there are no arguments
abbrev pub usage_lines : Wrong → List (List ℕ) → List ℕ
usage_lines wrong [] = USAGE.now
usage_lines wrong (word ∷ rest) = wrong_line wrong (word ∷ rest)

-- cited only by private functions

-- arguments, a text, and after it what is wrong with the arguments
abbrev pub said_with : List (List ℕ) → List ℕ → List ℕ → List ℕ
said_with shown between what = shown_words shown ++ (between ++ line_of what)

-- a path between two texts, then the rules of its file and those that were asked for
abbrev pub rules_text : List ℕ → List ℕ → List ℕ → Mismatch → List ℕ → List ℕ
rules_text first path last both between = named first path last ++ both_text both between

-- how much of how much was read, and the end of the line
abbrev pub read_line : ℕ → ℕ → List ℕ
read_line read all = line_of (read_text read all)

-- rows

pub line_of_a_block :
    file_fault_line (Damaged (Block 94 (Some 3))) (codes "ledger")
    ≡ codes "tbd: Damaged: ledger: the block at byte 94 (entry 3) is not what was written; tbd salvage makes a new file of the entries before it\n"
unfolding digits printable chars lib.Utf8.encode
line_of_a_block = refl

pub line_of_a_loss :
    file_fault_line (Lost (record { bytes = 88; at = 94 })) (codes "ledger")
    ≡ codes "tbd: Damaged: ledger: 88 bytes after byte 94 were not copied; restore a backup, or enter again what is missing\n"
unfolding digits printable chars lib.Utf8.encode
line_of_a_loss = refl

pub line_of_a_head :
    file_fault_line (Damaged (Block 8 (Some 0))) (codes "ledger")
    ≡ codes "tbd: Damaged: ledger: the block at byte 8 (the head) is not what was written; restore a backup: tbd salvage needs the head\n"
unfolding digits printable chars lib.Utf8.encode
line_of_a_head = refl

pub line_of_a_name : file_fault_line (Opening opening.Missing) (codes "ledger") ≡ codes "tbd: Device: cannot find ledger; look at its name and at its folder\n"
unfolding printable chars lib.Utf8.encode
line_of_a_name = refl

pub line_of_a_new_file_that_is_not_whole :
    file_fault_line (Making opening.Full) (codes "new") ≡ codes "tbd: Full: new.part: the disk is full, or the file has its greatest length; remove it, free space, and start again\n"
unfolding printable chars lib.Utf8.encode
line_of_a_new_file_that_is_not_whole = refl

pub line_of_a_name_that_is_taken :
    file_fault_line (Naming opening.Exists) (codes "new") ≡ codes "tbd: Usage: new.part has all that was copied, and its name was taken meanwhile; give it another\n"
unfolding printable chars lib.Utf8.encode
line_of_a_name_that_is_taken = refl

pub line_of_a_request :
    file_fault_line (Request (run.Frame frame.Short)) [] ≡ codes "tbd: Short: the next request on standard input is refused; those before it were answered\n"
line_of_a_request = refl

pub line_of_a_gap : file_fault_line (Item (log.Gap 2)) [] ≡ codes "tbd: Gap at 2\n"
unfolding digits
line_of_a_gap = refl

pub line_of_no_item :
    file_fault_line (Item (log.UnknownKind 3)) [] ≡ codes "tbd: UnknownKind 3: standard input goes on with no item; those before it were answered\n"
unfolding digits
line_of_no_item = refl

pub line_of_a_new_name : file_fault_line (Making opening.Exists) (codes "new") ≡ codes "tbd: Usage: new exists; give the name of one that is not there\n"
unfolding printable chars lib.Utf8.encode
line_of_a_new_name = refl

pub line_of_a_cut : cut_line 5 182 ≡ codes "tbd: cut 5 bytes of a batch that was not committed, after byte 182\n"
unfolding digits
line_of_a_cut = refl

pub line_of_a_ready_start : ready_line 3 13 ≡ codes "tbd: ready: commit 3, time 13\n"
unfolding digits
line_of_a_ready_start = refl

pub line_of_a_file_that_is_gone :
    file_fault_line Gone (codes "ledger") ≡ codes "tbd: Gone: ledger is not the file that was opened, or another program cut it; put that file back before the next start\n"
unfolding printable chars lib.Utf8.encode
line_of_a_file_that_is_gone = refl

pub line_of_a_pipe : file_fault_line (Device OutputSide) (codes "ledger") ≡ codes "tbd: Device: standard output\n"
line_of_a_pipe = refl

pub line_of_other_rules :
    file_fault_line (OtherRules (Some (record { made = record { clients_max = 3; profile = 1 }; asked = record { clients_max = 64; profile = 2 } }))) (codes "ledger")
    ≡ codes "tbd: OtherRules: ledger was made with CLIENTS_MAX 3 and PROFILE 1, not with CLIENTS_MAX 64 and PROFILE 2\n"
unfolding digits numbers_text printable chars lib.Utf8.encode
line_of_other_rules = refl

pub line_of_reading : reading_line (codes "ledger") 128 900 ≡ codes "tbd: reading ledger, 128 of 900 MB\n"
unfolding digits printable chars lib.Utf8.encode
line_of_reading = refl

pub line_of_a_new_file : made_line (codes "ledger") ≡ codes "tbd: made ledger\n"
unfolding printable chars lib.Utf8.encode
line_of_a_new_file = refl

pub line_of_words : usage_lines (record { shown = 1; fault = Missing name.Run operand.File }) (codes "run" ∷ codes "--quick" ∷ [])
    ≡ codes "tbd: Usage: run: FILE and CLIENTS_MAX are missing\n"
unfolding printable chars lib.Utf8.encode
line_of_words = refl

-- the texts about a number of clients say its range

pub range_of_a_wrong_number : CLIENTS_WRONG.now ≡ codes "CLIENTS_MAX is 1 to " ++ decimal CLIENTS_MAX
unfolding digits
range_of_a_wrong_number = refl

pub range_of_no_number : CLIENTS_MISSING.now ≡ codes "CLIENTS_MAX is missing, 1 to " ++ decimal CLIENTS_MAX
unfolding digits
range_of_no_number = refl
