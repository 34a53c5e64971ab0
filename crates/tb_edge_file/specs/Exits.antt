-- How a command ends: its outcome, exit status and line.
use Rattle.std.specs.Prelude.{ℕ, true, false, ◌||◌, ◌≡◌, List, [], Ok, Err}
use Rattle.tb_edge_commands.specs.Streams.{Change, Streams, new, old}
use Rattle.tb_records.specs.Transport.{Output, Sent, CutOff}
use Rattle.tb_file.specs.Reading.{rules_of}
use Rattle.tb_edge_file.specs.declared.arguments.Command.{Command}
use Rattle.tb_edge_file.specs.declared.arguments.Form.{Form}
use Rattle.tb_edge_file.specs.declared.arguments.Form.TheVariants as form
use Rattle.tb_edge_file.specs.declared.ends.Pipes.{Pipes}
use Rattle.tb_edge_file.specs.declared.executing.Terminals.{Terminals}
use Rattle.tb_edge_file.specs.declared.faults.Failed.TheVariants as failed
use Rattle.tb_edge_file.specs.declared.faults.KeepCommandFault.TheVariants.{Device}
use Rattle.tb_edge_file.specs.declared.help.TheConstants.{VERSION}
use Rattle.tb_edge_file.specs.Copies.{CopiesOver}
use Rattle.tb_edge_file.specs.Ends.{KnownEnds, KnownFiles, OnEnds, kept_file}
use Rattle.tb_edge_file.specs.ExitStatuses.{SaysLine, fault_path, file_exit_status, file_fault_line}
use Rattle.tb_edge_file.specs.Follower.{FollowsLog}
use Rattle.tb_edge_file.specs.Outcomes.{ChecksOver, DumpsOver, FileOutcome, PrintsWhole, RunsOver, start_notes}
use Rattle.tb_edge_file.specs.Pages.{page_of}

-- if all was done, what was held back is sent; if that fails, it is the outcome
abbrev pub FinishesOutput : Type 0 → FileOutcome → FileOutcome → Output → Output → Type 0
FinishesOutput gone (Ok done) (Ok finished) middle written = gone × Sent [] middle written
FinishesOutput gone (Ok done) (Err fault) middle written = (fault ≡ Device failed.Output) × CutOff [] middle written
FinishesOutput gone (Err fault) outcome middle written = (outcome ≡ Err fault) × (written ≡ middle)

abbrev pub exit_status_of : FileOutcome → ℕ
exit_status_of (Ok done) = 0
exit_status_of (Err fault) = file_exit_status fault

-- nothing is reported if a form was done, and otherwise the line of its fault
abbrev pub PrintsFault : FileOutcome → List ℕ → List ℕ → Output → Output → Type 0
PrintsFault (Ok done) file new before after = after ≡ before
PrintsFault (Err fault) file new before after = SaysLine (file_fault_line fault (fault_path fault file new)) before after

module _ {O D E : Type 0} (its : KnownFiles O D E) (ends : Terminals) (command : Command) (before left : O) where
  -- what a form does over what opens devices: `run` makes the device of a name if there is none, `dump` and `check` open one that exists,
  -- `salvage` and `backup` open one and make another, and the other forms open none. What it reports on its way comes before the line of its
  -- outcome
  abbrev pub PerformsForm : Form → FileOutcome → Streams → Streams → Type 0
  PerformsForm (form.Run clients_max profile options) outcome first last =
      RunsOver its before left outcome (kept_file command.file.now options.existing (rules_of profile clients_max))
      (start_notes (options.reports || ends.faults) ends.input) first last
  PerformsForm (form.Follow clients_max profile) outcome first last =
      (left ≡ before) × (last.faults ≡ first.faults) × FollowsLog outcome profile clients_max first.source last.source first.sink last.sink
  PerformsForm (form.Dump after follows) outcome first last =
      (last.source ≡ first.source) × (last.faults ≡ first.faults) × DumpsOver its command.file.now before left after follows outcome first.sink last.sink
  PerformsForm (form.Check quick) outcome first last =
      (last.source ≡ first.source) × (last.faults ≡ first.faults) × ChecksOver its command.file.now before left quick outcome first.sink last.sink
  PerformsForm form.Salvage outcome first last =
      (last.source ≡ first.source) × (last.faults ≡ first.faults)
      × CopiesOver its command.new.now command.file.now before left false outcome first.sink last.sink
  PerformsForm form.Backup outcome first last =
      (last.source ≡ first.source) × (last.faults ≡ first.faults)
      × CopiesOver its command.new.now command.file.now before left true outcome first.sink last.sink
  PerformsForm (form.Help name_of) outcome first last =
      (left ≡ before) × (last.source ≡ first.source) × (last.faults ≡ first.faults) × PrintsWhole (page_of name_of) outcome first.sink last.sink
  PerformsForm form.Version outcome first last =
      (left ≡ before) × (last.source ≡ first.source) × (last.faults ≡ first.faults) × PrintsWhole VERSION.now outcome first.sink last.sink

  -- a form was done, or not to its end; what it wrote was sent; and the exit status and the line are those of the outcome
  pub record ExitsWith (gone : Type 0) (exit_status : ℕ) (first last : Streams) : Type 0 where
    pub performed : FileOutcome
    pub middle : Output
    pub noted : Output
    pub performs : PerformsForm command.form performed first (record last { sink = middle; faults = noted })
    pub outcome : FileOutcome
    pub finishes : FinishesOutput gone performed outcome middle last.sink
    pub exit_status_is : exit_status ≡ exit_status_of outcome
    pub line : PrintsFault outcome command.file.now command.new.now noted last.faults

module _ {O D E R W L : Type 0} (its : KnownEnds O D E R W L) (ends : Terminals) (command : Command) where
  -- the same, between the ends of a command
  abbrev pub ExitsOn : ℕ → Change O → Change (Pipes R W) → Change L → Type 0
  ExitsOn exit_status opener pipes =
      OnEnds its (ExitsWith its.files ends command (old opener) (new opener) (its.gone (new pipes).writer) exit_status) pipes

  -- what only private functions cite

  abbrev pub PerformsFormOn : FileOutcome → Change O → Change (Pipes R W) → Change L → Type 0
  PerformsFormOn outcome opener = OnEnds its (PerformsForm its.files ends command (old opener) (new opener) command.form outcome)
