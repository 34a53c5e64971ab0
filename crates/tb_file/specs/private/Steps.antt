-- The steps of serving. Only contracts of private functions use them.
use Rattle.std.specs.Prelude.{ℕ, Bool, true, false, ◌≡◌, ◌⊎◌, ◌+◌, ◌<◌, ◌≤◌, ◌^◌, List, [], ◌∷◌, ◌++◌, length, Result, Ok, Err, Option, None}
use Rattle.tb_records.specs.declared.faults.FrameFault.{FrameFault}
use Rattle.tb_records.specs.declared.faults.FrameFault.TheVariants.{Device}
use Rattle.tb_records.specs.Messages.{Answer, Message}
use Rattle.tb_records.specs.ReplyFrames.{reply_bytes, IsReply}
use Rattle.tb_records.specs.AtHand.{holds_pair}
use Rattle.tb_records.specs.Transport.{Input, Output, Sent, CutOff}
use Rattle.tb_file_journal.specs.declared.faults.JournalFault.{JournalFault}
use Rattle.tb_file_journal.specs.Device.{Disk, LeavesOnly, HasFailed}
use Rattle.tb_file_journal.specs.Contents.{at_rest, recorded}
use Rattle.tb_file_journal.specs.Steps.{IsBeforeOrAfter}
use Rattle.tb_file_journal.specs.Ready.{Kept, IsReady, with_waiting}
use Rattle.tb_machine.specs.declared.entries.Entry.{Entry}
use Rattle.tb_machine.specs.declared.serving.RunFault.TheVariants as run
use Rattle.tb_machine.specs.Histories.{step, reply_at}
use Rattle.tb_machine.specs.Scripts.{Pair, entry_of, has_time, after_pair}
use Rattle.tb_machine.specs.Runs.{IsUntimely, Reads, is_new_in}
use Rattle.tb_machine.specs.Dumps.{dumped}
use Rattle.tb_machine.specs.Recording.{IsRecord}
use Rattle.tb_file.specs.declared.faults.KeepFault.{KeepFault}
use Rattle.tb_file.specs.declared.faults.KeepFault.TheVariants as keep
use Rattle.tb_file.specs.Keeping.{Keeping}
use Rattle.tb_file.specs.Rounds.{IsServed, Commits, ReadsNoPair, IsStop, RefusesRecord, records_from, reply_bytes_from, block_bytes_max, IsDue}
use Rattle.tb_file.specs.declared.replies.Replies.{Replies}

-- the fault of a record that is queued for the next commit: out of memory, or the journal refuses it
abbrev pub IsRefusal : {D : Type 0} → KeepFault → Kept D → List ℕ → Type 0
IsRefusal (keep.Journal fault) journal bytes = RefusesRecord fault journal bytes
IsRefusal (keep.Serving run.NoMemory) journal bytes = Unit {0}
IsRefusal fault journal bytes = ⊥

-- the fault of a pair, before which nothing is sent
abbrev pub IsSudden : KeepFault → Type 0
IsSudden (keep.Journal fault) = Unit {0}
IsSudden (keep.Serving run.NoMemory) = Unit {0}
IsSudden fault = ⊥

-- a reply is held after the others, or an allocation failed
abbrev pub HoldsReply : Result (Unit {0}) KeepFault → Answer → List ℕ → List ℕ → Type 0
HoldsReply (Ok done) a held grown = (grown ≡ held ++ reply_bytes a) × IsReply a
HoldsReply (Err (keep.Serving run.NoMemory)) a held grown = Unit {0}
HoldsReply (Err fault) a held grown = ⊥

-- the record of an entry waits, the entry is entered, and its reply is held; after a fault the file is unchanged
abbrev pub KeepsEntry : {D : Type 0} → Result (Unit {0}) KeepFault → Entry → Keeping D → Keeping D → List ℕ → List ℕ → Type 0
KeepsEntry (Ok done) e before after held grown =
    IsRecord (dumped e) e × (after.journal ≡ with_waiting before.journal (dumped e)) × (after.usable ≡ before.usable)
    × (after.state ≡ step before.state e) × (grown ≡ held ++ reply_bytes (reply_at before.state e)) × IsReply (reply_at before.state e)
KeepsEntry (Err (keep.Journal fault)) e before after held grown = RefusesRecord fault before.journal (dumped e) × (after.journal ≡ before.journal)
KeepsEntry (Err (keep.Serving run.NoMemory)) e before after held grown = after.journal.device ≡ before.journal.device
KeepsEntry (Err fault) e before after held grown = ⊥

-- a pair was served: its record waits, and its reply is held
pub record HoldsPair {D : Type 0} (p : Pair) (before after : Keeping D) (held grown : List ℕ) : Type 0 where
  pub served : IsServed before.state p
  pub state : after.state ≡ after_pair before.state p
  pub waits : after.journal ≡ record before.journal { waiting = before.journal.waiting ++ records_from before.state (p ∷ []) }
  pub holds : grown ≡ held ++ reply_bytes_from before.state (p ∷ [])
  pub usable : after.usable ≡ before.usable

-- the fault of a pair for which there is no time
abbrev pub is_end_of_time : KeepFault → Bool
is_end_of_time (keep.Serving run.TimeExhausted) = true
is_end_of_time fault = false

-- a pair was served; after a fault the file is unchanged, and nothing at all changes if there is no time for the pair
abbrev pub KeepsPair : {D : Type 0} → Result (Unit {0}) KeepFault → Pair → Keeping D → Keeping D → List ℕ → List ℕ → Type 0
KeepsPair (Ok done) p before after held grown = HoldsPair p before after held grown
KeepsPair (Err (keep.Journal fault)) p before after held grown =
    (is_new_in before.state p ≡ true) × (has_time before.state p ≡ true)
    × RefusesRecord fault before.journal (dumped (entry_of before.state p)) × (after.journal ≡ before.journal)
KeepsPair (Err (keep.Serving run.TimeExhausted)) p before after held grown = IsUntimely before.state p × (after ≡ before) × (grown ≡ held)
KeepsPair (Err (keep.Serving run.NoMemory)) p before after held grown = after.journal.device ≡ before.journal.device
KeepsPair (Err fault) p before after held grown = ⊥

-- the next pair is read and served
pub record ServesNextPair {D : Type 0} (result : Result (Unit {0}) KeepFault) (before after : Keeping D) (first last : Input) (held grown : List ℕ) : Type 0 where
  pub pair : Pair
  pub read : Reads (pair ∷ []) first last
  pub turn : KeepsPair result pair before after held grown

-- a reader returned no pair, and nothing else changed
pub record Ceases {D : Type 0} (answer : Result (Option (ℕ × Message)) FrameFault) (before after : Keeping D) (first last : Input) (held grown : List ℕ) : Type 0 where
  pub read : ReadsNoPair answer first last
  pub same : after ≡ before
  pub holds : grown ≡ held

-- a next pair was served, or there is none
abbrev pub MayBeNext : {D : Type 0} → Bool → Keeping D → Keeping D → Input → Input → List ℕ → List ℕ → Type 0
MayBeNext true before after first last held grown = ServesNextPair (Ok tt) before after first last held grown
MayBeNext false before after first last held grown = Ceases (Ok None) before after first last held grown

-- what is committed and sent, at one moment: a keeper with the records that wait, the bytes of the replies, and the output
pub record ReplyState (D : Type 0) : Type 0 where
  pub keeping : Keeping D
  pub held : List ℕ
  pub sink : Output

abbrev pub replies_at : {D : Type 0} → Keeping D → List ℕ → Output → ReplyState D
replies_at keeper held output = record { keeping = keeper; held = held; sink = output }

-- what a round of serving works on, at one moment: a keeper, the input, the bytes of the replies that are held, and the output
pub record RoundState (D : Type 0) : Type 0 where
  pub keeping : Keeping D
  pub source : Input
  pub held : List ℕ
  pub sink : Output

abbrev pub round_at : {D : Type 0} → Keeping D → Input → List ℕ → Output → RoundState D
round_at keeper input held output = record { keeping = keeper; source = input; held = held; sink = output }

-- the same without the input
abbrev pub reply_part : {D : Type 0} → RoundState D → ReplyState D
reply_part now = replies_at now.keeping now.held now.sink

-- both, made of a keeper, replies, a reader and a writer
abbrev pub reply_state : {D W : Type 0} → (W → Output) → Keeping D → Replies → W → ReplyState D
reply_state output keeper replies writer = replies_at keeper replies.bytes.items (output writer)

abbrev pub round_state : {D R W : Type 0} → (R → Input) → (W → Output) → Keeping D → R → Replies → W → RoundState D
round_state input output keeper reader replies writer = round_at keeper (input reader) replies.bytes.items (output writer)

-- all bytes were sent and no reply is held, or the device failed after a prefix of them
abbrev pub HandsOut : Result (Unit {0}) KeepFault → List ℕ → List ℕ → Output → Output → Type 0
HandsOut (Ok done) held left start written = Sent held start written × (written.held ≡ false) × (left ≡ [])
HandsOut (Err (keep.Serving (run.Frame fault))) held left start written = (fault ≡ Device) × CutOff held start written
HandsOut (Err fault) held left start written = ⊥

module _ (tells : Type 0) {D : Type 0} (disk : D → Disk) where
  -- the waiting records were committed
  pub record IsCommitted (before after : Keeping D) : Type 0 where
    pub state : after.state ≡ before.state
    pub none_waits : after.journal.waiting ≡ []
    pub usable : after.usable ≡ before.usable
    pub journal : after.journal.usable ≡ true
    pub ready : tells → IsReady disk after.journal
    pub commits : tells → Commits before.journal.waiting (disk before.journal.device) (disk after.journal.device)

  -- the commit failed; at least one record waits
  pub record IsUncommitted (fault : JournalFault) (before after : Keeping D) : Type 0 where
    pub some : before.journal.waiting ≡ [] → ⊥
    pub cause : tells → HasFailed (disk before.journal.device) (disk after.journal.device) fault
    pub any_moment : tells → LeavesOnly (disk before.journal.device) (disk after.journal.device) (IsBeforeOrAfter (recorded (disk before.journal.device).seen) before.journal.waiting)

  -- the waiting records were committed, and then the replies were sent; or the commit failed, and nothing was sent; or the output failed
  abbrev pub CommitsAndReplies : Result (Unit {0}) KeepFault → ReplyState D → ReplyState D → Type 0
  CommitsAndReplies (Err (keep.Journal fault)) before after = IsUncommitted fault before.keeping after.keeping × (after.sink ≡ before.sink)
  CommitsAndReplies result before after = IsCommitted before.keeping after.keeping × HandsOut result before.held after.held before.sink after.sink

  -- replies are sent when they are due; otherwise nothing changes
  abbrev pub MayReply : Result (Unit {0}) KeepFault → RoundState D → RoundState D → Type 0
  MayReply result before after =
      ((holds_pair before.source.at_hand ≡ true) × (length before.held < 2 ^ 20) × (length (at_rest before.keeping.journal.waiting) + block_bytes_max ≤ 2 ^ 22)
      × (result ≡ Ok tt) × (after.keeping ≡ before.keeping) × (after.held ≡ before.held) × (after.sink ≡ before.sink))
      ⊎ (IsDue before.source.at_hand before.held before.keeping.journal.waiting × CommitsAndReplies result (reply_part before) (reply_part after))

  -- the replies are sent before a fault ends serving; if sending fails, that fault ends it
  abbrev pub EndsReplying : KeepFault → KeepFault → ReplyState D → ReplyState D → Type 0
  EndsReplying stop f before after = ((f ≡ stop) × CommitsAndReplies (Ok tt) before after) ⊎ CommitsAndReplies (Err f) before after

  -- a pair could not be served, and nothing is sent; or a stop was reached, before which the replies are sent
  abbrev pub EndsNext : KeepFault → RoundState D → RoundState D → Type 0
  EndsNext f before after =
      (IsSudden f × ServesNextPair (Err f) before.keeping after.keeping before.source after.source before.held after.held × (after.sink ≡ before.sink))
      ⊎ ((stop : KeepFault) × IsStop stop before.keeping.state before.source after.source × EndsReplying stop f (reply_part before) (reply_part after))

  -- the next pair is served, or there is none; or a fault ends serving
  abbrev pub KeepsNext : Result Bool KeepFault → RoundState D → RoundState D → Type 0
  KeepsNext (Ok more) before after =
      MayBeNext more before.keeping after.keeping before.source after.source before.held after.held × (after.sink ≡ before.sink)
  KeepsNext (Err f) before after = EndsNext f before after

-- the same of replies that are held, and of a writer
abbrev pub HoldsReplyOver : Result (Unit {0}) KeepFault → Answer → Replies → Replies → Type 0
HoldsReplyOver result a held grown = HoldsReply result a held.bytes.items grown.bytes.items

abbrev pub HandsOutOver : {W : Type 0} → (W → Output) → Result (Unit {0}) KeepFault → Replies → Replies → W → W → Type 0
HandsOutOver output result held left writer later = HandsOut result held.bytes.items left.bytes.items (output writer) (output later)
