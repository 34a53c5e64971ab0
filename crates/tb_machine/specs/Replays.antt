-- The result of a replay of a dump: the entries that it read, the replies that it wrote, and what ended it.
use Rattle.std.specs.Prelude.{ℕ, false, ◌≡◌, ◌⊎◌, IsTrue, List, [], ◌++◌, length, Option, None, Result, Ok, Err}
use Rattle.std.specs.List.{flat_map}
use Rattle.tb_records.specs.declared.dumps.DumpFault.{DumpFault}
use Rattle.tb_records.specs.declared.dumps.DumpFault.TheVariants as fault
use Rattle.tb_records.specs.declared.dumps.DumpHead.{DumpHead}
use Rattle.tb_records.specs.declared.dumps.DumpItem.{DumpItem}
use Rattle.tb_records.specs.declared.dumps.DumpItem.TheVariants as item
use Rattle.tb_records.specs.declared.faults.FrameFault.TheVariants.{Device}
use Rattle.tb_records.specs.declared.limits.Profile.{Profile}
use Rattle.tb_records.specs.declared.limits.Profile.TheVariants.{One, Two}
use Rattle.tb_records.specs.DumpBytes.{HeadAnswers, HeadCounts, ItemAnswers, ItemCounts}
use Rattle.tb_records.specs.Messages.{Answer}
use Rattle.tb_records.specs.Ordered.{Each}
use Rattle.tb_records.specs.ReplyFrames.{reply_bytes, IsReply}
use Rattle.tb_records.specs.Transport.{Input, Output, IsOfBytes, Sent, CutOff}
use Rattle.tb_ledger.specs.Books.{profile_of}
use Rattle.tb_machine.specs.declared.entries.Entry.{Entry}
use Rattle.tb_machine.specs.Histories.{State, fits, reply_at, step, to_two}
use Rattle.tb_machine.specs.Dumps.{DumpSpells, after_with, IsLegalWith, replies_with}
use Rattle.tb_machine.specs.Worked.{EndsBy, Worked, items_taken}

-- one entry or mark

-- the reader's result for the next one
pub record ReadsNext (answer : Result (Option DumpItem) DumpFault) (before after : Input) : Type 0 where
  pub answers : ItemAnswers answer before.left after.left
  pub counted : ItemCounts answer before after

abbrev pub item_of : Entry → DumpItem
item_of e = item.Entry e.commit e.time e.request

-- an entry is entered if it may come next: the machine moves on by it, or stays
abbrev pub EntersNext : Result (Unit {0}) DumpFault → State → State → Entry → Type 0
EntersNext (Ok done) S T e = IsTrue (fits S e) × (T ≡ step S e)
EntersNext (Err fault.NotLegal) S T e = (fits S e ≡ false) × (T ≡ S)
EntersNext (Err fault.NoMemory) S T e = IsTrue (fits S e) × (T ≡ S)
EntersNext (Err f) S T e = ⊥

-- an entry that may come next is entered and its reply is written; a failed writer leaves a prefix of the reply, and on any other fault nothing is
-- written
abbrev pub ReplaysEntry : Result (Unit {0}) DumpFault → State → State → Entry → Output → Output → Type 0
ReplaysEntry (Ok done) S T e before after = IsTrue (fits S e) × (T ≡ step S e) × Sent (reply_bytes (reply_at S e)) before after × IsReply (reply_at S e)
ReplaysEntry (Err (fault.Frame f)) S T e before after = IsTrue (fits S e) × (f ≡ Device) × CutOff (reply_bytes (reply_at S e)) before after
ReplaysEntry (Err fault.NotLegal) S T e before after = (fits S e ≡ false) × (after ≡ before)
ReplaysEntry (Err fault.NoMemory) S T e before after = IsTrue (fits S e) × (after ≡ before)
ReplaysEntry (Err f) S T e before after = ⊥

-- a mark leads from profile 1 to profile 2; under profile 2 it is a fault
abbrev pub ReplaysMark : Result (Unit {0}) DumpFault → State → State → Type 0
ReplaysMark (Ok done) S T = (profile_of S.books ≡ One) × (T ≡ to_two S)
ReplaysMark (Err f) S T = (f ≡ fault.Mark) × (profile_of S.books ≡ Two)

-- an item is taken: an entry is replayed, and a mark leads to profile 2 and writes nothing; it is a fault if profile 2 is in use already, from the
-- head on or from a first mark
abbrev pub ReplaysItem : Result (Unit {0}) DumpFault → State → State → DumpItem → Output → Output → Type 0
ReplaysItem result S T (item.Entry commit time request) before after = ReplaysEntry result S T (record { commit = commit; time = time; request = request }) before after
ReplaysItem (Ok done) S T item.Mark before after = (profile_of S.books ≡ One) × (T ≡ to_two S) × (after ≡ before)
ReplaysItem (Err f) S T item.Mark before after = (f ≡ fault.Mark) × (profile_of S.books ≡ Two) × (after ≡ before)

-- a whole dump

-- the content of a dump: a history, with a mark in its place, if there is one
pub record Dump : Type 0 where
  pub profile : Profile
  pub clients_max : ℕ
  pub history : List Entry
  pub place : Option ℕ

-- a dump of only a head
abbrev pub headed : DumpHead → Dump
headed head = record { profile = head.profile; clients_max = head.clients_max; history = []; place = None }

-- the state after it
abbrev pub state_behind : Dump → State
state_behind d = after_with d.profile d.clients_max d.place d.history

-- the replies to its entries
abbrev pub replies_in : Dump → List Answer
replies_in d = replies_with d.profile d.clients_max d.place d.history

-- the bytes of a dump were read

abbrev pub Spelling : Dump → List ℕ → Type 0
Spelling d bytes = DumpSpells bytes d.profile d.clients_max d.history d.place

abbrev pub SpellsDump : Dump → Option (List ℕ) → Option (List ℕ) → Type 0
SpellsDump d before after = IsOfBytes (λ left rest. (bytes : List ℕ) × Spelling d bytes × (left ≡ bytes ++ rest)) before after

pub record ReadsDump (d : Dump) (before after : Input) : Type 0 where
  pub read : SpellsDump d before.left after.left
  pub counted : after.failed ≡ before.failed

-- the history is legal, and the bytes encode its replies
pub record RepliesTo (d : Dump) (bytes : List ℕ) : Type 0 where
  pub legal : IsLegalWith d.profile d.clients_max d.place d.history
  pub bytes_are : bytes ≡ flat_map reply_bytes (replies_in d)
  pub spelled : Each IsReply (replies_in d)

-- the fault that does not come from an entry: no memory for the machine
abbrev pub ReplayHalts : DumpFault → Dump → Type 0
ReplayHalts f d = (f ≡ fault.NoMemory) × (d.history ≡ [])

-- after the head, some entries were replayed, and then the dump ended, or a fault occurred
abbrev pub Replayed : Result ℕ DumpFault → Input → Input → Output → Output → Type 0
Replayed = Worked ReadsDump RepliesTo (EndsBy ReadsNext ReplaysItem (items_taken (λ d. length d.history) state_behind ReplayHalts))

-- no head was read
pub record Headless (f : DumpFault) (before after : Input) (start written : Output) : Type 0 where
  pub answers : HeadAnswers (Err f) before.left after.left
  pub counted : HeadCounts (Err f) before after
  pub silent : written ≡ start

abbrev pub ReplayRan : Result ℕ DumpFault → Input → Input → Output → Output → Type 0
ReplayRan (Ok k) before after start written = Replayed (Ok k) before after start written
ReplayRan (Err f) before after start written = Headless f before after start written ⊎ Replayed (Err f) before after start written
