-- How pairs are served in rounds: their entries are committed, and then their replies are sent.
use Rattle.std.specs.Prelude.{ℕ, Bool, true, false, ◌≡◌, ◌⊎◌, ◌+◌, ◌-◌, ◌^◌, ◌<◌, ◌≤◌, List, [], ◌∷◌, ◌++◌, length, map, flat_map, fold, Option, None, Result, Ok, Err, if◌then◌else◌, IsTrue}
use Rattle.tb_records.specs.declared.faults.FrameFault.{FrameFault}
use Rattle.tb_records.specs.declared.faults.FrameFault.TheVariants.{Device}
use Rattle.tb_records.specs.Messages.{Answer, Message}
use Rattle.tb_records.specs.Inputs.{TimedAnswers}
use Rattle.tb_records.specs.AtHand.{holds_pair}
use Rattle.tb_records.specs.Transport.{Input, Output, Counts, Sent, CutOff}
use Rattle.tb_records.specs.ReplyFrames.{reply_bytes, IsReply}
use Rattle.tb_file_journal.specs.declared.faults.JournalFault.{JournalFault}
use Rattle.tb_file_journal.specs.declared.faults.JournalFault.TheVariants.{Memory, Full, TooLong}
use Rattle.tb_file_journal.specs.Device.{Disk, LeavesOnly, HasFailed}
use Rattle.tb_file_journal.specs.Contents.{at_rest, recorded}
use Rattle.tb_file_journal.specs.Steps.{IsAtRest, IsBeforeOrAfter}
use Rattle.tb_file_journal.specs.Ready.{Kept}
use Rattle.tb_machine.specs.declared.entries.Entry.{Entry}
use Rattle.tb_machine.specs.declared.serving.RunFault.TheVariants as run
use Rattle.tb_machine.specs.Histories.{State, fits, answer_to}
use Rattle.tb_machine.specs.Scripts.{Pair, entry_of, is_entered, has_time, after_pair}
use Rattle.tb_machine.specs.Runs.{IsUntimely, Reads, is_new_in, IsTimely}
use Rattle.tb_machine.specs.Dumps.{dumped}
use Rattle.tb_machine.specs.Recording.{IsRecord}
use Rattle.tb_file.specs.declared.faults.KeepFault.{KeepFault}
use Rattle.tb_file.specs.declared.faults.KeepFault.TheVariants as keep
use Rattle.tb_file.specs.Keeping.{Keeping}

-- pairs that come one after another

abbrev pub state_from : State → List Pair → State
state_from S ps = fold after_pair S ps

-- the entry of a pair that is entered
abbrev pub entered : State → Pair → List Entry
entered S p = if is_entered S p then entry_of S p ∷ [] else []

abbrev pub entries_from : State → List Pair → List Entry
entries_from S [] = []
entries_from S (p ∷ ps) = entered S p ++ entries_from (after_pair S p) ps

abbrev pub records_from : State → List Pair → List (List ℕ)
records_from S ps = map dumped (entries_from S ps)

-- a new pair gets its entry's reply, a repeat its first one, and any other a refusal
abbrev pub answers_from : State → List Pair → List Answer
answers_from S [] = []
answers_from S (p ∷ ps) = answer_to (after_pair S p) p.1 ∷ answers_from (after_pair S p) ps

abbrev pub reply_bytes_from : State → List Pair → List ℕ
reply_bytes_from S ps = flat_map reply_bytes (answers_from S ps)

-- a new pair has a time, its entry may come next and its record is read as this entry only, and the reply is read as this reply only
pub record IsServed (S : State) (p : Pair) : Type 0 where
  pub timely : IsTimely S p
  pub legal : is_entered S p ≡ true → IsTrue (fits S (entry_of S p))
  pub recorded_is : is_entered S p ≡ true → IsRecord (dumped (entry_of S p)) (entry_of S p)
  pub reply : IsReply (answer_to (after_pair S p) p.1)

abbrev pub AreServed : State → List Pair → Type 0
AreServed S [] = Unit {0}
AreServed S (p ∷ ps) = IsServed S p × AreServed (after_pair S p) ps

-- the file grows by a batch: a crash meanwhile leaves all of it or nothing of it
pub record Commits (batch : List (List ℕ)) (before after : Disk) : Type 0 where
  pub at_rest : IsAtRest after
  pub grown : recorded after.seen ≡ recorded before.seen ++ batch
  pub any_moment : LeavesOnly before after (IsBeforeOrAfter (recorded before.seen) batch)

-- what a reader returned if it gave no pair: its end, or a fault
pub record ReadsNoPair (answer : Result (Option (ℕ × Message)) FrameFault) (before after : Input) : Type 0 where
  pub answers : TimedAnswers answer before.left after.left
  pub counted : Counts answer before after

-- a state, the device with the file, what is left to read, and what was written
pub record Standing (D : Type 0) : Type 0 where
  pub state : State
  pub device : D
  pub input : Input
  pub output : Output

-- the state and the device of a keeper, with an input and an output
abbrev pub standing_of : {D : Type 0} → Keeping D → Input → Output → Standing D
standing_of keeper input output = record { state = keeper.state; device = keeper.journal.device; input = input; output = output }

-- the pairs of rounds
abbrev pub pairs_of : List (List Pair) → List Pair
pairs_of [] = []
pairs_of (ps ∷ rounds) = ps ++ pairs_of rounds

-- while something is held back a reader is asked for a pair only if that pair is buffered whole
abbrev pub IsPrompt : Bool → Input → Type 0
IsPrompt held input = held ≡ true → holds_pair input.at_hand ≡ true

-- pairs that are read so, one after another; after the first one its reply is held back
abbrev pub ReadsPromptly : Bool → List Pair → Input → Input → Type 0
ReadsPromptly held [] first last = last ≡ first
ReadsPromptly held (p ∷ ps) first last = IsPrompt held first × ((middle : Input) × Reads (p ∷ []) first middle × ReadsPromptly true ps middle last)

-- whether something is held back after such pairs
abbrev pub is_held : Bool → List Pair → Bool
is_held held [] = held
is_held held (p ∷ ps) = true

-- the greatest block of an entry: 11 bytes of latch, length and checksum, two numbers of 8, and the frame of a request of 8,190 items of 128 bytes
abbrev pub block_bytes_max : ℕ
block_bytes_max = 1048395

-- no pair is buffered whole, many bytes of replies are held, or the batch may have no space for one more entry
abbrev pub IsDue : List ℕ → List ℕ → List (List ℕ) → Type 0
IsDue at_hand held waiting =
    (holds_pair at_hand ≡ false) ⊎ ((2 ^ 20 ≤ length held) ⊎ (2 ^ 22 < length (at_rest waiting) + block_bytes_max))

-- what ends serving after all that came before it: no frame was read, or a pair for which there is no time
abbrev pub IsStop : KeepFault → State → Input → Input → Type 0
IsStop (keep.Serving (run.Frame fault)) S middle after = ReadsNoPair (Err fault) middle after
IsStop (keep.Serving run.TimeExhausted) S middle after = (p : Pair) × Reads (p ∷ []) middle after × IsUntimely S p
IsStop fault S middle after = ⊥

-- nothing more was read, or the end, or what ends serving
abbrev pub Pauses : State → Input → Input → Type 0
Pauses S middle after = (after ≡ middle) ⊎ (ReadsNoPair (Ok None) middle after ⊎ ((fault : KeepFault) × IsStop fault S middle after))

-- why a journal refuses a record of these bytes: it is too long, the journal would be, or there is no memory
abbrev pub RefusesRecord : {D : Type 0} → JournalFault → Kept D → List ℕ → Type 0
RefusesRecord Memory journal bytes = Unit {0}
RefusesRecord TooLong journal bytes = 2 ^ 24 ≤ length bytes
RefusesRecord Full journal bytes = 2 ^ 62 < journal.end + length (at_rest journal.waiting) + 11 + length bytes
RefusesRecord fault journal bytes = ⊥

-- one more pair was read, which is new and has a time, and the journal refused the record of its entry
pub record IsUnrecorded {D : Type 0} (fault : JournalFault) (S : State) (journal : Kept D) (middle after : Input) : Type 0 where
  pub pair : Pair
  pub read : Reads (pair ∷ []) middle after
  pub new : is_new_in S pair ≡ true
  pub time : has_time S pair ≡ true
  pub refused : RefusesRecord fault journal (dumped (entry_of S pair))

module _ (tells : Type 0) {D : Type 0} (disk : D → Disk) where
  -- one round: its pairs are read, and none is waited for while a reply is held back. While the file grows nothing is sent; while the replies are
  -- sent the file stays, and then no reply is held back. A batch is short
  pub record Round (ps : List Pair) (before after : Standing D) : Type 0 where
    pub prompt : ReadsPromptly before.output.held ps before.input after.input
    pub served : AreServed before.state ps
    pub state : after.state ≡ state_from before.state ps
    pub commits : tells → Commits (records_from before.state ps) (disk before.device) (disk after.device)
    pub short : length (at_rest (records_from before.state ps)) ≤ 2 ^ 22
    pub told : Sent (reply_bytes_from before.state ps) before.output after.output
    pub passed : after.output.held ≡ false

  -- rounds one after another, each of which ends when that is due
  abbrev pub Rounds : List (List Pair) → Standing D → Standing D → Type 0
  Rounds [] before after = after ≡ before
  Rounds (ps ∷ rounds) before after =
      (middle : Standing D) × Round ps before middle × Rounds rounds middle after
      × (tells → IsDue middle.input.at_hand (reply_bytes_from before.state ps) (records_from before.state ps))

  -- the file and the output stay: the entries of the pairs after the rounds were not committed
  pub record Quits (middle : Standing D) (device : D) (output : Output) : Type 0 where
    pub same : device ≡ middle.device
    pub silent : output ≡ middle.output

  -- the commit of one or more entries failed, for a cause: a crash leaves all of the batch or nothing of it, and nothing was sent
  pub record FailsCommit (fault : JournalFault) (ps : List Pair) (middle : Standing D) (device : D) (output : Output) : Type 0 where
    pub some : tells → records_from middle.state ps ≡ [] → ⊥
    pub cause : tells → HasFailed (disk middle.device) (disk device) fault
    pub any_moment : tells → LeavesOnly (disk middle.device) (disk device) (IsBeforeOrAfter (recorded (disk middle.device).seen) (records_from middle.state ps))
    pub short : length (at_rest (records_from middle.state ps)) ≤ 2 ^ 22
    pub silent : output ≡ middle.output

  -- the batch was committed, and the writer failed: a prefix of the replies was sent
  pub record BreaksOff (ps : List Pair) (middle : Standing D) (device : D) (output : Output) : Type 0 where
    pub commits : tells → Commits (records_from middle.state ps) (disk middle.device) (disk device)
    pub short : length (at_rest (records_from middle.state ps)) ≤ 2 ^ 22
    pub cut : CutOff (reply_bytes_from middle.state ps) middle.output output

  -- how serving ends after rounds, with the pairs ps that were read since: what was read after these (from input to last), what became of them, and
  -- the cause
  abbrev pub EndsServing : Result ℕ KeepFault → ℕ → List Pair → Standing D → Keeping D → Input → Input → Output → Type 0
  -- the end was read, and all is sent
  EndsServing (Ok k) count ps middle keeper input last output =
      (k ≡ count) × ReadsNoPair (Ok None) input last × Round ps middle (standing_of keeper input output)
  -- no frame was read, and all before it is sent; or the writer failed, and a prefix of the last replies is sent
  EndsServing (Err (keep.Serving (run.Frame fault))) count ps middle keeper input last output =
      (ReadsNoPair (Err fault) input last × Round ps middle (standing_of keeper input output))
      ⊎ ((fault ≡ Device) × Pauses (state_from middle.state ps) input last × BreaksOff ps middle keeper.journal.device output)
  -- a pair was read for which there is no time, and all before it is sent
  EndsServing (Err (keep.Serving run.TimeExhausted)) count ps middle keeper input last output =
      IsStop (keep.Serving run.TimeExhausted) (state_from middle.state ps) input last × Round ps middle (standing_of keeper input output)
  -- one more pair was read, for which there is no memory: these pairs are lost
  EndsServing (Err (keep.Serving run.NoMemory)) count ps middle keeper input last output =
      ((p : Pair) × Reads (p ∷ []) input last) × Quits middle keeper.journal.device output
  -- so many pairs were read that they cannot be counted: these pairs are lost
  EndsServing (Err (keep.Serving run.TooLong)) count ps middle keeper input last output =
      (count ≡ 2 ^ 64 - 1) × (last ≡ input) × Quits middle keeper.journal.device output
  -- the record of one more pair was refused, and these pairs are lost; or their commit failed
  EndsServing (Err (keep.Journal fault)) count ps middle keeper input last output =
      (IsUnrecorded fault (state_from middle.state ps) keeper.journal input last × Quits middle keeper.journal.device output)
      ⊎ (Pauses (state_from middle.state ps) input last × FailsCommit fault ps middle keeper.journal.device output)

  -- pairs were read and served in rounds, and more pairs were read after these; `ended` says what became of those and how serving ended
  pub record Served (result : Result ℕ KeepFault) (before after : Keeping D) (first last : Input) (start written : Output) : Type 0 where
    pub rounds : List (List Pair)
    pub more : List Pair
    pub standing : Standing D
    pub input : Input
    pub kept : Rounds rounds (standing_of before first start) standing
    pub served : AreServed standing.state more
    pub read : Reads (pairs_of rounds ++ more) first input
    pub prompt : ReadsPromptly standing.output.held more standing.input input
    -- nothing was read after these pairs, or nothing is held back, or a pair was buffered whole
    pub asked : (last ≡ input) ⊎ IsPrompt (is_held standing.output.held more) input
    pub ended : EndsServing result (length (pairs_of rounds ++ more)) more standing after input last written
