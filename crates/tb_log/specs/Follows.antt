-- What a follower makes of a reader and a writer: items were taken one after another, and then the input ended or a fault occurred.
use Rattle.std.specs.Prelude.{ℕ, true, false, ◌≡◌, ◌≢◌, ◌⊎◌, ◌+◌, ◌-◌, ◌^◌, ◌≤◌, List, [], ◌∷◌, ◌++◌, length, fold, Result, Ok, Err}
use Rattle.std.specs.Io.KnownBytes.{Consumes, IsAtEnd}
use Rattle.tb_records.specs.declared.limits.Profile.{Profile}
use Rattle.tb_records.specs.Ordered.{Each}
use Rattle.tb_records.specs.ReplyFrames.{IsReply}
use Rattle.tb_records.specs.Inputs.{IsTimed, timed_bytes}
use Rattle.tb_records.specs.Transport.{Input, Output, Sent, CutOff}
use Rattle.tb_machine.specs.Histories.{State}
use Rattle.tb_machine.specs.Scripts.{Pair}
use Rattle.tb_machine.specs.Runs.{IsUntimely, IsTimely}
use Rattle.tb_log.specs.declared.faults.LogFault.{LogFault}
use Rattle.tb_log.specs.declared.faults.LogFault.TheVariants.{Device, NoMemory, UnknownKind, TimeExhausted, TooMany}
use Rattle.tb_log.specs.Format.{content_max, content_of, log_entry_bytes, question_bytes, reply_item, standing_item}
use Rattle.tb_log.specs.Following.{Following, begun_following, pair_answer, with_logged_pair, with_content, AreAnswered, numbered_replies, Item, Entry, Question, after_items, bytes_of, given, AllAnswered}
use Rattle.tb_log.specs.Entries.{ReaderFails, IsPairs, RefusesEntry}

-- one pair of an entry

-- a pair is answered with its index; if the writer failed, a prefix of the answer was written, and on any other fault nothing
abbrev pub AnswersIndexed : ℕ → Result (Unit {0}) LogFault → Following → Following → Pair → Output → Output → Type 0
AnswersIndexed index (Ok done) F G p before after =
    IsTimely F.state p × IsReply (pair_answer F p) × (G ≡ with_logged_pair F p) × Sent (reply_item F.position index (pair_answer F p)) before after
AnswersIndexed index (Err Device) F G p before after = CutOff (reply_item F.position index (pair_answer F p)) before after
AnswersIndexed index (Err NoMemory) F G p before after = after ≡ before
AnswersIndexed index (Err (TimeExhausted at)) F G p before after = (at ≡ F.position) × IsUntimely F.state p × (after ≡ before)
AnswersIndexed index (Err fault) F G p before after = ⊥

-- the content of an entry

-- the first pairs of the content were answered, and the rest of it is left
pub record ServesItems (ps : List Pair) (F G : Following) (content left : List ℕ) (before after : Output) : Type 0 where
  pub spelled : content ≡ content_of ps ++ left
  pub fit : Each IsTimed ps
  pub state : G ≡ fold with_logged_pair F ps
  pub answered : AreAnswered F ps
  pub sent : Sent (numbered_replies F 0 ps) before after

-- the next pair cannot be answered
pub record IsUnanswered (fault : LogFault) (index : ℕ) (F : Following) (left : List ℕ) (before after : Output) : Type 0 where
  pub pair : Pair
  pub rest : List ℕ
  pub spelled : left ≡ timed_bytes pair ++ rest
  pub later : Following
  pub stop : AnswersIndexed index (Err fault) F later pair before after

-- a fault among the pairs of an entry: there is no memory to read the next pair, or it is not answered
pub record Stops (fault : LogFault) (F : Following) (content : List ℕ) (before after : Output) : Type 0 where
  pub pairs : List Pair
  pub now : Following
  pub left : List ℕ
  pub middle : Output
  pub served : ServesItems pairs F now content left before middle
  pub stop : ((fault ≡ NoMemory) × (after ≡ middle)) ⊎ IsUnanswered fault (length pairs) now left middle after

-- items

-- the numbers of each pair fit, and the content of each entry is short enough
abbrev pub ItemFits : Item → Type 0
ItemFits (Entry ps) = (length (content_of ps) ≤ content_max) × Each IsTimed ps
ItemFits Question = Unit {0}

-- a byte that begins no item
pub record IsUnknown (fault : LogFault) (before after : Input) : Type 0 where
  pub kind : ℕ
  pub byte : Consumes before.left after.left (kind ∷ [])
  pub entry : kind ≢ 1
  pub question : kind ≢ 2
  pub fault_is : fault ≡ UnknownKind kind
  pub counted : after.failed ≡ before.failed

-- an entry that is refused: nothing of it is served
pub record IsEntryRefused (fault : LogFault) (F : Following) (before after : Input) : Type 0 where
  pub middle : Input
  pub kind : Consumes before.left middle.left (1 ∷ [])
  pub counted : middle.failed ≡ before.failed
  pub refused : RefusesEntry fault F.position middle after

-- an entry whose pairs are not all served
pub record IsStopped (fault : LogFault) (F : Following) (before after : Input) (start written : Output) : Type 0 where
  pub content : List ℕ
  pub few : length content ≤ content_max
  pub whole : IsPairs content
  pub read : Consumes before.left after.left (log_entry_bytes (F.position + 1) content)
  pub counted : after.failed ≡ before.failed
  pub stops : Stops fault (with_content F content) content start written

-- a question that is not answered
pub record LeavesQuestion (fault : LogFault) (F : Following) (before after : Input) (start written : Output) : Type 0 where
  pub read : Consumes before.left after.left question_bytes
  pub counted : after.failed ≡ before.failed
  pub failed : ((fault ≡ NoMemory) × (written ≡ start)) ⊎ ((fault ≡ Device) × CutOff (standing_item F.position F.log F.replies) start written)

-- a fault of the next item
abbrev pub RefusesNextItem : LogFault → Following → Input → Input → Output → Output → Type 0
RefusesNextItem fault F before after start written =
    ((ReaderFails fault before after ⊎ IsUnknown fault before after ⊎ IsEntryRefused fault F before after) × (written ≡ start))
    ⊎ IsStopped fault F before after start written
    ⊎ LeavesQuestion fault F before after start written

-- the faults that do not come from an item: no memory for the machine, and too many items to count
abbrev pub Halts : LogFault → List Item → Type 0
Halts NoMemory items = items ≡ []
Halts TooMany items = length items ≡ 2 ^ 64 - 1
Halts fault items = ⊥

-- what ended it after the items: the end of the input, with the position of the last entry; or a fault
abbrev pub Ended : Result ℕ LogFault → List Item → Following → Input → Input → Output → Output → Type 0
Ended (Ok position) items F before after start written =
    (position ≡ F.position) × Consumes before.left after.left [] × IsAtEnd after.left × (after.failed ≡ before.failed) × (written ≡ start)
Ended (Err fault) items F before after start written =
    RefusesNextItem fault F before after start written
    ⊎ (Halts fault items × (after ≡ before) × (written ≡ start))

-- a whole run: some items were read and answered, and then it ended
pub record Followed (profile : Profile) (clients_max : ℕ) (result : Result ℕ LogFault) (before after : Input) (start written : Output) : Type 0 where
  pub items : List Item
  pub middle : Input
  pub made : Output
  pub fit : Each ItemFits items
  pub read : Consumes before.left middle.left (bytes_of (begun_following profile clients_max) items)
  pub counted : middle.failed ≡ before.failed
  pub answered : AllAnswered (begun_following profile clients_max) items
  pub sent : Sent (given (begun_following profile clients_max) items) start made
  pub ended : Ended result items (after_items (begun_following profile clients_max) items) middle after made written
