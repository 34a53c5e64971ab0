-- What a follower's steps do. Only private functions use it.
use Rattle.std.specs.Prelude.{ℕ, true, false, ◌≡◌, ◌≢◌, ◌⊎◌, ◌≤◌, ◌<◌, Bool, List, [], ◌∷◌, ◌++◌, length, take, Option, Some, None, Result, Ok, Err, MatchOption, MatchResult, Vec}
use Rattle.std.specs.Io.KnownBytes.{Consumes, IsAtEnd}
use Rattle.std.specs.declared.alloc.Global.{Global}
use Rattle.tb_records.specs.Ordered.{Each}
use Rattle.tb_records.specs.ReplyFrames.{IsReply}
use Rattle.tb_records.specs.Inputs.{IsTimed}
use Rattle.tb_records.specs.Transport.{Input, Output, Sent, CutOff}
use Rattle.tb_machine.specs.Histories.{State, answer_to}
use Rattle.tb_machine.specs.Scripts.{Pair, after_pair}
use Rattle.tb_machine.specs.Runs.{IsUntimely, IsTimely, answer_bytes}
use Rattle.tb_log.specs.declared.faults.LogFault.{LogFault}
use Rattle.tb_log.specs.declared.faults.LogFault.TheVariants.{Device, NoMemory, Damaged, TimeExhausted}
use Rattle.tb_log.specs.declared.entries.Head.{Head}
use Rattle.tb_log.specs.Format.{content_of, numbers, checksum_of, standing_item, number_bytes}
use Rattle.tb_log.specs.Following.{Following, with_content, Item, Entry, with_item, item_bytes, given_to, IsItemAnswered}
use Rattle.tb_log.specs.Entries.{ReaderFails, IsCutShort, IsPairs, ReadsEntry, RefusesEntry}
use Rattle.tb_log.specs.Follows.{AnswersIndexed, ServesItems, Stops, ItemFits, RefusesNextItem}

-- reading

-- the first n bytes of a buffer came from the reader: all of it, or all that was left
pub record IsFilledBy (n : ℕ) (buffer : List ℕ) (before after : Input) : Type 0 where
  pub within : n ≤ length buffer
  pub bytes : Consumes before.left after.left (take n buffer)
  pub end : n < length buffer → IsAtEnd after.left
  pub counted : after.failed ≡ before.failed

-- exactly these bytes were read
pub record ReadsOnly (bytes : List ℕ) (before after : Input) : Type 0 where
  pub consumed : Consumes before.left after.left bytes
  pub counted : after.failed ≡ before.failed

-- the input ended within n bytes
pub record EndsWithin (n : ℕ) (fault : LogFault) (before after : Input) : Type 0 where
  pub bytes : List ℕ
  pub few : length bytes < n
  pub cut : IsCutShort fault bytes before after

-- so many bytes were not read: the input ended within them, or the reader failed
abbrev pub Misses : ℕ → LogFault → Input → Input → Type 0
Misses n fault before after = ReaderFails fault before after ⊎ EndsWithin n fault before after

-- the n bytes of a value were read
abbrev pub ReadsValue : {X : Type 0} → ℕ → (X → List ℕ) → Result X LogFault → Input → Input → Type 0
ReadsValue n bytes_of result before after = MatchResult result (λ x. ReadsOnly (bytes_of x) before after) (λ fault. Misses n fault before after)

-- all bytes of a buffer were read
abbrev pub FillsBuffer : List ℕ → Result (Unit {0}) LogFault → Input → Input → Type 0
FillsBuffer buffer result before after = ReadsValue (length buffer) (λ _. buffer) result before after

-- bytes into memory that is allocated before the first is read
abbrev pub ReadsBytes : ℕ → Result (Vec ℕ Global) LogFault → Input → Input → Type 0
ReadsBytes n (Ok bytes) before after = ReadsOnly bytes.items before after
ReadsBytes n (Err fault) before after = Misses n fault before after ⊎ ((fault ≡ NoMemory) × (after ≡ before))

-- the first byte of an item was read, or there is no next item
abbrev pub BeginsItem : Result (Option ℕ) LogFault → Input → Input → Type 0
BeginsItem (Ok None) before after = ReadsOnly [] before after × IsAtEnd after.left
BeginsItem (Ok (Some kind)) before after = ReadsOnly (kind ∷ []) before after
BeginsItem (Err fault) before after = ReaderFails fault before after

-- the result is exactly what is wrong with an entry's numbers
abbrev pub JudgesNumbers : Result (Unit {0}) LogFault → Option LogFault → Type 0
JudgesNumbers result wrong = MatchOption wrong (result ≡ Ok tt) (λ fault. result ≡ Err fault)

abbrev pub entry_head_bytes : Head → List ℕ
entry_head_bytes head = numbers head.position head.length ++ number_bytes 4 head.checksum

-- the content after an entry's numbers was read, and its checksum is right
pub record ReadsContent (head : Head) (content : List ℕ) (before after : Input) : Type 0 where
  pub long : length content ≡ head.length
  pub read : ReadsOnly content before after
  pub sum : head.checksum ≡ checksum_of head.position content

-- the content that was read is returned
abbrev pub GivesContent : Head → Input → Input → Vec ℕ Global → Type 0
GivesContent head before after bytes = ReadsContent head bytes.items before after

pub record MissesContent (head : Head) (fault : LogFault) (before after : Input) : Type 0 where
  pub content : List ℕ
  pub long : length content ≡ head.length
  pub read : ReadsOnly content before after
  pub wrong : head.checksum ≢ checksum_of head.position content
  pub fault_is : fault ≡ Damaged head.position

abbrev pub Loses : Head → LogFault → Input → Input → Type 0
Loses head fault before after =
    Misses head.length fault before after ⊎ MissesContent head fault before after ⊎ ((fault ≡ NoMemory) × (after ≡ before))

-- answering

-- the frame of the reply to a pair
abbrev pub Frames : List ℕ → Pair → State → State → Type 0
Frames frame p S T = IsTimely S p × (T ≡ after_pair S p) × (frame ≡ answer_bytes S p) × IsReply (answer_to (after_pair S p) p.1)

abbrev pub NoFrame : ℕ → LogFault → Pair → State → Type 0
NoFrame position NoMemory p S = Unit {0}
NoFrame position (TimeExhausted at) p S = (at ≡ position) × IsUntimely S p
NoFrame position fault p S = ⊥

-- a pair is answered to a writer
abbrev pub RepliesToPair : {W : Type 0} → (W → Output) → ℕ → Result (Unit {0}) LogFault → Following → Following → Pair → W → W → Type 0
RepliesToPair output index result F G p writer later = AnswersIndexed index result F G p (output writer) (output later)

-- bytes were written, or the device failed and left a prefix of them
abbrev pub WritesBytes : Result (Unit {0}) LogFault → List ℕ → Output → Output → Type 0
WritesBytes (Ok done) bytes before after = Sent bytes before after
WritesBytes (Err Device) bytes before after = CutOff bytes before after
WritesBytes (Err fault) bytes before after = ⊥

abbrev pub follower_standing : Following → List ℕ
follower_standing F = standing_item F.position F.log F.replies

-- a question was answered, or there was no memory, or the device failed
abbrev pub WritesStanding : Result (Unit {0}) LogFault → Following → Output → Output → Type 0
WritesStanding (Ok done) F before after = Sent (follower_standing F) before after
WritesStanding (Err Device) F before after = CutOff (follower_standing F) before after
WritesStanding (Err NoMemory) F before after = after ≡ before
WritesStanding (Err fault) F before after = ⊥

-- items

-- the pairs of an entry were all answered, or not
abbrev pub ServesContent : Result (Unit {0}) LogFault → Following → Following → List ℕ → Output → Output → Type 0
ServesContent (Ok done) F G content before after = (ps : List Pair) × ServesItems ps F G content [] before after
ServesContent (Err fault) F G content before after = Stops fault F content before after

-- an entry whose pairs are not all served
pub record StopsEntry (fault : LogFault) (F : Following) (before after : Input) (start written : Output) : Type 0 where
  pub content : List ℕ
  pub read : ReadsEntry content F.position before after
  pub whole : IsPairs content
  pub stops : Stops fault (with_content F content) content start written

-- an entry was read after its kind and served
pub record ServesEntry (F G : Following) (before after : Input) (start written : Output) : Type 0 where
  pub pairs : List Pair
  pub read : ReadsEntry (content_of pairs) F.position before after
  pub fit : Each IsTimed pairs
  pub answered : IsItemAnswered F (Entry pairs)
  pub state : G ≡ with_item F (Entry pairs)
  pub sent : Sent (given_to F (Entry pairs)) start written

abbrev pub TakesEntry : Result (Unit {0}) LogFault → Following → Following → Input → Input → Output → Output → Type 0
TakesEntry (Ok done) F G before after start written = ServesEntry F G before after start written
TakesEntry (Err fault) F G before after start written =
    (RefusesEntry fault F.position before after × (written ≡ start)) ⊎ StopsEntry fault F before after start written

-- an item was read and answered
pub record TakesItem (F G : Following) (before after : Input) (start written : Output) : Type 0 where
  pub item : Item
  pub fit : ItemFits item
  pub read : ReadsOnly (item_bytes F item) before after
  pub answered : IsItemAnswered F item
  pub state : G ≡ with_item F item
  pub sent : Sent (given_to F item) start written

-- there was no item
pub record TakesNone (F G : Following) (before after : Input) (start written : Output) : Type 0 where
  pub read : ReadsOnly [] before after
  pub end : IsAtEnd after.left
  pub state : G ≡ F
  pub silent : written ≡ start

abbrev pub TakesNextPair : Result Bool LogFault → Following → Following → Input → Input → Output → Output → Type 0
TakesNextPair (Ok true) F G before after start written = TakesItem F G before after start written
TakesNextPair (Ok false) F G before after start written = TakesNone F G before after start written
TakesNextPair (Err fault) F G before after start written = RefusesNextItem fault F before after start written
