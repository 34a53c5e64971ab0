-- The result of serving a script: the pairs that were read, the replies that were written, and what ended it.
use Rattle.std.specs.Prelude.{ℕ, Bool, true, false, ◌≡◌, ◌-◌, ◌^◌, List, [], ◌∷◌, ◌++◌, length, Option, IfSome, Result, Ok, Err}
use Rattle.std.specs.List.{flat_map}
use Rattle.tb_records.specs.declared.faults.FrameFault.TheVariants.{Device}
use Rattle.tb_records.specs.declared.limits.Profile.{Profile}
use Rattle.tb_records.specs.Ordered.{Each}
use Rattle.tb_records.specs.ReplyFrames.{reply_bytes, IsReply}
use Rattle.tb_records.specs.Inputs.{timed_bytes, IsTimed, TimedAnswers}
use Rattle.tb_records.specs.Transport.{Input, Output, IsOfBytes, FaultCounts, Sent, CutOff}
use Rattle.tb_sessions.specs.Judged.{class_of}
use Rattle.tb_machine.specs.declared.entries.Entry.{Entry}
use Rattle.tb_machine.specs.declared.serving.RunFault.{RunFault}
use Rattle.tb_machine.specs.declared.serving.RunFault.TheVariants as fault
use Rattle.tb_machine.specs.Histories.{State, is_new, after, answer_to}
use Rattle.tb_machine.specs.Scripts.{Pair, has_time, after_pair, grown, accepted, replies_to}
use Rattle.tb_machine.specs.Worked.{EndsBy, Worked, items_taken}

-- pairs that a reader's bytes encode, one after another
abbrev pub Spell : List Pair → Option (List ℕ) → Option (List ℕ) → Type 0
Spell ps before after = IsOfBytes (λ bytes rest. (bytes ≡ flat_map timed_bytes ps ++ rest) × Each IsTimed ps) before after

-- the pairs were read, and no error was counted
pub record Reads (ps : List Pair) (before after : Input) : Type 0 where
  pub spelled : Spell ps before.left after.left
  pub counted : after.failed ≡ before.failed

-- one pair

abbrev pub is_new_in : State → Pair → Bool
is_new_in S p = is_new (class_of S.rows p.1)

-- if its request is new, there is a time for it
abbrev pub IsTimely : State → Pair → Type 0
IsTimely S p = is_new (class_of S.rows p.1) ≡ true → has_time S p ≡ true

-- a pair is new, but there is no time left for it
abbrev pub IsUntimely : State → Pair → Type 0
IsUntimely S p = (is_new_in S p ≡ true) × (has_time S p ≡ false)

-- the encoding of the reply to a pair
abbrev pub answer_bytes : State → Pair → List ℕ
answer_bytes S p = reply_bytes (answer_to (after_pair S p) p.1)

-- a pair gets its reply: the reply of its entry once that is entered, or otherwise the current answer to its request. The numbers of the reply fit,
-- so that what is written is read as exactly that reply. If the reply could not be written, the machine has moved on all the same, and a repeat gets
-- that reply
abbrev pub AnswersPair : Result (Unit {0}) RunFault → State → State → Pair → Output → Output → Type 0
AnswersPair (Ok done) S T p before after = IsTimely S p × (T ≡ after_pair S p) × Sent (answer_bytes S p) before after × IsReply (answer_to (after_pair S p) p.1)
AnswersPair (Err (fault.Frame f)) S T p before after = IsTimely S p × (T ≡ after_pair S p) × (f ≡ Device) × CutOff (answer_bytes S p) before after
AnswersPair (Err fault.NoMemory) S T p before after = (is_new_in S p ≡ true) × (has_time S p ≡ true) × (T ≡ S) × (after ≡ before)
AnswersPair (Err fault.TimeExhausted) S T p before after = (is_new_in S p ≡ true) × (has_time S p ≡ false) × (T ≡ S) × (after ≡ before)
AnswersPair (Err fault.TooLong) S T p before after = ⊥

-- the reader's result for the next pair
abbrev pub PairAnswered : Result (Option Pair) RunFault → Input → Input → Type 0
PairAnswered (Ok pair) before after = IfSome pair IsTimed × TimedAnswers (Ok pair) before.left after.left × (after.failed ≡ before.failed)
PairAnswered (Err (fault.Frame f)) before after = TimedAnswers (Err f) before.left after.left × FaultCounts f before after
PairAnswered (Err f) before after = ⊥

-- a script

-- each pair that is new in its turn, in the state after the history so far, has a time
abbrev pub HasTimes : (List Entry → State) → List Entry → List Pair → Type 0
HasTimes state h [] = Unit {0}
HasTimes state h (p ∷ ps) = IsTimely (state h) p × HasTimes state (grown state h p) ps

module _ (profile : Profile) (clients_max : ℕ) where
  -- the state after pairs
  abbrev pub state_after : List Pair → State
  state_after ps = after profile clients_max (accepted profile clients_max [] ps)

  -- the bytes encode the replies to the pairs
  pub record Replies (ps : List Pair) (bytes : List ℕ) : Type 0 where
    pub times : HasTimes (after profile clients_max) [] ps
    pub bytes_are : bytes ≡ flat_map reply_bytes (replies_to profile clients_max ps)
    pub spelled : Each IsReply (replies_to profile clients_max ps)

  -- the faults that do not come from a pair: no memory for the machine, and too many pairs to count
  abbrev pub RunHalts : RunFault → List Pair → Type 0
  RunHalts fault.NoMemory ps = ps ≡ []
  RunHalts fault.TooLong ps = length ps ≡ 2 ^ 64 - 1
  RunHalts f ps = ⊥

  -- a whole run: some pairs were read and got their replies, and then the input ended, or a fault occurred
  abbrev pub Ran : Result ℕ RunFault → Input → Input → Output → Output → Type 0
  Ran = Worked Reads Replies (EndsBy PairAnswered AnswersPair (items_taken length state_after RunHalts))
