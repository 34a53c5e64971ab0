-- At each moment of serving: the file that a crash may leave then, and the bytes that were sent by then.
use Rattle.std.specs.Prelude.{ℕ, ◌≡◌, ◌⊎◌, List, [], ◌∷◌, ◌++◌, Result}
use Rattle.std.specs.Io.KnownBytes.{Appends}
use Rattle.tb_records.specs.Transport.{Input, Output, Sent}
use Rattle.tb_file_journal.specs.Device.{Disk}
use Rattle.tb_machine.specs.Scripts.{Pair}
use Rattle.tb_file.specs.declared.faults.KeepFault.{KeepFault}
use Rattle.tb_file.specs.Keeping.{History, history_state, longer, IsLedger, Keeping, Keeps}
use Rattle.tb_file.specs.Rounds.{entries_from, records_from, reply_bytes_from, AreServed, pairs_of, Commits, Standing, standing_of, Rounds, Served}

-- the file has the history with the entries of some first pairs, and the bytes are a prefix of the replies to these pairs: so the entry of each
-- reply that was sent is in the file
pub record AtAMoment (h : History) (all : List Pair) (file bytes : List ℕ) : Type 0 where
  pub pairs : List Pair
  pub others : List Pair
  pub all_are : all ≡ pairs ++ others
  pub file_is : IsLedger (longer h (entries_from (history_state h) pairs)) file
  pub unsent : List ℕ
  pub replies : reply_bytes_from (history_state h) pairs ≡ bytes ++ unsent

-- the moments of a round
pub data Moment : Type 0 where
  Committing : Moment  -- its batch is committed, and nothing is sent
  Replying : (sent : List ℕ) → Moment  -- after the commit, when these bytes of its replies were sent

abbrev pub sent_by : Moment → List ℕ
sent_by Committing = []
sent_by (Replying sent) = sent

-- the pairs that were read; none of them is acknowledged without its entry
abbrev pub all_pairs : {tells : Type 0} {D : Type 0} {disk : D → Disk} {result : Result ℕ KeepFault} {before after : Keeping D} {first last : Input} {start written : Output}
    → Served tells disk result before after first last start written → List Pair
all_pairs served = pairs_of served.rounds ++ served.more

module _ (tells : Type 0) {D : Type 0} (disk : D → Disk) where
  -- what a crash may leave at a moment of the round of these pairs, at whose end the device is `after`
  abbrev pub MayLeave : Moment → List Pair → Standing D → D → List ℕ → Type 0
  MayLeave Committing ps before after file = (disk after).left_since (disk before.device).moment file
  MayLeave (Replying sent) ps before after file =
      Commits (records_from before.state ps) (disk before.device) (disk after) × (disk after).may_leave file
      × ((unsent : List ℕ) × (reply_bytes_from before.state ps ≡ sent ++ unsent))

  -- a file that a crash may leave in the round, and what was sent by then, in earlier rounds too
  pub record InRound (ps : List Pair) (before : Standing D) (after : D) (earlier file bytes : List ℕ) : Type 0 where
    pub moment : Moment
    pub may_leave : MayLeave moment ps before after file
    pub bytes_are : bytes ≡ earlier ++ sent_by moment

  -- the same in one of some rounds
  abbrev pub InRounds : (rounds : List (List Pair)) (before after : Standing D) → Rounds tells disk rounds before after → List ℕ → List ℕ → List ℕ → Type 0
  InRounds [] before after kept earlier file bytes = ⊥
  InRounds (ps ∷ rounds) before after kept earlier file bytes =
      InRound ps before kept.0.device earlier file bytes
      ⊎ InRounds rounds kept.0 after kept.2 (earlier ++ reply_bytes_from before.state ps) file bytes

  -- the same at a moment of `keep`: in its rounds, or in what came after them
  abbrev pub AmidServing : {result : Result ℕ KeepFault} {before after : Keeping D} {first last : Input} {start written : Output}
      → Served tells disk result before after first last start written → List ℕ → List ℕ → Type 0
  AmidServing {before = before} {after = after} {first = first} {start = start} served file bytes =
      InRounds served.rounds (standing_of before first start) served.standing served.kept [] file bytes
      ⊎ InRound served.more served.standing after.journal.device (reply_bytes_from before.state (pairs_of served.rounds)) file bytes

  abbrev pub AtEachMoment : Type 0
  AtEachMoment = (h : History) (result : Result ℕ KeepFault) (before after : Keeping D) (first last : Input) (start written : Output) (file bytes : List ℕ)
      → tells → Keeps disk h before → (served : Served tells disk result before after first last start written)
      → AmidServing served file bytes
      → AtAMoment h (all_pairs served) file bytes

  -- and at the end, with all bytes that were written
  abbrev pub AtTheEnd : Type 0
  AtTheEnd = (h : History) (result : Result ℕ KeepFault) (before after : Keeping D) (first last : Input) (start written : Output) (file : List ℕ)
      → tells → Keeps disk h before → (served : Served tells disk result before after first last start written)
      → (disk after.journal.device).may_leave file
      → (bytes : List ℕ) × Appends start.written written.written bytes × AtAMoment h (all_pairs served) file bytes

  -- what was written until then are the replies to the pairs of these rounds
  abbrev pub RepliesToTheDone : Type 0
  RepliesToTheDone = (done : List (List Pair)) (first before : Standing D) → Rounds tells disk done first before
      → Sent (reply_bytes_from first.state (pairs_of done)) first.output before.output

  -- the pairs that were read are served one after another
  abbrev pub AllServed : Type 0
  AllServed = (result : Result ℕ KeepFault) (before after : Keeping D) (first last : Input) (start written : Output)
      → (served : Served tells disk result before after first last start written) → AreServed before.state (all_pairs served)
