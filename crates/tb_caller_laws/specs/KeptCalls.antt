-- A client of a ledger in a file, across crashes.
use Rattle.std.specs.Prelude.{ℕ, ◌≡◌, ◌⊎◌, List, [], ◌∷◌}
use Rattle.tb_records.specs.Messages.{Message, Answer}
use Rattle.tb_records.specs.Ordered.{Each}
use Rattle.tb_machine.specs.Scripts.{Pair}
use Rattle.tb_machine.specs.Histories.{after}
use Rattle.tb_file.specs.Keeping.{History, history_state, IsKeepable, IsLedger}
use Rattle.tb_file.specs.Rounds.{AreServed}
use Rattle.tb_file.specs.Moments.{AtAMoment}
use Rattle.tb_caller.specs.Endpoints.{IsAmong}
use Rattle.tb_caller.specs.Streams.{IsReadIn}
use Rattle.tb_caller.specs.Calls.{AreOfOne, IsTaken, NoneInvented, CallsHold}

-- a run over a file: all pairs that it read, and, when it ended or crashed, its file and the bytes that it had sent
pub record Run : Type 0 where
  pub all : List Pair
  pub file : List ℕ
  pub bytes : List ℕ

-- the reply was read from what one of the runs sent
abbrev pub WasSentIn : List Run → Answer → Type 0
WasSentIn [] a = ⊥
WasSentIn (r ∷ runs) a = IsReadIn r.bytes a ⊎ WasSentIn runs a

-- it began with the history, and all that it acknowledged is in the file that it left
pub record IsRunFrom (h : History) (r : Run) : Type 0 where
  pub served : AreServed (history_state h) r.all
  pub left : AtAMoment h r.all r.file r.bytes

-- runs one after another: each begins with what the file of the one before it represents
abbrev pub AreRuns : History → List Run → History → Type 0
AreRuns h [] k = h ≡ k
AreRuns h (r ∷ runs) k = (m : History) × IsRunFrom h r × IsLedger m r.file × AreRuns m runs k

abbrev pub AcrossCrashes : Type 0
AcrossCrashes = (h k : History) (runs : List Run) (id : ℕ) (sent : List Message) (returned : List (Message × Answer))
    → IsKeepable h
    → AreRuns h runs k
    → AreOfOne id sent
    → NoneInvented id sent h.entries
    → Each (λ (r : Run). Each (λ (p : Pair). p.1.client ≡ id → IsAmong p.1 sent) r.all) runs
    → Each (IsTaken sent) returned
    → Each (λ (p : Message × Answer). WasSentIn runs p.1) returned
    → CallsHold (after k.profile k.clients_max) id k.entries sent returned
