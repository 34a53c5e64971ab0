-- A run whose input and devices have no faults: each pair gets its reply, and nothing else is written.
use Rattle.std.specs.Prelude.{ℕ, ◌≡◌, ◌≢◌, ◌-◌, ◌^◌, ◌<◌, List, [], length, Some, Result, Ok, Err}
use Rattle.std.specs.Io.KnownBytes.{Appends}
use Rattle.std.specs.List.{flat_map}
use Rattle.tb_records.specs.declared.faults.FrameFault.TheVariants as frame
use Rattle.tb_records.specs.declared.limits.Profile.{Profile}
use Rattle.tb_records.specs.Inputs.{timed_bytes, IsTimed}
use Rattle.tb_records.specs.Ordered.{Each}
use Rattle.tb_records.specs.ReplyFrames.{reply_bytes}
use Rattle.tb_records.specs.Transport.{Input, Output}
use Rattle.tb_machine.specs.declared.serving.RunFault.{RunFault}
use Rattle.tb_machine.specs.declared.serving.RunFault.TheVariants as fault
use Rattle.tb_machine.specs.Histories.{after}
use Rattle.tb_machine.specs.Scripts.{Pair, replies_to}
use Rattle.tb_machine.specs.Runs.{HasTimes}

-- neither device ever failed, and memory did not run out
pub record NothingFails (result : Result ℕ RunFault) (last : Input) (written : Output) : Type 0 where
  pub reader : last.failed ≡ 0
  pub writer : (written.failed ≡ 0) × (written.stalled ≡ 0)
  pub memory : (result ≢ Err fault.NoMemory) × (result ≢ Err (fault.Frame frame.NoMemory))

module _ (profile : Profile) (clients_max : ℕ) where
  -- the whole input is these pairs: their numbers fit their fields, and each pair that is new in its turn has a time
  pub record IsWhole (ps : List Pair) (input : Input) : Type 0 where
    pub bytes_are : input.left ≡ Some (flat_map timed_bytes ps)
    pub pairs : Each IsTimed ps
    pub times : HasTimes (after profile clients_max) [] ps
    pub few : length ps < 2 ^ 64 - 1

  -- the whole input was read, and the replies were written
  pub record AnsweredAll (ps : List Pair) (result : Result ℕ RunFault) (last : Input) (start written : Output) : Type 0 where
    pub counted : result ≡ Ok (length ps)
    pub read : last.left ≡ Some []
    pub wrote : Appends start.written written.written (flat_map reply_bytes (replies_to profile clients_max ps))

  abbrev pub RanPlain : Result ℕ RunFault → Input → Input → Output → Output → Type 0
  RanPlain result first last start written = (ps : List Pair) → IsWhole ps first → NothingFails result last written → AnsweredAll ps result last start written
