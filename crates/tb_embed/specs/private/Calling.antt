-- The parts of a call over a client's session.
use Rattle.std.specs.Prelude.{ℕ, ◌≡◌, ◌⊎◌, ◌<◌, List, Result, Ok, Err, None}
use Rattle.tb_records.specs.Messages.{Message}
use Rattle.tb_records.specs.Frames.{Spells}
use Rattle.tb_caller.specs.declared.callers.Phase.{Phase}
use Rattle.tb_caller.specs.declared.callers.Phase.TheVariants.{Unregistered, Idle}
use Rattle.tb_caller.specs.declared.faults.CallFault.TheVariants as call
use Rattle.tb_caller.specs.Clients.{Client, field_fault}
use Rattle.tb_embed.specs.Calls.{IsMalformed}
use Rattle.tb_embed.specs.Callers.{HasFrame, IsClient, Checks, phase_number}
use Rattle.tb_embed.specs.declared.steps.Step.{Step}
use Rattle.tb_embed.specs.declared.steps.Step.TheVariants as step
use Rattle.tb_embed.specs.declared.steps.TbCaller.{TbCaller}

-- the request of one whole frame
abbrev pub ReadsWholeFrame : Result Message Step → List ℕ → Type 0
ReadsWholeFrame (Ok r) bytes = Spells bytes r
ReadsWholeFrame (Err step.Malformed) bytes = IsMalformed bytes
ReadsWholeFrame (Err step.NoMemory) bytes = Unit {0}
ReadsWholeFrame (Err other) bytes = ⊥

-- the same for a frame that is kept
abbrev pub ReadsKept : Result Message Step → List ℕ → Type 0
ReadsKept (Ok r) bytes = Spells bytes r
ReadsKept (Err step.NoClient) bytes = IsMalformed bytes
ReadsKept (Err step.NoMemory) bytes = Unit {0}
ReadsKept (Err other) bytes = ⊥

-- the phase of a number, with the request of the frame
abbrev pub ReadsPhase : Result Phase Step → ℕ → List ℕ → Type 0
ReadsPhase (Ok p) n frame = (n ≡ phase_number p) × HasFrame frame p
ReadsPhase (Err step.NoClient) n frame = (3 < n) ⊎ IsMalformed frame
ReadsPhase (Err step.NoMemory) n frame = Unit {0}
ReadsPhase (Err other) n frame = ⊥

-- the client that is kept; or why it is not one
abbrev pub ReadsClient : Result Client Step → TbCaller → List ℕ → Type 0
ReadsClient (Ok c) kept frame = IsClient kept frame c × (field_fault c ≡ None)
ReadsClient (Err step.Malformed) kept frame = ⊥
ReadsClient (Err (step.Done n)) kept frame = ⊥
ReadsClient (Err other) kept frame = Checks other kept frame

-- the phase of a number in which a request may be made
abbrev pub IsResting : Result Phase Step → ℕ → Type 0
IsResting (Ok p) n = (n ≡ phase_number p) × ((p ≡ Unregistered) ⊎ (p ≡ Idle))
IsResting (Err (step.NoCall call.Unanswered)) n = n ≡ 1
IsResting (Err (step.NoCall call.Ended)) n = n ≡ 3
IsResting (Err step.NoClient) n = 3 < n
IsResting (Err other) n = ⊥

-- the numbers of a client replace those that were kept, except its id
abbrev pub stored : TbCaller → Client → TbCaller
stored kept c = record { id_low = kept.id_low; id_high = kept.id_high; session = c.session; last = c.last; phase = phase_number c.phase }
