-- A room for the bytes of a reply: how far it is filled, and how long the reply is.
use Rattle.std.specs.Prelude.{ℕ, true, false, ◌≡◌, ◌≤◌, Bool, List, ◌∷◌, length, take, Option, Some, Result, Ok, Err}
use Rattle.tb_records.specs.Transport.{Output}
use Rattle.tb_records.specs.ReplyFrames.{reply_bytes, IsReply, SpellsReply}
use Rattle.tb_sessions.specs.declared.rows.Row.{Row}
use Rattle.tb_sessions.specs.declared.classes.Class.{Class}
use Rattle.tb_sessions.specs.declared.classes.Class.TheVariants.{New, Repeat}
use Rattle.tb_machine.specs.declared.serving.RunFault.{RunFault}
use Rattle.tb_machine.specs.declared.serving.RunFault.TheVariants as fault
use Rattle.tb_machine.specs.Histories.{State, answer_to}
use Rattle.tb_machine.specs.Scripts.{Pair, has_time, after_pair}
use Rattle.tb_machine.specs.Runs.{is_new_in, IsTimely, answer_bytes}

-- a room as an output: what was written begins with its name, and no write fails
abbrev pub room_output : ℕ → ℕ → List ℕ → ℕ → Bool → Bool → Output
room_output name at bytes stalls halted held = record { written = Some (name ∷ take at bytes); failed = 0; stalled = stalls; halted = halted; held = held }

-- the answer fills the first n bytes of the room, and they are read only as that answer; or a prefix of the answer fills the room
abbrev pub FillsRoom : Result ℕ RunFault → State → State → Pair → List ℕ → Type 0
FillsRoom (Ok n) S T p room = IsTimely S p × (T ≡ after_pair S p) × (n ≤ length room) × SpellsReply (take n room) (answer_to (after_pair S p) p.1)
FillsRoom (Err (fault.Frame f)) S T p room = IsTimely S p × (T ≡ after_pair S p) × ((n : ℕ) × (room ≡ take n (answer_bytes S p)))
FillsRoom (Err fault.NoMemory) S T p room = (is_new_in S p ≡ true) × (has_time S p ≡ true) × (T ≡ S)
FillsRoom (Err fault.TimeExhausted) S T p room = (is_new_in S p ≡ true) × (has_time S p ≡ false) × (T ≡ S)
FillsRoom (Err fault.TooLong) S T p room = ⊥

-- the length of the reply to a request of a class, by its client's row after it was served: a refusal has no body
abbrev pub length_by : Class → Option Row → ℕ
length_by New (Some row) = length (reply_bytes row.reply)
length_by Repeat (Some row) = length (reply_bytes row.reply)
length_by class row = 48

-- the numbers of that reply fit
abbrev pub FitsBy : Class → Option Row → Type 0
FitsBy New (Some row) = IsReply row.reply
FitsBy Repeat (Some row) = IsReply row.reply
FitsBy class row = Unit {0}
