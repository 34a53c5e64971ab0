-- What each call makes of a server, and what it returns.
use Rattle.std.specs.Prelude.{ℕ, Bool, true, false, not, ◌≡◌, ◌==◌, ◌&&◌, ◌||◌, ◌⊎◌, ◌+◌, ◌*◌, ◌^◌, ◌<◌, ◌≤◌, nat_le, List, length, take, Option, Some, None, if◌then◌else◌}
use Rattle.std.specs.Option.{option_map, is_none}
use Rattle.tb_records.specs.declared.faults.FrameFault.{FrameFault}
use Rattle.tb_records.specs.declared.limits.Profile.{Profile}
use Rattle.tb_records.specs.declared.limits.Profile.TheVariants.{One, Two}
use Rattle.tb_records.specs.declared.limits.TheConstants.{CLIENTS_MAX}
use Rattle.tb_records.specs.Messages.{Message}
use Rattle.tb_records.specs.Frames.{Spells, request_fault}
use Rattle.tb_records.specs.RecordBytes.{account_bytes, transfer_bytes}
use Rattle.tb_records.specs.ReplyFrames.{IsReply, SpellsReply}
use Rattle.tb_ledger.specs.Books.{account_now, transfer_at}
use Rattle.tb_machine.specs.Histories.{State, start, answer_to}
use Rattle.tb_machine.specs.Scripts.{Pair, has_time, after_pair}
use Rattle.tb_machine.specs.Runs.{is_new_in, IsTimely, answer_bytes}
use Rattle.tb_embed.specs.declared.held.Server.{Server}
use Rattle.tb_embed.specs.declared.outcomes.Outcome.{Outcome}
use Rattle.tb_embed.specs.declared.outcomes.Outcome.TheVariants.{Done, Closed, Usage, NoMemory, Unread, Malformed, TimeExhausted, Absent, TooSmall}
use Rattle.tb_embed.specs.declared.servers.TbServer.{TbServer}

-- the state of a handle's server; a closed handle has no server
abbrev pub standing : TbServer → Option State
standing handle = option_map (λ (server : Server). server.machine) handle.held.state

-- opening

-- the number of a profile
abbrev pub is_profile : ℕ → Bool
is_profile n = n == 1 || n == 2

abbrev pub numbered_profile : ℕ → Profile
numbered_profile n = if n == 2 then Two else One

-- there are two profiles, and one client or more can have a session at one time, up to the limit
abbrev pub are_arguments : ℕ → ℕ → Bool
are_arguments profile clients_max = is_profile profile && not (clients_max == 0) && nat_le clients_max CLIENTS_MAX

-- a closed handle is opened at the empty history; wrong arguments and an open handle are refused; nothing else changes
abbrev pub OpensHandle : ℕ → ℕ → Option State → Option State → Outcome → Type 0
OpensHandle profile clients_max before after (Done n) = (are_arguments profile clients_max ≡ true) × (before ≡ None) × (after ≡ Some (start (numbered_profile profile) clients_max))
OpensHandle profile clients_max before after Usage = ((are_arguments profile clients_max && is_none before) ≡ false) × (after ≡ before)
OpensHandle profile clients_max before after NoMemory = (are_arguments profile clients_max ≡ true) × (before ≡ None) × (after ≡ None)
OpensHandle profile clients_max before after outcome = ⊥

-- serving

-- bytes that are not one frame of a request: they have a fault, or more bytes follow a frame
abbrev pub IsMalformed : List ℕ → Type 0
IsMalformed bytes = ((fault : FrameFault) × (request_fault bytes ≡ Some fault)) ⊎ ((n : ℕ) × (r : Message) × (n < length bytes) × Spells (take n bytes) r)

-- what a request that comes at a moment makes of the machine, and of the room for its reply: it is answered; or its reply needs more room than there
-- is, and the same request, sent again, gets it. Or the machine is as it was: no time is left for a new request, or there is no memory to enter it.
-- The numbers of each reply fit, so that its bytes are read only as that reply
abbrev pub AnswersCall : Outcome → State → State → Pair → List ℕ → Type 0
AnswersCall (Done n) S T p room = IsTimely S p × (T ≡ after_pair S p) × (n ≤ length room) × SpellsReply (take n room) (answer_to (after_pair S p) p.1)
AnswersCall (TooSmall n) S T p room = IsTimely S p × (T ≡ after_pair S p) × (length room < n) × (n ≡ length (answer_bytes S p)) × IsReply (answer_to (after_pair S p) p.1)
AnswersCall TimeExhausted S T p room = (is_new_in S p ≡ true) × (has_time S p ≡ false) × (T ≡ S)
AnswersCall NoMemory S T p room = (is_new_in S p ≡ true) × (has_time S p ≡ true) × (T ≡ S)
AnswersCall outcome S T p room = ⊥

-- the same for bytes: malformed ones change nothing, and neither does running out of memory while bytes without a fault are read. Otherwise memory
-- runs out only if the bytes are the frame of a request that is new and has a time
abbrev pub AnswersFrame : Outcome → State → State → ℕ → List ℕ → List ℕ → Type 0
AnswersFrame Malformed S T moment bytes room = IsMalformed bytes × (T ≡ S)
AnswersFrame Unread S T moment bytes room = (request_fault bytes ≡ None) × (T ≡ S)
AnswersFrame outcome S T moment bytes room = (r : Message) × Spells bytes r × AnswersCall outcome S T (moment, r) room

-- a request that was served at a moment and comes again at another one changes nothing, and gets the same bytes
abbrev pub IsAnsweredAgain : State → ℕ → ℕ → Message → Type 0
IsAnsweredAgain S moment again r =
    (after_pair (after_pair S (moment, r)) (again, r) ≡ after_pair S (moment, r))
    × (answer_bytes (after_pair S (moment, r)) (again, r) ≡ answer_bytes S (moment, r))

-- the same by a handle; a closed one returns that it is closed, and stays closed
abbrev pub ServesFrame : Option State → Option State → ℕ → List ℕ → List ℕ → Outcome → Type 0
ServesFrame (Some S) (Some T) moment bytes room outcome = AnswersFrame outcome S T moment bytes room
ServesFrame None None moment bytes room outcome = outcome ≡ Closed
ServesFrame before after moment bytes room outcome = ⊥

-- showing a record

-- an id of two halves
abbrev pub id_of_halves : ℕ → ℕ → ℕ
id_of_halves low high = low + high * 2 ^ 64

-- the 128 bytes of a record that is there are written; nothing changes
abbrev pub ShowsRecordBytes : Outcome → Option (List ℕ) → List ℕ → Type 0
ShowsRecordBytes (Done n) found room = (n ≡ 128) × (128 ≤ length room) × (found ≡ Some (take 128 room))
ShowsRecordBytes Absent found room = (128 ≤ length room) × (found ≡ None)
ShowsRecordBytes (TooSmall n) found room = (n ≡ 128) × (length room < 128)
ShowsRecordBytes outcome found room = ⊥

module _ (found_in : State → Option (List ℕ)) where
  abbrev pub ShowsRecord : Option State → Option State → List ℕ → Outcome → Type 0
  ShowsRecord (Some S) (Some T) room outcome = ShowsRecordBytes outcome (found_in S) room × (T ≡ S)
  ShowsRecord None None room outcome = outcome ≡ Closed
  ShowsRecord before after room outcome = ⊥

-- a handle shows the account with an id as it is now
abbrev pub ShowsAccount : ℕ → TbServer → TbServer → List ℕ → Outcome → Type 0
ShowsAccount id before after = ShowsRecord (λ S. option_map account_bytes (account_now S.books id)) (standing before) (standing after)

-- a handle shows the transfer with an id as it was recorded
abbrev pub ShowsTransfer : ℕ → TbServer → TbServer → List ℕ → Outcome → Type 0
ShowsTransfer id before after = ShowsRecord (λ S. option_map transfer_bytes (transfer_at S.books id)) (standing before) (standing after)
