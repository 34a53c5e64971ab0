-- What calls make of a server, one after another: a legal history of the requests that were answered.
use Rattle.std.specs.Prelude.{ℕ, Bool, true, false, ◌≡◌, List, [], ◌∷◌, length, take, filter, Some}
use Rattle.tb_records.specs.declared.limits.Profile.{Profile}
use Rattle.tb_records.specs.Messages.{Answer}
use Rattle.tb_records.specs.Frames.{Spells}
use Rattle.tb_records.specs.ReplyFrames.{reply_bytes, IsReply, SpellsReply}
use Rattle.tb_machine.specs.Histories.{State, start, IsLegal, after}
use Rattle.tb_machine.specs.Scripts.{Pair, accepted, replies_to}
use Rattle.tb_machine.specs.ScriptLaws.{AreLawful}
use Rattle.tb_embed.specs.declared.outcomes.Outcome.{Outcome}
use Rattle.tb_embed.specs.declared.outcomes.Outcome.TheVariants.{Done, TooSmall}
use Rattle.tb_embed.specs.Calls.{ServesFrame}
use Rattle.tb_embed.specs.Outcomes.{outcome_status}

-- a call of tb_embed_serve: the moment and the bytes that it was given, its outcome, and the room after it
pub record Call : Type 0 where
  pub moment : ℕ
  pub bytes : List ℕ
  pub outcome : Outcome
  pub room : List ℕ

-- calls one after another; a call that shows a record between them leaves the server as it is
abbrev pub Follow : State → List Call → State → Type 0
Follow S [] T = T ≡ S
Follow S (c ∷ cs) T = (U : State) × ServesFrame (Some S) (Some U) c.moment c.bytes c.room c.outcome × Follow U cs T

-- the calls whose requests were answered, also if the room was too small for the reply
abbrev pub is_answered : Outcome → Bool
is_answered (Done n) = true
is_answered (TooSmall n) = true
is_answered outcome = false

abbrev pub answered_calls : List Call → List Call
answered_calls cs = filter (λ c. is_answered c.outcome) cs

-- what was returned of the reply: its bytes in the room, or how many they are; they are read only as that reply
abbrev pub ReportsReply : Outcome → List ℕ → Answer → Type 0
ReportsReply (Done n) room a = SpellsReply (take n room) a
ReportsReply (TooSmall n) room a = (n ≡ length (reply_bytes a)) × IsReply a
ReportsReply outcome room a = ⊥

-- the call had this request at this moment, and got this reply
pub record Asked (c : Call) (p : Pair) (a : Answer) : Type 0 where
  pub moment : c.moment ≡ p.0
  pub spelled : Spells c.bytes p.1
  pub told : ReportsReply c.outcome c.room a

abbrev pub AreAsked : List Call → List Pair → List Answer → Type 0
AreAsked [] [] [] = Unit {0}
AreAsked (c ∷ cs) (p ∷ ps) (a ∷ replies) = Asked c p a × AreAsked cs ps replies
AreAsked cs ps replies = ⊥

-- the server is in the state after the legal history that is accepted of the requests that were answered, and gave their replies
pub record MakesHistory (profile : Profile) (clients_max : ℕ) (cs : List Call) (T : State) : Type 0 where
  pub pairs : List Pair
  pub lawful : AreLawful pairs
  pub asked : AreAsked (answered_calls cs) pairs (replies_to profile clients_max pairs)
  pub legal : IsLegal profile clients_max (accepted profile clients_max [] pairs)
  pub stands : T ≡ after profile clients_max (accepted profile clients_max [] pairs)

abbrev pub CallsMakeHistory : Type 0
CallsMakeHistory = (profile : Profile) (clients_max : ℕ) (cs : List Call) (T : State) → Follow (start profile clients_max) cs T → MakesHistory profile clients_max cs T

-- unless memory runs out, one status is right: a closed handle before bytes that are no request, these before a new request without a time, and that
-- before a room that is too small
abbrev pub OneStatus : Type 0
OneStatus = (S T U : State) (moment : ℕ) (bytes room other : List ℕ) (a b : Outcome)
    → ServesFrame (Some S) (Some T) moment bytes room a → ServesFrame (Some S) (Some U) moment bytes other b → length room ≡ length other
    → (outcome_status a ≡ 3 → ⊥) → (outcome_status b ≡ 3 → ⊥) → outcome_status a ≡ outcome_status b
