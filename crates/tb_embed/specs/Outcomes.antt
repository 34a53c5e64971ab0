-- The status of each outcome, and the length that is reported with it.
use Rattle.std.specs.Prelude.{ℕ, ◌≡◌}
use Rattle.tb_embed.specs.declared.outcomes.Outcome.{Outcome}
use Rattle.tb_embed.specs.declared.outcomes.Outcome.TheVariants.{Done, Closed, Usage, NoMemory, Unread, Malformed, TimeExhausted, Absent, TooSmall}

abbrev pub outcome_status : Outcome → ℕ
outcome_status (Done length) = 0
outcome_status Closed = 1
outcome_status Usage = 2
outcome_status NoMemory = 3
outcome_status Unread = 3
outcome_status Malformed = 4
outcome_status TimeExhausted = 5
outcome_status Absent = 6
outcome_status (TooSmall length) = 7

abbrev pub length_of : Outcome → ℕ
length_of (Done length) = length
length_of (TooSmall length) = length
length_of outcome = 0

-- the status is that of an outcome that is right
pub record Reports (status : ℕ) (IsRight : Outcome → Type 0) : Type 0 where
  pub outcome : Outcome
  pub status_is : status ≡ outcome_status outcome
  pub right : IsRight outcome

-- the status and the length are those of an outcome that is right
pub record ReportsLength (status length : ℕ) (IsRight : Outcome → Type 0) : Type 0 where
  pub outcome : Outcome
  pub status_is : status ≡ outcome_status outcome
  pub length_is : length ≡ length_of outcome
  pub right : IsRight outcome
