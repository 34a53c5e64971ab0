-- What is found among the buffered bytes, before they are consumed. Only private functions use it.
use Rattle.std.specs.Prelude.{ℕ, ◌≤◌, ◌≡◌, List, length, take, drop, Option, None, Result, MatchResult, IfSome}
use Rattle.tb_records.specs.Frames.{header_fault}
use Rattle.tb_records.specs.Inputs.{timed_bytes, IsTimed}
use Rattle.tb_records.specs.Messages.{Message}

-- the first so many bytes are those of a moment and a request
pub record BeginsWithPair (moment : ℕ) (request : Message) (count : ℕ) (bytes : List ℕ) : Type 0 where
  pub within : count ≤ length bytes
  pub spelled : take count bytes ≡ timed_bytes (moment, request)
  pub is : IsTimed (moment, request)

-- a moment, and the header of a request after it, without a fault
pub record BeginsWithHeader (bytes : List ℕ) : Type 0 where
  pub long : 56 ≤ length bytes
  pub sound : header_fault (drop 8 bytes) ≡ None

-- the result for the bytes: the pair that they begin with, no pair, or no memory for it
abbrev pub PairAnswers : {E : Type 0} → Result (Option (ℕ × Message × ℕ)) E → List ℕ → Type 0
PairAnswers result bytes =
    MatchResult result (λ found. IfSome found (λ pair. BeginsWithPair pair.0 pair.1 pair.2 bytes)) (λ _. BeginsWithHeader bytes)
