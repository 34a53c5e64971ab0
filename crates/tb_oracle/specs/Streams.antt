-- The steps of a reader, and their answers.
use Rattle.std.specs.Prelude.{ℕ, Bool, true, false, ◌≡◌, ◌⊎◌, List, [], ◌++◌, length, Option, Result, Ok, Err}
use Rattle.std.specs.List.{All, flat_map}
use Rattle.std.specs.Io.Buffered.{reader_buffer, reader_capacity, reader_inner, reader_remaining}
use Rattle.std.specs.declared.alloc.Global.{Global}
use Rattle.std.specs.declared.io.buffered.BufReader.{BufReader}
use Rattle.std.specs.Io.KnownBytes.{Consumes, Appends, IsAtEnd}
use Rattle.tb_records.specs.declared.faults.FrameFault.TheVariants as frame
use Rattle.tb_oracle.specs.declared.faults.OracleFault.{OracleFault}
use Rattle.tb_oracle.specs.declared.faults.OracleFault.TheVariants.{Frame}
use Rattle.tb_oracle.specs.Faults.{oracle_exit_status}
use Rattle.tb_oracle.specs.Steps.{IsStepAnswer, IsFault, rest_length}

-- a whole step: a head, and as many bytes as it says
pub record IsStep (head rest : List ℕ) : Type 0 where
  pub head_is : length head ≡ 38
  pub rest_is : length rest ≡ rest_length head

-- no step: the input is at its end
abbrev pub ReadsNone : Option (List ℕ) → Option (List ℕ) → Type 0
ReadsNone before after = Consumes before after [] × IsAtEnd after

abbrev pub ReadsStepHead : Result Bool OracleFault → List ℕ → Option (List ℕ) → Option (List ℕ) → Type 0
ReadsStepHead (Ok true) head before after = Consumes before after head
ReadsStepHead (Ok false) head before after = ReadsNone before after
ReadsStepHead (Err f) head before after = Unit {0}

abbrev pub ReadsRest : List ℕ → ℕ → Option (List ℕ) → Option (List ℕ) → Type 0
ReadsRest bytes count before after = Consumes before after bytes × (length bytes ≡ count)

-- a step; its head says how many bytes follow it
abbrev pub ReadsStep : List ℕ → List ℕ → Option (List ℕ) → Option (List ℕ) → Type 0
ReadsStep head rest before after = Consumes before after (head ++ rest) × IsStep head rest

-- a head, what follows it, and the answer
pub record Exchange : Type 0 where
  pub head : List ℕ
  pub rest : List ℕ
  pub answer : List ℕ

pub record IsExchange (x : Exchange) : Type 0 where
  pub step : IsStep x.head x.rest
  pub answered : IsStepAnswer x.head x.rest x.answer

abbrev pub steps : List Exchange → List ℕ
steps xs = flat_map (λ (x : Exchange). x.head ++ x.rest) xs

abbrev pub answers : List Exchange → List ℕ
answers xs = flat_map (λ (x : Exchange). x.answer) xs

-- so far: these steps were read, and answered
pub record HasExchanged (xs : List Exchange) (before after : Option (List ℕ)) (output_before output : Option (List ℕ)) : Type 0 where
  pub right : All IsExchange xs
  pub read : Consumes before after (steps xs)
  pub written : Appends output_before output (answers xs)

-- a fault of reading: the device failed or memory ran out, or the input ends within a step or says that one is too long
abbrev pub IsOfReading : OracleFault → Type 0
IsOfReading f = (oracle_exit_status f ≡ 1) ⊎ (f ≡ Frame frame.Short) ⊎ (f ≡ Frame frame.TooMany)

-- the next step is not read whole, or has this fault
abbrev pub StopsStream : OracleFault → Option (List ℕ) → Type 0
StopsStream f left = IsOfReading f ⊎ ((head rest : List ℕ) × (after : Option (List ℕ)) × ReadsStep head rest left after × IsFault f head rest)

-- all steps were read and answered; or a fault came after some steps, and all their answers were written if the fault is the input's
abbrev pub AnswersSteps : Result (Unit {0}) OracleFault → Option (List ℕ) → Option (List ℕ) → Option (List ℕ) → Option (List ℕ) → Type 0
AnswersSteps (Ok done) before after output_before output = (xs : List Exchange) × HasExchanged xs before after output_before output × IsAtEnd after
AnswersSteps (Err f) before after output_before output =
    oracle_exit_status f ≡ 2
    → (xs : List Exchange) × (left : Option (List ℕ)) × HasExchanged xs before left output_before output × StopsStream f left

-- the steps of an input were answered, read through a buffer that was empty at first
pub record AnswersInput {R : Type 0} (remaining : R → Option (List ℕ)) (result : Result (Unit {0}) OracleFault) (input : R) (output_before output : Option (List ℕ)) : Type 0 where
  pub reader : BufReader R Global
  pub of_input : reader_inner reader ≡ input
  pub read_ahead : reader_buffer reader ≡ []
  pub holds : reader_capacity reader ≡ 65536
  pub after : Option (List ℕ)
  pub answers : AnswersSteps result (reader_remaining remaining reader) after output_before output

-- there was no memory for the buffer, and nothing is written
abbrev pub WantsMemory : Result (Unit {0}) OracleFault → Option (List ℕ) → Option (List ℕ) → Type 0
WantsMemory (Ok done) output_before output = ⊥
WantsMemory (Err f) output_before output = (f ≡ Frame frame.NoMemory) × (output ≡ output_before)
