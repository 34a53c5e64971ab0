-- A head, and what is read of a dump up to two numbers. Only private functions use it.
use Rattle.std.specs.Prelude.{ℕ, ◌≡◌, ◌^◌, ◌<◌, List, Option, Some, None, Result, Ok, Err}
use Rattle.std.specs.Io.KnownBytes.{Consumes}
use Rattle.tb_records.specs.declared.dumps.DumpFault.TheVariants.{Frame}
use Rattle.tb_records.specs.declared.faults.FrameFault.{FrameFault}
use Rattle.tb_records.specs.declared.dumps.DumpHead.{DumpHead}
use Rattle.tb_records.specs.DumpBytes.{head_bytes, numbers_bytes, ItemAnswers}
use Rattle.tb_records.specs.Limits.{IsClients}

-- the bytes are the head
abbrev pub IsHead : List ℕ → DumpHead → Type 0
IsHead b head = (b ≡ head_bytes head.profile head.clients_max) × IsClients head.clients_max

-- two numbers were read
pub record ReadsNumbers (first second : ℕ) (before after : Option (List ℕ)) : Type 0 where
  pub bytes : Consumes before after (numbers_bytes first second)
  pub first_fits : first < 2 ^ 64
  pub second_fits : second < 2 ^ 64

-- what is read up to the two numbers
abbrev pub NumbersAnswers : Result (Option (ℕ × ℕ)) FrameFault → Option (List ℕ) → Option (List ℕ) → Type 0
NumbersAnswers (Ok None) before after = ItemAnswers (Ok None) before after
NumbersAnswers (Ok (Some numbers)) before after = ReadsNumbers numbers.0 numbers.1 before after
NumbersAnswers (Err fault) before after = ItemAnswers (Err (Frame fault)) before after
