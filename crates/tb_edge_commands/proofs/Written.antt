-- Lines of faults: each is written, or a prefix of it.
use Rattle.std.proofs.Common.{List, Result, Ok, Err, MatchResult, ℕ, ◌≡◌, inl, inr}
use Rattle.tb_records.specs.declared.faults.FrameFault.{FrameFault}
use Rattle.tb_records.specs.declared.faults.FrameFault.TheVariants as frame
use Rattle.tb_records.specs.Transport.{Output, Sent, CutOff}
use Rattle.tb_edge_commands.specs.ExitStatuses.{PrintsLine}

-- a line was printed, whatever its writer returned
pub printed_by : (result : Result (Unit {0}) FrameFault) (line : List ℕ) (before after : Output)
    → MatchResult result (λ _. Sent line before after) (λ f. (f ≡ frame.Device) × CutOff line before after) → PrintsLine line before after
printed_by (Ok done) line before after sent = inl sent
printed_by (Err fault) line before after cut = inr cut.1
