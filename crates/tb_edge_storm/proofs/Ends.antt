-- What is reported of a storm that was played is what a storm ends with.
use Rattle.std.proofs.Common.{ℕ, inl, inr, Result, Ok, Err, IfOk}
use Rattle.tb_records.specs.Transport.{Output}
use Rattle.tb_edge_storm.specs.declared.faults.StormFault.{StormFault}
use Rattle.tb_edge_storm.specs.declared.faults.StormFault.TheVariants as storm
use Rattle.tb_edge_storm.specs.declared.totals.Totals.{Totals}
use Rattle.tb_edge_storm.specs.Totals.{AreTotals}
use Rattle.tb_edge_storm.specs.Storms.{PrintsOutcome, StormExits}

pub exits_of : (clients transfers : ℕ) (played : Result Totals StormFault) (exit_status : ℕ) (start written quiet told : Output)
    → IfOk played (AreTotals clients transfers)
    → PrintsOutcome clients played exit_status start written quiet told → StormExits clients transfers exit_status start written quiet told
exits_of clients transfers (Err fault) exit_status start written quiet told are t = ((Err fault), are, t)
exits_of clients transfers (Ok totals) exit_status start written quiet told are (inl t) = ((Ok totals), are, t)
exits_of clients transfers (Ok totals) exit_status start written quiet told are (inr t) = ((Err storm.NoMemory), tt, t)
