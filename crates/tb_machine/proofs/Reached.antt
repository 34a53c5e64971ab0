-- What holds of the rows and the entries after a legal history without a mark.
use Rattle.std.proofs.Common.{ℕ, List, None}
use Rattle.tb_records.specs.declared.limits.Profile.{Profile}
use Rattle.tb_sessions.specs.declared.rows.Row.{Row}
use Rattle.tb_machine.specs.declared.entries.Entry.{Entry}
use Rattle.tb_machine.specs.Histories.{IsLegal}
use Rattle.tb_machine.specs.MarkedLaws.{next_in}
use Rattle.tb_machine.proofs.ReachedBy.{StandsBy, ReachedBy}
use Rattle.tb_machine.proofs.MarkLeads.{reached_with}

abbrev pub Stands : Profile → ℕ → List Entry → Row → Type 0
Stands profile clients_max p row = StandsBy (next_in profile clients_max None) p row

pub reached : (profile : Profile) (clients_max : ℕ) (h : List Entry) → IsLegal profile clients_max h → ReachedBy (next_in profile clients_max None) h
reached profile clients_max h legal = reached_with profile clients_max None h legal
