-- What holds of a machine's numbers: each entry took time, and each row's session began no later than its last reply.
use Rattle.std.specs.Prelude.{ℕ, ◌<◌, ◌≤◌}
use Rattle.tb_records.specs.Ordered.{Each}
use Rattle.tb_records.specs.declared.limits.TheConstants.{LAST_MOMENT}
use Rattle.tb_sessions.specs.declared.rows.Row.{Row}
use Rattle.tb_machine.specs.Histories.{State}

-- a row whose session began no later than its last reply, whose commit number is at most `last`
pub record IsNumbered (last : ℕ) (row : Row) : Type 0 where
  pub began : 0 < row.session
  pub replied : row.session ≤ row.commit
  pub given : row.commit ≤ last

pub record IsSound (S : State) : Type 0 where
  pub rows : Each (IsNumbered S.commit) S.rows
  pub commits : S.commit ≤ S.books.time
  pub in_range : S.books.time ≤ LAST_MOMENT
