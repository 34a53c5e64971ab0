-- When a batch may be entered.
use Rattle.std.specs.Prelude.{ℕ, ◌+◌, ◌≤◌, max}
use Rattle.tb_records.specs.declared.limits.TheConstants.{ITEMS_MAX, LAST_MOMENT}

-- after an entry with the time `before`, a batch of n events may have the time t: each event gets a timestamp of its own
pub record CanEnter (before n t : ℕ) : Type 0 where
  pub count : n ≤ ITEMS_MAX
  pub later : before + max n 1 ≤ t
  pub in_range : t ≤ LAST_MOMENT
