-- The changes of a chain that an undo log has noted.
use Rattle.std.specs.Prelude.{ℕ, ◌≡◌, ◌+◌, ◌≤◌, Bool, List, [], ◌∷◌, ◌++◌, length, if◌then◌else◌}
use Rattle.tb_ledger.specs.declared.tables.accounts.AccountRow.{AccountRow}
use Rattle.tb_ledger.specs.declared.tables.work.Undo.{Undo}
use Rattle.tb_ledger.specs.declared.tables.work.Undo.TheVariants.{Account}

-- the changes since a chain began, the oldest first, whether they are noted at all, and how many can be noted
pub record Noted : Type 0 where
  pub changes : List Undo
  pub noting : Bool
  pub capacity : ℕ

-- it can note n more
abbrev pub HasCapacityFor : ℕ → Noted → Type 0
HasCapacityFor n undo_log = length undo_log.changes + n ≤ undo_log.capacity

-- with one more, if they are noted
abbrev pub with_noted : Undo → Noted → Noted
with_noted undo undo_log = if undo_log.noting then record undo_log { changes = undo_log.changes ++ undo ∷ [] } else undo_log

-- with the rows of two accounts from before their change, if it can note both
abbrev pub NotesPair : AccountRow → AccountRow → Noted → Noted → Type 0
NotesPair debit credit undo_log grown = HasCapacityFor 2 undo_log → grown ≡ with_noted (Account credit) (with_noted (Account debit) undo_log)
