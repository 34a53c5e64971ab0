-- An event notes the rows of two accounts first, and then at most two more changes.
use Rattle.tb_ledger.proofs.Common.{◌≡◌, refl, arith, AccountRow, Noted, with_noted, UNDOS_PER_EVENT}
use Rattle.tb_ledger.specs.private.Noted.{HasCapacityFor, NotesPair}
use Rattle.tb_ledger.specs.declared.tables.work.Undo.TheVariants.{Account}
use Rattle.tb_ledger.proofs.UndoLogs.{grown_by}

-- after both rows there is capacity for two more
pub two_left : (debit credit : AccountRow) (undo_log grown : Noted) → HasCapacityFor UNDOS_PER_EVENT undo_log → NotesPair debit credit undo_log grown → HasCapacityFor 2 grown
two_left debit credit undo_log grown has notes =
    let mid = with_noted (Account debit) undo_log in
    let one = grown_by {back = λ us _. us ≡ us} (Account debit) undo_log mid refl (λ _. refl) in
    let two = grown_by {back = λ us _. us ≡ us} (Account credit) mid grown (notes (omega (arith, has))) (λ _. refl) in
    omega (arith, has, one.length, one.capacity, two.length, two.capacity)
