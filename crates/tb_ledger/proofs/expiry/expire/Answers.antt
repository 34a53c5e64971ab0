use Rattle.tb_ledger.proofs.Common.{map, refl, arith, KeepsRecords}
use Rattle.tb_ledger.proofs.Index.{none_lapses}
use Rattle.tb_ledger.proofs.Expiries.{will_be, arrived, ledger_then}
use Rattle.tb_ledger.proofs.expiry.expire.Goals as goal

pub returns-else-is_due-clause-kept : goal.returns-else-is_due-clause-kept
returns-else-is_due-clause-kept g c =
    let rows = c.args.rows.now in
    let T = c.args.time in
    let kept = c.requires.kept in
    let later = record rows { time = T } in
    let records : KeepsRecords rows later = record {
      accounts = refl;
      transfers = refl;
      accounts_capacity = refl;
      transfers_capacity = refl;
      timeouts_capacity = omega arith;
      failed = refl;
      keeps_failed = refl;
    } in
    let none = none_lapses rows.transfers.items rows.timeouts kept.index T (c.is_due.ensures c.if-is_due.false) in
    let ahead = will_be rows.transfers.items rows.time T c.requires.later kept.kept.states in
    ledger_then rows later kept c.requires.later records (record {
      sums = kept.kept.sums;
      states = arrived rows.transfers.items T (map (λ t. t.recorded) rows.transfers.items) refl none ahead;
    }) kept.index
