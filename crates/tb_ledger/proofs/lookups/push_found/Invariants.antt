use Rattle.tb_ledger.proofs.Common.{◌≡◌, ◌+◌, ◌≤◌, ◌++◌, length, drop, option_copied, option_map, vec_len, vec_capacity, filter_map}
use Rattle.tb_ledger.proofs.lookups.push_found.Given as goal

abbrev pub invariant-loop-row : goal.invariant-loop-row
invariant-loop-row g l = record {
  items : l.out.items ++ filter_map (λ r. option_map g.V.Found.record_now (option_copied r)) (drop l.row-index l.rows) ≡ l.initial.out.items ++ filter_map (λ r. option_map g.V.Found.record_now (option_copied r)) l.rows;
  len : vec_len l.out + length (drop l.row-index l.rows) ≤ vec_len l.initial.out + length l.rows;
  capacity : vec_capacity l.out ≡ vec_capacity l.initial.out;
}
