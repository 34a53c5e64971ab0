use Rattle.tb_ledger.proofs.Common.{◌≡◌, ◌+◌, ◌≤◌, ◌++◌, length, drop, vec_len, vec_capacity, filter_map, found_in}
use Rattle.tb_ledger.proofs.lookups.fill.Given as goal

abbrev pub invariant-loop-id : goal.invariant-loop-id
invariant-loop-id g l = record {
  items : l.out.items ++ filter_map (found_in g.V.Keyed.key g.V.Found.record_now l.table.items) (drop l.id-index l.rest) ≡ l.fn.out.items ++ filter_map (found_in g.V.Keyed.key g.V.Found.record_now l.table.items) l.ids;
  rest : vec_len l.out + length (drop l.id-index l.rest) ≤ vec_capacity l.out;
  capacity : vec_capacity l.out ≡ vec_capacity l.fn.out;
}
