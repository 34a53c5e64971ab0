use Rattle.tb_ledger.proofs.Common.{◌≡◌, ◌+◌, ◌≤◌, ◌++◌, length, vec_len, vec_capacity, filter_map, found_in}
use Rattle.tb_ledger.proofs.lookups.fill_eights.Given as goal

abbrev pub invariant-loop-eight : goal.invariant-loop-eight
invariant-loop-eight g l = record {
  items : l.out.items ++ filter_map (found_in g.V.Keyed.key g.V.Found.record_now l.table.items) l.rest ≡ l.initial.out.items ++ filter_map (found_in g.V.Keyed.key g.V.Found.record_now l.table.items) l.ids;
  rest : vec_len l.out + length l.rest ≤ vec_capacity l.out;
  capacity : vec_capacity l.out ≡ vec_capacity l.initial.out;
}

abbrev pub decreases-loop-eight : goal.decreases-loop-eight
decreases-loop-eight g l = length l.rest
