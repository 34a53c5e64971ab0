use Rattle.std.proofs.Common.{ap, ◌∙◌, arith}
use Rattle.avl_tree.specs.Search.{entries_of}
use Rattle.tb_sessions.proofs.Index.{index_empty}
use Rattle.tb_sessions.proofs.table.Sessions.with_capacity.Goals as goal

pub invariant_of-result : goal.invariant_of-result
invariant_of-result c =
    let rows = ap entries_of c.reserve.ensures.same_tree ∙ c.new_in-rows.ensures.empty in
    let clients = ap entries_of c.reserve-2.ensures.same_tree ∙ c.new_in-clients.ensures.empty in
    index_empty rows clients (omega (arith, c.get-clients_max.ensures.positive)) c.in_ok-reserve.ensures.enough c.in_ok-reserve-2.ensures.enough
