use Rattle.std.proofs.Common.{◌≡◌, ◌+◌, ◌<◌}
use Rattle.avl_tree.specs.Search.{path_length}
use Rattle.avl_tree.specs.Nodes.{stored_height, search_of, LeadsTo}
use Rattle.avl_tree.proofs.walks.count_visits.Given as goal

abbrev pub invariant-loop-at : goal.invariant-loop-at
invariant-loop-at g l = record {
  leads : LeadsTo g.K.Ord.cmp l.key l.tree l.at;
  counted : l.visits + path_length (g.K.Ord.cmp l.key) (search_of l.at) ≡ path_length (g.K.Ord.cmp l.key) (search_of l.tree);
  fits : l.visits + stored_height l.at < 256;
}
