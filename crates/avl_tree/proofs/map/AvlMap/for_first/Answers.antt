use Rattle.avl_tree.proofs.Shape.{entries_search_of}
use Rattle.avl_tree.proofs.map.AvlMap.for_first.Goals as goal

pub returns-clause-visited : goal.returns-clause-visited
returns-clause-visited g c =
    let e = entries_search_of c.self.inside.root in
    rw (← c.self.view_is, e) c.visit_first.ensures.visited
