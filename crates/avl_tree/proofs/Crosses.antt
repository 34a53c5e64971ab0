-- Nodes may go to another thread, or be shared, if their keys, values and allocator may.
use denote.RattleType.{RattleType}
use denote.Param.Send.{IsSend, IsSync, Frees, sendable}
use Rattle.std.proofs.CrossingOver.{crosses}
use Rattle.std.specs.declared.alloc.Allocator as Allocator
use Rattle.std.specs.contracts.boxed.Box as Box
use Rattle.avl_tree.specs.contracts.spare.SpareNodes as SpareNodes
use Rattle.avl_tree.specs.contracts.tree.Tree as Tree
use Rattle.avl_tree.proofs.tree.Tree.TheLaws.TheKnot.{send-Tree, sync-Tree}

module _ (K V A : RattleType) (g : Allocator.Ghosts A.Denot) where
  box_send : IsSend A → Frees g g.dealloc_token → (h : RattleType) → IsSend h → IsSend (Box.the_row h A g)
  box_send sa f h s = search (sendable, crosses)

  box_sync : IsSync A → (h : RattleType) → IsSync h → IsSync (Box.the_row h A g)
  box_sync sa h s = search (sendable, crosses)

  pub tree_send : IsSend K → IsSend V → IsSend A → Frees g g.dealloc_token → IsSend (Tree.the_field K V A g).row
  tree_send sk sv sa f = send-Tree K V A g (search sendable) (box_send sa f) sk sv

  pub tree_sync : IsSync K → IsSync V → IsSync A → IsSync (Tree.the_field K V A g).row
  tree_sync sk sv sa = sync-Tree K V A g (search sendable) (box_sync sa) sk sv

  pub spare_send : IsSend (Tree.the_field K V A g).row → IsSend (SpareNodes.the_row K V A g)
  spare_send s = search sendable depth 12

  pub spare_sync : IsSync (Tree.the_field K V A g).row → IsSync (SpareNodes.the_row K V A g)
  spare_sync s = search sendable depth 12
