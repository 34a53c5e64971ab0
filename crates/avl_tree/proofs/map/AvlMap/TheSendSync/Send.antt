-- A map may go to another thread if its keys, values and allocator may.
use denote.Exit.{Exit, unchanged, leaves, hidden, under}
use denote.RattleType.{RattleType}
use denote.Struct.Struct.{exits_of}
use denote.Struct.Owning.{shape, fields, to}
use denote.Param.Send.{IsSend, Frees, Quiet, AllSend, owning_send, struct_send, view_send, sendable}
use Rattle.std.specs.declared.alloc.Allocator as Allocator
use Rattle.std.specs.declared.clone.Clone as Clone
use Rattle.std.specs.declared.cmp.Ord as Ord
use Rattle.std.specs.declared.cmp.PartialEq as PartialEq
use Rattle.std.specs.declared.cmp.PartialOrd as PartialOrd
use Rattle.avl_tree.specs.declared.map.AvlMap.TheView as viewed
use Rattle.avl_tree.specs.declared.map.AvlMap as map
use Rattle.avl_tree.specs.contracts.map.AvlMap as C
use Rattle.avl_tree.specs.contracts.map.AvlMap.TheInside as inside
use Rattle.avl_tree.proofs.Crosses.{tree_send, spare_send}

quiet : {D X : Type 0} (to : D → X) (e : Exit X) → Quiet e → Quiet (hidden (under to e))
quiet to unchanged q = λ x w. tt
quiet to (leaves L l S s r₀) q = λ d. q (to d)

pub send : (K V A : RattleType) (o : Ord.Ghosts K.Denot) (e : PartialEq.Ghosts K.Denot) (p : PartialOrd.Ghosts K.Denot) (g : Allocator.Ghosts A.Denot) (c : Clone.Ghosts A.Denot)
    → IsSend K → IsSend V → IsSend A → Frees g g.dealloc_token → IsSend (C.the_row K V A o e p g c)
send K V A o e p g c sk sv sa f =
    let T = inside.the_type K V A o e p g c in
    let tree = tree_send K V A g sk sv sa f in
    let all : AllSend (fields T) = (tree, (search sendable, (spare_send K V A g tree, (sa, tt)))) in
    view_send (inside.the_row K V A o e p g c) (map.AvlMap K.Denot V.Denot A.Denot) (map.the_code K.Denot V.Denot A.Denot K.coded V.coded A.coded)
    (viewed.view K.Denot V.Denot A.Denot o e p g c) (viewed.invariant K.Denot V.Denot A.Denot o e p g c)
    (owning_send T all (λ d. tt) (λ k. quiet (to T) (exits_of k (fields T)) ((struct_send (shape T) all).leaving k)))
