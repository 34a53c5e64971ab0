-- A map may be shared by threads if its keys, values and allocator may.
use denote.RattleType.{RattleType}
use denote.Struct.Owning.{shape, to}
use denote.Param.Send.{IsSync, struct_sync, view_sync, sendable}
use Rattle.std.specs.declared.alloc.Allocator as Allocator
use Rattle.std.specs.declared.clone.Clone as Clone
use Rattle.std.specs.declared.cmp.Ord as Ord
use Rattle.std.specs.declared.cmp.PartialEq as PartialEq
use Rattle.std.specs.declared.cmp.PartialOrd as PartialOrd
use Rattle.avl_tree.specs.declared.map.AvlMap.TheView as viewed
use Rattle.avl_tree.specs.declared.map.AvlMap as map
use Rattle.avl_tree.specs.contracts.map.AvlMap as C
use Rattle.avl_tree.specs.contracts.map.AvlMap.TheInside as inside
use Rattle.avl_tree.proofs.Crosses.{tree_sync, spare_sync}

pub sync : (K V A : RattleType) (o : Ord.Ghosts K.Denot) (e : PartialEq.Ghosts K.Denot) (p : PartialOrd.Ghosts K.Denot) (g : Allocator.Ghosts A.Denot) (c : Clone.Ghosts A.Denot)
    → IsSync K → IsSync V → IsSync A → IsSync (C.the_row K V A o e p g c)
sync K V A o e p g c yk yv ya =
    let T = inside.the_type K V A o e p g c in
    let tree = tree_sync K V A g yk yv ya in
    view_sync (inside.the_row K V A o e p g c) (map.AvlMap K.Denot V.Denot A.Denot) (map.the_code K.Denot V.Denot A.Denot K.coded V.coded A.coded)
    (viewed.view K.Denot V.Denot A.Denot o e p g c) (viewed.invariant K.Denot V.Denot A.Denot o e p g c)
    (record { shared = λ d b n κ. ((struct_sync (shape T) (tree, (search sendable, (spare_sync K V A g tree, (ya, tt))))).shared (to T d) b n κ, tt) })
