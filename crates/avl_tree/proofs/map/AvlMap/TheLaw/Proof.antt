-- A `&` to a map holds exactly a `&` to each field.
use base.Fml.{ftrue}
use denote.RattleType.{RattleType}
use denote.Param.Laws.{Laws}
use denote.SharingLaws.{nothing_shr_laws}
use denote.Struct.Lending.{of_Lends, Lends-nothing}
use Rattle.std.specs.declared.alloc.Allocator as Allocator
use Rattle.std.specs.declared.clone.Clone as Clone
use Rattle.std.specs.declared.cmp.Ord as Ord
use Rattle.std.specs.declared.cmp.PartialEq as PartialEq
use Rattle.std.specs.declared.cmp.PartialOrd as PartialOrd
use Rattle.avl_tree.specs.contracts.map.AvlMap.TheInside as C
use Rattle.avl_tree.proofs.map.AvlMap.TheInside.TheFields.TheLaws as fields
use Rattle.avl_tree.proofs.map.AvlMap.TheLaw.Statement.{statement}

pub shares : (K V A : RattleType) (o : Ord.Ghosts K.Denot) (e : PartialEq.Ghosts K.Denot) (p : PartialOrd.Ghosts K.Denot) (g : Allocator.Ghosts A.Denot) (c : Clone.Ghosts A.Denot)
    (LK : Laws K) (LV : Laws V) (LA : Laws A) → statement K V A o e p g c LK LV LA
shares K V A o e p g c LK LV LA =
    of_Lends (C.struct K V A o e p g c) (C.the_codes K.Denot V.Denot A.Denot K.coded V.coded A.coded) (C.the_heap K V A o e p g c) (C.the_lent K V A o e p g c)
    (λ d q. nothing_shr_laws) (fields.the_shared K V A o e p g c LK LV LA) (λ M 𝓤 𝓛 d q. Lends-nothing 𝓛 ftrue (C.the_row K V A o e p g c).lives)
