-- A handle that holds a server, and the box taken apart, own what the server's box owns. Assumes `Logic`.
use Rattle.std.proofs.Common.{◌≡◌, true, ◌&&◌, List, [], ◌∷◌, Option, Some, None, is_some, refl, lit<}
use lib.Dec.{T}
use mir.Syntax.{impl, tnil, dnil, w64}
use mir.Val.{Val, vint, has_ty, WT}
use seplogic.Ra.Ura.{Ura}
use base.Logic.{id⊢}
use types.Logic.{Logic}
use types.Kit.{Item, Goal, Step, step, ‵, ◌$◌, move, fjoin, fpack, feq_i, use1}
use denote.RattleType.{Valss}
use denote.Builtin.{RawPtr}
use denote.RawPtr.{null_ptr}
use denote.Steps.{nothing}
use denote.Param.{layout}
use denote.Signature.{Slot, plain}
use denote.Struct.Struct.{within}
use denote.Struct.Owning.{shape}
use Rattle.core.proofs.cell.Inside.{Good}
use Rattle.std.specs.declared.alloc.Global.{Global}
use Rattle.std.specs.contracts.alloc.Global as Heap
use Rattle.std.proofs.alloc.Global.TheLaws as heap
use Rattle.std.specs.contracts.impls.GlobalAllocator.TheImpl.{ghosts, dict}
use Rattle.std_alloc.proofs.BoxSteps.Form.{Bx}
use Rattle.std_alloc.proofs.ResultValues.{and_tt}
use Rattle.tb_embed.specs.contracts.held.Server as Server
use Rattle.tb_embed.proofs.held.Server.TheLaws as server
use Rattle.tb_embed.specs.contracts.held.Held as Held
use Rattle.tb_embed.specs.contracts.loose.Loose as Loose
use Rattle.tb_embed.proofs.Values.{both}

abbrev pub E : Bx
E = record { row = Server.the_row; laws = server.the_row_laws; al = record { row = Heap.the_row; laws = heap.the_row_laws; g = ghosts; d = dict; drops = impl [] tnil dnil } }

abbrev pub FromLoose : Slot 0
FromLoose = plain (λ _. Loose.the_row Server.the_row Heap.the_row ghosts)

abbrev pub FromHeld : Slot 0
FromHeld = plain (λ _. Held.the_row)

pub some_of : {X : Type 0} (o : Option X) → is_some o ≡ true → (x : X) × (o ≡ Some x)
some_of None is = absurd cc
some_of (Some x) is = (x, refl)

-- a null pointer next to the allocator

abbrev pub null : Val
null = vint w64 0

pub null_good : (h : Val) → Good (layout Heap.the_row) h → T (has_ty (layout Heap.the_row) h && true) × WT (both null h)
null_good h fits = (and_tt (has_ty (layout Heap.the_row) h) fits.0, (record { fits = lit< tt }, (fits.1, tt)))

module _ {M : Type 1} {𝓤 : Ura M} {𝓛 : Logic 𝓤} {K : Type 0} {Γ : List (Item 𝓤)} {G : Goal 𝓤 𝓛.H} where
  pub none_in : K → (h : Val) (a : Global)
      → Step K 𝓛 (‵ (Held.the_row.own_val (record { at = null_ptr; alloc = a; state = None }) (both null h ∷ [])) ∷ Γ) G (‵ (Heap.the_row.own_val a (h ∷ [])) ∷ Γ) G
  none_in t h a = step (λ s. let v : Val = both null h in
      nothing t $ nothing t $ move t (2 ∷ 0 ∷ []) $ fjoin t $ feq_i t (List Val) (null ∷ []) (null ∷ []) refl $ fjoin t $ feq_i t (List Val) (v ∷ []) (v ∷ []) refl $ fjoin t $
      fpack t (Valss (RawPtr ∷ Heap.the_row ∷ [])) (within (shape (Loose.the_type Server.the_row Heap.the_row ghosts)) (null_ptr, (a, tt)) (v ∷ [])) (null ∷ [], (h ∷ [], tt)) $ fjoin t $
      use1 𝓛 (‵ (Held.the_row.own_val (record { at = null_ptr; alloc = a; state = None }) (v ∷ []))) (id⊢ 𝓤 _) $ s)
