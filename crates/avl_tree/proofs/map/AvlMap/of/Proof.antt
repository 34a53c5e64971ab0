-- The parts go into the map, which owns no more than they do.
use Rattle.std.proofs.Common.{◌≡◌, ℕ, List, [], ◌∷◌, ◌++◌, sym, refl, subst, w64}
use lib.Dec.{T}
use mir.Syntax.{Ty, Fn, Args, dcons, dnil, a_type, ty_int}
use mir.Val.{Val, vint, vstruct, vcons, vnil, has_ty, WT}
use mir.MapTy.{inst_fn}
use base.Fml.{ftrue, fsep}
use base.Logic.{SProp, ent, emp, id⊢}
use prog.Wp.{WpFn}
use types.Kit.{‵, raw, ◌⊛◌, ◌$◌, ◌∵◌, !, qed, by, move, keep, split, join, fjoin, fpack, feq_i, use0, rewrite, suffices}
use types.Run.{of_opd, no_more, and_then, returns, enter}
use types.ByLocal.{alloc_all, pass_all, free_all, look_at, get, sets}
use types.Part.{agg}
use contract.Running.{tables}
use contract.Monad.{fact, fact_i}
use denote.Exit.{Last, left, rest, yes, no}
use denote.RattleType.{RattleType, Valss, owns}
use denote.Builtin.{usize}
use denote.Laws.{Typed}
use denote.Param.{param, copied, layout, bounded}
use denote.Param.Laws.{Laws, param_laws, copied_laws}
use denote.Param.Mute.{blank}
use denote.Signature.{types_at, plain}
use denote.Steps.{nothing, heard}
use denote.Struct.Struct.{within, as_fields}
use denote.Struct.Owning.{shape, fields, to}
use denote.Triple.Entry.{alive}
use denote.Triple.Walked.{Stays, stay_dropped, walk_of, Goes-dropped}
use Rattle.std.specs.declared.alloc.Allocator as Allocator
use Rattle.std.proofs.alloc.Calls.{Goes-blank}
use Rattle.std.proofs.raw_atomic.Walks.{proved_at, leaves}
use Rattle.avl_tree.specs.Nodes.{IsWholeTree, search_of}
use Rattle.avl_tree.specs.declared.tree.Tree.TheVariants.{Empty, Fork'}
use Rattle.avl_tree.specs.contracts.tree.Tree as Tree
use Rattle.avl_tree.specs.contracts.spare.SpareNodes as SpareNodes
use Rattle.avl_tree.specs.contracts.map.AvlMap as AvlMap
use Rattle.avl_tree.specs.contracts.map.AvlMap.TheInside as inside
use Rattle.avl_tree.specs.contracts.map.AvlMap.of as F
use Rattle.avl_tree.proofs.map.AvlMap.of.Statement.{statement}
use Rattle.avl_tree.proofs.map.AvlMap.of.Code as code
use Rattle.avl_tree.proofs.tree.Tree.TheLaws as tree-laws
use Rattle.avl_tree.proofs.spare.SpareNodes.TheLaws as spare-laws

one : (τ : Ty) (vs : List Val) → Typed (τ ∷ []) vs → (v : Val) × (vs ≡ v ∷ []) × (T (has_ty τ v) × WT v)
one τ [] t = absurd t
one τ (v ∷ []) t = (v, refl, t.0)
one τ (v ∷ w ∷ vs) t = absurd t.1

-- a tree that was passed in and went into the map says nothing of itself
module _ (K V A : RattleType) (g : Allocator.Ghosts A.Denot) where
  abbrev Tr : RattleType
  Tr = Tree.the_row (copied 0 K) (param 1 V) (param 2 A) g

  gone : (x : Tr.Denot) (f : Last (Tr.exit no) x) → T (blank (left (Tr.exit no) x f))
  gone Empty f = tt
  gone (Fork' h p k l r v) f = tt

pub of_spec : {M : Type 1} → statement M
of_spec 𝓤 𝓛 𝓜 𝓡 wired K V A LK LV LA CK o od e ed pe ped po pod c cd g d ac acd dd _ _ _ _ _ _ _ _ =
    let H = 𝓛.H in let 𝓣 = tables 𝓤 H 𝓜 𝓡 𝓡.env in
    let RK : RattleType = copied 0 K in let RV : RattleType = param 1 V in let RA : RattleType = param 2 A in
    let MK : Laws RK = copied_laws 0 K LK in let MV : Laws RV = param_laws 1 V LV in let MA : Laws RA = param_laws 2 A LA in
    let En = F.ended K V A o od e ed pe ped po pod c cd g d ac acd dd in
    let cl = F.clauses K V A o od e ed pe ped po pod c cd g d ac acd dd 𝓛 𝓜.mem 𝓡.returns in
    let inst : Args = bounded (a_type ∷ a_type ∷ a_type ∷ []) (K, (V, (A, tt))) (dcons od (dcons ed (dcons ped (dcons pod (dcons cd (dcons d (dcons acd (dcons dd dnil)))))))) in
    let fn : Fn = inst_fn inst code.function in
    let Sp : RattleType = SpareNodes.the_row RK RV RA g in
    let hs : Stays En.signature.params En.kept = (stay_dropped (plain (λ _. Tr K V A g)) no, (stay_dropped (plain (λ _. usize)) yes, (stay_dropped (plain (λ _. Sp)) no, (stay_dropped (plain (λ _. RA)) no, tt)))) in
    proved_at 𝓛 En hs cl 𝓜 𝓡
    (Goes-blank 𝓛 3 (plain (λ _. Tr K V A g)) no (λ κs x f. gone K V A g x f), (Goes-dropped 𝓛 3 (plain (λ _. usize)) yes (λ κs x f. refl), (Goes-blank 𝓛 3 (plain (λ _. Sp)) no (λ κs x f. tt), (Goes-dropped 𝓛 3 (plain (λ _. RA)) no (λ κs x f. refl), tt))))
    (F.Key.name inst) fn (code.unfolded 𝓤 H 𝓜 𝓡 wired (K, (V, (A, tt))) od ed ped pod cd d acd dd) (λ z are.
    let root = z.0.3.0 in let len : ℕ = z.0.3.1.0 in let spare : ℕ = z.0.3.1.1.0 in let alloc = z.0.3.1.1.1.0 in
    let got0 = one (layout (Tr K V A g)) z.0.4.0 (((tree-laws.the_row_laws RK RV RA g MK MV MA).lawful 𝓛).typed root z.0.4.0 are.0) in
    let got2 = one (layout Sp) z.0.4.1.1.0 (((spare-laws.the_row_laws RK RV RA g MK MV MA).lawful 𝓛).typed spare z.0.4.1.1.0 are.1.1.0) in
    let got3 = one (layout RA) z.0.4.1.1.1.0 ((MA.lawful 𝓛).typed alloc z.0.4.1.1.1.0 are.1.1.1.0) in
    let v0 : Val = got0.0 in let v1 : Val = vint w64 len in let v2 : Val = got2.0 in let v3 : Val = got3.0 in
    let e0 = got0.1 in let e1 = are.1.0.0 in let e2 = got2.1 in let e3 = got3.1 in
    let f0 = got0.2 in let f1 : T (has_ty (ty_int w64) v1) × WT v1 = (tt, record { fits = are.1.0.1 }) in let f2 = got2.2 in let f3 = got3.2 in
    let vs : List Val = v0 ∷ v1 ∷ v2 ∷ v3 ∷ [] in let v : Val = vstruct (vcons v0 (vcons v1 (vcons v2 (vcons v3 vnil)))) in
    let typed = as_fields (layout (Tr K V A g) ∷ ty_int w64 ∷ layout Sp ∷ layout RA ∷ []) vs (f0, (f1, (f2, (f3, tt)))) in
    let In : RattleType = inside.the_row RK RV RA o pe po g ac in let Inner = inside.the_type RK RV RA o pe po g ac in
    let made : In.Denot = record { root = root; len = len; spare = spare; alloc = alloc } in
    let Row : RattleType = AvlMap.the_row RK RV RA o pe po g ac in let value : Row.Denot = AvlMap.the_view RK RV RA o pe po g ac made in
    let Ts : List RattleType = types_at En.signature.params z.0.0 in
    let Post : Val → SProp 𝓤 = (walk_of 𝓛 En hs cl).post z in let Run : List Val → SProp 𝓤 = λ ws. WpFn 𝓤 H 𝓣.C 𝓣.Λ fn ws Post in
    let whole : Type 0 = IsWholeTree o.cmp root len spare in
    qed 𝓛 ((raw (alive 𝓛 En.signature z.0.0 z.0.1) ⊛ ‵ (owns Ts z.0.3 z.0.4)) ∷ raw (fact 𝓤 _) ∷ raw (fact 𝓤 _) ∷ raw (fact 𝓤 _) ∷ raw (fact 𝓤 whole) ∷ []) ∵
    keep ! (4 ∷ 0 ∷ []) $ heard ! whole (λ holds. split ! $ move ! (1 ∷ []) $
    rewrite ! 0 (λ (ws : Valss Ts). ‵ (owns Ts z.0.3 ws)) (λ i. (e0 i, (e1 i, (e2 i, (e3 i, tt))))) refl $
    -- [the parts; the tokens]
    feq_i ! (List Val) (v ∷ []) (v ∷ []) refl $ fjoin ! $
    fpack ! (Valss (fields Inner)) (within (shape Inner) (to Inner made) (v ∷ [])) (v0 ∷ [], (v1 ∷ [], (v2 ∷ [], (v3 ∷ [], tt)))) $
    nothing ! $ move ! (1 ∷ 0 ∷ []) $ fjoin ! $ nothing ! $ move ! (1 ∷ 0 ∷ []) $ fjoin ! $
    fpack ! ((a : In.Denot) × ((AvlMap.the_view RK RV RA o pe po g ac a ≡ value) × AvlMap.the_invariant RK RV RA o pe po g ac a)) (λ x. fsep (In.own_val x.0 (v ∷ [])) ftrue) (made, (refl, holds)) $
    -- [the map; the tokens]
    suffices ! (Run vs) (subst (λ (ws : List Val). ent 𝓤 (Run vs) (Run ws)) (sym (λ i. e0 i ++ (e1 i ++ (e2 i ++ (e3 i ++ []))))) (id⊢ 𝓤 (Run vs))) $
    enter ! 𝓣.C 𝓣.Λ fn vs Post $ alloc_all ! (λ l. pass_all ! refl (f0, (f1, (f2, (f3, tt)))) $
    sets ! (of_opd ! (get ! refl)) refl f0 $ sets ! (of_opd ! (get ! refl)) refl f2 $ sets ! (of_opd ! (get ! refl)) refl f3 $
    sets ! (agg ! (and_then ! (get ! refl) (and_then ! (get ! refl) (and_then ! (get ! refl) (and_then ! (get ! refl) (no_more !)))))) refl typed $
    use0 𝓛 (raw (fact 𝓤 (value.spare ≡ spare))) (fact_i 𝓤 (value.spare ≡ spare) (emp 𝓤) refl) $
    use0 𝓛 (raw (fact 𝓤 (value.tree ≡ search_of root))) (fact_i 𝓤 (value.tree ≡ search_of root) (emp 𝓤) refl) $ join ! $
    nothing ! $ nothing ! $ fjoin ! $ nothing ! $ fjoin ! $ nothing ! $ fjoin ! $ nothing ! $ fjoin ! $
    returns ! (look_at ! 0 refl) $ free_all ! refl $ keep ! (3 ∷ 0 ∷ 2 ∷ 1 ∷ []) $
    by ! (leaves 𝓛 En hs cl z v value (rest ((Tr K V A g).exit no) root, (tt, (tt, (tt, tt)))) (tt, (tt, (tt, (tt, tt))))))))
