use Rattle.std.proofs.Common.{◌≡◌, length, List, [], ◌∷◌, get_or, map, ◌∙◌, arith}
use Rattle.std.specs.Map.{lookup}
use Rattle.std.specs.BTreeMap.{is_at}
use Rattle.std.specs.declared.cmp.Ordering.{Ordering}
use Rattle.avl_tree.specs.Nodes.{entries, LeadsTo}
use Rattle.avl_tree.specs.declared.tree.Tree.{Tree}
use Rattle.avl_tree.proofs.eight.find_eight.Goals as goal

map_eight : {K B : Type 0} (f : K → B) (ks : List K) (d0 d1 d2 d3 d4 d5 d6 d7 : K) {b0 b1 b2 b3 b4 b5 b6 b7 : B} → length ks ≡ 8 → b0 ≡ f (get_or ks 0 d0) → b1 ≡ f (get_or ks 1 d1) → b2 ≡ f (get_or ks 2 d2) → b3 ≡ f (get_or ks 3 d3) → b4 ≡ f (get_or ks 4 d4) → b5 ≡ f (get_or ks 5 d5) → b6 ≡ f (get_or ks 6 d6) → b7 ≡ f (get_or ks 7 d7) → b0 ∷ b1 ∷ b2 ∷ b3 ∷ b4 ∷ b5 ∷ b6 ∷ b7 ∷ [] ≡ map f ks
map_eight f [] _ _ _ _ _ _ _ _ l _ _ _ _ _ _ _ _ = absurd (omega arith)
map_eight f (k0 ∷ []) _ _ _ _ _ _ _ _ l _ _ _ _ _ _ _ _ = absurd (omega arith)
map_eight f (k0 ∷ k1 ∷ []) _ _ _ _ _ _ _ _ l _ _ _ _ _ _ _ _ = absurd (omega arith)
map_eight f (k0 ∷ k1 ∷ k2 ∷ []) _ _ _ _ _ _ _ _ l _ _ _ _ _ _ _ _ = absurd (omega arith)
map_eight f (k0 ∷ k1 ∷ k2 ∷ k3 ∷ []) _ _ _ _ _ _ _ _ l _ _ _ _ _ _ _ _ = absurd (omega arith)
map_eight f (k0 ∷ k1 ∷ k2 ∷ k3 ∷ k4 ∷ []) _ _ _ _ _ _ _ _ l _ _ _ _ _ _ _ _ = absurd (omega arith)
map_eight f (k0 ∷ k1 ∷ k2 ∷ k3 ∷ k4 ∷ k5 ∷ []) _ _ _ _ _ _ _ _ l _ _ _ _ _ _ _ _ = absurd (omega arith)
map_eight f (k0 ∷ k1 ∷ k2 ∷ k3 ∷ k4 ∷ k5 ∷ k6 ∷ []) _ _ _ _ _ _ _ _ l _ _ _ _ _ _ _ _ = absurd (omega arith)
map_eight f (k0 ∷ k1 ∷ k2 ∷ k3 ∷ k4 ∷ k5 ∷ k6 ∷ k7 ∷ []) _ _ _ _ _ _ _ _ l p0 p1 p2 p3 p4 p5 p6 p7 = cc
map_eight f (k0 ∷ k1 ∷ k2 ∷ k3 ∷ k4 ∷ k5 ∷ k6 ∷ k7 ∷ k8 ∷ ks) _ _ _ _ _ _ _ _ l _ _ _ _ _ _ _ _ = absurd (omega arith)

pub returns : goal.returns
returns g c =
    let loop = c.loop.invariant in
    map_eight (λ k. lookup (is_at (g.K.Ord.cmp k)) (entries c.args.tree.now)) c.args.keys.now c.index-keys-0.result c.index-keys-1.result c.index-keys-2.result c.index-keys-3.result c.index-keys-4.result c.index-keys-5.result c.index-keys-6.result c.index-keys-7.result c.type_inv.keys (c.find.ensures ∙ loop.first.same) (c.find-2.ensures ∙ loop.second.same) (c.find-3.ensures ∙ loop.third.same) (c.find-4.ensures ∙ loop.fourth.same) (c.find-5.ensures ∙ loop.fifth.same) (c.find-6.ensures ∙ loop.sixth.same) (c.find-7.ensures ∙ loop.seventh.same) (c.find-8.ensures ∙ loop.eighth.same)

onward : {K V A : Type 0} {cmp : K → K → Ordering} {k : K} {t u v : Tree K V A} → LeadsTo cmp k t u → LeadsTo cmp k u v → LeadsTo cmp k t v
onward w x = record { searched = x.searched; same = x.same ∙ w.same }

pub step-a-requires : goal.step-a-requires
step-a-requires g c = record { searched = c.loop.invariant.first.searched }

pub step-b-requires : goal.step-b-requires
step-b-requires g c = record { searched = c.loop.invariant.second.searched }

pub step-c-requires : goal.step-c-requires
step-c-requires g c = record { searched = c.loop.invariant.third.searched }

pub step-d-requires : goal.step-d-requires
step-d-requires g c = record { searched = c.loop.invariant.fourth.searched }

pub step-e-requires : goal.step-e-requires
step-e-requires g c = record { searched = c.loop.invariant.fifth.searched }

pub step-f-requires : goal.step-f-requires
step-f-requires g c = record { searched = c.loop.invariant.sixth.searched }

pub step-g-requires : goal.step-g-requires
step-g-requires g c = record { searched = c.loop.invariant.seventh.searched }

pub step-h-requires : goal.step-h-requires
step-h-requires g c = record { searched = c.loop.invariant.eighth.searched }

pub loop-preserved : goal.loop-preserved
loop-preserved g c =
    let loop = c.loop.invariant in
    record {
      first = onward loop.first c.step-a.ensures;
      second = onward loop.second c.step-b.ensures;
      third = onward loop.third c.step-c.ensures;
      fourth = onward loop.fourth c.step-d.ensures;
      fifth = onward loop.fifth c.step-e.ensures;
      sixth = onward loop.sixth c.step-f.ensures;
      seventh = onward loop.seventh c.step-g.ensures;
      eighth = onward loop.eighth c.step-h.ensures;
    }

pub find-requires : goal.find-requires
find-requires g c = record { searched = c.loop.invariant.first.searched }

pub find-requires-2 : goal.find-requires-2
find-requires-2 g c = record { searched = c.loop.invariant.second.searched }

pub find-requires-3 : goal.find-requires-3
find-requires-3 g c = record { searched = c.loop.invariant.third.searched }

pub find-requires-4 : goal.find-requires-4
find-requires-4 g c = record { searched = c.loop.invariant.fourth.searched }

pub find-requires-5 : goal.find-requires-5
find-requires-5 g c = record { searched = c.loop.invariant.fifth.searched }

pub find-requires-6 : goal.find-requires-6
find-requires-6 g c = record { searched = c.loop.invariant.sixth.searched }

pub find-requires-7 : goal.find-requires-7
find-requires-7 g c = record { searched = c.loop.invariant.seventh.searched }

pub find-requires-8 : goal.find-requires-8
find-requires-8 g c = record { searched = c.loop.invariant.eighth.searched }
