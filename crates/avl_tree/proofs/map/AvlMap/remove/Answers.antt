use Rattle.std.proofs.Common.{◌+◌, Some, refl, sym, ap, ◌∙◌, arith}
use Rattle.avl_tree.proofs.Shape.{entries_search_of}
use Rattle.avl_tree.proofs.MapInvariants.{low_height, whole_remove, whole_absent, some_entry}
use Rattle.avl_tree.proofs.MapViews.{spare_seen}
use Rattle.avl_tree.proofs.map.AvlMap.remove.Goals as goal

pub remove-requires-clause-height_fits : goal.remove-requires-clause-height_fits
remove-requires-clause-height_fits g c = omega (arith, low_height c.self.invariant)

pub invariant_of-self : goal.invariant_of-self
invariant_of-self g c =
    let r = c.in_err-node.ensures in
    (refl, tt, whole_absent c.self.invariant c.args.key.now (sym r.value) r.balanced r.entries)

pub invariant_of-self-2 : goal.invariant_of-self-2
invariant_of-self-2 g c =
    let r = c.in_ok-node.ensures in
    (refl, tt, whole_remove c.self.invariant c.args.key.now c.in_ok-node.node.value.value r.value r.balanced r.entries c.retire-value.ensures.one_less c.retire-value.ensures.one_more)

pub returns-in_err-node-clause-value : goal.returns-in_err-node-clause-value
returns-in_err-node-clause-value g c =
    let e = entries_search_of c.self.inside.root in
    rw (← c.self.view_is, e) (c.from_residual.ensures ∙ c.in_err-node.ensures.value)

pub returns-in_err-node-clause-entries : goal.returns-in_err-node-clause-entries
returns-in_err-node-clause-entries g c =
    let e = entries_search_of c.self.inside.root in
    let n = entries_search_of c.remove.new.tree in
    rw (← c.self.view_is, e, n) c.in_err-node.ensures.entries

pub returns-clause-value : goal.returns-clause-value
returns-clause-value g c =
    let e = entries_search_of c.self.inside.root in
    rw (← c.self.view_is, e) (ap (λ p. Some p.1) c.retire-value.ensures.pair ∙ c.in_ok-node.ensures.value)

pub returns-clause-entries : goal.returns-clause-entries
returns-clause-entries g c =
    let e = entries_search_of c.self.inside.root in
    let n = entries_search_of c.remove.new.tree in
    rw (← c.self.view_is, e, n) c.in_ok-node.ensures.entries

pub remove-requires-clause-searched : goal.remove-requires-clause-searched
remove-requires-clause-searched g c = (c.self.invariant.balanced, c.self.invariant.sorted)

pub retire-value-requires-clause-counted : goal.retire-value-requires-clause-counted
retire-value-requires-clause-counted g c = some_entry c.self.invariant c.args.key.now _ c.in_ok-node.ensures.value

pub retire-value-requires-clause-fits : goal.retire-value-requires-clause-fits
retire-value-requires-clause-fits g c =
    let counted = some_entry c.self.invariant c.args.key.now _ c.in_ok-node.ensures.value in
    omega (arith, counted, c.self.invariant.fits)

pub returns-in_err-node-clause-spare : goal.returns-in_err-node-clause-spare
returns-in_err-node-clause-spare g c =
    let same = spare_seen c.self.inside.root c.self.inside.spare c.args.self.now c.self.view_is in
    rw c.from_residual.ensures (omega (arith, same))

pub returns-clause-spare : goal.returns-clause-spare
returns-clause-spare g c =
    let same = spare_seen c.self.inside.root c.self.inside.spare c.args.self.now c.self.view_is in
    c.retire-value.ensures.one_more ∙ ap (λ n. n + 1) same
