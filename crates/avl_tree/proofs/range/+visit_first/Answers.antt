use Rattle.std.proofs.Common.{◌≡◌, ◌-◌, ◌<◌, length, take, ap, sym, ◌∙◌, arith}
use Rattle.avl_tree.specs.Nodes.{entries, entry}
use Rattle.avl_tree.specs.Visits.{CalledAtEntry}
use Rattle.avl_tree.proofs.Firsts.{take_past, take_left, none_left, left_past}
use Rattle.avl_tree.proofs.Ranges.{FoldsTo-append}
use Rattle.avl_tree.proofs.range.+visit_first.Goals as goal

pub returns-clause-visited : goal.returns-clause-visited
returns-clause-visited g t c =
    let node = c.in-Fork.node.value in
    let n = c.args.n in
    let left = rw c.deref.ensures at c.visit_first-left.ensures.visited in
    let count = rw c.deref.ensures at c.visit_first-left.ensures.left in
    let here = rw c.deref-2.ensures at c.call_at.ensures.called in
    let right = rw c.deref-3.ensures at c.visit_first.ensures.visited in
    let past : length (entries node.left) < n = omega (arith, count, c.if-left-eq0.false) in
    let rest : n - length (entries node.left) - 1 ≡ c.visit_first-left.result - 1 = ap (λ k. k - 1) (sym count) in
    let split = ap (λ u. take n (entries u)) c.in-Fork.is ∙ take_past (entry node) (entries node.right) n (entries node.left) past in
    rw (split, rest) (FoldsTo-append (CalledAtEntry g.F.FnMut) _ _ _ _ _ left (_, here, right))

pub returns-then-left-eq0-clause-visited : goal.returns-then-left-eq0-clause-visited
returns-then-left-eq0-clause-visited g t c =
    let node = c.in-Fork.node.value in
    let left = rw c.deref.ensures at c.visit_first-left.ensures.visited in
    let count = rw c.deref.ensures at c.visit_first-left.ensures.left in
    let is = ap (λ u. take c.args.n (entries u)) c.in-Fork.is ∙ take_left (entry node) (entries node.right) c.args.n (entries node.left) (sym count ∙ c.if-left-eq0.true) in
    rw is left

pub returns-then-left-eq0-clause-left : goal.returns-then-left-eq0-clause-left
returns-then-left-eq0-clause-left g t c =
    let node = c.in-Fork.node.value in
    let count = rw c.deref.ensures at c.visit_first-left.ensures.left in
    let is = c.in-Fork.is in
    rw is (none_left (entry node) (entries node.right) c.args.n (entries node.left) (sym count ∙ c.if-left-eq0.true))

pub returns-clause-left : goal.returns-clause-left
returns-clause-left g t c =
    let node = c.in-Fork.node.value in
    let count = rw c.deref.ensures at c.visit_first-left.ensures.left in
    let right = rw c.deref-3.ensures at c.visit_first.ensures.left in
    let is = c.in-Fork.is in
    right ∙ rw is (left_past (entry node) (entries node.right) c.args.n c.visit_first-left.result (entries node.left) count)
