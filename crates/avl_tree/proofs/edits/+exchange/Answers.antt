use Rattle.std.proofs.Common.{◌<◌, Some, refl, ap, sym, ◌∙◌, arith}
use Rattle.avl_tree.specs.Nodes.{stored_height}
use Rattle.avl_tree.proofs.Steps.{goes, stands_here}
use Rattle.avl_tree.proofs.InPlace.{exchanges}
use Rattle.avl_tree.proofs.edits.+exchange.Goals as goal

pub exchange-requires : goal.exchange-requires
exchange-requires g t c κs within =
    let p = rw c.deref.ensures at c.in-Less.ensures in
    let w = goes g.met.K.Ord.total c.args.key.now c.in-Fork.is _ p refl c.requires.searched in
    let lower : stored_height c.in-Fork.node.value.left < t = omega (arith, c.decreases, w.lower) in
    rw c.deref_mut.ensures.value (lower, (within.0, (within.1.0, (within.1.1, w.searched))))

pub exchange-requires-in-Greater : goal.exchange-requires-in-Greater
exchange-requires-in-Greater g t c κs within =
    let p = rw c.deref.ensures at c.in-Greater.ensures in
    let w = goes g.met.K.Ord.total c.args.key.now c.in-Fork.is _ p refl c.requires.searched in
    let lower : stored_height c.in-Fork.node.value.right < t = omega (arith, c.decreases, w.lower) in
    rw c.deref_mut-in-Greater.ensures.value (lower, (within.0, (within.1.0, (within.1.1, w.searched))))

pub returns-in-Less : goal.returns-in-Less
returns-in-Less g t c =
    let p = rw c.deref.ensures at c.in-Less.ensures in
    let w = goes g.met.K.Ord.total c.args.key.now c.in-Fork.is _ p refl c.requires.searched in
    let x = rw c.deref_mut.ensures.value at c.exchange.ensures in
    rw c.deref_mut.ensures.value (exchanges w c.exchange.result _ _ _ x)

pub returns-in-Greater : goal.returns-in-Greater
returns-in-Greater g t c =
    let p = rw c.deref.ensures at c.in-Greater.ensures in
    let w = goes g.met.K.Ord.total c.args.key.now c.in-Fork.is _ p refl c.requires.searched in
    let x = rw c.deref_mut-in-Greater.ensures.value at c.exchange-in-Greater.ensures in
    rw c.deref_mut-in-Greater.ensures.value (exchanges w c.exchange-in-Greater.result _ _ _ x)

pub returns-in-Equal : goal.returns-in-Equal
returns-in-Equal g t c =
    let p = rw c.deref.ensures at c.in-Equal.ensures in
    let w = stands_here g.met.K.Ord.total c.args.key.now c.in-Fork.is p c.requires.searched in
    let x = rw c.deref_mut-in-Equal.ensures.value at c.exchange_value.ensures in
    let left = x.left in
    let right = x.right in
    let key = ap (λ e. e.0) x.entry in
    let value = ap (λ e. e.1) x.entry in
    let kept = w.keeps c.args.value.now in
    rw (left, right, key, value) (record {
      found = w.found ∙ ap Some (sym x.value);
      balanced = kept.balanced;
      height = kept.height;
      written = w.written c.args.value.now;
    })
