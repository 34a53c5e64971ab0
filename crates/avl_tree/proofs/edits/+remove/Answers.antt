use Rattle.std.proofs.Common.{◌≡◌, ◌<◌, Option, None, Some, ap, sym, ◌∙◌, refl, arith}
use Rattle.std.specs.Option.{option_map}
use Rattle.avl_tree.specs.Nodes.{entries, entry, stored_height}
use Rattle.avl_tree.proofs.Steps.{goes, stands_here, found, removed}
use Rattle.avl_tree.proofs.edits.+remove.Goals as goal
use Rattle.avl_tree.proofs.edits.+remove.Goals.{in-Less, in-Greater}

map_map : {B E V : Type 0} (f : B → E) (v : E → V) (o : Option B) → option_map (λ b. v (f b)) o ≡ option_map v (option_map f o)
map_map f v None = refl
map_map f v (Some b) = refl

pub remove-requires : goal.remove-requires
remove-requires g t c κs within =
    let p = rw c.deref.ensures at c.in-Less.ensures in
    let w = goes g.met.K.Ord.total c.args.key.now c.in-Fork.is _ p refl c.requires.searched in
    let lower : stored_height c.in-Fork.node.value.left < t = omega (arith, c.decreases, w.lower) in
    let fits : stored_height c.in-Fork.node.value.left < 200 = omega (arith, c.requires.height_fits, w.lower) in
    rw c.deref_mut.ensures.value (lower, (within.0, (within.1.0, (within.1.1, (w.searched, (fits, c.requires.not_lower))))))

pub remove-requires-in-Greater : goal.remove-requires-in-Greater
remove-requires-in-Greater g t c κs within =
    let p = rw c.deref.ensures at c.in-Greater.ensures in
    let w = goes g.met.K.Ord.total c.args.key.now c.in-Fork.is _ p refl c.requires.searched in
    let lower : stored_height c.in-Fork.node.value.right < t = omega (arith, c.decreases, w.lower) in
    let fits : stored_height c.in-Fork.node.value.right < 200 = omega (arith, c.requires.height_fits, w.lower) in
    rw c.deref_mut-in-Greater.ensures.value (lower, (within.0, (within.1.0, (within.1.1, (w.searched, (fits, c.requires.not_lower))))))

pub returns-in-Equal-clause-entries : goal.returns-in-Equal-clause-entries
returns-in-Equal-clause-entries g t c =
    let p = rw c.deref.ensures at c.in-Equal.ensures in
    let w = stands_here g.met.K.Ord.total c.args.key.now c.in-Fork.is p c.requires.searched in
    c.take_root-taken.ensures.entries ∙ w.removed

pub returns-in-Equal-clause-value : goal.returns-in-Equal-clause-value
returns-in-Equal-clause-value g t c =
    let p = rw c.deref.ensures at c.in-Equal.ensures in
    let w = stands_here g.met.K.Ord.total c.args.key.now c.in-Fork.is p c.requires.searched in
    map_map (λ b. entry b.value) (λ e. e.1) c.take_root-taken.result ∙ ap (λ e. option_map (λ f. f.1) e) c.take_root-taken.ensures.root ∙ sym w.found

pub returns-clause-entries : goal.returns-clause-entries
returns-clause-entries g t c =
    elim c.match-compare.branch [
      | in-Less b ↦
          let p = rw c.deref.ensures at b.in-Less.ensures in
          let w = goes g.met.K.Ord.total c.args.key.now c.in-Fork.is _ p refl c.requires.searched in
          let less = rw b.deref_mut.ensures.value at b.remove.ensures.entries in
          (rw b.deref_mut.ensures.value at (rw b.tree-is at c.regrow.ensures.settled)).1 ∙ removed w b.remove.new.tree less
      | in-Greater b ↦
          let p = rw c.deref.ensures at b.in-Greater.ensures in
          let w = goes g.met.K.Ord.total c.args.key.now c.in-Fork.is _ p refl c.requires.searched in
          let less = rw b.deref_mut-in-Greater.ensures.value at b.remove-in-Greater.ensures.entries in
          (rw b.deref_mut-in-Greater.ensures.value at (rw b.tree-is at c.regrow.ensures.settled)).1 ∙ removed w b.remove-in-Greater.new.tree less
    ]

pub returns-clause-value : goal.returns-clause-value
returns-clause-value g t c =
    elim c.match-compare.branch [
      | in-Less b ↦
          let p = rw c.deref.ensures at b.in-Less.ensures in
          let w = goes g.met.K.Ord.total c.args.key.now c.in-Fork.is _ p refl c.requires.searched in
          rw b.taken-is ((rw b.deref_mut.ensures.value at b.remove.ensures.value) ∙ sym (found w))
      | in-Greater b ↦
          let p = rw c.deref.ensures at b.in-Greater.ensures in
          let w = goes g.met.K.Ord.total c.args.key.now c.in-Fork.is _ p refl c.requires.searched in
          rw b.taken-is ((rw b.deref_mut-in-Greater.ensures.value at b.remove-in-Greater.ensures.value) ∙ sym (found w))
    ]

pub returns-then-not-lower-clause-entries : goal.returns-then-not-lower-clause-entries
returns-then-not-lower-clause-entries g t c =
    elim c.match-compare.branch [
      | in-Less b ↦
          let p = rw c.deref.ensures at b.in-Less.ensures in
          let w = goes g.met.K.Ord.total c.args.key.now c.in-Fork.is _ p refl c.requires.searched in
          let less = rw b.deref_mut.ensures.value at b.remove.ensures.entries in
          (rw b.deref_mut.ensures.value at (ap entries b.tree-is)) ∙ removed w b.remove.new.tree less
      | in-Greater b ↦
          let p = rw c.deref.ensures at b.in-Greater.ensures in
          let w = goes g.met.K.Ord.total c.args.key.now c.in-Fork.is _ p refl c.requires.searched in
          let less = rw b.deref_mut-in-Greater.ensures.value at b.remove-in-Greater.ensures.entries in
          (rw b.deref_mut-in-Greater.ensures.value at (ap entries b.tree-is)) ∙ removed w b.remove-in-Greater.new.tree less
    ]

pub returns-then-not-lower-clause-value : goal.returns-then-not-lower-clause-value
returns-then-not-lower-clause-value g t c =
    elim c.match-compare.branch [
      | in-Less b ↦
          let p = rw c.deref.ensures at b.in-Less.ensures in
          let w = goes g.met.K.Ord.total c.args.key.now c.in-Fork.is _ p refl c.requires.searched in
          rw b.taken-is ((rw b.deref_mut.ensures.value at b.remove.ensures.value) ∙ sym (found w))
      | in-Greater b ↦
          let p = rw c.deref.ensures at b.in-Greater.ensures in
          let w = goes g.met.K.Ord.total c.args.key.now c.in-Fork.is _ p refl c.requires.searched in
          rw b.taken-is ((rw b.deref_mut-in-Greater.ensures.value at b.remove-in-Greater.ensures.value) ∙ sym (found w))
    ]
