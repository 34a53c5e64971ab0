use Rattle.std.proofs.Common.{◌≡◌, refl, sym, ◌∙◌, Ordering, Less, Equal, Greater}
use Rattle.avl_tree.proofs.Steps.{goes, found}
use Rattle.avl_tree.proofs.eight.step.Goals as goal
use Rattle.avl_tree.proofs.eight.step.Goals.{in-Equal, in_default-matches, in-Greater, in_default-matches-2}

only_less : (o : Ordering) → (o ≡ Greater → ⊥) → (o ≡ Equal → ⊥) → Less ≡ o
only_less Less _ _ = refl
only_less Equal _ not_equal = absurd (not_equal refl)
only_less Greater not_greater _ = absurd (not_greater refl)

pub returns : goal.returns
returns g c =
    elim c.match-matches.branch [
      | in-Equal w ↦ elim c.match-matches-2.branch [
        | in-Greater v ↦ rw (w.matches-is, v.matches-is) (record { searched = c.requires.searched; same = refl })
        | in_default-matches-2 v ↦ rw (w.matches-is, v.matches-is) (record { searched = c.requires.searched; same = refl })
      ]
      | in_default-matches w ↦ elim c.match-matches-2.branch [
        | in-Greater v ↦
            let p = rw c.deref.ensures at v.in-Greater.ensures in
            let r = goes g.met.K.Ord.total c.args.key.now c.in-Fork.is _ p refl c.requires.searched in
            rw (w.matches-is, v.matches-is, c.deref-3.ensures) (record { searched = r.searched; same = sym (found r) })
        | in_default-matches-2 v ↦
            let less = only_less c.compare-order.result v.in_default-matches-2.not-Greater w.in_default-matches.not-Equal in
            let p = less ∙ (rw c.deref.ensures at c.compare-order.ensures) in
            let l = goes g.met.K.Ord.total c.args.key.now c.in-Fork.is _ p refl c.requires.searched in
            rw (w.matches-is, v.matches-is, c.deref-2.ensures) (record { searched = l.searched; same = sym (found l) })
      ]
    ]
