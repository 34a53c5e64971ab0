use Rattle.tb_published.proofs.Tied.{tied_pick}
use Rattle.tb_published.proofs.publisher.Publisher.offer_all.Goals as goal
use Rattle.tb_published.proofs.publisher.Publisher.offer_all.Goals.{then-is_none, else-is_none}

pub invariant_of-self : goal.invariant_of-self
invariant_of-self g c = let idle = c.self-in-loop-n in elim c.if-is_none.branch [
  | then-is_none w ↦ rw w.self-inside-is (rw w.replace.ensures.after
      (tied_pick idle.inside.offered idle.inside.copies idle.inside.waiting w.next_posted-next.result w.next_posted-next.new.offered w.if-is_none.ensures
      idle.invariant (rw w.as_slice.ensures.value at w.next_posted-next.ensures)))
  | else-is_none w ↦ rw w.self-inside-is idle.invariant
]

pub invariant_of-self-else-n-eq0 : goal.invariant_of-self-else-n-eq0
invariant_of-self-else-n-eq0 g c = let idle = c.self-in-loop-n in elim c.if-is_none.branch [
  | then-is_none w ↦ rw w.self-inside-is (rw w.replace.ensures.after
      (tied_pick idle.inside.offered idle.inside.copies idle.inside.waiting w.next_posted-next.result w.next_posted-next.new.offered w.if-is_none.ensures
      idle.invariant (rw w.as_slice.ensures.value at w.next_posted-next.ensures)))
  | else-is_none w ↦ rw w.self-inside-is idle.invariant
]
