use Rattle.std.proofs.Common.{refl, ◌∷◌, [], ◌++◌}
use Rattle.tb_oracle.specs.Streams.{Exchange}
use Rattle.tb_oracle.proofs.Streams.{none_exchanged, exchanged_more}
use Rattle.tb_oracle.proofs.answering.answer_all.Goals as goal

pub loop-init : goal.loop-init
loop-init g c = record { so_far = ([], none_exchanged _ _); head = refl }

pub loop-preserved : goal.loop-preserved
loop-preserved g c =
    let xs = c.loop.invariant.so_far.0 in
    let x : Exchange = record { head = c.read_step.new.head; rest = c.in-Some.rest.items; answer = c.in_ok-bytes.bytes.items } in
    record {
      so_far = (xs ++ x ∷ [], exchanged_more xs x _ _ _ _ _ _ c.loop.invariant.so_far.1 (rw c.in-Some.is at c.in_ok-rest.ensures.read) (rw c.deref.ensures.value at c.in_ok-bytes.ensures.answer) (rw c.deref-in-loop.ensures.value at c.in-Ok.ensures.bytes));
      head = c.in_ok-rest.ensures.long;
    }
