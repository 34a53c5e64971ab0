-- How a run of device calls goes on.
use Rattle.std.proofs.Common.{inl, inr, ⊎_elim, ℕ, List, arith}
use Rattle.tb_file_journal.specs.Device.{Disk, Elapses, LeavesOnly}

-- before the first call
pub started : (disk : Disk) (P : List ℕ → Type 0) → ((c : List ℕ) → disk.left_since disk.moment c → P c)
    → LeavesOnly disk disk P
started disk P here = record { later = omega arith; each = here; earlier = λ t c le left. inl left }

-- one call more, after which a crash leaves what has P
pub goes_on : (old mid new : Disk) (P : List ℕ → Type 0) → LeavesOnly old mid P → Elapses mid new
    → ((c : List ℕ) → new.may_leave c → P c) → LeavesOnly old new P
goes_on old mid new P so_far time here = record {
  later = omega (arith, so_far.later, time.later);
  each = λ c left. ⊎_elim (so_far.each c) (here c) (time.nothing_else old.moment c so_far.later left);
  earlier = λ t c le left. ⊎_elim (so_far.earlier t c le) (λ now. inr (here c now)) (time.nothing_else t c (omega (arith, le, so_far.later)) left);
}

-- one run after another
pub then : (old mid new : Disk) (P : List ℕ → Type 0) → LeavesOnly old mid P → LeavesOnly mid new P
    → LeavesOnly old new P
then old mid new P first second = record {
  later = omega (arith, first.later, second.later);
  each = λ c left. ⊎_elim (first.each c) (λ p. p) (second.earlier old.moment c first.later left);
  earlier = λ t c le left. ⊎_elim (first.earlier t c le) (λ p. inr p) (second.earlier t c (omega (arith, le, first.later)) left);
}

-- what has P has Q
pub weaker : (old new : Disk) (P Q : List ℕ → Type 0) → ((c : List ℕ) → P c → Q c) → LeavesOnly old new P
    → LeavesOnly old new Q
weaker old new P Q f so = record {
  later = so.later;
  each = λ c left. f c (so.each c left);
  earlier = λ t c le left. ⊎_elim (λ was. inl was) (λ p. inr (f c p)) (so.earlier t c le left);
}
