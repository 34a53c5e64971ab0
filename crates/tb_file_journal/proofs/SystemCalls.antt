-- Calls on a system's file, one after the other.
use Rattle.std.proofs.Common.{◌≡◌, ◌⊎◌, inl, inr, ⊎_elim, ℕ, ◌+◌, ◌≤◌, List, length, take, drop, sym, ◌∙◌, ap, subst, arith, Result, Ok, Err, length-take}
use Rattle.std.proofs.lemmas.List.{take-take}
use Rattle.tb_file_journal.specs.declared.faults.JournalFault.{JournalFault}
use Rattle.tb_file_journal.specs.Device.{Disk, Torn, Cut, Elapses, Rises, FailsNone, HasFailed, HasCause, IsLookedAt}
use Rattle.tb_file_journal.specs.System.{ChangesDisk}

-- failures

pub none_then : (a b c : Disk) → FailsNone a b → FailsNone b c → FailsNone a c
none_then a b c first second = λ fault. second fault ∙ first fault

pub failed_then : (a b c : Disk) (fault : JournalFault) → FailsNone a b → HasFailed b c fault → HasFailed a c fault
failed_then a b c fault none failed = record {
  named = failed.named;
  counted = subst (λ (n : ℕ). Rises n (c.failures fault)) (none fault) failed.counted;
  others = λ other. ⊎_elim (λ same. inl same) (λ same. inr (same ∙ none other)) (failed.others other);
}

pub cause_then : {T : Type 0} (result : Result T JournalFault) (a b c : Disk) → FailsNone a b → HasCause result b c
    → HasCause result a c
cause_then (Ok x) a b c none cause = record { ok = none_then a b c none cause.ok; cause = tt }
cause_then (Err fault) a b c none cause = record { ok = tt; cause = failed_then a b c fault none cause.cause }

-- time

-- a moment is one of those since any earlier one
abbrev pub CountsNow : Disk → Type 0
CountsNow a = (t : ℕ) (x : List ℕ) → t ≤ a.moment → a.may_leave x → a.left_since t x

-- what a crash may leave between two calls, it might have left before them, or may leave after them
pub elapses_then : (a b c : Disk) → ((t : ℕ) (x : List ℕ) → t ≤ a.moment → b.may_leave x → a.left_since t x ⊎ c.may_leave x)
    → Elapses a b → Elapses b c → Elapses a c
elapses_then a b c between first second = record {
  later = omega (arith, first.later, second.later);
  nothing_else = λ t x le left. ⊎_elim
      (λ was. ⊎_elim (λ before. inl before) (λ mid. between t x le mid) (first.nothing_else t x le was))
      (λ last. inr last)
      (second.nothing_else t x (omega (arith, le, first.later)) left);
  keeps = λ t x le left. second.keeps t x (omega (arith, le, first.later)) (first.keeps t x le left);
}

-- calls that look

pub looked_then : (a b c : Disk) → CountsNow a → IsLookedAt a b → IsLookedAt b c → IsLookedAt a c
looked_then a b c now first second = record {
  seen = second.seen ∙ first.seen;
  crash = λ x left. first.crash x (second.crash x left);
  time = elapses_then a b c (λ t x le mid. inl (now t x le (first.crash x mid))) first.time second.time;
  sound = second.sound ∙ first.sound;
}

-- calls that change

pub changes_then : (step : List ℕ → List ℕ → Type 0) (a b c : Disk)
    → ((x y z : List ℕ) → step x y → step y z → step x z) → ChangesDisk step a b → ChangesDisk step b c → ChangesDisk step a c
changes_then step a b c joins first second = record {
  crash = λ x left.
      let mid = second.crash x left in
      let old = first.crash mid.0 mid.1 in
      (old.0, old.1, joins old.0 mid.0 x old.2 mid.2);
  still = λ x left. second.still x (first.still x left);
  time = elapses_then a b c (λ t x le mid. inr (second.still x mid)) first.time second.time;
  sound = second.sound ∙ first.sound;
}

pub changes_as : (step wider : List ℕ → List ℕ → Type 0) (a b : Disk) → ((x y : List ℕ) → step x y → wider x y)
    → ChangesDisk step a b → ChangesDisk wider a b
changes_as step wider a b widens change = record {
  crash = λ x left. let old = change.crash x left in (old.0, old.1, widens old.0 x old.2);
  still = change.still;
  time = change.time;
  sound = change.sound;
}

-- writes and cuts

pub torn_then : (at n : ℕ) (x y z : List ℕ) → Torn at n x y → Torn at n y z → Torn at n x z
torn_then at n x y z first second = record {
  before = second.before ∙ first.before;
  after = second.after ∙ first.after;
  no_shorter = omega (arith, first.no_shorter, second.no_shorter);
  no_longer = omega (arith, first.no_longer, second.no_longer);
}

-- a write of the rest is one of all
pub torn_wider : (at k n m : ℕ) → k + n ≡ m → (x y : List ℕ) → Torn (at + k) n x y → Torn at m x y
torn_wider at k n m sum x y torn =
    let far : at + m ≡ at + k + n = omega (arith, sum) in
    record {
      before = sym (take-take at (at + k) y (omega arith)) ∙ ap (take at) torn.before ∙ take-take at (at + k) x (omega arith);
      after = ap (λ (i : ℕ). drop i y) far ∙ torn.after ∙ sym (ap (λ (i : ℕ). drop i x) far);
      no_shorter = torn.no_shorter;
      no_longer = omega (arith, torn.no_longer, far);
    }

pub cut_then : (n : ℕ) (x y z : List ℕ) → Cut n x y → Cut n y z → Cut n x z
cut_then n x y z first second =
    let shorter : length z ≤ length y = omega (arith, ap length second.front, length-take (length z) y) in
    record {
      no_shorter = omega (arith, first.no_shorter, second.no_shorter);
      front = sym (take-take (length z) (length y) x shorter) ∙ ap (take (length z)) first.front ∙ second.front;
    }
