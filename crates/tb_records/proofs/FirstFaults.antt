-- Lists of tests of which the first that holds names the fault.
use Rattle.std.proofs.Common.{◌≡◌, ℕ, Bool, false, not, ◌&&◌, ◌==◌, List, [], ◌∷◌, ◌++◌, Some, None, refl, arith}
use Rattle.std.proofs.lemmas.Bool.Decides.{nat_tests}
use Rattle.tb_records.specs.declared.faults.FrameFault.{FrameFault}
use Rattle.tb_records.specs.Messages.{first_fault}

-- no test holds
abbrev pub NoneHolds : List (Bool × FrameFault) → Type 0
NoneHolds [] = Unit {0}
NoneHolds (test ∷ tests) = (test.0 ≡ false) × NoneHolds tests

-- if there is no fault no test holds
pub none_each : (tests : List (Bool × FrameFault)) → first_fault tests ≡ None → NoneHolds tests
none_each [] e = tt
none_each (test ∷ tests) e = grind (arith, none_each tests)

-- two numbers that are tested to be 0
pub both_zero : (x y : ℕ) → not (x == 0 && y == 0) ≡ false → (x ≡ 0) × (y ≡ 0)
both_zero x y e = grind (arith, nat_tests)

-- a fault among the first tests is that of all
pub first_fault-some : (tests more : List (Bool × FrameFault)) (f : FrameFault) → first_fault tests ≡ Some f → first_fault (tests ++ more) ≡ Some f
first_fault-some [] more f e = cc
first_fault-some (test ∷ tests) more f e = grind (arith, first_fault-some tests more f)

-- without a fault among the first tests the others decide
pub first_fault-none : (tests more : List (Bool × FrameFault)) → first_fault tests ≡ None → first_fault (tests ++ more) ≡ first_fault more
first_fault-none [] more e = refl
first_fault-none (test ∷ tests) more e = grind (arith, first_fault-none tests more)
