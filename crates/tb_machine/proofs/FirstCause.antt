-- The first test that an entry fails which may not come next.
use Rattle.std.proofs.Common.{◌≡◌, ◌+◌, Bool, true, false, not, ◌&&◌, cond, eqb, leb, Some, None, refl, IsTrue}
use Rattle.tb_sessions.specs.Judged.{class_of}
use Rattle.tb_machine.specs.declared.entries.Entry.{Entry}
use Rattle.tb_machine.specs.declared.restoring.Unfit.{Unfit}
use Rattle.tb_machine.specs.declared.restoring.Unfit.TheVariants.{Commit, Time, NotNew, NoMemory}
use Rattle.tb_machine.specs.Histories.{State, least_time, is_new, is_lawful, fits}
use Rattle.tb_machine.specs.Restoring.{cause_of, IsUnfitCause}
use Rattle.tb_records.specs.declared.limits.TheConstants.{LAST_MOMENT}

-- out of memory is no test
never : (a b n : Bool) → cond (not a) (Some Commit) (cond (not b) (Some Time) (cond (not n) (Some NotNew) None)) ≡ Some NoMemory → ⊥
never false b n e = cc
never true false n e = cc
never true true false e = cc
never true true true e = cc

pub is_cause : (S : State) (e : Entry) (cause : Unfit) → cause_of S e ≡ Some cause → IsUnfitCause cause (cause_of S e)
is_cause S e Commit is = is
is_cause S e Time is = is
is_cause S e NotNew is = is
is_cause S e NoMemory is = absurd (never (eqb e.commit (S.commit + 1)) (leb (least_time S e.request) e.time && leb e.time LAST_MOMENT) (is_new (class_of S.rows e.request)) is)

passed : (a b d l n : Bool) → cond (not a) (Some Commit) (cond (not (b && d)) (Some Time) (cond (not n) (Some NotNew) None)) ≡ None → l ≡ true → (a && b && d && l && n) ≡ true
passed false b d l n e lawful = absurd cc
passed true false d l n e lawful = absurd cc
passed true true false l n e lawful = absurd cc
passed true true true l false e lawful = absurd cc
passed true true true l true e lawful = rw lawful refl

-- an entry that passes each test may come next
pub passes : (S : State) (e : Entry) → IsTrue (is_lawful e.request) → cause_of S e ≡ None → IsTrue (fits S e)
passes S e lawful none = passed (eqb e.commit (S.commit + 1)) (leb (least_time S e.request) e.time) (leb e.time LAST_MOMENT) (is_lawful e.request) (is_new (class_of S.rows e.request)) none lawful

-- and one that may come next passes them
failed : (a b d l n : Bool) → (a && b && d && l && n) ≡ true → cond (not a) (Some Commit) (cond (not (b && d)) (Some Time) (cond (not n) (Some NotNew) None)) ≡ None
failed false b d l n e = absurd cc
failed true false d l n e = absurd cc
failed true true false l n e = absurd cc
failed true true true false n e = absurd cc
failed true true true true false e = absurd cc
failed true true true true true e = refl

pub no_cause : (S : State) (e : Entry) → IsTrue (fits S e) → cause_of S e ≡ None
no_cause S e comes = failed (eqb e.commit (S.commit + 1)) (leb (least_time S e.request) e.time) (leb e.time LAST_MOMENT) (is_lawful e.request) (is_new (class_of S.rows e.request)) comes
