-- The laws of a script that several machines read, proved.
use Rattle.std.proofs.Common.{◌≡◌, ℕ, ◌+◌, ◌≤◌, max, inl, inr, Bool, true, false, cond, List, [], ◌∷◌, ◌++◌, None, refl, sym, ap, ◌∙◌, subst, arith, le-leb}
use Rattle.tb_records.specs.declared.limits.Profile.{Profile}
use Rattle.tb_records.specs.Messages.{Message, is_register}
use Rattle.tb_records.specs.Ordered.{Each}
use Rattle.tb_records.specs.declared.limits.TheConstants.{LAST_MOMENT}
use Rattle.tb_records.proofs.ByKey.{each-map}
use Rattle.tb_sessions.specs.declared.classes.Class.TheVariants.{New}
use Rattle.tb_sessions.specs.Judged.{row_of, class_of}
use Rattle.tb_machine.specs.declared.entries.Entry.{Entry}
use Rattle.tb_machine.specs.Histories.{State, time_of, is_new, step, IsLegal, after, answer_to}
use Rattle.tb_machine.specs.Scripts.{Pair, entry_of, has_time, is_entered, after_pair, accepted, replies_from, replies_to, grown}
use Rattle.tb_machine.specs.Runs.{HasTimes}
use Rattle.tb_machine.specs.ReplicaLaws.{FromHere, ReplyPrefix, IsIn, IsOfKeptClient, SameAgain, CopyChangesNothing, ticks, all_ticks, Timely}
use Rattle.tb_machine.proofs.Legal.{fold_append}
use Rattle.tb_machine.proofs.Judging.{both_of, new_of}
use Rattle.tb_machine.proofs.Lawful.{executed_time}
use Rattle.tb_machine.proofs.RepeatLaws.{new_again}
use Rattle.tb_machine.proofs.Accepted.{accepted_is_legal}
use Rattle.tb_machine.proofs.Running.{after_with_pair}

-- a script in two parts

pub from_here : FromHere
from_here profile clients_max h ps qs = fold_append (grown (after profile clients_max)) h ps qs

pub prefix : ReplyPrefix
prefix profile clients_max h [] qs = refl
prefix profile clients_max h (p ∷ ps) qs =
    let m = grown (after profile clients_max) h p in
    ap (λ l. answer_to (after profile clients_max m) p.1 ∷ l) (prefix profile clients_max m ps qs)

-- a request that comes again

module _ (profile : Profile) (clients_max : ℕ) (h : List Entry) (p : Pair) (legal : IsLegal profile clients_max h) (there : IsIn h p.1) where
  abbrev S : State
  S = after profile clients_max h

  -- it is new only as a register whose client has no row
  again : class_of S.rows p.1 ≡ New → (is_register p.1.body ≡ true) × (row_of S.rows p.1.client ≡ None)
  again new =
      subst (λ (r : Message). (is_register r.body ≡ true) × (row_of S.rows r.client ≡ None)) there.request
      (subst (λ (l : List Entry). (is_register there.entry.request.body ≡ true) × (row_of (after profile clients_max l).rows there.entry.request.client ≡ None)) (sym there.whole)
      (new_again profile clients_max there.front there.entry there.rest (subst (IsLegal profile clients_max) there.whole legal)
      (subst (λ (l : List Entry). class_of (after profile clients_max l).rows there.entry.request ≡ New) there.whole
      (subst (λ (r : Message). class_of S.rows r ≡ New) (sym there.request) new))))

  never_new : IsOfKeptClient S p.1 → class_of S.rows p.1 ≡ New → ⊥
  never_new (inl numbered) new = let is = again new in absurd cc
  never_new (inr row) new = let is = again new in let found = row.1 in absurd cc

  unchanged : IsOfKeptClient S p.1 → grown (after profile clients_max) h p ≡ h
  unchanged kept = by (is_entered S p) refl
    where
      by : (b : Bool) → is_entered S p ≡ b → cond b (h ++ entry_of S p ∷ []) h ≡ h
      by true e = absurd (never_new kept (new_of (class_of S.rows p.1) (both_of (is_new (class_of S.rows p.1)) (has_time S p) e).0))
      by false e = refl

pub same_again : SameAgain
same_again profile clients_max h p legal there kept = unchanged profile clients_max h p legal there kept

pub copy_changes_nothing : CopyChangesNothing
copy_changes_nothing profile clients_max ps qs p lawful there kept =
    let h = accepted profile clients_max [] ps in
    let same : grown (after profile clients_max) h p ≡ h = unchanged profile clients_max h p (accepted_is_legal profile clients_max ps lawful) there kept in (
      prefix profile clients_max [] ps qs,
      prefix profile clients_max [] ps (p ∷ qs)
          ∙ ap (λ (l : List Entry). replies_to profile clients_max ps ++ answer_to (after profile clients_max l) p.1 ∷ replies_from profile clients_max l qs) same,
      from_here profile clients_max [] ps (p ∷ qs)
          ∙ ap (λ (l : List Entry). accepted profile clients_max l qs) same
          ∙ sym (from_here profile clients_max [] ps qs),
    )

-- moments with a bound

time_on : (S : State) (p : Pair) → (after_pair S p).books.time ≤ max S.books.time (time_of S p.0 p.1)
time_on S p = by (is_entered S p)
  where
    by : (b : Bool) → (cond b (step S (entry_of S p)) S).books.time ≤ max S.books.time (time_of S p.0 p.1)
    by true = omega (arith, executed_time S.books p.1.body (time_of S p.0 p.1))
    by false = omega arith

module _ (profile : Profile) (clients_max : ℕ) where
  times : (h : List Entry) (ps : List Pair) (latest : ℕ) → (after profile clients_max h).books.time ≤ latest → Each (λ (p : Pair). p.0 ≤ latest) ps → latest + all_ticks ps ≤ LAST_MOMENT → HasTimes (after profile clients_max) h ps
  times h [] latest behind early within = tt
  times h (p ∷ ps) latest behind early within =
      let S : State = after profile clients_max h in
      let low : time_of S p.0 p.1 ≤ latest + ticks p = omega (arith, early.0, behind) in (
        λ new. le-leb (time_of S p.0 p.1) LAST_MOMENT (omega (arith, low, within)),
        times (grown (after profile clients_max) h p) ps (latest + ticks p)
            (subst (λ (T : State). T.books.time ≤ latest + ticks p) (sym (after_with_pair profile clients_max h p)) (omega (arith, low, behind, time_on S p)))
            (each-map (λ (q : Pair). q.0 ≤ latest) (λ (q : Pair). q.0 ≤ latest + ticks p) ps (λ q le. omega (arith, le)) early.1)
            (omega (arith, within)),
      )

pub timely : Timely
timely profile clients_max h ps latest behind early within = times profile clients_max h ps latest behind early within
