-- Histories that are legal with a mark: one entry more, a machine that goes over, what is accepted and what a dump wrote.
use Rattle.std.proofs.Common.{◌≡◌, ℕ, ◌+◌, ◌<◌, ◌≤◌, Bool, true, false, cond, ltb, List, [], ◌∷◌, ◌++◌, length, is_none, leb-true, Option, Some, None, Result, Ok, Err, refl, sym, ap, ◌∙◌, subst, IsTrue, arith, length-append}
use Rattle.std.proofs.lemmas.Bool.Decides.{nat_tests}
use Rattle.tb_records.specs.declared.limits.Profile.{Profile}
use Rattle.tb_records.specs.declared.limits.Profile.TheVariants.{One}
use Rattle.tb_records.specs.Ordered.{Each}
use Rattle.tb_records.specs.declared.limits.TheConstants.{LAST_MOMENT}
use Rattle.tb_machine.specs.declared.entries.Entry.{Entry}
use Rattle.tb_machine.specs.declared.restoring.RestoreFault.{RestoreFault}
use Rattle.tb_machine.specs.declared.restoring.Unfit.{Unfit}
use Rattle.tb_machine.specs.declared.restoring.Unfit.TheVariants.{Commit, Time, NotNew, NoMemory}
use Rattle.tb_sessions.specs.Judged.{class_of}
use Rattle.tb_machine.specs.Histories.{State, time_of, is_new, is_lawful, fits, after}
use Rattle.tb_machine.specs.Scripts.{Pair, entry_of, has_time, is_entered, grown}
use Rattle.tb_machine.specs.ScriptLaws.{AreLawful}
use Rattle.tb_machine.specs.Dumps.{IsPlace, IsDumpedEntry, after_with, IsLegalWith, place_in, after_at, accepted_at}
use Rattle.tb_machine.specs.MarkedLaws.{next_in, NextIsLegalWith, MovedIsLegalWith, AcceptedIsLegalWith, DumpedIsLegal}
use Rattle.tb_machine.specs.Restoring.{cause_of, IsUnfitCause, IsBarred, RestoresNext, Restores, RestoresHistory}
use Rattle.tb_machine.proofs.Judging.{both_of, new_of, MayCome, comes}
use Rattle.tb_machine.proofs.Legal.{legal_snoc}
use Rattle.tb_machine.proofs.DumpLaws.{each_split}
use Rattle.tb_machine.proofs.FirstCause.{passes, no_cause}
use Rattle.tb_machine.proofs.Marked.{with_snoc, legal_snoc_in, legal_with_snoc, legal_marked, with_marked}
use Rattle.tb_machine.proofs.MarkLeads.{next_whole, comes_next, reached_with, whole_alike}

pub next_is_legal : NextIsLegalWith
next_is_legal profile clients_max mark h e place legal next = (legal_with_snoc profile clients_max mark h e place legal next, with_snoc profile clients_max mark h e place)

pub moved_is_legal : MovedIsLegalWith
moved_is_legal profile clients_max h legal = (legal_marked profile clients_max h legal, with_marked profile clients_max h)

-- a pair that is entered makes an entry that may come next
entry_comes : (S : State) (p : Pair) → IsTrue (is_lawful p.1) → is_entered S p ≡ true → MayCome S (entry_of S p)
entry_comes S p lawful entered =
    let parts = both_of (is_new (class_of S.rows p.1)) (has_time S p) entered in
    record {
      commit = refl;
      late_enough = omega arith;
      in_range = leb-true (time_of S p.0 p.1) LAST_MOMENT parts.1;
      lawful = lawful;
      new = new_of (class_of S.rows p.1) parts.0;
    }

-- an entry that is accepted, with the mark before it if its place is there
module _ (profile : Profile) (clients_max : ℕ) where
  entered_legal : (at : Option ℕ) (h : List Entry) (e : Entry) → IsLegalWith profile clients_max (place_in at h) h → IsTrue (fits (after_at profile clients_max at h) e) → IsLegalWith profile clients_max (place_in at (h ++ e ∷ [])) (h ++ e ∷ [])
  entered_legal None h e legal next = legal_snoc profile clients_max h e legal next
  entered_legal (Some a) h e legal next = by (ltb a (length h)) refl (ltb a (length (h ++ e ∷ []))) refl legal next
    where
      by : (b : Bool) → ltb a (length h) ≡ b → (d : Bool) → ltb a (length (h ++ e ∷ [])) ≡ d
          → IsLegalWith profile clients_max (cond b (Some a) None) h → IsTrue (fits (after_with profile clients_max (cond b (Some a) None) h) e) → IsLegalWith profile clients_max (cond d (Some a) None) (h ++ e ∷ [])
      by true is true more legal next = legal_snoc_in profile clients_max a h e (let less : a < length h = grind (arith, nat_tests) in omega (arith, less)) legal next
      by true is false more legal next =
          let less : a < length h = grind (arith, nat_tests) in
          let not_less : length (h ++ e ∷ []) ≤ a = grind (arith, nat_tests) in
          absurd (omega (arith, less, not_less, length-append h (e ∷ [])))
      by false is true more legal next =
          let not_less : length h ≤ a = grind (arith, nat_tests) in
          let less : a < length (h ++ e ∷ []) = grind (arith, nat_tests) in
          let here : length h ≡ a = omega (arith, less, not_less, length-append h (e ∷ [])) in
          subst (λ k. IsLegalWith profile clients_max (Some k) (h ++ e ∷ [])) here
          (legal_snoc_in profile clients_max (length h) h e (omega arith) (legal_marked profile clients_max h legal)
          (subst (λ (S : State). IsTrue (fits S e)) (sym (with_marked profile clients_max h)) next))
      by false is false more legal next = legal_snoc profile clients_max h e legal next

  module _ (at : Option ℕ) where
    pub legal_with_at : (h : List Entry) (p : Pair) → IsLegalWith profile clients_max (place_in at h) h → (is_entered (after_at profile clients_max at h) p ≡ true → IsTrue (is_lawful p.1))
        → IsLegalWith profile clients_max (place_in at (grown (after_at profile clients_max at) h p)) (grown (after_at profile clients_max at) h p)
    legal_with_at h p legal lawful = parts (is_entered (after_at profile clients_max at h) p) refl
      where
        parts : (b : Bool) → is_entered (after_at profile clients_max at h) p ≡ b
            → IsLegalWith profile clients_max (place_in at (cond b (h ++ entry_of (after_at profile clients_max at h) p ∷ []) h)) (cond b (h ++ entry_of (after_at profile clients_max at h) p ∷ []) h)
        parts true e = entered_legal at h (entry_of (after_at profile clients_max at h) p) legal (comes (after_at profile clients_max at h) (entry_of (after_at profile clients_max at h) p) (entry_comes (after_at profile clients_max at h) p (lawful e) e))
        parts false e = legal

    legal_pairs : (h : List Entry) (ps : List Pair) → IsLegalWith profile clients_max (place_in at h) h → AreLawful ps
        → IsLegalWith profile clients_max (place_in at (accepted_at profile clients_max at h ps)) (accepted_at profile clients_max at h ps)
    legal_pairs h [] legal lawful = legal
    legal_pairs h (p ∷ ps) legal lawful = legal_pairs (grown (after_at profile clients_max at) h p) ps (legal_with_at h p legal (λ _. lawful.0)) lawful.1

    -- what holds of each entry that is accepted holds of those before
    each_before : (P : Entry → Type 0) (b : Bool) (h : List Entry) (e : Entry) → Each P (cond b (h ++ e ∷ []) h) → Each P h × (b ≡ true → P e)
    each_before P true h e each = let parts = each_split P h (e ∷ []) each in (parts.0, λ _. parts.1.0)
    each_before P false h e each = (each, λ is. absurd cc)

    each_accepted : (P : Entry → Type 0) (h : List Entry) (ps : List Pair) → Each P (accepted_at profile clients_max at h ps) → Each P h
    each_accepted P h [] each = each
    each_accepted P h (p ∷ ps) each =
        (each_before P (is_entered (after_at profile clients_max at h) p) h (entry_of (after_at profile clients_max at h) p) (each_accepted P (grown (after_at profile clients_max at) h p) ps each)).0

    legal_dumped : (h : List Entry) (ps : List Pair) → IsLegalWith profile clients_max (place_in at h) h → Each IsDumpedEntry (accepted_at profile clients_max at h ps)
        → IsLegalWith profile clients_max (place_in at (accepted_at profile clients_max at h ps)) (accepted_at profile clients_max at h ps)
    legal_dumped h [] legal each = legal
    legal_dumped h (p ∷ ps) legal each =
        let here = each_accepted IsDumpedEntry (grown (after_at profile clients_max at) h p) ps each in
        let last = (each_before IsDumpedEntry (is_entered (after_at profile clients_max at h) p) h (entry_of (after_at profile clients_max at h) p) here).1 in
        legal_dumped (grown (after_at profile clients_max at) h p) ps (legal_with_at h p legal (λ is. ap is_none (last is).request.lawful)) each

    nothing_legal : IsLegalWith profile clients_max (place_in at []) []
    nothing_legal = by at
      where
        by : (at : Option ℕ) → IsLegalWith profile clients_max (place_in at []) []
        by None = tt
        by (Some a) = none (ltb a 0) refl
          where
            none : (b : Bool) → ltb a 0 ≡ b → IsLegalWith profile clients_max (cond b (Some a) None) []
            none true e = absurd (grind (arith, nat_tests))
            none false e = tt

pub accepted_is_legal_with : AcceptedIsLegalWith
accepted_is_legal_with profile clients_max at ps lawful = legal_pairs profile clients_max at [] ps (nothing_legal profile clients_max at) lawful

pub dumped_is_legal : DumpedIsLegal
dumped_is_legal clients_max at ps before after start written has = legal_dumped One clients_max at [] ps (nothing_legal One clients_max at) has.gives.spelled.entries

-- an entry that fails a test goes on no legal history
module _ (profile : Profile) (clients_max : ℕ) (mark : Option ℕ) (h : List Entry) (e : Entry) (place : IsPlace profile mark h) where
  passes_here : (more : List Entry) → IsLegalWith profile clients_max mark (h ++ e ∷ more) → cause_of (after_with profile clients_max mark h) e ≡ None
  passes_here more legal =
      subst (λ (S : State). cause_of S e ≡ None) (next_whole profile clients_max mark h place)
      (no_cause (next_in profile clients_max mark h) e (comes_next profile clients_max mark h e more legal))

  barred : (cause : Unfit) → cause_of (after_with profile clients_max mark h) e ≡ Some cause → (more : List Entry) → IsLegalWith profile clients_max mark (h ++ e ∷ more) → ⊥
  barred cause is more legal = let wrong : Some cause ≡ None = sym is ∙ passes_here more legal in absurd cc

  module _ (legal : IsLegalWith profile clients_max mark h) (lawful : IsTrue (is_lawful e.request)) where
    numbered : (after_with profile clients_max mark h).commit ≡ length h
    numbered = (whole_alike profile clients_max mark h).commit ∙ (reached_with profile clients_max mark h legal).count

    is_barred : (cause : Unfit) → IsUnfitCause cause (cause_of (after_with profile clients_max mark h) e) → IsBarred profile clients_max mark h e cause
    is_barred NoMemory none = legal_with_snoc profile clients_max mark h e place legal (passes (after_with profile clients_max mark h) e lawful none)
    is_barred Commit is = barred Commit is
    is_barred Time is = barred Time is
    is_barred NotNew is = barred NotNew is

    goes_on : (result : Result (Unit {0}) RestoreFault) (T : State) → Restores result (after_with profile clients_max mark h) T e → RestoresNext profile clients_max mark h e result T
    goes_on (Ok done) T restored = (legal_with_snoc profile clients_max mark h e place legal restored.0, restored.1 ∙ sym (with_snoc profile clients_max mark h e place))
    goes_on (Err fault) T restored = (restored.0, restored.1 ∙ ap (λ n. n + 1) numbered, is_barred fault.cause restored.2)

pub restores_history : RestoresHistory
restores_history profile clients_max mark h e result T place legal lawful restored = goes_on profile clients_max mark h e place legal lawful result T restored
