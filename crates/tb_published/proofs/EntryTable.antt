-- The table of a request that is entered, from what its calls return.
use Rattle.std.proofs.Common.{◌≡◌, inl, inr, length, length-append, ℕ, ◌+◌, max, true, List, [], ◌∷◌, ◌++◌, Result, Ok, Err, is_none, refl, sym, ap, ◌∙◌, subst, arith, IsTrue, leb-true}
use Rattle.tb_records.specs.Messages.{Message, IsLawful}
use Rattle.tb_records.specs.declared.limits.TheConstants.{LAST_MOMENT}
use Rattle.tb_sessions.specs.declared.classes.Class.TheVariants.{New}
use Rattle.tb_sessions.specs.Judged.{class_of}
use mathlib.Core.List.{IsPrefix}
use Rattle.tb_machine.specs.declared.entries.Entry.{Entry}
use Rattle.tb_machine.specs.Histories.{State, least_time, fits, step}
use Rattle.tb_machine.specs.Scripts.{entry_of, has_time}
use Rattle.tb_machine.proofs.Judging.{comes}
use Rattle.tb_machine.proofs.Legal.{after_snoc, legal_snoc}
use Rattle.tb_machine.proofs.RepeatLaws.{held, commit_is}
use Rattle.tb_published.specs.declared.faults.Taken.{Taken}
use Rattle.tb_published.specs.declared.faults.Taken.TheVariants as taken
use Rattle.tb_published.specs.declared.faults.TakeFault.{TakeFault}
use Rattle.tb_published.specs.declared.faults.TakeFault.TheVariants as fault
use Rattle.tb_published.specs.private.Entering.{EntersBy}
use Rattle.tb_published.specs.Openings.{Opening, LegalIn, after_in}
use Rattle.tb_published.specs.private.Prefixes.{Prefix}
use Rattle.tb_published.specs.private.PostedEntries.{TwoCopies}
use Rattle.tb_published.specs.Taking.{Enters, TakesRequest, ShowsHistory}
use Rattle.tb_published.specs.private.Ties.{Ties}
use Rattle.tb_published.proofs.Prefixes.{prefix_trans, prefix_whole}

-- the entry of a new request that has a time may come next
pub fits_new : (S : State) (now : ℕ) (r : Message) (e : Entry) → IsLawful r → class_of S.rows r ≡ New → has_time S (now, r) ≡ true → e ≡ entry_of S (now, r) → IsTrue (fits S e)
fits_new S now r e lawful new time is = subst (λ (e : Entry). IsTrue (fits S e)) (sym is) (comes S (entry_of S (now, r)) (record {
  commit = refl;
  late_enough = omega arith;
  in_range = leb-true (max now (least_time S r)) LAST_MOMENT time;
  lawful = ap is_none lawful;
  new = new;
}))

-- what the state of a history says of a request holds of the state after it
module _ (o : Opening) (h : List Entry) (r : Message) (now : ℕ) where
  pub enters_by : (S : State) (result : Result Taken TakeFault) (T : State) (m : List Entry) → S ≡ after_in o h → LegalIn o h → EntersBy S h r now result T m → Enters o h r now result m
  enters_by S result T m state legal by = entered result (subst (λ (S : State). EntersBy S h r now result T m) state by)
    where
      entered : (result : Result Taken TakeFault) → EntersBy (after_in o h) h r now result T m → Enters o h r now result m
      entered (Ok (taken.Committed c)) by = (by.0, by.1, by.2 ∙ ap (λ n. n + 1) (commit_is o.profile o.clients_max h legal), by.4)
      entered (Ok (taken.Repeat c)) by = (by.0, held o.profile o.clients_max h r legal (ap is_none by.2) by.0 c by.1, by.4)
      entered (Ok (taken.Refused s)) by = (by.0, by.1, by.2, by.4)
      entered (Err fault.NoMemory) by = (by.0, by.1, by.3)
      entered (Err fault.TimeExhausted) by = (by.0, by.1, by.3)
      entered (Err (fault.Unpublished c)) by = by

-- what a publisher keeps, with the entry or without it
module _ {o : Opening} {h : List Entry} {S : State} {offered : Prefix} {copies : TwoCopies} where
  tied_new : (e : Entry) (T : State) (m : List Entry) → Ties o h S offered copies → IsTrue (fits S e) → T ≡ step S e → m ≡ h ++ e ∷ [] → Ties o m T offered copies
  tied_new e T m t next state grown = record {
    legal = subst (LegalIn o) (sym grown) (legal_snoc o.profile o.clients_max h e t.legal (subst (λ (T : State). IsTrue (fits T e)) t.machine_is next));
    machine_is = state ∙ (ap (λ (T : State). step T e) t.machine_is ∙ (sym (after_snoc o.profile o.clients_max h e) ∙ ap (after_in o) (sym grown)));
    named = t.named;
    offered_is = prefix_trans offered.list h m t.offered_is (e ∷ [], sym grown);
    seen_is = t.seen_is;
    follows = t.follows;
    leads = t.leads;
  }

  tied_same : (T : State) (m : List Entry) → Ties o h S offered copies → T ≡ S → m ≡ h → Ties o m T offered copies
  tied_same T m t state same =
      subst (λ (m : List Entry). Ties o m T offered copies) (sym same) (subst (λ (T : State). Ties o h T offered copies) (sym state) t)

  pub tied_by : (r : Message) (now : ℕ) (result : Result Taken TakeFault) (T : State) (m : List Entry) → Ties o h S offered copies → IsLawful r
      → EntersBy S h r now result T m → Ties o m T offered copies
  tied_by r now (Ok (taken.Committed c)) T m t lawful by = tied_new (entry_of S (now, r)) T m t (fits_new S now r (entry_of S (now, r)) lawful by.0 by.1 refl) by.3 by.4
  tied_by r now (Ok (taken.Repeat c)) T m t lawful by = tied_same T m t by.3 by.4
  tied_by r now (Ok (taken.Refused s)) T m t lawful by = tied_same T m t by.3 by.4
  tied_by r now (Err fault.NoMemory) T m t lawful by = tied_same T m t by.2 by.3
  tied_by r now (Err fault.TimeExhausted) T m t lawful by = tied_same T m t by.2 by.3
  tied_by r now (Err (fault.Unpublished c)) T m t lawful by = absurd by

-- what is entered after all that is shown, and can't be shown then
module _ (o : Opening) (h : List Entry) (r : Message) (now : ℕ) where
  pub takes_unshown : (t : Taken) (f : TakeFault) (m s : List Entry) → Enters o h r now (Ok t) m → IsPrefix h s → ShowsHistory (Err f) m s → TakesRequest o h r now (Err f) m s
  takes_unshown (taken.Committed c) (fault.Unpublished d) m s by pre ends =
      let count : length m ≡ length h + 1 = ap length by.3 ∙ length-append h (entry_of (after_in o h) (now, r) ∷ []) in
      let same : c ≡ d = omega (arith, by.2, ends.0, count) in
      (ends.0, ends.1, inr (subst (λ (k : ℕ). Enters o h r now (Ok (taken.Committed k)) m) same by, sym (prefix_whole h s pre (omega (arith, ends.1, count)))))
  takes_unshown (taken.Repeat c) (fault.Unpublished d) m s by pre ends = (ends.0, ends.1, inl by.2)
  takes_unshown (taken.Refused e) (fault.Unpublished d) m s by pre ends = (ends.0, ends.1, inl by.3)
  takes_unshown t fault.NoMemory m s by pre ends = absurd ends
  takes_unshown t fault.TimeExhausted m s by pre ends = absurd ends
