-- The last change of a log is undone first.
use Rattle.tb_ledger.proofs.Common.{◌≡◌, ◌+◌, ◌≤◌, Bool, true, false, ℕ, List, length, length-append, [], ◌∷◌, ◌++◌, sym, subst, ap, ◌∙◌, refl, if◌then◌else◌, arith, Undo, Chained, undone_by, unwound, CanUndo, CanUnwind, LeadsBack, GrowsUndoLog, Noted, with_noted}

unwound_push : (us : List Undo) (u : Undo) (x : Chained) → unwound (us ++ u ∷ []) x ≡ unwound us (undone_by u x)
unwound_push [] u x = refl
unwound_push (v ∷ us) u x = ap (undone_by v) (unwound_push us u x)

can_push : (us : List Undo) (u : Undo) (x : Chained) → CanUndo u x → CanUnwind us (undone_by u x) → CanUnwind (us ++ u ∷ []) x
can_push [] u x can rest = (can, tt)
can_push (v ∷ us) u x can rest = (subst (CanUndo v) (sym (unwound_push us u x)) rest.0, can_push us u x can rest.1)

can_pop : (us : List Undo) (u : Undo) (x : Chained) → CanUnwind (us ++ u ∷ []) x → CanUndo u x × CanUnwind us (undone_by u x)
can_pop [] u x can = (can.0, tt)
can_pop (v ∷ us) u x can = let rest = can_pop us u x can.1 in (rest.0, (subst (CanUndo v) (unwound_push us u x) can.0, rest.1))

-- the last change taken off: it can be undone, and then those before it
pub popped_can : (us more : List Undo) (u : Undo) (x : Chained) → more ≡ us ++ u ∷ [] → CanUnwind more x → CanUndo u x × CanUnwind us (undone_by u x)
popped_can us more u x is can = can_pop us u x (subst (λ vs. CanUnwind vs x) is can)

pub popped : (us more : List Undo) (u : Undo) (x : Chained) → more ≡ us ++ u ∷ [] → unwound us (undone_by u x) ≡ unwound more x
popped us more u x is = sym (ap (λ vs. unwound vs x) is ∙ unwound_push us u x)

-- a change is noted that leads back, and one after another
pub leads_by : (us more : List Undo) (u : Undo) (x later : Chained) → more ≡ us ++ u ∷ [] → undone_by u later ≡ x → CanUndo u later → LeadsBack x later us more
leads_by us more u x later pushed back can = record {
  undone = sym (popped us more u later pushed) ∙ ap (unwound us) back;
  can_unwind = λ rest. subst (λ vs. CanUnwind vs later) (sym pushed) (can_push us u later can (subst (CanUnwind us) (sym back) rest));
}

pub leads_both : (x y z : Chained) (us vs ws : List Undo) → LeadsBack x y us vs → LeadsBack y z vs ws → LeadsBack x z us ws
leads_both x y z us vs ws first second = record { undone = second.undone ∙ first.undone; can_unwind = λ can. second.can_unwind (first.can_unwind can) }

-- one more change is noted, or no change
pub grown_by : {back : List Undo → List Undo → Type 0} (u : Undo) (undo_log grown : Noted) → grown ≡ with_noted u undo_log → (grown.changes ≡ undo_log.changes ++ u ∷ [] → back undo_log.changes grown.changes) → GrowsUndoLog 1 back undo_log grown
grown_by {back = back} u undo_log grown is leads = by undo_log.noting refl is
  where
    by : (b : Bool) → undo_log.noting ≡ b → grown ≡ (if b then record undo_log { changes = undo_log.changes ++ u ∷ [] } else undo_log) → GrowsUndoLog 1 back undo_log grown
    by true noting more = record {
      leads = λ _. leads (ap (λ t. t.changes) more);
      noting = ap (λ t. t.noting) more;
      length = omega (arith, ap (λ t. length t.changes) more, length-append undo_log.changes (u ∷ []));
      capacity = ap (λ t. t.capacity) more;
    }
    by false noting more = record {
      leads = λ is. absurd (let no : true ≡ false = sym is ∙ noting in cc);
      noting = ap (λ t. t.noting) more;
      length = omega (arith, ap (λ t. length t.changes) more);
      capacity = ap (λ t. t.capacity) more;
    }

-- one step after another
pub grows_both : {P Q R : List Undo → List Undo → Type 0} (n m k : ℕ) (undo_log mid grown : Noted) → GrowsUndoLog n P undo_log mid → GrowsUndoLog m Q mid grown → n + m ≤ k → ((us vs ws : List Undo) → P us vs → Q vs ws → R us ws) → GrowsUndoLog k R undo_log grown
grows_both n m k undo_log mid grown first second few joins = record {
  leads = λ is. joins undo_log.changes mid.changes grown.changes (first.leads is) (second.leads (first.noting ∙ is));
  noting = second.noting ∙ first.noting;
  length = omega (arith, first.length, second.length, few);
  capacity = second.capacity ∙ first.capacity;
}
