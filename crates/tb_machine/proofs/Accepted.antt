-- What is accepted of lawful pairs is a legal history, and the replies to a script are those of that history.
use Rattle.std.proofs.Common.{◌≡◌, ℕ, ◌⊎◌, inl, inr, Bool, true, false, cond, List, [], ◌∷◌, ◌++◌, is_none, Option, Some, None, refl, sym, ap, ◌∙◌, subst, IsTrue, append_assoc, append-nil}
use Rattle.tb_records.specs.declared.limits.Profile.{Profile}
use Rattle.tb_records.specs.Messages.{Message, Answer}
use Rattle.tb_sessions.specs.declared.rows.Row.{Row}
use Rattle.tb_sessions.specs.declared.classes.Class.{Class}
use Rattle.tb_sessions.specs.declared.classes.Class.TheVariants.{Repeat}
use Rattle.tb_sessions.specs.Judged.{row_of, class_of}
use Rattle.tb_machine.specs.declared.entries.Entry.{Entry}
use Rattle.tb_machine.specs.Histories.{State, is_lawful, IsLegal, after, answer_by, answer_to}
use Rattle.tb_machine.specs.Scripts.{Pair, entry_of, is_entered, accepted, replies_from, grown}
use Rattle.tb_machine.specs.Runs.{Spell}
use Rattle.tb_records.specs.Inputs.{IsTimed}
use Rattle.tb_machine.specs.ScriptLaws.{AreLawful, AcceptedIsLegal, IsGiven, HasRefusal, AreOf, RepliesAreOfHistory, ServedAreLawful}
use Rattle.tb_machine.proofs.Legal.{after_snoc}
use Rattle.tb_machine.proofs.LawProofs.{first_reply}
use Rattle.tb_records.proofs.ByKey.{each-map}
use Rattle.tb_machine.proofs.SoundSteps.{lawful_of}
use Rattle.tb_machine.proofs.MarkLegal.{legal_with_at, accepted_is_legal_with}
use Rattle.tb_machine.proofs.PairAnswers.{answer_after, answer_refused, repeated_or_not}

module _ (profile : Profile) (clients_max : ℕ) where
  pub legal_with : (h : List Entry) (p : Pair) → IsLegal profile clients_max h → IsTrue (is_lawful p.1) → IsLegal profile clients_max (grown (after profile clients_max) h p)
  legal_with h p legal lawful = legal_with_at profile clients_max None h p legal (λ _. lawful)

  -- a history goes on
  Goes : List Entry → List Entry → Type 0
  Goes h m = (more : List Entry) × (m ≡ h ++ more)

  goes_with : (h : List Entry) (p : Pair) → Goes h (grown (after profile clients_max) h p)
  unfolding Goes
  goes_with h p = parts (is_entered (after profile clients_max h) p)
    where
      parts : (b : Bool) → (more : List Entry) × (cond b (h ++ entry_of (after profile clients_max h) p ∷ []) h ≡ h ++ more)
      parts true = (entry_of (after profile clients_max h) p ∷ [], refl)
      parts false = ([], sym (append-nil h))

  goes_on : (h : List Entry) (ps : List Pair) → Goes h (accepted profile clients_max h ps)
  unfolding Goes
  goes_on h [] = ([], sym (append-nil h))
  goes_on h (p ∷ ps) =
      let one = goes_with h p in
      let rest = goes_on (grown (after profile clients_max) h p) ps in
      (one.0 ++ rest.0, rest.1 ∙ ap (λ l. l ++ rest.0) one.1 ∙ append_assoc h one.0 rest.0)

  -- what is given stays given
  given_on : (h more : List Entry) (r : Message) (a : Answer) → IsGiven profile clients_max h r a → IsGiven profile clients_max (h ++ more) r a
  given_on h more r a is = record {
    front = is.front;
    entry = is.entry;
    rest = is.rest ++ more;
    whole = ap (λ l. l ++ more) is.whole ∙ append_assoc is.front (is.entry ∷ is.rest) more;
    request = is.request;
    reply = is.reply;
  }

  -- the answer to one pair
  answered_entered : (h : List Entry) (p : Pair) → IsTrue (is_lawful p.1)
      → IsGiven profile clients_max (h ++ entry_of (after profile clients_max h) p ∷ []) p.1 (answer_to (after profile clients_max (h ++ entry_of (after profile clients_max h) p ∷ [])) p.1)
  answered_entered h p lawful = record {
    front = h;
    entry = entry_of (after profile clients_max h) p;
    rest = [];
    whole = refl;
    request = refl;
    reply = ap (λ (S : State). answer_to S p.1) (after_snoc profile clients_max h (entry_of (after profile clients_max h) p))
        ∙ answer_after (after profile clients_max h) (entry_of (after profile clients_max h) p) (lawful_of p.1 lawful);
  }

  answered_as_it_stands : (h : List Entry) (r : Message) → IsLegal profile clients_max h → IsTrue (is_lawful r)
      → IsGiven profile clients_max h r (answer_to (after profile clients_max h) r) ⊎ HasRefusal r (answer_to (after profile clients_max h) r)
  answered_as_it_stands h r legal lawful = elim (repeated_or_not (class_of (after profile clients_max h).rows r)) [
    | inl class ↦ inl (given class)
    | inr other ↦ inr (record {
      class = class_of (after profile clients_max h).rows r;
      no_repeat = other.0;
      answer = answer_refused (class_of (after profile clients_max h).rows r) (row_of (after profile clients_max h).rows r.client) r other.0;
    })
  ]
    where
      given : class_of (after profile clients_max h).rows r ≡ Repeat → IsGiven profile clients_max h r (answer_to (after profile clients_max h) r)
      given class =
          let is = first_reply profile clients_max h r legal lawful class in
          record {
            front = is.front;
            entry = is.entry;
            rest = is.rest;
            whole = is.whole;
            request = is.request;
            reply = ap (λ (k : Class). answer_by k (row_of (after profile clients_max h).rows r.client) r) class
                ∙ ap (λ (o : Option Row). answer_by Repeat o r) is.stored ∙ is.reply;
          }

  answered_one : (h : List Entry) (p : Pair) → IsLegal profile clients_max h → IsTrue (is_lawful p.1)
      → IsGiven profile clients_max (grown (after profile clients_max) h p) p.1 (answer_to (after profile clients_max (grown (after profile clients_max) h p)) p.1)
      ⊎ HasRefusal p.1 (answer_to (after profile clients_max (grown (after profile clients_max) h p)) p.1)
  answered_one h p legal lawful = parts (is_entered (after profile clients_max h) p)
    where
      parts : (b : Bool) → let m = cond b (h ++ entry_of (after profile clients_max h) p ∷ []) h in
          IsGiven profile clients_max m p.1 (answer_to (after profile clients_max m) p.1) ⊎ HasRefusal p.1 (answer_to (after profile clients_max m) p.1)
      parts true = inl (answered_entered h p lawful)
      parts false = answered_as_it_stands h p.1 legal lawful

  answered_on : (h m : List Entry) (r : Message) (a : Answer) → Goes h m → IsGiven profile clients_max h r a ⊎ HasRefusal r a → IsGiven profile clients_max m r a ⊎ HasRefusal r a
  unfolding Goes
  answered_on h m r a goes (inl given) = inl (subst (λ l. IsGiven profile clients_max l r a) (sym goes.1) (given_on h goes.0 r a given))
  answered_on h m r a goes (inr refused) = inr refused

  replies_of : (h : List Entry) (ps : List Pair) → IsLegal profile clients_max h → AreLawful ps → AreOf profile clients_max (accepted profile clients_max h ps) ps (replies_from profile clients_max h ps)
  replies_of h [] legal lawful = tt
  replies_of h (p ∷ ps) legal lawful =
      let m = grown (after profile clients_max) h p in (
        answered_on m (accepted profile clients_max m ps) p.1 (answer_to (after profile clients_max m) p.1) (goes_on m ps) (answered_one h p legal lawful.0),
        replies_of m ps (legal_with h p legal lawful.0) lawful.1,
      )

pub accepted_is_legal : AcceptedIsLegal
accepted_is_legal profile clients_max ps lawful = accepted_is_legal_with profile clients_max None ps lawful

pub replies_are_of_history : RepliesAreOfHistory
replies_are_of_history profile clients_max ps lawful = replies_of profile clients_max [] ps tt lawful

-- pairs that bytes encode are lawful
spelled_lawful : (ps : List Pair) (before after : Option (List ℕ)) (bytes : List ℕ) → before ≡ Some bytes → Spell ps before after → AreLawful ps
spelled_lawful ps None after bytes is spelled = absurd cc
spelled_lawful ps (Some b) None bytes is spelled = absurd spelled
spelled_lawful ps (Some b) (Some a) bytes is spelled = each-map IsTimed (λ (p : Pair). IsTrue (is_lawful p.1)) ps (λ p pair. ap is_none pair.1.lawful) spelled.1

pub served_are_lawful : ServedAreLawful
served_are_lawful profile clients_max result before after start written bytes ran told =
    spelled_lawful ran.items before.left ran.middle.left bytes told ran.done.read.spelled
