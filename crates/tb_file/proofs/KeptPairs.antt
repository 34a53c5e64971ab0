-- A pair that was kept: what waits and what is held of it.
use Rattle.std.proofs.Common.{◌≡◌, ◌≢◌, true, false, List, [], ◌∷◌, ◌++◌, ℕ, map, cond, ◌&&◌, Result, Ok, Err, refl, sym, ap, ◌∙◌, subst, IsTrue, append-nil}
use Rattle.std.proofs.lemmas.Bool.{false≢true}
use Rattle.tb_records.specs.Messages.{Message, IsLawful}
use Rattle.tb_records.specs.ReplyFrames.{reply_bytes, IsReply}
use Rattle.tb_sessions.specs.declared.classes.Class.{Class}
use Rattle.tb_sessions.specs.declared.classes.Class.TheVariants.{New}
use Rattle.tb_sessions.specs.Judged.{class_of}
use Rattle.tb_machine.specs.declared.serving.RunFault.TheVariants as run
use Rattle.tb_machine.specs.Dumps.{dumped}
use Rattle.tb_machine.specs.Histories.{State, is_new, fits, answer_to, reply_at, step}
use Rattle.tb_machine.specs.Scripts.{Pair, entry_of, has_time, is_entered, after_pair}
use Rattle.tb_machine.specs.Runs.{is_new_in}
use Rattle.tb_machine.proofs.PairAnswers.{after_new, after_known, answer_after}
use Rattle.tb_file.specs.declared.faults.KeepFault.{KeepFault}
use Rattle.tb_file.specs.declared.faults.KeepFault.TheVariants as keep
use Rattle.tb_file.specs.Keeping.{Keeping}
use Rattle.tb_file.specs.Rounds.{records_from}
use Rattle.tb_file.specs.private.Steps.{HoldsReply, KeepsEntry, KeepsPair}

records_new : (S : State) (p : Pair) → is_new_in S p ≡ true → has_time S p ≡ true → records_from S (p ∷ []) ≡ dumped (entry_of S p) ∷ []
records_new S p new time = ap (λ b. map dumped (cond b (entry_of S p ∷ []) [] ++ [])) (ap (λ b. b && has_time S p) new ∙ time)

not_new : (class : Class) → class ≢ New → is_new class ≡ false
not_new New other = absurd (other refl)
not_new class other = refl

records_known : (S : State) (p : Pair) → is_entered S p ≡ false → records_from S (p ∷ []) ≡ []
records_known S p none = ap (λ b. map dumped (cond b (entry_of S p ∷ []) [] ++ [])) none

module _ {D : Type 0} (p : Pair) (before after : Keeping D) (held grown : List ℕ) where
  abbrev S : State
  S = before.state

  pub keeps_new : (result : Result (Unit {0}) KeepFault) → class_of S.rows p.1 ≡ New → has_time S p ≡ true → IsTrue (fits S (entry_of S p)) → IsLawful p.1
      → KeepsEntry result (entry_of S p) before after held grown → KeepsPair result p before after held grown
  keeps_new (Ok done) class time legal lawful kept =
      let new : is_new_in S p ≡ true = ap is_new class in
      let state_is : after_pair S p ≡ step S (entry_of S p) = after_new S p new time in
      let answer_is : answer_to (after_pair S p) p.1 ≡ reply_at S (entry_of S p) = ap (λ (T : State). answer_to T p.1) state_is ∙ answer_after S (entry_of S p) lawful in
      record {
        served = record {
          timely = λ _. time;
          legal = λ _. legal;
          recorded_is = λ _. kept.0;
          reply = subst IsReply (sym answer_is) kept.5;
        };
        state = kept.3 ∙ sym state_is;
        waits = kept.1 ∙ ap (λ rs. record before.journal { waiting = before.journal.waiting ++ rs }) (sym (records_new S p new time));
        holds = kept.4 ∙ ap (λ bytes. held ++ bytes) (ap reply_bytes (sym answer_is) ∙ sym (append-nil (reply_bytes (answer_to (after_pair S p) p.1))));
        usable = kept.2;
      }
  keeps_new (Err (keep.Journal fault)) class time legal lawful kept = (ap is_new class, time, kept.0, kept.1)
  keeps_new (Err (keep.Serving run.NoMemory)) class time legal lawful kept = kept
  keeps_new (Err fault) class time legal lawful kept = absurd kept

module _ {D : Type 0} (p : Pair) (before : Keeping D) (held grown : List ℕ) where
  abbrev T : State
  T = before.state

  pub keeps_known : (result : Result (Unit {0}) KeepFault) (class : Class) (r : Message) → class ≡ class_of T.rows p.1 → class ≢ New → r ≡ p.1
      → HoldsReply result (answer_to T r) held grown → KeepsPair result p before before held grown
  keeps_known (Ok done) class r is other same kept =
      let known : is_new_in T p ≡ false = ap is_new (sym is) ∙ not_new class other in
      let none : is_entered T p ≡ false = ap (λ b. b && has_time T p) known in
      let state_is : after_pair T p ≡ T = after_known T p known in
      let answer_is : answer_to (after_pair T p) p.1 ≡ answer_to T r = ap (λ (U : State). answer_to U p.1) state_is ∙ ap (λ (q : Message). answer_to T q) (sym same) in
      record {
        served = record {
          timely = λ new. absurd (false≢true (sym known ∙ new));
          legal = λ entered. absurd (false≢true (sym none ∙ entered));
          recorded_is = λ entered. absurd (false≢true (sym none ∙ entered));
          reply = subst IsReply (sym answer_is) kept.1;
        };
        state = sym state_is;
        waits = ap (λ rs. record before.journal { waiting = rs }) (sym (append-nil before.journal.waiting))
            ∙ ap (λ rs. record before.journal { waiting = before.journal.waiting ++ rs }) (sym (records_known T p none));
        holds = kept.0 ∙ ap (λ bytes. held ++ bytes) (ap reply_bytes (sym answer_is) ∙ sym (append-nil (reply_bytes (answer_to (after_pair T p) p.1))));
        usable = refl;
      }
  keeps_known (Err (keep.Serving run.NoMemory)) class r is other same kept = refl
  keeps_known (Err fault) class r is other same kept = absurd kept
