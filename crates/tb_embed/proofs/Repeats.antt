-- A request that was served, and comes again.
use Rattle.std.proofs.Common.{◌≡◌, ℕ, Bool, true, false, refl, sym, ap, ◌∙◌, subst}
use Rattle.tb_records.specs.declared.replies.Status.TheVariants as status
use Rattle.tb_records.specs.Messages.{Message, Answer, IsLawful}
use Rattle.tb_records.specs.ReplyFrames.{reply_bytes}
use Rattle.tb_sessions.specs.declared.classes.Class.{Class}
use Rattle.tb_sessions.specs.declared.classes.Class.TheVariants.{New}
use Rattle.tb_sessions.specs.Judged.{row_of, class_of}
use Rattle.tb_machine.specs.Histories.{State, is_new, step, answer_by, answer_to}
use Rattle.tb_machine.specs.Scripts.{entry_of, after_pair}
use Rattle.tb_machine.specs.Runs.{is_new_in, IsTimely, answer_bytes}
use Rattle.tb_machine.proofs.PairAnswers.{answer_after, after_new, after_known}
use Rattle.tb_embed.specs.Calls.{IsAnsweredAgain}

-- what is answered with status 0 is not new
answered_known : (S : State) (r : Message) (c : Class) → c ≡ class_of S.rows r → (answer_by c (row_of S.rows r.client) r).status ≡ status.Reply → is_new c ≡ false
answered_known S r New is said = absurd cc
answered_known S r c is said = refl

module _ (S : State) (moment again : ℕ) (r : Message) (lawful : IsLawful r) (timely : IsTimely S (moment, r)) where
  -- if a request is not new, nothing moves
  stays : (T : State) → after_pair S (moment, r) ≡ T → is_new_in T (again, r) ≡ false → answer_to T r ≡ answer_to (after_pair S (moment, r)) r → IsAnsweredAgain S moment again r
  stays T e known same =
      let again_after : after_pair T (again, r) ≡ T = after_known T (again, r) known in (
        subst (λ (U : State). after_pair U (again, r) ≡ U) (sym e) again_after,
        subst (λ (U : State). answer_bytes U (again, r) ≡ answer_bytes S (moment, r)) (sym e) (ap (λ (U : State). reply_bytes (answer_to U r)) again_after ∙ ap reply_bytes same),
      )

  by_newness : (b : Bool) → is_new_in S (moment, r) ≡ b → IsAnsweredAgain S moment again r
  by_newness false known =
      let e = after_known S (moment, r) known in
      stays S e known (ap (λ (U : State). answer_to U r) (sym e))
  by_newness true new =
      let e = after_new S (moment, r) new (timely new) in
      let T = step S (entry_of S (moment, r)) in
      let said = answer_after S (entry_of S (moment, r)) lawful in
      stays T e (answered_known T r (class_of T.rows r) refl (ap (λ (a : Answer). a.status) said)) (ap (λ (U : State). answer_to U r) (sym e))

  pub answered_again : IsAnsweredAgain S moment again r
  answered_again = by_newness (is_new_in S (moment, r)) refl
