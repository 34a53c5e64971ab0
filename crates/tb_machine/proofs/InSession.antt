-- A request that is New compared with its client's row: its entry may come next, and its step puts the row in place of that one.
use Rattle.std.proofs.Common.{◌≡◌, ℕ, ◌+◌, ◌<◌, ◌≤◌, inl, inr, Bool, true, false, cond, ◌==◌, List, [], ◌∷◌, Some, is_none, is_some, find, Result, Ok, Err, OnOk, OnErr, refl, sym, ap, ◌∙◌, subst, IsTrue, arith, eqb, le-leb}
use Rattle.tb_records.specs.Messages.{Message, Answer, IsLawful}
use Rattle.tb_records.specs.Ordered.{Each, replaced}
use Rattle.tb_records.proofs.ByKey.{found_key}
use Rattle.tb_ledger.specs.Books.{Books}
use Rattle.tb_sessions.specs.declared.rows.Row.{Row}
use Rattle.tb_sessions.specs.declared.classes.Class.TheVariants.{New}
use Rattle.tb_sessions.specs.Judged.{row_of, class_of, client_of}
use Rattle.tb_sessions.specs.Renewal.{IsNewBeside, IsRenewal}
use Rattle.tb_sessions.proofs.ByRow.{class_by}
use Rattle.tb_records.specs.Transport.{Output}
use Rattle.tb_records.specs.declared.limits.TheConstants.{LAST_MOMENT}
use Rattle.tb_machine.specs.declared.executing.Delivery.{Delivery}
use Rattle.tb_machine.specs.declared.executing.Delivery.TheVariants as delivery
use Rattle.tb_machine.specs.declared.executing.Served.TheVariants as served
use Rattle.tb_machine.specs.declared.serving.RunFault.TheVariants as fault
use Rattle.tb_machine.proofs.PairAnswers.{entered_answer}
use Rattle.tb_machine.specs.Histories.{State, time_of, fits, executed, reply_at, step}
use Rattle.tb_machine.specs.Scripts.{Pair, entry_of, has_time}
use Rattle.tb_machine.specs.private.Serving.{made_entry, row_in, MayBeExecuted, DeliversReply, ServesPair}
use Rattle.tb_machine.specs.private.Sound.{IsSound}
use Rattle.tb_machine.proofs.Judging.{comes}
use Rattle.tb_machine.proofs.SoundSteps.{may_be_executed, commits_before, sound_step}

-- a row in its own place changes nothing
replaced_same : {X : Type 0} (key : X → ℕ) (x : X) (xs : List X) → find (λ y. key y == key x) xs ≡ Some x → replaced key x xs ≡ xs
replaced_same key x [] found = refl
replaced_same key x (y ∷ ys) found = by (eqb (key y) (key x)) (replaced_same key x ys) found
  where
    by : (b : Bool) → (find (λ y. key y == key x) ys ≡ Some x → replaced key x ys ≡ ys) → cond b (Some y) (find (λ y. key y == key x) ys) ≡ Some x → cond b (x ∷ ys) (y ∷ replaced key x ys) ≡ y ∷ ys
    by true later found = let same : y ≡ x = cc in ap (λ z. z ∷ ys) (sym same)
    by false later found = ap (λ zs. y ∷ zs) (later found)

-- the state if its parts are the old ones
pub same_state : (S : State) (clients_max : ℕ) (B : Books) (rows : List Row) → clients_max ≡ S.clients_max → B ≡ S.books → rows ≡ S.rows → record { clients_max = clients_max; commit = S.commit; books = B; rows = rows } ≡ S
same_state S clients_max B rows size books same = rw (size, books, same) refl

-- what the server returns if the step was made
serves_delivered : (delivery : Delivery) (S T : State) (p : Pair) (before after : Output) → IsLawful p.1 → class_of S.rows p.1 ≡ New → has_time S p ≡ true → T ≡ step S (entry_of S p)
    → DeliversReply (Ok delivery) (reply_at S (entry_of S p)) before after → ServesPair (served.Executed delivery) S T p before after
serves_delivered delivery.Whole S T p before after lawful class time stepped delivers = entered_answer (Ok tt) S T p before after lawful class time stepped delivers.delivery.0 delivers.delivery.1
serves_delivered (delivery.Cut f) S T p before after lawful class time stepped delivers = entered_answer (Err (fault.Frame f)) S T p before after lawful class time stepped (ap fault.Frame delivers.delivery.0.0, delivers.delivery.0.1) tt

module _ (S : State) (sound : IsSound S) (moment time : ℕ) (r : Message) (lawful : IsLawful r) (time_is : time ≡ time_of S moment r) (in_range : time ≤ LAST_MOMENT) (row : Row) (new : IsNewBeside S.rows r row) where
  pub class_new : class_of S.rows r ≡ New
  class_new = ap (λ o. class_by o r) new.here ∙ new.new

  entry_comes : IsTrue (fits S (made_entry (S.commit + 1) time r))
  entry_comes = comes S (made_entry (S.commit + 1) time r) (record {
    commit = refl;
    late_enough = omega (arith, time_is);
    in_range = in_range;
    lawful = ap is_none lawful;
    new = class_new;
  })

  own_row : client_of row ≡ r.client
  own_row = found_key client_of r.client row S.rows new.here

  pub may_be : MayBeExecuted S.books (made_entry (S.commit + 1) time r)
  may_be = may_be_executed S (made_entry (S.commit + 1) time r) sound entry_comes

  -- what the step leaves

  made_is : made_entry (S.commit + 1) time r ≡ entry_of S (moment, r)
  made_is = ap (λ t. made_entry (S.commit + 1) t r) time_is

  pub reply_is : (row_in S.books (made_entry (S.commit + 1) time r)).reply ≡ reply_at S (entry_of S (moment, r))
  reply_is = ap (reply_at S) made_is

  pub timely : has_time S (moment, r) ≡ true
  timely = le-leb (time_of S moment r) LAST_MOMENT (omega (arith, time_is))

  module _ (left : Row) where
    pub renewed : {A E : Type 0} (answer : Result A E) → OnOk answer (left ≡ row_in S.books (made_entry (S.commit + 1) time r)) → OnErr answer (left ≡ row) → IsRenewal S.rows row left
    renewed (Ok a) is same = inr (record {
      own = ap client_of is ∙ sym own_row;
      later = let commit = ap (λ (x : Row). x.commit) is in subst (λ n. Each (λ (other : Row). other.commit < n) S.rows) (sym commit) (commits_before S (made_entry (S.commit + 1) time r) sound entry_comes);
    })
    renewed (Err e) is same = inl same

    pub rows_same : (rows : List Row) → rows ≡ replaced client_of left S.rows → left ≡ row → rows ≡ S.rows
    rows_same rows put same =
        let here : find (λ other. client_of other == client_of row) S.rows ≡ Some row = subst (λ k. find (λ other. client_of other == k) S.rows ≡ Some row) (sym own_row) new.here in
        put ∙ ap (λ x. replaced client_of x S.rows) same ∙ replaced_same client_of row S.rows here

    module _ (clients_max : ℕ) (B : Books) (rows : List Row) (size : clients_max ≡ S.clients_max) (books : B ≡ executed S.books r.body time) (left_is : left ≡ row_in S.books (made_entry (S.commit + 1) time r)) (put : rows ≡ replaced client_of left S.rows) where
      T : State
      T = record { clients_max = clients_max; commit = S.commit + 1; books = B; rows = rows }

      rows_are : rows ≡ (step S (made_entry (S.commit + 1) time r)).rows
      rows_are =
          let here : is_some (row_of S.rows r.client) ≡ true = ap is_some new.here in
          rw here (put ∙ ap (λ x. replaced client_of x S.rows) left_is)

      pub stepped : record { clients_max = clients_max; commit = S.commit + 1; books = B; rows = rows } ≡ step S (entry_of S (moment, r))
      stepped = subst (λ e. record { clients_max = clients_max; commit = S.commit + 1; books = B; rows = rows } ≡ step S e) made_is (rw (size, books, rows_are) refl)

      pub sound_after : IsSound (record { clients_max = clients_max; commit = S.commit + 1; books = B; rows = rows })
      sound_after = sound_step S (made_entry (S.commit + 1) time r) sound entry_comes (row_in S.books (made_entry (S.commit + 1) time r)) refl refl (record { clients_max = clients_max; commit = S.commit + 1; books = B; rows = rows }) refl books rows_are

      -- what the server returns
      pub serves : (delivery : Delivery) (before after : Output) → DeliversReply (Ok delivery) (row_in S.books (made_entry (S.commit + 1) time r)).reply before after
          → ServesPair (served.Executed delivery) S (record { clients_max = clients_max; commit = S.commit + 1; books = B; rows = rows }) (moment, r) before after
      serves delivery before after delivers =
          serves_delivered delivery S (record { clients_max = clients_max; commit = S.commit + 1; books = B; rows = rows }) (moment, r) before after lawful class_new timely stepped
          (subst (λ (a : Answer). DeliversReply (Ok delivery) a before after) reply_is delivers)
