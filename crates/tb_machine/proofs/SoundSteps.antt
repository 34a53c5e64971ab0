-- An entry that may come next leaves a sound state sound, and has a reply that a frame can carry.
use Rattle.std.proofs.Common.{◌≡◌, ◌<◌, ◌≤◌, ⊎_elim, Bool, true, false, Option, Some, None, is_none, refl, sym, ap, ◌∙◌, IsTrue, arith}
use Rattle.tb_records.specs.declared.faults.FrameFault.{FrameFault}
use Rattle.tb_records.specs.Messages.{Message, is_register, number_fault, IsLawful, IsRight}
use Rattle.tb_records.specs.Ordered.{Each}
use Rattle.tb_ledger.specs.Books.{Books}
use Rattle.tb_sessions.specs.declared.rows.Row.{Row}
use Rattle.tb_sessions.specs.Judged.{row_of}
use Rattle.tb_sessions.specs.Admission.{admitted}
use Rattle.tb_machine.specs.declared.entries.Entry.{Entry}
use Rattle.tb_machine.specs.Histories.{State, fits, is_lawful, session_of, reply_at, executed, found}
use Rattle.tb_machine.specs.private.Serving.{MayBeExecuted}
use Rattle.tb_machine.specs.private.Sound.{IsNumbered, IsSound}
use Rattle.tb_records.proofs.ByKey.{each-map}
use Rattle.tb_sessions.proofs.LaterRows.{each_admitted}
use Rattle.tb_machine.proofs.Rows.{row_found}
use Rattle.tb_machine.proofs.Judging.{Follows, MayCome, may_come, new_by}
use Rattle.tb_machine.proofs.Lawful.{LawfulNumbers, lawful_numbers, right_answer, found_kind, found_few, executed_time}

no_fault : (fault : Option FrameFault) → IsTrue (is_none fault) → fault ≡ None
no_fault None lawful = refl
no_fault (Some f) lawful = absurd cc

pub lawful_of : (r : Message) → IsTrue (is_lawful r) → IsLawful r
lawful_of r lawful = no_fault (number_fault r) lawful

-- the numbers of an entry's row
record Numbers (S : State) (e : Entry) : Type 0 where
  began : 0 < session_of e
  register : is_register e.request.body ≡ true → (e.request.request ≡ 0) × (session_of e ≡ e.commit)
  numbered : is_register e.request.body ≡ false → session_of e < e.commit

module _ (S : State) (e : Entry) (sound : IsSound S) (comes : IsTrue (fits S e)) where
  may : MayCome S e
  may = may_come S e comes

  lawful : LawfulNumbers e.request
  lawful = lawful_numbers e.request (lawful_of e.request may.lawful)

  numbers : Numbers S e
  numbers = ⊎_elim registers follows (new_by (row_of S.rows e.request.client) e.request may.new)
    where
      registers : (row_of S.rows e.request.client ≡ None) × (is_register e.request.body ≡ true) → Numbers S e
      registers is = record {
        began = rw is.1 (omega (arith, may.commit));
        register = λ _. (lawful.register is.1, rw is.1 refl);
        numbered = λ other. absurd (let both : true ≡ false = sym is.1 ∙ other in cc);
      }

      follows : (row : Row) × (row_of S.rows e.request.client ≡ Some row) × Follows row e.request → Numbers S e
      follows (row, is, last) =
          let kept = (row_found (IsNumbered S.commit) S.rows e.request.client row sound.rows is).0 in
          record {
            began = rw (last.numbered, last.session) kept.began;
            register = λ other. absurd (let both : true ≡ false = sym other ∙ last.numbered in cc);
            numbered = λ _. rw (last.numbered, last.session) (omega (arith, kept.replied, kept.given, may.commit));
          }

  -- the reply to it
  pub right_reply : IsRight (reply_at S e)
  right_reply = right_answer e.request.client (session_of e) e.request.request e.commit e.request.body (found S.books e.request.body e.time)
      lawful.client (λ none. omega (arith, numbers.began))
      numbers.register (λ is. (lawful.numbered is, numbers.numbered is))
      (found_kind S.books e.request.body e.time) (let few = found_few S.books e.request.body e.time in omega (arith, few, lawful.few))

  pub may_be_executed : MayBeExecuted S.books e
  may_be_executed = (lawful.few, may.late_enough, may.in_range, right_reply)

  -- rows before it have smaller commits
  pub commits_before : Each (λ (other : Row). other.commit < e.commit) S.rows
  commits_before = each-map (IsNumbered S.commit) (λ (other : Row). other.commit < e.commit) S.rows (λ other kept. omega (arith, kept.given, may.commit)) sound.rows

  numbered_row : (row : Row) → row.session ≡ session_of e → row.commit ≡ e.commit → IsNumbered e.commit row
  numbered_row row session commit = record {
    began = rw session numbers.began;
    replied = rw (session, commit) (before (is_register e.request.body) refl);
    given = omega (arith, commit);
  }
    where
      before : (b : Bool) → is_register e.request.body ≡ b → session_of e ≤ e.commit
      before true is = omega (arith, (numbers.register is).1)
      before false is = omega (arith, numbers.numbered is)

  -- the state after it
  pub sound_step : (row : Row) → row.session ≡ session_of e → row.commit ≡ e.commit → (T : State) → T.commit ≡ e.commit → T.books ≡ executed S.books e.request.body e.time → T.rows ≡ admitted S.clients_max S.rows row → IsSound T
  sound_step row session commit T commit_is books_are rows_are =
      let time : T.books.time ≡ e.time = ap (λ (B : Books). B.time) books_are ∙ executed_time S.books e.request.body e.time in
      record {
        rows = rw (rows_are, commit_is) (each_admitted (IsNumbered e.commit) S.clients_max S.rows row (numbered_row row session commit) (each-map (IsNumbered S.commit) (IsNumbered e.commit) S.rows (λ other kept. record { began = kept.began; replied = kept.replied; given = omega (arith, kept.given, may.commit) }) sound.rows));
        commits = omega (arith, time, commit_is, may.commit, may.late_enough, sound.commits);
        in_range = omega (arith, time, may.in_range);
      }
