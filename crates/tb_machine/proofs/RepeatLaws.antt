-- The entry that holds a repeat, and what a status and a history that goes on say of a request.
use Rattle.std.proofs.Common.{◌≡◌, ℕ, ◌+◌, ⊎_elim, true, List, ◌∷◌, ◌++◌, length, Option, Some, None, refl, sym, ap, ◌∙◌, subst, IsTrue, arith}
use Rattle.tb_records.specs.declared.limits.Profile.{Profile}
use Rattle.tb_records.specs.declared.replies.Status.TheVariants as status
use Rattle.tb_records.specs.Messages.{Message, Answer, is_register}
use Rattle.tb_records.specs.Ordered.{Each}
use Rattle.tb_sessions.specs.declared.rows.Row.{Row}
use Rattle.tb_sessions.specs.declared.classes.Class.{Class}
use Rattle.tb_sessions.specs.declared.classes.Class.TheVariants.{Repeat}
use Rattle.tb_sessions.specs.Judged.{row_of, class_of}
use Rattle.tb_machine.specs.declared.entries.Entry.{Entry}
use Rattle.tb_machine.specs.Histories.{is_lawful, IsLegal, after, answer_by, answer_to}
use Rattle.tb_machine.specs.HistoryLaws.{IsStored, NotNewAgain}
use Rattle.tb_machine.specs.Dumps.{after_with}
use Rattle.tb_machine.specs.MarkedLaws.{next_in, NotNewAgainWith}
use Rattle.tb_machine.specs.Answering.{Holds, IsAnswer}
use Rattle.tb_machine.proofs.Rows.{row_found}
use Rattle.tb_machine.proofs.Legal.{legal_front, legal_at}
use Rattle.tb_machine.proofs.Judging.{Follows, new_by, may_come}
use Rattle.tb_machine.proofs.ReachedBy.{Before, session_numbered}
use Rattle.tb_machine.proofs.Reached.{reached}
use Rattle.tb_machine.proofs.MarkLeads.{whole_alike, reached_with}
use Rattle.tb_machine.proofs.LawProofs.{first_reply, each_mid}

-- only the answer to a repeat is a reply
pub status_reply : (class : Class) (o : Option Row) (r : Message) → (answer_by class o r).status ≡ status.Reply → class ≡ Repeat
status_reply Repeat o r is = refl
status_reply class o r is = absurd cc

module _ (profile : Profile) (clients_max : ℕ) where
  -- an entry's commit number is its place
  pub place_of : (front : List Entry) (e : Entry) (rest : List Entry) → IsLegal profile clients_max (front ++ e ∷ rest) → e.commit ≡ length front + 1
  place_of front e rest legal =
      let before = reached profile clients_max front (legal_front profile clients_max front (e ∷ rest) legal) in
      omega (arith, (may_come (after profile clients_max front) e (legal_at profile clients_max front e rest legal)).commit, before.count)

  -- the number of the entries is the commit number of the last
  pub commit_is : (h : List Entry) → IsLegal profile clients_max h → (after profile clients_max h).commit ≡ length h
  commit_is h legal = (reached profile clients_max h legal).count

  module _ (h : List Entry) (r : Message) (legal : IsLegal profile clients_max h) (lawful : IsTrue (is_lawful r)) (class : class_of (after profile clients_max h).rows r ≡ Repeat) where
    is_stored : IsStored profile clients_max h r
    is_stored = first_reply profile clients_max h r legal lawful class

    answered_is : answer_to (after profile clients_max h) r ≡ is_stored.row.reply
    answered_is = ap (λ (k : Class). answer_by k (row_of (after profile clients_max h).rows r.client) r) class ∙ ap (λ (o : Option Row). answer_by Repeat o r) is_stored.stored

    -- a repeat is in the entry that its answer names
    pub held : (c : ℕ) → c ≡ (answer_to (after profile clients_max h) r).commit → Holds profile clients_max h r c
    held c is =
        let numbered : c ≡ is_stored.entry.commit = is ∙ ap (λ (a : Answer). a.commit) (answered_is ∙ is_stored.reply) in
        record {
          front = is_stored.front;
          entry = is_stored.entry;
          rest = is_stored.rest;
          whole = is_stored.whole;
          place = numbered ∙ place_of is_stored.front is_stored.entry is_stored.rest (subst (IsLegal profile clients_max) is_stored.whole legal);
          numbered = numbered;
          request = is_stored.request;
          reply = answered_is ∙ is_stored.reply;
          alone = is_stored.alone;
        }

  -- an answer names the entry that holds the request
  pub answers : (h : List Entry) (r : Message) (a : Answer) → IsLegal profile clients_max h → IsTrue (is_lawful r) → a ≡ answer_to (after profile clients_max h) r → IsAnswer profile clients_max h r a
  answers h r a legal lawful is = (is, λ reply. held h r legal lawful (status_reply (class_of (after profile clients_max h).rows r) (row_of (after profile clients_max h).rows r.client) r (sym (ap (λ (b : Answer). b.status) is) ∙ reply)) a.commit (ap (λ (b : Answer). b.commit) is))

-- a request that is entered is new again only as a register whose client has no row any more
pub new_again_with : NotNewAgainWith
new_again_with profile clients_max mark front e rest legal class =
    ⊎_elim (λ both. (both.1, both.0)) later (new_by (row_of (after_with profile clients_max mark (front ++ e ∷ rest)).rows e.request.client) e.request class)
  where
    later : (row : Row) × (row_of (after_with profile clients_max mark (front ++ e ∷ rest)).rows e.request.client ≡ Some row) × Follows row e.request
        → (is_register e.request.body ≡ true) × (row_of (after_with profile clients_max mark (front ++ e ∷ rest)).rows e.request.client ≡ None)
    later found =
        let all = reached_with profile clients_max mark (front ++ e ∷ rest) legal in
        let same = whole_alike profile clients_max mark (front ++ e ∷ rest) in
        let its = row_found (λ (row : Row). Each (Before row) (front ++ e ∷ rest)) (next_in profile clients_max mark (front ++ e ∷ rest)).rows e.request.client found.0 all.before
        (ap (λ (rows : List Row). row_of rows e.request.client) (sym same.rows) ∙ found.1) in
        let within = each_mid (Before found.0) front e rest its.0 (sym its.1) in
        absurd (omega (arith, found.2.number, within.number (session_numbered e found.2.numbered ∙ found.2.session)))

pub new_again : NotNewAgain
new_again profile clients_max front e rest legal class = new_again_with profile clients_max None front e rest legal class
