-- Runs over one file, one after another, lead to one history, after whose prefixes their replies are answers.
use Rattle.std.proofs.Common.{◌≡◌, inl, inr, ℕ, List, [], ◌∷◌, ◌++◌, None, sym, ap, ◌∙◌, subst, append_assoc, append-nil}
use Rattle.tb_records.specs.Messages.{Message, Answer}
use Rattle.tb_records.specs.Ordered.{Each}
use Rattle.tb_records.specs.ReplyFrames.{IsReply}
use Rattle.tb_records.proofs.ByKey.{each-map}
use Rattle.tb_machine.specs.declared.entries.Entry.{Entry}
use Rattle.tb_machine.specs.Histories.{State, after}
use Rattle.tb_machine.specs.Scripts.{Pair, after_pair}
use Rattle.tb_file.specs.Keeping.{History, history_state, longer, IsKeepable}
use Rattle.tb_file.specs.Rounds.{entries_from, answers_from, AreServed}
use Rattle.tb_file.proofs.Lasting.{served_front}
use Rattle.tb_file.proofs.OneHistory.{one_history}
use Rattle.tb_caller.specs.Endpoints.{IsAmong}
use Rattle.tb_caller.specs.Streams.{IsReadIn}
use Rattle.tb_caller.specs.Calls.{NoneInvented, IsAnswered}
use Rattle.tb_caller.proofs.Entered.{in_history, answered_on}
use Rattle.tb_caller.proofs.Lists.{each_among, each_before}
use Rattle.tb_caller.proofs.Scripted.{answered, held}
use Rattle.tb_caller.proofs.Streams.{reads_what_was_sent}
use Rattle.tb_caller_laws.specs.KeptCalls.{Run, WasSentIn, IsRunFrom, AreRuns, AcrossCrashes}
use Rattle.tb_caller_laws.proofs.Histories.{entries_are, answers_are}

pub replies_spelled : (S : State) (ps : List Pair) → AreServed S ps → Each IsReply (answers_from S ps)
replies_spelled S [] served = tt
replies_spelled S (p ∷ ps) served = (served.0.reply, replies_spelled (after_pair S p) ps served.1)

-- after some pairs
module _ (h : History) (ps : List Pair) where
  abbrev next : History
  next = longer h (entries_from (history_state h) ps)

  answer_after : (a : Answer) → IsAmong a (answers_from (history_state h) ps) → IsAnswered (after h.profile h.clients_max) next.entries a
  answer_after a is =
      subst (λ (l : List Entry). IsAnswered (after h.profile h.clients_max) l a) (sym (entries_are h.profile h.clients_max h.entries ps))
      (each_among (IsAnswered (after h.profile h.clients_max) _) a _ (answered h.profile h.clients_max h.entries ps)
      (subst (λ (l : List Answer). IsAmong a l) (answers_are h.profile h.clients_max h.entries ps) is))

  none_after : (id : ℕ) (sent : List Message) → NoneInvented id sent h.entries → Each (λ (p : Pair). p.1.client ≡ id → IsAmong p.1 sent) ps → NoneInvented id sent next.entries
  none_after id sent none each =
      subst (NoneInvented id sent) (sym (entries_are h.profile h.clients_max h.entries ps)) (held h.profile h.clients_max id sent h.entries ps none each)

module _ (id : ℕ) (sent : List Message) where
  abbrev OnlySent : List Pair → Type 0
  OnlySent ps = Each (λ (p : Pair). p.1.client ≡ id → IsAmong p.1 sent) ps

  -- what runs lead to
  record LeadsTo (h k : History) (runs : List Run) : Type 0 where
    pub keepable : IsKeepable k
    pub more : List Entry
    pub grown : longer h more ≡ k
    pub none : NoneInvented id sent k.entries
    pub given : (a : Answer) → WasSentIn runs a → IsAnswered (after k.profile k.clients_max) k.entries a

  -- one run
  module _ (h : History) (r : Run) (is : IsRunFrom h r) where
    served : AreServed (history_state h) is.left.pairs
    served = served_front (history_state h) is.left.pairs is.left.others (subst (AreServed (history_state h)) is.left.all_are is.served)

    read_among : (a : Answer) → IsReadIn r.bytes a → IsAmong a (answers_from (history_state h) is.left.pairs)
    read_among a read =
        reads_what_was_sent (answers_from (history_state h) is.left.pairs) r.bytes is.left.unsent a (replies_spelled (history_state h) is.left.pairs served) is.left.replies read

  -- the history that a run leaves
  abbrev after_run : (h : History) (r : Run) → IsRunFrom h r → History
  after_run h r is = longer h (entries_from (history_state h) is.left.pairs)

  one_run : (h : History) (r : Run) → (is : IsRunFrom h r) → NoneInvented id sent h.entries → OnlySent r.all → NoneInvented id sent (after_run h r is).entries
  one_run h r is none only =
      none_after h is.left.pairs id sent none
      (each_before (λ (p : Pair). p.1.client ≡ id → IsAmong p.1 sent) is.left.pairs is.left.others (subst OnlySent is.left.all_are only))

  -- a run, and what later ones lead to
  join : (h k : History) (r : Run) (runs : List Run) (is : IsRunFrom h r) → LeadsTo (after_run h r is) k runs → LeadsTo h k (r ∷ runs)
  join h k r runs is rest = record {
    keepable = rest.keepable;
    more = entries_from (history_state h) is.left.pairs ++ rest.more;
    grown = ap (λ (l : List Entry). record { profile = h.profile; clients_max = h.clients_max; entries = l }) (sym (append_assoc h.entries (entries_from (history_state h) is.left.pairs) rest.more)) ∙ rest.grown;
    none = rest.none;
    given = given;
  }
    where
      given : (a : Answer) → WasSentIn (r ∷ runs) a → IsAnswered (after k.profile k.clients_max) k.entries a
      given a (inl read) =
          subst (λ (k : History). IsAnswered (after k.profile k.clients_max) k.entries a) rest.grown
          (answered_on h.profile h.clients_max None (after_run h r is).entries rest.more a (answer_after h is.left.pairs a (read_among h r is a read)))
      given a (inr later) = rest.given a later

  leads : (h k : History) (runs : List Run) → IsKeepable h → NoneInvented id sent h.entries → AreRuns h runs k → Each (λ (r : Run). OnlySent r.all) runs → LeadsTo h k runs
  leads h k [] keepable none same only =
      subst (λ (k : History). LeadsTo h k []) same (record {
        keepable = keepable;
        more = [];
        grown = ap (λ (l : List Entry). record { profile = h.profile; clients_max = h.clients_max; entries = l }) (append-nil h.entries);
        none = none;
        given = λ a was. absurd was;
      })
  leads h k (r ∷ runs) keepable none (m, is, ledger, more) only =
      let after = one_run h r is none only.0 in
      let same : m ≡ after_run h r is = one_history r.file m (after_run h r is) ledger is.left.file_is in
      join h k r runs is
      (leads (after_run h r is) k runs is.left.file_is.keepable after (subst (λ (m : History). AreRuns m runs k) same more) only.1)

pub across_crashes : AcrossCrashes
across_crashes h k runs id sent returned keepable are own none only taken given =
    let end = leads id sent h k runs keepable none are only in
    in_history k.profile k.clients_max None id k.entries sent returned end.keepable.legal own end.none taken
    (each-map (λ (p : Message × Answer). WasSentIn runs p.1) (λ (p : Message × Answer). IsAnswered (after k.profile k.clients_max) k.entries p.1) returned (λ p is. end.given p.1 is) given)
