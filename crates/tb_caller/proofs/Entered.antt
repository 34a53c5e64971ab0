-- What a history says of the requests of one client.
use Rattle.std.proofs.Common.{◌≡◌, ◌≢◌, ℕ, ◌+◌, ◌<◌, ⊎_elim, Bool, true, false, List, [], ◌∷◌, ◌++◌, length, Option, refl, sym, ap, ◌∙◌, subst, IsTrue, arith, append_assoc}
use Rattle.tb_records.specs.declared.bodies.Body.{Body}
use Rattle.tb_records.specs.declared.bodies.Body.TheVariants.{Register}
use Rattle.tb_records.specs.declared.limits.Profile.{Profile}
use Rattle.tb_records.specs.declared.replies.Status.TheVariants as status
use Rattle.tb_records.specs.Messages.{Message, Answer, is_register}
use Rattle.tb_records.specs.Ordered.{Each}
use Rattle.tb_records.proofs.ByKey.{each-map, each-both}
use Rattle.tb_sessions.specs.declared.rows.Row.{Row}
use Rattle.tb_sessions.specs.declared.classes.Class.{Class}
use Rattle.tb_sessions.specs.declared.classes.Class.TheVariants.{Repeat}
use Rattle.tb_sessions.specs.Judged.{row_of, class_of}
use Rattle.tb_machine.specs.declared.entries.Entry.{Entry}
use Rattle.tb_machine.specs.Histories.{State, is_lawful, reply_at, session_of, key_of, answer_by, answer_to}
use Rattle.tb_machine.specs.HistoryLaws.{KeysDiffer}
use Rattle.tb_machine.specs.Dumps.{IsLegalWith}
use Rattle.tb_machine.specs.MarkedLaws.{next_in}
use Rattle.tb_machine.proofs.Rows.{row_found}
use Rattle.tb_machine.proofs.Judging.{may_come, repeat_by, new_by}
use Rattle.tb_machine.proofs.Lawful.{LawfulNumbers, lawful_numbers}
use Rattle.tb_machine.proofs.SoundSteps.{lawful_of}
use Rattle.tb_machine.proofs.LawProofs.{one_key_with, each_mid}
use Rattle.tb_machine.proofs.RepeatLaws.{status_reply}
use Rattle.tb_machine.proofs.MarkLeads.{legal_leads, begun, comes_next}
use Rattle.tb_machine.proofs.ReachedBy.{Before, StandsBy, ReachedBy, leads_split, reached_after, session_register, session_numbered}
use Rattle.tb_caller.specs.Endpoints.{IsAmong}
use Rattle.tb_caller.specs.Calls.{IsCall, AreOfOne, IsTaken, NoneInvented, IsAnswered, IsOnce, HoldsCall, InOrder, CallsHold}
use Rattle.tb_caller.specs.CallLaws.{InHistory}
use Rattle.tb_caller.proofs.Lists.{each_among, each_of_all, each_before}

others_differ : (front : List Entry) (e : Entry) (rest : List Entry) → KeysDiffer (front ++ e ∷ rest) → Each (λ (other : Entry). key_of other ≢ key_of e) (front ++ rest)
others_differ [] e rest differ = differ.0
others_differ (x ∷ xs) e rest differ = (λ same. each_mid (λ (later : Entry). key_of later ≢ key_of x) xs e rest differ.0 (sym same), others_differ xs e rest differ.1)

-- entries that hold one call have one key
same_key : (e f : Entry) → e.request ≡ f.request → IsCall e.request → key_of e ≡ key_of f
same_key e f same call =
    let session : session_of e ≡ session_of f = session_numbered e call ∙ ap (λ (m : Message). m.session) same ∙ sym (session_numbered f (subst IsCall same call)) in
    λ i. ((same i).client, session i, (same i).request)

register_body : (b : Body) → is_register b ≡ true → b ≡ Register
register_body Register is = refl
register_body body is = absurd cc

message_is : (r s : Message) → r.client ≡ s.client → r.session ≡ s.session → r.request ≡ s.request → r.body ≡ s.body → r ≡ s
message_is r s client session number body = λ i. record { client = client i; session = session i; request = number i; body = body i }

registers_are : (r s : Message) → r.client ≡ s.client → IsTrue (is_lawful r) → IsTrue (is_lawful s) → is_register r.body ≡ true → is_register s.body ≡ true → r ≡ s
registers_are r s client lawful also a b =
    let m = lawful_numbers r (lawful_of r lawful) in
    let n = lawful_numbers s (lawful_of s also) in
    message_is r s client (m.session a ∙ sym (n.session b)) (m.register a ∙ sym (n.register b)) (register_body r.body a ∙ sym (register_body s.body b))

module _ (profile : Profile) (clients_max : ℕ) (mark : Option ℕ) where
  abbrev N : List Entry → State
  N = next_in profile clients_max mark

  -- each part of a legal history is reached
  part_reached : (p more : List Entry) → IsLegalWith profile clients_max mark (p ++ more) → ReachedBy N p
  part_reached p more legal = reached_after N [] p (begun profile clients_max mark) (leads_split N [] p more (legal_leads profile clients_max mark (p ++ more) legal)).0

  -- a reply is that of an entry
  pub record IsReplyOf (h : List Entry) (a : Answer) : Type 0 where
    pub front : List Entry
    pub entry : Entry
    pub rest : List Entry
    pub whole : h ≡ front ++ entry ∷ rest
    pub reply : a ≡ reply_at (N front) entry

  pub reply_of : (p : List Entry) (m : Message) → ReachedBy N p → (answer_to (N p) m).status ≡ status.Reply → IsReplyOf p (answer_to (N p) m)
  reply_of p m reached reply =
      let class : class_of (N p).rows m ≡ Repeat = status_reply (class_of (N p).rows m) (row_of (N p).rows m.client) m reply in
      let by = repeat_by (row_of (N p).rows m.client) m class in
      let stands = (row_found (StandsBy N p) (N p).rows m.client by.0 reached.stands by.1).0 in
      record {
        front = stands.front;
        entry = stands.entry;
        rest = stands.rest;
        whole = stands.whole;
        reply = ap (λ (k : Class). answer_by k (row_of (N p).rows m.client) m) class ∙ ap (λ (o : Option Row). answer_by Repeat o m) by.1 ∙ ap (λ (row : Row). row.reply) stands.is;
      }

  module _ (id : ℕ) (h : List Entry) (sent : List Message) (legal : IsLegalWith profile clients_max mark h) (own : AreOfOne id sent) (held : NoneInvented id sent h) where
    abbrev Held : Entry → Type 0
    Held e = e.request.client ≡ id → IsAmong e.request sent

    split : (front : List Entry) (e : Entry) (rest : List Entry) → h ≡ front ++ e ∷ rest → IsLegalWith profile clients_max mark (front ++ e ∷ rest) × Each Held (front ++ e ∷ rest)
    split front e rest whole = (subst (IsLegalWith profile clients_max mark) whole legal, subst (Each Held) whole held)

    -- a reply that was taken is for the request of its entry
    module _ (r : Message) (a : Answer) (there : IsAmong r sent) (its_client : a.client ≡ r.client) (its_number : a.request ≡ r.request) (is : IsReplyOf h a) where
      e : Message
      e = is.entry.request

      client_is : is.entry.request.client ≡ id
      client_is = sym (ap (λ (b : Answer). b.client) is.reply) ∙ its_client ∙ each_among (λ (r : Message). r.client ≡ id) r sent own.client there

      among : IsAmong is.entry.request sent
      among = each_mid Held is.front is.entry is.rest (split is.front is.entry is.rest is.whole).1 client_is

      number_is : is.entry.request.request ≡ r.request
      number_is = sym (ap (λ (b : Answer). b.request) is.reply) ∙ its_number

      lawful_of_sent : (m : Message) → IsAmong m sent → IsTrue (is_lawful m)
      lawful_of_sent m is = each_among (λ (m : Message). IsTrue (is_lawful m)) m sent own.lawful is

      client_of_sent : (m : Message) → IsAmong m sent → m.client ≡ id
      client_of_sent m is = each_among (λ (m : Message). m.client ≡ id) m sent own.client is

      -- both are registers, or both are calls: a register's number is 0, and no call's is
      kind : is_register is.entry.request.body ≡ is_register r.body
      kind = by (is_register is.entry.request.body) (is_register r.body) refl refl
        where
          mine : LawfulNumbers is.entry.request
          mine = lawful_numbers is.entry.request (lawful_of is.entry.request (lawful_of_sent is.entry.request among))

          theirs : LawfulNumbers r
          theirs = lawful_numbers r (lawful_of r (lawful_of_sent r there))

          by : (b d : Bool) → is_register is.entry.request.body ≡ b → is_register r.body ≡ d → b ≡ d
          by true true e f = refl
          by false false e f = refl
          by true false e f = absurd (theirs.numbered f (sym number_is ∙ mine.register e))
          by false true e f = absurd (mine.numbered e (number_is ∙ theirs.register f))

      one_request : is.entry.request ≡ r
      one_request = by (is_register r.body) refl
        where
          by : (b : Bool) → is_register r.body ≡ b → is.entry.request ≡ r
          by true register = registers_are is.entry.request r (client_is ∙ sym (client_of_sent r there)) (lawful_of_sent is.entry.request among) (lawful_of_sent r there) (kind ∙ register) register
          by false call = own.number is.entry.request r among there (kind ∙ call) call number_is

      place_is : is.entry.commit ≡ length is.front + 1
      place_is =
          let legal = (split is.front is.entry is.rest is.whole).0 in
          omega (
            arith,
            (may_come (N is.front) is.entry (comes_next profile clients_max mark is.front is.entry is.rest legal)).commit,
            (part_reached is.front (is.entry ∷ is.rest) legal).count,
          )

      commit_is : a.commit ≡ is.entry.commit
      commit_is = ap (λ (b : Answer). b.commit) is.reply

      once : IsOnce (next_in profile clients_max mark) h r a
      once = record {
        front = is.front;
        entry = is.entry;
        rest = is.rest;
        whole = is.whole;
        request = one_request;
        reply = is.reply;
        place = commit_is ∙ place_is;
        register = λ register. ap (λ (b : Answer). b.session) is.reply ∙ session_register is.entry (kind ∙ register) ∙ sym commit_is;
        only = λ call. each-map (λ (other : Entry). key_of other ≢ key_of is.entry) (λ (other : Entry). other.request ≢ r) (is.front ++ is.rest)
            (λ other differ same. differ (same_key other is.entry (same ∙ sym one_request) (subst IsCall (sym same) call)))
            (others_differ is.front is.entry is.rest (one_key_with profile clients_max mark (is.front ++ is.entry ∷ is.rest) (split is.front is.entry is.rest is.whole).0));
      }

    -- the answer after a part of the history
    once_of : (p : Message × Answer) → IsTaken sent p → IsAnswered (next_in profile clients_max mark) h p.1 → IsOnce (next_in profile clients_max mark) h p.0 p.1
    once_of p taken is =
        let m = is.request in
        let reached : ReachedBy N is.seen = part_reached is.seen is.prefix.0 (subst (IsLegalWith profile clients_max mark) (sym is.prefix.1) legal) in
        let reply = reply_of is.seen m reached (sym (ap (λ (b : Answer). b.status) is.answer) ∙ taken.reply) in
        once p.0 p.1 taken.sent_it taken.client taken.number (record {
          front = reply.front;
          entry = reply.entry;
          rest = reply.rest ++ is.prefix.0;
          whole = sym is.prefix.1 ∙ ap (λ l. l ++ is.prefix.0) reply.whole ∙ append_assoc reply.front (reply.entry ∷ reply.rest) is.prefix.0;
          reply = is.answer ∙ reply.reply;
        })

    -- a request that was sent with a number above 0 is a call, and a call has one
    lawful_sent : (m : Message) → IsAmong m sent → IsTrue (is_lawful m)
    lawful_sent m is = each_among (λ (m : Message). IsTrue (is_lawful m)) m sent own.lawful is

    call_by_number : (m r : Message) → IsAmong m sent → IsAmong r sent → IsCall r → m.request ≡ r.request → IsCall m
    call_by_number m r among there call number = by (is_register m.body) refl
      where
        by : (b : Bool) → is_register m.body ≡ b → IsCall m
        by true register = absurd ((lawful_numbers r (lawful_of r (lawful_sent r there))).numbered call (sym number ∙ (lawful_numbers m (lawful_of m (lawful_sent m among))).register register))
        by false call = call

    holds_call : (r : Message) → IsAmong r sent → IsCall r → (e : Entry) → Held e → HoldsCall r e
    holds_call r there call e held key =
        let number : e.request.request ≡ r.request = ap (λ (k : ℕ × ℕ × ℕ). k.2) key in
        let its : IsAmong e.request sent = held (ap (λ (k : ℕ × ℕ × ℕ). k.0) key ∙ each_among (λ (r : Message). r.client ≡ id) r sent own.client there) in
        own.number e.request r its there (call_by_number e.request r its there call number) call number

    in_order : InOrder id h
    in_order front e rest whole client call =
        let parts = split front e rest whole in
        let mine : IsAmong e.request sent = each_mid Held front e rest parts.1 client in
        let may = may_come (N front) e (comes_next profile clients_max mark front e rest parts.0) in
        let before = (part_reached front (e ∷ rest) parts.0).before in
        ⊎_elim (λ both. absurd (let two : true ≡ false = sym both.1 ∙ call in cc))
        (λ found.
        let its = row_found (λ (row : Row). Each (Before row) front) (N front).rows e.request.client found.0 before found.1 in
        each_two front found.0 its.0 (its.1 ∙ client) (each_before Held front (e ∷ rest) parts.1) mine found.2.session found.2.number)
        (new_by (row_of (N front).rows e.request.client) e.request may.new)
      where
        each_two : (front : List Entry) (row : Row) → Each (Before row) front → row.client ≡ id → Each Held front → IsAmong e.request sent → e.request.session ≡ row.session → e.request.request ≡ row.request.request + 1
            → Each (λ (x : Entry). x.request.client ≡ id → IsCall x.request → x.request.request < e.request.request) front
        each_two [] row before own_row held mine session number = tt
        each_two (x ∷ xs) row before own_row held mine session number = (
          λ client other.
              let within = before.0 (client ∙ sym own_row) in
              omega (arith, number, within.number (session_numbered x other ∙ own.session x.request e.request (held.0 client) mine other call ∙ session)),
          each_two xs row before.1 own_row held.1 mine session number,
        )

    calls_hold : (returned : List (Message × Answer)) → Each (IsTaken sent) returned → Each (λ (p : Message × Answer). IsAnswered (next_in profile clients_max mark) h p.1) returned → CallsHold (next_in profile clients_max mark) id h sent returned
    calls_hold returned taken answered = record {
      once = each-both (IsTaken sent) (λ (p : Message × Answer). IsAnswered (next_in profile clients_max mark) h p.1) (λ (p : Message × Answer). IsOnce (next_in profile clients_max mark) h p.0 p.1) returned once_of taken answered;
      keys = one_key_with profile clients_max mark h legal;
      at_most = each_of_all (λ (r : Message). IsCall r → Each (HoldsCall r) h) sent (λ r there call. each-map Held (HoldsCall r) h (holds_call r there call) held);
      order = in_order;
    }

pub in_history : (profile : Profile) (clients_max : ℕ) (mark : Option ℕ) → InHistory (IsLegalWith profile clients_max mark) (next_in profile clients_max mark)
in_history profile clients_max mark id h sent returned legal own held taken answered = calls_hold profile clients_max mark id h sent legal own held returned taken answered

-- an answer after a prefix of a history is one after a prefix of a longer one
pub answered_on : (profile : Profile) (clients_max : ℕ) (mark : Option ℕ) (h more : List Entry) (a : Answer) → IsAnswered (next_in profile clients_max mark) h a → IsAnswered (next_in profile clients_max mark) (h ++ more) a
answered_on profile clients_max mark h more a is = record {
  seen = is.seen;
  request = is.request;
  prefix = (is.prefix.0 ++ more, sym (append_assoc is.seen is.prefix.0 more) ∙ ap (λ l. l ++ more) is.prefix.1);
  answer = is.answer;
}
