-- What a server has acknowledged stays: a history whose entries it has replied to begins each later one.
use Rattle.std.proofs.Common.{◌≡◌, ℕ, Bool, true, List, [], ◌∷◌, ◌++◌, refl, sym, ap, ◌∙◌, subst, append_assoc, append-nil}
use Rattle.std.specs.List.{flat_map}
use Rattle.tb_records.specs.Messages.{Message, Answer, is_register}
use Rattle.tb_records.specs.Ordered.{Each}
use Rattle.tb_records.specs.ReplyFrames.{reply_bytes, IsReply}
use Rattle.tb_machine.specs.declared.entries.Entry.{Entry}
use Rattle.tb_machine.specs.Histories.{State, answer_to, after}
use Rattle.tb_machine.specs.Scripts.{Pair, after_pair}
use Rattle.tb_file.specs.Keeping.{History, history_state, longer, IsLedger}
use Rattle.tb_file.specs.Rounds.{state_from, entered, entries_from, answers_from, reply_bytes_from, AreServed}
use Rattle.tb_file.proofs.Pairs.{entries_join, state_snoc}
use Rattle.tb_file.proofs.Lasting.{served_front}
use Rattle.tb_file.proofs.OneHistory.{one_history, one_ledger}
use Rattle.tb_caller.specs.Streams.{IsReadIn}
use Rattle.tb_caller.specs.Calls.{IsCall, IsAnswered}
use Rattle.tb_caller_laws.specs.ExactlyOnce.{Server, Step, MayStep, stepped, HasHistory}
use Rattle.tb_caller_laws.specs.ExactlyOnce.Server.{Down, Up, Logged}
use Rattle.tb_caller_laws.specs.ExactlyOnce.Step.{Start, Read, Reply, Stop, Replay}
use Rattle.tb_caller_laws.proofs.Crashes.{replies_spelled}
use Rattle.tb_caller_laws.proofs.Replied.{pairs_within, IsReplyTo, reply_to}

-- the second history goes on from the first
pub record GoesOn (m h : History) : Type 0 where
  pub more : List Entry
  pub is : longer m more ≡ h

longer_entries : (h : History) (es fs : List Entry) → es ≡ fs → longer h es ≡ longer h fs
longer_entries h es fs same = ap (λ l. longer h l) same

longer_twice : (h : History) (es fs : List Entry) → longer (longer h es) fs ≡ longer h (es ++ fs)
longer_twice h es fs = ap (λ (l : List Entry). record { profile = h.profile; clients_max = h.clients_max; entries = l }) (append_assoc h.entries es fs)

pub longer_none : (h : History) → longer h [] ≡ h
longer_none h = ap (λ (l : List Entry). record { profile = h.profile; clients_max = h.clients_max; entries = l }) (append-nil h.entries)

pub goes_on_self : (h : History) → GoesOn h h
goes_on_self h = record { more = []; is = longer_none h }

pub goes_on_further : (m h : History) (es : List Entry) → GoesOn m h → GoesOn m (longer h es)
goes_on_further m h es on = record { more = on.more ++ es; is = sym (longer_twice m on.more es) ∙ ap (λ (k : History). longer k es) on.is }

-- after more pairs
more_pairs : (m first : History) (ps qs : List Pair) → GoesOn m (longer first (entries_from (history_state first) ps)) → GoesOn m (longer first (entries_from (history_state first) (ps ++ qs)))
more_pairs m first ps qs on =
    let S = history_state first in
    subst (GoesOn m) (longer_twice first (entries_from S ps) (entries_from (state_from S ps) qs) ∙ longer_entries first _ _ (sym (entries_join S ps qs)))
    (goes_on_further m (longer first (entries_from S ps)) (entries_from (state_from S ps) qs) on)

-- while it is up: all replies to some first pairs were sent, and the history begins that after these
pub record IsSentFor (m first : History) (read : List Pair) (sent : List ℕ) : Type 0 where
  pub pairs : List Pair
  pub others : List Pair
  pub read_are : read ≡ pairs ++ others
  pub rest : List ℕ
  pub replies : sent ≡ reply_bytes_from (history_state first) pairs ++ rest
  pub begins : GoesOn m (longer first (entries_from (history_state first) pairs))

pub record IsKeptIn (m : History) (file : List ℕ) : Type 0 where
  pub history : History
  pub ledger : IsLedger history file
  pub begins : GoesOn m history

-- in a log: the history begins that after some first pairs
pub record IsLoggedIn (m first : History) (log : List Pair) : Type 0 where
  pub pairs : List Pair
  pub others : List Pair
  pub log_is : log ≡ pairs ++ others
  pub begins : GoesOn m (longer first (entries_from (history_state first) pairs))

abbrev pub Acknowledged : Server → History → Type 0
Acknowledged (Logged first log) m = IsLoggedIn m first log
Acknowledged (Down file) m = IsKeptIn m file
Acknowledged (Up first read sent) m = IsSentFor m first read sent

-- each step keeps it
pub still : (server : Server) (step : Step) (m : History) → MayStep server step → Acknowledged server m → Acknowledged (stepped server step) m
still (Down file) (Start h) m may is = record {
  pairs = [];
  others = [];
  read_are = refl;
  rest = [];
  replies = refl;
  begins = subst (GoesOn m) (sym (longer_none h)) (subst (GoesOn m) (one_history file is.history h is.ledger may) is.begins);
}
still (Up first read sent) (Read pair) m may is = record {
  pairs = is.pairs;
  others = is.others ++ pair ∷ [];
  read_are = ap (λ l. l ++ pair ∷ []) is.read_are ∙ append_assoc is.pairs is.others (pair ∷ []);
  rest = is.rest;
  replies = is.replies;
  begins = is.begins;
}
still (Up first read sent) (Reply bytes) m may is = record {
  pairs = is.pairs;
  others = is.others;
  read_are = is.read_are;
  rest = is.rest ++ bytes;
  replies = ap (λ l. l ++ bytes) is.replies ∙ append_assoc (reply_bytes_from (history_state first) is.pairs) is.rest bytes;
  begins = is.begins;
}
still (Up first read sent) (Stop file) m may is =
    let S = history_state first in
    let within = pairs_within S is.pairs is.others may.pairs may.others (is.rest ++ may.unsent) (sym is.read_are ∙ may.all_are)
    (may.replies ∙ ap (λ l. l ++ may.unsent) is.replies ∙ append_assoc (reply_bytes_from S is.pairs) is.rest may.unsent) in
    record {
      history = longer first (entries_from S may.pairs);
      ledger = may.file_is;
      begins = subst (λ ps. GoesOn m (longer first (entries_from S ps))) within.1 (more_pairs m first is.pairs within.0 is.begins);
    }
still (Logged first log) (Read pair) m may is = record {
  pairs = is.pairs;
  others = is.others ++ pair ∷ [];
  log_is = ap (λ l. l ++ pair ∷ []) is.log_is ∙ append_assoc is.pairs is.others (pair ∷ []);
  begins = is.begins;
}
still (Logged first log) (Replay read bytes) m may is = is
still (Logged first log) (Start h) m may is = absurd may
still (Logged first log) (Reply bytes) m may is = absurd may
still (Logged first log) (Stop file) m may is = absurd may
still (Down file) (Replay read bytes) m may is = absurd may
still (Up first read sent) (Replay seen bytes) m may is = absurd may
still (Down file) (Read pair) m may is = absurd may
still (Down file) (Reply bytes) m may is = absurd may
still (Down file) (Stop file_left) m may is = absurd may
still (Up first read sent) (Start h) m may is = absurd may

-- the server's history goes on from it
pub begins_history : (server : Server) (m h : History) → Acknowledged server m → HasHistory server h → GoesOn m h
begins_history (Down file) m h is has = subst (GoesOn m) (one_history file is.history h is.ledger has) is.begins
begins_history (Up first read sent) m h is has =
    subst (GoesOn m) (sym has) (subst (λ ps. GoesOn m (longer first (entries_from (history_state first) ps))) (sym is.read_are) (more_pairs m first is.pairs is.others is.begins))
begins_history (Logged first log) m h is has =
    subst (GoesOn m) (sym has) (subst (λ ps. GoesOn m (longer first (entries_from (history_state first) ps))) (sym is.log_is) (more_pairs m first is.pairs is.others is.begins))

-- the register of a call's session

pub record HasRegister (entries : List Entry) (r : Message) : Type 0 where
  pub front : List Entry
  pub register : Entry
  pub more : List Entry
  pub whole : entries ≡ (front ++ register ∷ []) ++ more
  pub client : register.request.client ≡ r.client
  pub is_one : is_register register.request.body ≡ true
  pub session : register.commit ≡ r.session

pub register_on : (entries more : List Entry) (r : Message) → HasRegister entries r → HasRegister (entries ++ more) r
register_on entries more r has = record {
  front = has.front;
  register = has.register;
  more = has.more ++ more;
  whole = ap (λ l. l ++ more) has.whole ∙ append_assoc (has.front ++ has.register ∷ []) has.more more;
  client = has.client;
  is_one = has.is_one;
  session = has.session;
}

-- what is read from bytes that were sent

-- the replies to some first pairs were sent, or a prefix of them
pub record IsSentOf (first : History) (read : List Pair) (sent : List ℕ) : Type 0 where
  pub pairs : List Pair
  pub others : List Pair
  pub read_are : read ≡ pairs ++ others
  pub unsent : List ℕ
  pub replies : reply_bytes_from (history_state first) pairs ≡ sent ++ unsent

module _ (ours : ℕ → Bool) where
  -- a call of one of our clients comes after its register
  abbrev pub IsRootedIn : List Entry → Message → Type 0
  IsRootedIn entries r = ours r.client ≡ true → IsCall r → HasRegister entries r

  -- the same for each of some pairs, after entries
  abbrev pub AreRooted : List Entry → State → List Pair → Type 0
  AreRooted entries S [] = Unit {0}
  AreRooted entries S (p ∷ ps) = IsRootedIn entries p.1 × AreRooted (entries ++ entered S p) (after_pair S p) ps

  pub rooted_snoc : (entries : List Entry) (S : State) (ps : List Pair) (p : Pair) → AreRooted entries S ps → IsRootedIn (entries ++ entries_from S ps) p.1 → AreRooted entries S (ps ++ p ∷ [])
  rooted_snoc entries S [] p are one = (subst (λ es. IsRootedIn es p.1) (append-nil entries) one, tt)
  rooted_snoc entries S (q ∷ qs) p are one = (
    are.0,
    rooted_snoc (entries ++ entered S q) (after_pair S q) qs p are.1 (subst (λ es. IsRootedIn es p.1) (sym (append_assoc entries (entered S q) (entries_from (after_pair S q) qs))) one),
  )

  pub rooted_at : (entries : List Entry) (S : State) (ps : List Pair) (p : Pair) (qs : List Pair) → AreRooted entries S (ps ++ p ∷ qs) → IsRootedIn (entries ++ entries_from S ps) p.1
  rooted_at entries S [] p qs are = subst (λ es. IsRootedIn es p.1) (sym (append-nil entries)) are.0
  rooted_at entries S (q ∷ ps) p qs are =
      subst (λ es. IsRootedIn es p.1) (append_assoc entries (entered S q) (entries_from (after_pair S q) ps)) (rooted_at (entries ++ entered S q) (after_pair S q) ps p qs are.1)

  -- an answer after a history that was acknowledged
  pub record IsGiven (server : Server) (a : Answer) : Type 0 where
    pub history : History
    pub request : Message
    pub acknowledged : Acknowledged server history
    pub answer : a ≡ answer_to (history_state history) request
    pub rooted : IsRootedIn history.entries request

  pub still_given : (server : Server) (step : Step) (a : Answer) → MayStep server step → IsGiven server a → IsGiven (stepped server step) a
  still_given server step a may is = record { history = is.history; request = is.request; acknowledged = still server step is.history may is.acknowledged; answer = is.answer; rooted = is.rooted }

  pub given_answered : (server : Server) (h : History) (a : Answer) → HasHistory server h → IsGiven server a → IsAnswered (after h.profile h.clients_max) h.entries a
  given_answered server h a has is =
      let on = begins_history server is.history h is.acknowledged has in
      subst (λ (k : History). IsAnswered (after k.profile k.clients_max) k.entries a) on.is
      (record { seen = is.history.entries; request = is.request; prefix = (on.more, refl); answer = is.answer })

  -- a reply that is read is the answer after some first pairs, all replies to which were sent
  pub record IsReadFor (first : History) (read : List Pair) (sent : List ℕ) (a : Answer) : Type 0 where
    pub pairs : List Pair
    pub others : List Pair
    pub read_are : read ≡ pairs ++ others
    pub rest : List ℕ
    pub replies : sent ≡ reply_bytes_from (history_state first) pairs ++ rest
    pub request : Message
    pub answer : a ≡ answer_to (history_state (longer first (entries_from (history_state first) pairs))) request
    pub rooted : IsRootedIn (first.entries ++ entries_from (history_state first) pairs) request

  pub read_for : (first : History) (read : List Pair) (sent : List ℕ) (a : Answer) → AreServed (history_state first) read → AreRooted first.entries (history_state first) read → IsSentOf first read sent
      → IsReadIn sent a → IsReadFor first read sent a
  read_for first read sent a served rooted is reads =
      let found = reply_to S is.pairs reads.earlier a (reads.rest ++ is.unsent) spelled reads.spelled reads.is all_bytes in
      record {
        pairs = found.before ++ found.pair ∷ [];
        others = found.later ++ is.others;
        read_are = whole found ∙ sym (append_assoc found.before (found.pair ∷ []) (found.later ++ is.others));
        rest = reads.rest;
        replies = reads.bytes_are ∙ sym (append_assoc (flat_map reply_bytes reads.earlier) (reply_bytes a) reads.rest) ∙ ap (λ l. l ++ reads.rest) (sym found.bytes);
        request = found.pair.1;
        answer = found.answer ∙ ap (λ (T : State). answer_to T found.pair.1) (sym (state_snoc S found.before found.pair) ∙ sym (one_ledger first (found.before ++ found.pair ∷ [])));
        rooted = λ is_ours call. subst (λ es. HasRegister (first.entries ++ es) found.pair.1) (sym (entries_join S found.before (found.pair ∷ [])))
            (subst (λ es. HasRegister es found.pair.1) (append_assoc first.entries (entries_from S found.before) (entries_from (state_from S found.before) (found.pair ∷ [])))
            (register_on (first.entries ++ entries_from S found.before) (entries_from (state_from S found.before) (found.pair ∷ [])) found.pair.1
            (rooted_at first.entries S found.before found.pair (found.later ++ is.others) (subst (AreRooted first.entries S) (whole found) rooted) is_ours call)));
      }
    where
      S : State
      S = history_state first

      spelled : Each IsReply (answers_from S is.pairs)
      spelled = replies_spelled S is.pairs (served_front S is.pairs is.others (subst (AreServed S) is.read_are served))

      all_bytes : reply_bytes_from S is.pairs ≡ flat_map reply_bytes reads.earlier ++ (reply_bytes a ++ (reads.rest ++ is.unsent))
      all_bytes =
          is.replies ∙ ap (λ l. l ++ is.unsent) reads.bytes_are ∙ append_assoc (flat_map reply_bytes reads.earlier) (reply_bytes a ++ reads.rest) is.unsent
          ∙ ap (λ l. flat_map reply_bytes reads.earlier ++ l) (append_assoc (reply_bytes a) reads.rest is.unsent)

      whole : (found : IsReplyTo S is.pairs reads.earlier a) → read ≡ found.before ++ found.pair ∷ (found.later ++ is.others)
      whole found = is.read_are ∙ ap (λ l. l ++ is.others) found.whole ∙ append_assoc found.before (found.pair ∷ found.later) is.others

  pub read_given : (first : History) (read : List Pair) (sent : List ℕ) (a : Answer) → AreServed (history_state first) read → AreRooted first.entries (history_state first) read → IsSentOf first read sent
      → IsReadIn sent a → IsGiven (Up first read sent) a
  read_given first read sent a served rooted is reads =
      let found = read_for first read sent a served rooted is reads in
      record {
        history = longer first (entries_from (history_state first) found.pairs);
        request = found.request;
        acknowledged = record { pairs = found.pairs; others = found.others; read_are = found.read_are; rest = found.rest; replies = found.replies; begins = goes_on_self (longer first (entries_from (history_state first) found.pairs)) };
        answer = found.answer;
        rooted = found.rooted;
      }

  pub logged_given : (first : History) (log : List Pair) (sent : List ℕ) (a : Answer) → AreServed (history_state first) log → AreRooted first.entries (history_state first) log → IsSentOf first log sent
      → IsReadIn sent a → IsGiven (Logged first log) a
  logged_given first log sent a served rooted is reads =
      let found = read_for first log sent a served rooted is reads in
      record {
        history = longer first (entries_from (history_state first) found.pairs);
        request = found.request;
        acknowledged = record { pairs = found.pairs; others = found.others; log_is = found.read_are; begins = goes_on_self (longer first (entries_from (history_state first) found.pairs)) };
        answer = found.answer;
        rooted = found.rooted;
      }
