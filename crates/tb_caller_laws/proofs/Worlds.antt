-- Clients, a network, and a server over a file, over a whole schedule.
use Rattle.std.proofs.Common.{◌≡◌, ◌≢◌, ◌⊎◌, ◌≤◌, ◌<◌, ◌+◌, ◌==◌, ℕ, inl, inr, Bool, true, false, cond, List, [], ◌∷◌, ◌++◌, length, Option, Some, None, IfSome, refl, sym, ap, ◌∙◌, subst, arith, eqb, eqb-true, leb, leb-true, append_assoc}
use Rattle.std.proofs.lemmas.Bool.Decides.{nat_tests}
use Rattle.tb_records.specs.declared.operations.Operation.TheVariants as op
use Rattle.tb_records.specs.declared.replies.Status.TheVariants as status
use Rattle.tb_records.specs.Operations.{operation_code}
use Rattle.tb_records.specs.Frames.{request_bytes}
use Rattle.tb_records.specs.Messages.{Message, Answer, operation, is_register}
use Rattle.tb_records.specs.Ordered.{Each}
use Rattle.tb_records.proofs.ByKey.{each-map, each-both}
use Rattle.tb_machine.specs.declared.entries.Entry.{Entry}
use Rattle.tb_machine.specs.Histories.{State, IsLegal, answer_to, after}
use Rattle.tb_machine.specs.Scripts.{Pair, entry_of, is_entered}
use Rattle.tb_file.specs.Keeping.{History, history_state, longer, IsKeepable, IsLedger}
use Rattle.tb_file.specs.Rounds.{state_from, entered, entries_from, IsServed, AreServed}
use Rattle.tb_file.proofs.Lasting.{keepable_longer}
use Rattle.tb_file.proofs.OneHistory.{one_history}
use Rattle.tb_file.proofs.Pairs.{entries_join, served_snoc}
use Rattle.tb_caller.specs.declared.callers.Phase.{Phase}
use Rattle.tb_caller.specs.declared.callers.Phase.TheVariants.{Unregistered, Open, Idle, Ended}
use Rattle.tb_caller.specs.declared.callers.Heard.{Heard}
use Rattle.tb_caller.specs.declared.callers.Heard.TheVariants as hearing
use Rattle.tb_caller.specs.Clients.{Client, open_request, names, heard_by, heard_of, heard, ended_in, moved}
use Rattle.tb_caller.specs.Endpoints.{Endpoint, Act, MayAct, acted, IsAmong, returned_by, restarted}
use Rattle.tb_caller.specs.Endpoints.Act.{Call, Send, Hear, Store, Restart}
use Rattle.tb_caller.specs.Streams.{IsReadIn}
use Rattle.tb_caller.specs.Calls.{IsCall, IsTaken, IsRegistered, NoneInvented, IsAnswered, IsOnce, CallsHold}
use Rattle.tb_caller.specs.Networks.{frames_of}
use Rattle.tb_caller.proofs.Alone.{IsKept, kept_started, kept_acted}
use Rattle.tb_caller.proofs.Entered.{in_history}
use Rattle.tb_caller.proofs.Frames.{sent_by_frame}
use Rattle.tb_caller.proofs.Lists.{each_among, each_before}
use Rattle.tb_caller.proofs.Over.{over_for_good}
use Rattle.tb_caller.proofs.Own.{open_of, Names, names_of}
use Rattle.tb_caller_laws.specs.ExactlyOnce.{Server, Step, MayStep, stepped, HasHistory, World, Event, sent_now, IsReadInOne, CanHear, CanRead, MayHappen, earlier_after, happens, Runs, run, begun, IsNew, BeginsWith, EachCallOnce, EndedIsFinal, NeverNewer}
use Rattle.tb_caller_laws.specs.ExactlyOnce.Server.{Down, Up, Logged}
use Rattle.tb_caller_laws.specs.ExactlyOnce.Step.{Start, Read, Reply, Stop, Replay}
use Rattle.tb_caller_laws.specs.ExactlyOnce.Event.{Client as Acts_by, Server_does}
use Rattle.tb_caller_laws.proofs.Acknowledged.{GoesOn, longer_none, Acknowledged, still, begins_history, HasRegister, IsRootedIn, AreRooted, rooted_snoc, IsGiven, still_given, given_answered, IsSentOf, read_given, logged_given}
use Rattle.tb_caller_laws.proofs.Offered.{each_join}
use Rattle.tb_caller_laws.proofs.Refused.{IsRefusal, session_named, legal_begins, refused, not_newer}
use Rattle.tb_caller_laws.proofs.Replied.{none_read}

module _ (ours : ℕ → Bool) where
  -- the server

  record IsUp (first : History) (read : List Pair) (sent : List ℕ) : Type 0 where
    pub keepable : IsKeepable first
    pub served : AreServed (history_state first) read
    pub rooted : AreRooted ours first.entries (history_state first) read
    pub sent_of : IsSentOf first read sent

  record IsLogSound (first : History) (log : List Pair) : Type 0 where
    pub keepable : IsKeepable first
    pub served : AreServed (history_state first) log
    pub rooted : AreRooted ours first.entries (history_state first) log

  abbrev IsServerSound : Server → Type 0
  IsServerSound (Logged first log) = IsLogSound first log
  IsServerSound (Down file) = (h : History) × IsLedger h file
  IsServerSound (Up first read sent) = IsUp first read sent

  keepable_of : (server : Server) (h : History) → IsServerSound server → HasHistory server h → IsKeepable h
  keepable_of (Down file) h sound has = has.keepable
  keepable_of (Up first read sent) h sound has = subst IsKeepable (sym has) (keepable_longer first read sound.keepable sound.served)
  keepable_of (Logged first log) h sound has = subst IsKeepable (sym has) (keepable_longer first log sound.keepable sound.served)

  history_now : (server : Server) → IsServerSound server → (h : History) × HasHistory server h
  history_now (Down file) sound = sound
  history_now (Up first read sent) sound = (longer first (entries_from (history_state first) read), refl)
  history_now (Logged first log) sound = (longer first (entries_from (history_state first) log), refl)

  -- a session that was said to be over, after a history with its register that was acknowledged
  record IsOver (server : Server) (id session : ℕ) : Type 0 where
    pub history : History
    pub request : Message
    pub acknowledged : Acknowledged server history
    pub register : HasRegister history.entries request
    pub client : request.client ≡ id
    pub session_is : request.session ≡ session
    pub call : IsCall request
    pub ends : heard_by (answer_to (history_state history) request).status ≡ hearing.Ended

  abbrev IsPhaseOver : Server → ℕ → Phase → Type 0
  IsPhaseOver server id Unregistered = Unit {0}
  IsPhaseOver server id (Open r) = Unit {0}
  IsPhaseOver server id Idle = Unit {0}
  IsPhaseOver server id (Ended r) = IsCall r → IsOver server id r.session

  still_over : (server : Server) (step : Step) (id : ℕ) (phase : Phase) → MayStep server step → IsPhaseOver server id phase → IsPhaseOver (stepped server step) id phase
  still_over server step id Unregistered may over = tt
  still_over server step id (Open r) may over = tt
  still_over server step id Idle may over = tt
  still_over server step id (Ended r) may over = λ call.
      let is = over call in
      record { history = is.history; request = is.request; acknowledged = still server step is.history may is.acknowledged; register = is.register; client = is.client; session_is = is.session_is; call = is.call; ends = is.ends }

  -- a client, next to the server

  record IsBeside (id : ℕ) (server : Server) (d : Endpoint) : Type 0 where
    pub kept : IsKept id d
    pub held : (h : History) → HasHistory server h → NoneInvented id d.sent h.entries
    pub returned : Each (λ (p : Message × Answer). IsGiven ours server p.1) d.returned
    pub over : IsPhaseOver server id d.live.phase
    pub over_stored : IfSome d.stored (λ s. IsPhaseOver server id s.phase)

  calls_hold : (id : ℕ) (server : Server) (d : Endpoint) (h : History) → IsServerSound server → HasHistory server h → IsBeside id server d → CallsHold (after h.profile h.clients_max) id h.entries d.sent d.returned
  calls_hold id server d h sound has on =
      in_history h.profile h.clients_max None id h.entries d.sent d.returned (keepable_of server h sound has).legal on.kept.sends.sent (on.held h has) on.kept.sends.returned
      (each-map (λ (p : Message × Answer). IsGiven ours server p.1) (λ (p : Message × Answer). IsAnswered (after h.profile h.clients_max) h.entries p.1) d.returned
      (λ p is. given_answered ours server h p.1 has is) on.returned)

  -- an act of a client

  -- what its answer says of the request that waits
  module _ (id : ℕ) (server : Server) (sound : IsServerSound server) (a : Answer) (given : IsGiven ours server a) where
    is_legal : IsLegal given.history.profile given.history.clients_max given.history.entries
    is_legal =
        let now = history_now server sound in
        legal_begins given.history now.0 (begins_history server given.history now.0 given.acknowledged now.1) (keepable_of server now.0 sound now.1).legal

    -- an answer that ends a session is for a call of it, after its register
    module _ (r : Message) (client : r.client ≡ id) (is_ours : ours id ≡ true) (call : IsCall r) (named : names r a ≡ true) (ends : heard_by a.status ≡ hearing.Ended) where
      ends_there : heard_by (answer_to (history_state given.history) given.request).status ≡ hearing.Ended
      ends_there = ap (λ (b : Answer). heard_by b.status) (sym given.answer) ∙ ends

      refusal : IsRefusal (answer_to (history_state given.history) given.request) given.request
      refusal = refused given.history given.request is_legal ends_there

      its : Names r a
      its = names_of r a named

      its_client : given.request.client ≡ id
      its_client = sym refusal.client ∙ ap (λ (b : Answer). b.client) (sym given.answer) ∙ its.client ∙ client

      its_call : IsCall given.request
      its_call = ap (λ (n : ℕ). n == operation_code op.Register) (sym refusal.operation_is ∙ ap (λ (b : Answer). b.operation) (sym given.answer) ∙ its.operation_is) ∙ call

      its_session : given.request.session ≡ r.session
      its_session = sym refusal.session ∙ ap (λ (b : Answer). b.session) (sym given.answer) ∙ session_named r a call named

      registered : HasRegister given.history.entries given.request
      registered = given.rooted (ap ours its_client ∙ is_ours) its_call

      is_over : IsOver server id r.session
      is_over = record {
        history = given.history;
        request = given.request;
        acknowledged = given.acknowledged;
        register = registered;
        client = its_client;
        session_is = its_session;
        call = its_call;
        ends = ends_there;
      }

      never_newer_status : a.status ≢ status.NewerSession
      never_newer_status is =
          not_newer given.history given.request is_legal registered (ap (λ (b : Answer). b.status) (sym given.answer) ∙ is)

    over_ended : (phase : Phase) → ((r : Message) → open_request phase ≡ Some r → r.client ≡ id) → ours id ≡ true → heard_of (open_request phase) a ≡ hearing.Ended → IsPhaseOver server id phase → IsPhaseOver server id (ended_in phase)
    over_ended Unregistered client is_ours e over = tt
    over_ended (Open r) client is_ours e over = λ call. by (names r a) refl e call
      where
        by : (b : Bool) → names r a ≡ b → cond b (heard_by a.status) hearing.Other ≡ hearing.Ended → IsCall r → IsOver server id r.session
        by true named e call = is_over r (client r refl) is_ours call named e
        by false named e call = absurd cc
    over_ended Idle client is_ours e over = tt
    over_ended (Ended r) client is_ours e over = over

    over_moved : (c : Client) (h : Heard) → heard c a ≡ h → ((r : Message) → open_request c.phase ≡ Some r → r.client ≡ id) → ours id ≡ true → IsPhaseOver server id c.phase → IsPhaseOver server id (moved h c a).phase
    over_moved c hearing.Returned e client is_ours over = tt
    over_moved c hearing.Ended e client is_ours over = over_ended c.phase client is_ours e over
    over_moved c hearing.Refused e client is_ours over = over
    over_moved c hearing.Other e client is_ours over = over

    returned_with : (h : Heard) (o : Option Message) (pairs : List (Message × Answer)) → Each (λ (p : Message × Answer). IsGiven ours server p.1) pairs → Each (λ (p : Message × Answer). IsGiven ours server p.1) (returned_by h o a pairs)
    returned_with hearing.Returned (Some r) pairs each = (given, each)
    returned_with hearing.Returned None pairs each = each
    returned_with hearing.Ended o pairs each = each
    returned_with hearing.Refused o pairs each = each
    returned_with hearing.Other o pairs each = each

  abbrev IsHeard : Server → Act → Type 0
  IsHeard server (Hear a) = IsGiven ours server a
  IsHeard server (Call body) = Unit {0}
  IsHeard server (Send r) = Unit {0}
  IsHeard server Store = Unit {0}
  IsHeard server Restart = Unit {0}

  over_restarted : (server : Server) (id : ℕ) (o : Option Client) (c : Client) → IfSome o (λ s. IsPhaseOver server id s.phase) → IsPhaseOver server id c.phase → IsPhaseOver server id (restarted o c).phase
  over_restarted server id None c stored live = live
  over_restarted server id (Some s) c stored live = stored

  beside_acted : (id : ℕ) (server : Server) (d : Endpoint) (act : Act) → ours id ≡ true → IsServerSound server → IsBeside id server d → MayAct d act → IsHeard server act → IsBeside id server (acted d act)
  beside_acted id server d (Call body) is_ours sound on may heard_it = record { kept = kept_acted id d on.kept (Call body) may; held = on.held; returned = on.returned; over = tt; over_stored = on.over_stored }
  beside_acted id server d (Send r) is_ours sound on may heard_it = record {
    kept = kept_acted id d on.kept (Send r) may;
    held = λ h has. each-map (λ (e : Entry). e.request.client ≡ id → IsAmong e.request d.sent) (λ (e : Entry). e.request.client ≡ id → IsAmong e.request (r ∷ d.sent)) h.entries (λ e among same. inr (among same)) (on.held h has);
    returned = on.returned;
    over = on.over;
    over_stored = on.over_stored;
  }
  beside_acted id server d (Hear a) is_ours sound on may heard_it = record {
    kept = kept_acted id d on.kept (Hear a) may;
    held = on.held;
    returned = returned_with id server sound a heard_it (heard d.live a) (open_request d.live.phase) d.returned on.returned;
    over = over_moved id server sound a heard_it d.live (heard d.live a) refl (λ r waits. (open_of id d.sent d.live r on.kept.live waits).client) is_ours on.over;
    over_stored = on.over_stored;
  }
  beside_acted id server d Store is_ours sound on may heard_it = record { kept = kept_acted id d on.kept Store may; held = on.held; returned = on.returned; over = on.over; over_stored = on.over }
  beside_acted id server d Restart is_ours sound on may heard_it = record {
    kept = kept_acted id d on.kept Restart may;
    held = on.held;
    returned = on.returned;
    over = over_restarted server id d.stored d.live on.over_stored on.over;
    over_stored = on.over_stored;
  }

  -- a step of the server

  module _ (id : ℕ) (sent : List Message) where
    -- the entry of a pair that is read
    held_entry : (S : State) (p : Pair) → IsServed S p → (p.1.client ≡ id → IsAmong p.1 sent) → NoneInvented id sent (entered S p ++ [])
    held_entry S p served among = by (is_entered S p)
      where
        by : (b : Bool) → NoneInvented id sent (cond b (entry_of S p ∷ []) [] ++ [])
        by true = (among, tt)
        by false = tt

    held_step : (server : Server) (step : Step) → MayStep server step → ((p : Pair) → step ≡ Read p → p.1.client ≡ id → IsAmong p.1 sent)
        → ((h : History) → HasHistory server h → NoneInvented id sent h.entries) → (h : History) → HasHistory (stepped server step) h → NoneInvented id sent h.entries
    held_step (Down file) (Start k) may reads held h has =
        subst (λ (h : History). NoneInvented id sent h.entries) (sym (has ∙ longer_none k)) (held k may)
    held_step (Up first read bytes) (Read p) may reads held h has =
        let S = history_state first in
        subst (λ (h : History). NoneInvented id sent h.entries) (sym has)
        (subst (λ es. NoneInvented id sent (first.entries ++ es)) (sym (entries_join S read (p ∷ [])))
        (subst (NoneInvented id sent) (append_assoc first.entries (entries_from S read) (entered (state_from S read) p ++ []))
        (each_join (λ (e : Entry). e.request.client ≡ id → IsAmong e.request sent) (first.entries ++ entries_from S read) (entered (state_from S read) p ++ [])
        (held (longer first (entries_from S read)) refl) (held_entry (state_from S read) p may (reads p refl)))))
    held_step (Logged first log) (Read p) may reads held h has =
        let S = history_state first in
        subst (λ (h : History). NoneInvented id sent h.entries) (sym has)
        (subst (λ es. NoneInvented id sent (first.entries ++ es)) (sym (entries_join S log (p ∷ [])))
        (subst (NoneInvented id sent) (append_assoc first.entries (entries_from S log) (entered (state_from S log) p ++ []))
        (each_join (λ (e : Entry). e.request.client ≡ id → IsAmong e.request sent) (first.entries ++ entries_from S log) (entered (state_from S log) p ++ [])
        (held (longer first (entries_from S log)) refl) (held_entry (state_from S log) p may (reads p refl)))))
    held_step (Logged first log) (Replay read bytes) may reads held h has = held h has
    held_step (Logged first log) (Start k) may reads held h has = absurd may
    held_step (Logged first log) (Reply more) may reads held h has = absurd may
    held_step (Logged first log) (Stop other) may reads held h has = absurd may
    held_step (Down file) (Replay read bytes) may reads held h has = absurd may
    held_step (Up first read bytes) (Replay seen more) may reads held h has = absurd may
    held_step (Up first read bytes) (Reply more) may reads held h has = held h has
    held_step (Up first read bytes) (Stop file) may reads held h has =
        let S = history_state first in
        subst (λ (h : History). NoneInvented id sent h.entries) (one_history file (longer first (entries_from S may.pairs)) h may.file_is has)
        (each_before (λ (e : Entry). e.request.client ≡ id → IsAmong e.request sent) (first.entries ++ entries_from S may.pairs) (entries_from (state_from S may.pairs) may.others)
        (subst (NoneInvented id sent) (sym (append_assoc first.entries (entries_from S may.pairs) (entries_from (state_from S may.pairs) may.others)))
        (subst (λ es. NoneInvented id sent (first.entries ++ es)) (ap (λ ps. entries_from S ps) may.all_are ∙ entries_join S may.pairs may.others)
        (held (longer first (entries_from S read)) refl))))
    held_step (Down file) (Read p) may reads held h has = absurd may
    held_step (Down file) (Reply more) may reads held h has = absurd may
    held_step (Down file) (Stop other) may reads held h has = absurd may
    held_step (Up first read bytes) (Start k) may reads held h has = absurd may

  beside_step : (id : ℕ) (server : Server) (step : Step) (d : Endpoint) → MayStep server step → ((p : Pair) → step ≡ Read p → p.1.client ≡ id → IsAmong p.1 d.sent)
      → IsBeside id server d → IsBeside id (stepped server step) d
  beside_step id server step d may reads on = record {
    kept = on.kept;
    held = held_step id d.sent server step may reads on.held;
    returned = each-map (λ (p : Message × Answer). IsGiven ours server p.1) (λ (p : Message × Answer). IsGiven ours (stepped server step) p.1) d.returned (λ p is. still_given ours server step p.1 may is) on.returned;
    over = still_over server step id d.live.phase may on.over;
    over_stored = stored d.stored on.over_stored;
  }
    where
      stored : (o : Option Client) → IfSome o (λ s. IsPhaseOver server id s.phase) → IfSome o (λ s. IsPhaseOver (stepped server step) id s.phase)
      stored None over = tt
      stored (Some s) over = still_over server step id s.phase may over

  server_step : (server : Server) (step : Step) → MayStep server step
      → ((h : History) (p : Pair) → HasHistory server h → step ≡ Read p → IsRootedIn ours h.entries p.1)
      → IsServerSound server → IsServerSound (stepped server step)
  server_step (Down file) (Start h) may roots sound = record { keepable = may.keepable; served = tt; rooted = tt; sent_of = record { pairs = []; others = []; read_are = refl; unsent = []; replies = refl } }
  server_step (Up first read sent) (Read p) may roots sound = record {
    keepable = sound.keepable;
    served = served_snoc (history_state first) read p sound.served may;
    rooted = rooted_snoc ours first.entries (history_state first) read p sound.rooted (roots (longer first (entries_from (history_state first) read)) p refl refl);
    sent_of = record {
      pairs = sound.sent_of.pairs;
      others = sound.sent_of.others ++ p ∷ [];
      read_are = ap (λ l. l ++ p ∷ []) sound.sent_of.read_are ∙ append_assoc sound.sent_of.pairs sound.sent_of.others (p ∷ []);
      unsent = sound.sent_of.unsent;
      replies = sound.sent_of.replies;
    };
  }
  server_step (Up first read sent) (Reply bytes) may roots sound = record {
    keepable = sound.keepable;
    served = sound.served;
    rooted = sound.rooted;
    sent_of = record { pairs = may.1.pairs; others = may.1.others; read_are = may.1.all_are; unsent = may.1.unsent; replies = may.1.replies };
  }
  server_step (Up first read sent) (Stop file) may roots sound = (longer first (entries_from (history_state first) may.pairs), may.file_is)
  server_step (Logged first log) (Read p) may roots sound = record {
    keepable = sound.keepable;
    served = served_snoc (history_state first) log p sound.served may;
    rooted = rooted_snoc ours first.entries (history_state first) log p sound.rooted (roots (longer first (entries_from (history_state first) log)) p refl refl);
  }
  server_step (Logged first log) (Replay read bytes) may roots sound = sound
  server_step (Logged first log) (Start h) may roots sound = absurd may
  server_step (Logged first log) (Reply bytes) may roots sound = absurd may
  server_step (Logged first log) (Stop file) may roots sound = absurd may
  server_step (Down file) (Replay read bytes) may roots sound = absurd may
  server_step (Up first read sent) (Replay seen bytes) may roots sound = absurd may
  server_step (Down file) (Read p) may roots sound = absurd may
  server_step (Down file) (Reply bytes) may roots sound = absurd may
  server_step (Down file) (Stop other) may roots sound = absurd may
  server_step (Up first read sent) (Start h) may roots sound = absurd may

  -- the world

  record IsSound (w : World) : Type 0 where
    pub server : IsServerSound w.server
    pub earlier : Each (λ (bytes : List ℕ). (a : Answer) → IsReadIn bytes a → IsGiven ours w.server a) w.earlier
    pub beside : (id : ℕ) → ours id ≡ true → IsBeside id w.server (w.clients id)

  given_now : (server : Server) (a : Answer) → IsServerSound server → IsReadIn (sent_now server) a → IsGiven ours server a
  given_now (Down file) a sound reads = absurd (none_read a reads)
  given_now (Up first read sent) a sound reads = read_given ours first read sent a sound.served sound.rooted sound.sent_of reads
  given_now (Logged first log) a sound reads = absurd (none_read a reads)

  -- what a machine on a log has sent
  given_replayed : (server : Server) (read : List Pair) (bytes : List ℕ) (a : Answer) → IsServerSound server → MayStep server (Replay read bytes) → IsReadIn bytes a → IsGiven ours (stepped server (Replay read bytes)) a
  given_replayed (Logged first log) read bytes a sound may reads =
      logged_given ours first log bytes a sound.served sound.rooted (record { pairs = read; others = may.0.0; read_are = sym may.0.1; unsent = may.1.0; replies = may.1.1 }) reads
  given_replayed (Down file) read bytes a sound may reads = absurd may
  given_replayed (Up first seen sent) read bytes a sound may reads = absurd may

  given_earlier : (server : Server) (earlier : List (List ℕ)) (a : Answer) → Each (λ (bytes : List ℕ). (a : Answer) → IsReadIn bytes a → IsGiven ours server a) earlier → IsReadInOne earlier a → IsGiven ours server a
  given_earlier server [] a each reads = absurd reads
  given_earlier server (bytes ∷ more) a each (inl reads) = each.0 a reads
  given_earlier server (bytes ∷ more) a each (inr reads) = given_earlier server more a each.1 reads

  given_of : (w : World) (a : Answer) → IsSound w → IsReadInOne (sent_now w.server ∷ w.earlier) a → IsGiven ours w.server a
  given_of w a on (inl reads) = given_now w.server a on.server reads
  given_of w a on (inr reads) = given_earlier w.server w.earlier a on.earlier reads

  heard_of_world : (w : World) (act : Act) → IsSound w → CanHear w act → IsHeard w.server act
  heard_of_world w (Hear a) on can = given_of w a on can
  heard_of_world w (Call body) on can = tt
  heard_of_world w (Send r) on can = tt
  heard_of_world w Store on can = tt
  heard_of_world w Restart on can = tt

  -- the register of the session of a call that was sent is in the history
  root_of : (id : ℕ) (server : Server) (d : Endpoint) (h : History) (r : Message) → IsServerSound server → HasHistory server h → IsBeside id server d → IsAmong r d.sent → IsCall r → r.client ≡ id → HasRegister h.entries r
  root_of id server d h r sound has on among call client =
      let registered = each_among (λ (m : Message). IsCall m → IsRegistered d.returned m.session) r d.sent on.kept.sends.sessions among call in
      let once = each_among (λ (p : Message × Answer). IsOnce (after h.profile h.clients_max) h.entries p.0 p.1) (registered.request, registered.answer) d.returned (calls_hold id server d h sound has on).once registered.taken in
      let taken = each_among (IsTaken d.sent) (registered.request, registered.answer) d.returned on.kept.sends.returned registered.taken in
      let its : registered.request.client ≡ id = each_among (λ (m : Message). m.client ≡ id) registered.request d.sent on.kept.sends.sent.client taken.sent_it in
      record {
        front = once.front;
        register = once.entry;
        more = once.rest;
        whole = once.whole ∙ sym (append_assoc once.front (once.entry ∷ []) once.rest);
        client = ap (λ (m : Message). m.client) once.request ∙ its ∙ sym client;
        is_one = ap (λ (m : Message). is_register m.body) once.request ∙ registered.register;
        session = sym (ap (λ (b : Answer). b.commit) once.reply) ∙ sym (once.register registered.register) ∙ registered.session_is;
      }

  module _ (w : World) (on : IsSound w) where
    acted_beside : (k : ℕ) (act : Act) → MayAct (w.clients k) act → CanHear w act → (id : ℕ) → ours id ≡ true → IsBeside id w.server (cond (eqb id k) (acted (w.clients k) act) (w.clients id))
    acted_beside k act may can id is_ours = by (eqb id k) refl
      where
        by : (b : Bool) → eqb id k ≡ b → IsBeside id w.server (cond b (acted (w.clients k) act) (w.clients id))
        by true e =
            let same : id ≡ k = eqb-true id k e in
            beside_acted id w.server (w.clients k) act is_ours on.server (subst (λ (n : ℕ). IsBeside id w.server (w.clients n)) same (on.beside id is_ours)) may (heard_of_world w act on can)
        by false e = on.beside id is_ours

    reads_sent : (step : Step) → CanRead ours w step → (id : ℕ) → ours id ≡ true → (p : Pair) → step ≡ Read p → p.1.client ≡ id → IsAmong p.1 (w.clients id).sent
    reads_sent step can id is_ours p is same =
        let read = subst (CanRead ours w) is can in
        sent_by_frame p.1 (w.clients id).sent read.0 (on.beside id is_ours).kept.sends.frames
        (subst (λ (n : ℕ). IsAmong (request_bytes p.1) (frames_of (w.clients n))) same (read.1 (ap ours same ∙ is_ours)))

    roots_read : (step : Step) → CanRead ours w step → (h : History) (p : Pair) → HasHistory w.server h → step ≡ Read p → IsRootedIn ours h.entries p.1
    roots_read step can h p has is = λ is_ours call.
        root_of p.1.client w.server (w.clients p.1.client) h p.1 on.server has (on.beside p.1.client is_ours) (reads_sent step can p.1.client is_ours p is refl) call refl

    earlier_step : (step : Step) → MayStep w.server step → Each (λ (bytes : List ℕ). (a : Answer) → IsReadIn bytes a → IsGiven ours (stepped w.server step) a) (earlier_after w.server step w.earlier)
    earlier_step step may = by step may
      where
        more : (step : Step) → MayStep w.server step → Each (λ (bytes : List ℕ). (a : Answer) → IsReadIn bytes a → IsGiven ours (stepped w.server step) a) w.earlier
        more step may = each-map (λ (bytes : List ℕ). (a : Answer) → IsReadIn bytes a → IsGiven ours w.server a) (λ (bytes : List ℕ). (a : Answer) → IsReadIn bytes a → IsGiven ours (stepped w.server step) a) w.earlier
            (λ bytes given a reads. still_given ours w.server step a may (given a reads)) on.earlier

        by : (step : Step) → MayStep w.server step → Each (λ (bytes : List ℕ). (a : Answer) → IsReadIn bytes a → IsGiven ours (stepped w.server step) a) (earlier_after w.server step w.earlier)
        by (Stop file) may = (λ a reads. still_given ours w.server (Stop file) a may (given_now w.server a on.server reads), more (Stop file) may)
        by (Replay read bytes) may = (λ a reads. given_replayed w.server read bytes a on.server may reads, more (Replay read bytes) may)
        by (Start h) may = more (Start h) may
        by (Read p) may = more (Read p) may
        by (Reply bytes) may = more (Reply bytes) may

    on_event : (event : Event) → MayHappen ours w event → IsSound (happens ours w event)
    on_event (Acts_by k act) may = record { server = on.server; earlier = on.earlier; beside = acted_beside k act may.0 may.1 }
    on_event (Server_does step) may = record {
      server = server_step w.server step may.0 (roots_read step may.1) on.server;
      earlier = earlier_step step may.0;
      beside = λ id is_ours. beside_step id w.server step (w.clients id) may.0 (reads_sent step may.1 id is_ours) (on.beside id is_ours);
    }

  on_run : (w : World) (events : List Event) → IsSound w → Runs ours w events → IsSound (run ours w events)
  on_run w [] on runs = on
  on_run w (event ∷ events) on runs = on_run (happens ours w event) events (on_event w on event runs.0) runs.1

  on_begun : (h : History) (server : Server) → BeginsWith ours h server → IsSound (begun server)
  on_begun h server begins = record {
    server = sound server begins.new;
    earlier = tt;
    beside = λ id is_ours. record {
      kept = kept_started id;
      held = λ k has. subst (λ (h : History). NoneInvented id [] h.entries) (its_history server k begins.new has)
          (each-map (λ (e : Entry). ours e.request.client ≡ false) (λ (e : Entry). e.request.client ≡ id → IsAmong e.request []) h.entries
          (λ e none same. let two : true ≡ false = sym is_ours ∙ sym (ap ours same) ∙ none in cc) begins.others);
      returned = tt;
      over = tt;
      over_stored = tt;
    };
  }
    where
      sound : (server : Server) → IsNew server h → IsServerSound server
      sound (Down file) new = (h, new)
      sound (Up first read sent) new = absurd new
      sound (Logged first log) new = subst (IsLogSound first) (sym new.2) (record { keepable = new.0; served = tt; rooted = tt })

      its_history : (server : Server) (k : History) → IsNew server h → HasHistory server k → h ≡ k
      its_history (Down file) k new has = one_history file h k new has
      its_history (Up first read sent) k new has = absurd new
      its_history (Logged first log) k new has =
          new.1 ∙ sym (longer_none first) ∙ ap (λ ps. longer first (entries_from (history_state first) ps)) (sym new.2) ∙ sym has

  -- what was acknowledged stays
  still_run : (w : World) (events : List Event) (m : History) → Runs ours w events → Acknowledged w.server m → Acknowledged (run ours w events).server m
  still_run w [] m runs is = is
  still_run w (Acts_by k act ∷ events) m runs is = still_run (happens ours w (Acts_by k act)) events m runs.1 is
  still_run w (Server_does step ∷ events) m runs is = still_run (happens ours w (Server_does step)) events m runs.1 (still w.server step m runs.0.0 is)

  -- nothing of a session that is over comes later
  none_of_session : (server : Server) (id session : ℕ) (h : History) → IsServerSound server → HasHistory server h → (over : IsOver server id session) (on : GoesOn over.history h)
      → Each (λ (e : Entry). e.request.client ≡ id → IsCall e.request → e.request.session ≢ session) on.more
  none_of_session server id session h sound has over on =
      let m = over.history in
      let reg = over.register in
      let first = reg.front ++ reg.register ∷ [] in
      let legal = subst (λ es. IsLegal m.profile m.clients_max es) (ap (λ l. l ++ on.more) reg.whole ∙ append_assoc first reg.more on.more)
      (subst (λ (k : History). IsLegal k.profile k.clients_max k.entries) (sym on.is) (keepable_of server h sound has).legal) in
      each-map (λ (e : Entry). e.request.client ≡ over.request.client → IsCall e.request → e.request.session ≢ over.request.session) (λ (e : Entry). e.request.client ≡ id → IsCall e.request → e.request.session ≢ session) on.more
      (λ e none client call same. none (client ∙ sym over.client) call (same ∙ sym over.session_is))
      (over_for_good m.profile m.clients_max None reg.front reg.register reg.more on.more over.request legal reg.client reg.is_one reg.session over.call
      (subst (λ es. heard_by (answer_to (history_state (record { profile = m.profile; clients_max = m.clients_max; entries = es })) over.request).status ≡ hearing.Ended) reg.whole over.ends))

-- one of the entries of a list is among the first ones
among_first : (P : Entry → Type 0) (m others front : List Entry) (e : Entry) (rest : List Entry) → m ++ others ≡ front ++ e ∷ rest → length front < length m → Each P m → P e
among_first P [] others front e rest same short each = absurd (omega (arith, short))
among_first P (x ∷ m) others [] e rest same short each = subst P (cc (same)) each.0
among_first P (x ∷ m) others (y ∷ front) e rest same short each = among_first P m others front e rest (cc (same)) (omega (arith, short)) each.1

pub each_call_once : EachCallOnce
each_call_once ours first h server events begins runs has id is_ours =
    let w = run ours (begun server) events in
    let on = on_run ours (begun server) events (on_begun ours first server begins) runs in
    let its = on.beside id is_ours in
    (its.kept.sends, calls_hold ours id w.server (w.clients id) h on.server has its)

pub ended_is_final : EndedIsFinal
ended_is_final ours first h k server events more begins runs later has has_later id r is_ours call ended =
    let w = run ours (begun server) events in
    let v = run ours w more in
    let on = on_run ours (begun server) events (on_begun ours first server begins) runs in
    let on_later = on_run ours w more on later in
    let over = subst (IsPhaseOver ours w.server id) ended (on.beside id is_ours).over call in
    let over_later = over_on ours w.server v.server id r.session over (still_run ours w more over.history later over.acknowledged) in
    let now = begins_history w.server over.history h over.acknowledged has in
    let then = begins_history v.server over.history k over_later.acknowledged has_later in
    record {
      entries = over.history.entries;
      since = now.more;
      others = then.more;
      now_is = sym (ap (λ (h : History). h.entries) now.is);
      later_is = sym (ap (λ (h : History). h.entries) then.is);
      none = each_join (λ (e : Entry). e.request.client ≡ id → IsCall e.request → e.request.session ≢ r.session) now.more then.more
          (none_of_session ours w.server id r.session h on.server has over now) (none_of_session ours v.server id r.session k on_later.server has_later over_later then);
      after = λ other other_ours.
          let d = v.clients other in
          let its = on_later.beside other other_ours in
          let held = each_before (λ (e : Entry). e.request.client ≡ other → IsAmong e.request (w.clients other).sent) over.history.entries now.more
          (subst (λ (h : History). NoneInvented other (w.clients other).sent h.entries) (sym now.is) ((on.beside other other_ours).held h has)) in
          each-both (IsTaken d.sent) (λ (p : Message × Answer). IsOnce (after k.profile k.clients_max) k.entries p.0 p.1)
          (λ (p : Message × Answer). IsAmong p.0 (w.clients other).sent ⊎ (length over.history.entries < p.1.commit)) d.returned
          (λ p taken once.
          after_or_before other (w.clients other).sent over.history.entries then.more k.entries p once.front once.entry once.rest held (sym once.whole ∙ sym (ap (λ (h : History). h.entries) then.is)) once.request once.place
          (each_among (λ (m : Message). m.client ≡ other) p.0 d.sent its.kept.sends.sent.client taken.sent_it))
          its.kept.sends.returned (calls_hold ours other v.server d k on_later.server has_later its).once;
    }
  where
    over_on : (ours : ℕ → Bool) (server later : Server) (id session : ℕ) (over : IsOver ours server id session) → Acknowledged later over.history → IsOver ours later id session
    over_on ours server later id session over is =
        record { history = over.history; request = over.request; acknowledged = is; register = over.register; client = over.client; session_is = over.session_is; call = over.call; ends = over.ends }

    after_or_before : (other : ℕ) (sent : List Message) (m others whole : List Entry) (p : Message × Answer) (front : List Entry) (e : Entry) (rest : List Entry)
        → Each (λ (e : Entry). e.request.client ≡ other → IsAmong e.request sent) m → front ++ e ∷ rest ≡ m ++ others → e.request ≡ p.0 → p.1.commit ≡ length front + 1 → p.0.client ≡ other
        → IsAmong p.0 sent ⊎ (length m < p.1.commit)
    after_or_before other sent m others whole p front e rest held same request place client = by (leb p.1.commit (length m)) refl
      where
        by : (b : Bool) → leb p.1.commit (length m) ≡ b → IsAmong p.0 sent ⊎ (length m < p.1.commit)
        by true is =
            let within : p.1.commit ≤ length m = leb-true p.1.commit (length m) is in
            inl (subst (λ (r : Message). IsAmong r sent) request
            (among_first (λ (e : Entry). e.request.client ≡ other → IsAmong e.request sent) m others front e rest (sym same) (omega (arith, within, place)) held (ap (λ (r : Message). r.client) request ∙ client)))
        by false is = inr (grind (arith, nat_tests, is))

pub never_newer : NeverNewer
never_newer ours first h server events begins runs has id r a is_ours call waits reads named newer =
    let w = run ours (begun server) events in
    let on = on_run ours (begun server) events (on_begun ours first server begins) runs in
    let its = on.beside id is_ours in
    never_newer_status ours id w.server on.server a (given_of ours w a on reads) r (open_of id (w.clients id).sent (w.clients id).live r its.kept.live waits).client is_ours call named
    (ap heard_by newer) newer
