-- Clients, a network and a server, over a whole schedule.
use Rattle.std.proofs.Common.{◌≡◌, ℕ, inr, Bool, true, false, cond, List, [], ◌∷◌, ◌++◌, Option, Some, None, refl, sym, ap, ◌∙◌, subst, eqb, eqb-true}
use Rattle.tb_records.specs.declared.limits.Profile.{Profile}
use Rattle.tb_records.specs.Frames.{request_bytes, IsRequest}
use Rattle.tb_records.specs.Messages.{Message, Answer}
use Rattle.tb_records.specs.ReplyFrames.{SpellsReply}
use Rattle.tb_records.specs.Ordered.{Each}
use Rattle.tb_records.proofs.ByKey.{each-map}
use Rattle.tb_machine.specs.declared.entries.Entry.{Entry}
use Rattle.tb_machine.specs.Dumps.{IsLegalWith}
use Rattle.tb_machine.specs.Histories.{State, answer_to}
use Rattle.tb_machine.specs.MarkedLaws.{next_in}
use Rattle.tb_machine.specs.ReplyLaws.{HoldRequests}
use Rattle.tb_machine.proofs.Rows.{each_snoc}
use Rattle.tb_caller.specs.declared.callers.Heard.{Heard}
use Rattle.tb_caller.specs.declared.callers.Heard.TheVariants as hearing
use Rattle.tb_caller.specs.Clients.{open_request, heard}
use Rattle.tb_caller.specs.Endpoints.{Endpoint, Act, MayAct, acted, IsAmong, returned_by}
use Rattle.tb_caller.specs.Endpoints.Act.{Call, Send, Hear, Store, Restart}
use Rattle.tb_caller.specs.Calls.{NoneInvented, IsAnswered}
use Rattle.tb_caller.specs.Networks.{World, Event, frames_of, IsReadFrom, WasGiven, MayHappen, happens, Runs, run, begun, BeginsWithOthers, CallsOnce, NeverRefused}
use Rattle.tb_caller.specs.Networks.Event.{Client, Enter, Answer_by}
use Rattle.tb_caller.proofs.Frames.{one_reply, sent_by_frame, answer_has_frame}
use Rattle.tb_caller.proofs.Lists.{each_among}
use Rattle.tb_caller.proofs.Alone.{IsKept, kept_started, kept_acted}
use Rattle.tb_caller.proofs.Entered.{in_history, answered_on}
use Rattle.tb_caller.proofs.Settled.{settled}

module _ (profile : Profile) (clients_max : ℕ) (mark : Option ℕ) where
  abbrev Legal : List Entry → Type 0
  Legal = IsLegalWith profile clients_max mark

  abbrev N : List Entry → State
  N = next_in profile clients_max mark

  abbrev Answered : List Entry → Answer → Type 0
  Answered h a = IsAnswered N h a

  -- the bytes are the frame of an answer
  record IsFrameIn (h : List Entry) (bytes : List ℕ) : Type 0 where
    pub answer : Answer
    pub answered : Answered h answer
    pub spells : SpellsReply bytes answer

  frame_on : (h more : List Entry) (bytes : List ℕ) → IsFrameIn h bytes → IsFrameIn (h ++ more) bytes
  frame_on h more bytes is = record { answer = is.answer; answered = answered_on profile clients_max mark h more is.answer is.answered; spells = is.spells }

  -- what is read from it is that answer
  read_answered : (h : List Entry) (given : List (List ℕ)) (a : Answer) → Each (IsFrameIn h) given → IsReadFrom given a → Answered h a
  read_answered h given a all read =
      let its = each_among (IsFrameIn h) read.frame given all read.was_given in
      subst (Answered h) (one_reply read.frame its.answer a its.spells read.spells) its.answered

  -- one client, next to the history
  record IsBeside (id : ℕ) (h : List Entry) (d : Endpoint) : Type 0 where
    pub kept : IsKept id d
    pub held : NoneInvented id d.sent h
    pub returned : Each (λ (p : Message × Answer). Answered h p.1) d.returned

  more_sent : (id : ℕ) (sent : List Message) (r : Message) (h : List Entry) → NoneInvented id sent h → NoneInvented id (r ∷ sent) h
  more_sent id sent r h = each-map (λ (e : Entry). e.request.client ≡ id → IsAmong e.request sent) (λ (e : Entry). e.request.client ≡ id → IsAmong e.request (r ∷ sent)) h (λ e among same. inr (among same))

  returned_on : (h : List Entry) (a : Answer) (heard : Heard) (o : Option Message) (pairs : List (Message × Answer)) → Answered h a
      → Each (λ (p : Message × Answer). Answered h p.1) pairs → Each (λ (p : Message × Answer). Answered h p.1) (returned_by heard o a pairs)
  returned_on h a hearing.Returned (Some r) pairs is each = (is, each)
  returned_on h a hearing.Returned None pairs is each = each
  returned_on h a hearing.Ended o pairs is each = each
  returned_on h a hearing.Refused o pairs is each = each
  returned_on h a hearing.Other o pairs is each = each

  beside_acted : (id : ℕ) (h : List Entry) (given : List (List ℕ)) (d : Endpoint) (act : Act) → Each (IsFrameIn h) given → IsBeside id h d → MayAct d act → WasGiven act given → IsBeside id h (acted d act)
  beside_acted id h given d (Call body) all on may was = record { kept = kept_acted id d on.kept (Call body) may; held = on.held; returned = on.returned }
  beside_acted id h given d (Send r) all on may was = record { kept = kept_acted id d on.kept (Send r) may; held = more_sent id d.sent r h on.held; returned = on.returned }
  beside_acted id h given d (Hear a) all on may was = record {
    kept = kept_acted id d on.kept (Hear a) may;
    held = on.held;
    returned = returned_on h a (heard d.live a) (open_request d.live.phase) d.returned (read_answered h given a all was) on.returned;
  }
  beside_acted id h given d Store all on may was = record { kept = kept_acted id d on.kept Store may; held = on.held; returned = on.returned }
  beside_acted id h given d Restart all on may was = record { kept = kept_acted id d on.kept Restart may; held = on.held; returned = on.returned }

  module _ (ours : ℕ → Bool) where
    record IsRun (w : World) : Type 0 where
      pub legal : Legal w.history
      pub requests : HoldRequests w.history
      pub given : Each (IsFrameIn w.history) w.given
      pub beside : (id : ℕ) → ours id ≡ true → IsBeside id w.history (w.clients id)

    module _ (w : World) (on : IsRun w) where
      -- after one client's act: another client, or itself
      acted_beside : (k : ℕ) (act : Act) → MayAct (w.clients k) act → WasGiven act w.given → (id : ℕ) → ours id ≡ true → IsBeside id w.history (cond (eqb id k) (acted (w.clients k) act) (w.clients id))
      acted_beside k act may was id is_ours = by (eqb id k) refl
        where
          by : (b : Bool) → eqb id k ≡ b → IsBeside id w.history (cond b (acted (w.clients k) act) (w.clients id))
          by true e =
              let same : id ≡ k = eqb-true id k e in
              beside_acted id w.history w.given (w.clients k) act on.given (subst (λ (n : ℕ). IsBeside id w.history (w.clients n)) same (on.beside id is_ours)) may was
          by false e = on.beside id is_ours

      on_event : (event : Event) → MayHappen Legal N ours w event → IsRun (happens Legal N ours w event)
      on_event (Client k act) may = record { legal = on.legal; requests = on.requests; given = on.given; beside = acted_beside k act may.0 may.1 }
      on_event (Enter e) may = record {
        legal = may.0;
        requests = each_snoc (λ (e : Entry). IsRequest e.request) w.history e on.requests may.1;
        given = each-map (IsFrameIn w.history) (IsFrameIn (w.history ++ e ∷ [])) w.given (λ bytes is. frame_on w.history (e ∷ []) bytes is) on.given;
        beside = λ id is_ours.
            let its = on.beside id is_ours in
            record {
              kept = its.kept;
              held = each_snoc (λ (e : Entry). e.request.client ≡ id → IsAmong e.request (w.clients id).sent) w.history e its.held
                  (λ same. sent_by_frame e.request (w.clients id).sent may.1 its.kept.sends.frames (subst (λ (n : ℕ). IsAmong (request_bytes e.request) (frames_of (w.clients n))) same (may.2 (ap ours same ∙ is_ours))));
              returned = each-map (λ (p : Message × Answer). Answered w.history p.1) (λ (p : Message × Answer). Answered (w.history ++ e ∷ []) p.1) (w.clients id).returned
                  (λ p is. answered_on profile clients_max mark w.history (e ∷ []) p.1 is) its.returned;
            };
      }
      on_event (Answer_by seen r) may = record {
        legal = on.legal;
        requests = on.requests;
        given = (
          record {
            answer = answer_to (N seen) r;
            answered = record { seen = seen; request = r; prefix = may.0; answer = refl };
            spells = record { bytes_are = refl; is = answer_has_frame profile clients_max mark seen w.history r on.legal on.requests may.0 may.1 };
          },
          on.given,
        );
        beside = on.beside;
      }

    on_run : (w : World) (events : List Event) → IsRun w → Runs Legal N ours w events → IsRun (run Legal N ours w events)
    on_run w [] on runs = on
    on_run w (event ∷ events) on runs = on_run (happens Legal N ours w event) events (on_event w on event runs.0) runs.1

    on_begun : (h : List Entry) → BeginsWithOthers Legal ours h → IsRun (begun h)
    on_begun h begins = record {
      legal = begins.is_legal;
      requests = begins.requests;
      given = tt;
      beside = λ id is_ours. record {
        kept = kept_started id;
        held = each-map (λ (e : Entry). ours e.request.client ≡ false) (λ (e : Entry). e.request.client ≡ id → IsAmong e.request []) h
            (λ e none same. let two : true ≡ false = sym is_ours ∙ sym (ap ours same) ∙ none in cc) begins.others;
        returned = tt;
      };
    }

pub calls_once : (profile : Profile) (clients_max : ℕ) (mark : Option ℕ) → CallsOnce (IsLegalWith profile clients_max mark) (next_in profile clients_max mark)
calls_once profile clients_max mark ours h events begins runs id is_ours =
    let on = on_run profile clients_max mark ours (begun h) events (on_begun profile clients_max mark ours h begins) runs in
    let w = run (IsLegalWith profile clients_max mark) (next_in profile clients_max mark) ours (begun h) events in
    let its = on.beside id is_ours in
    (its.kept.sends, in_history profile clients_max mark id w.history (w.clients id).sent (w.clients id).returned on.legal its.kept.sends.sent its.held its.kept.sends.returned its.returned)

pub never_refused : (profile : Profile) (clients_max : ℕ) (mark : Option ℕ) → NeverRefused (IsLegalWith profile clients_max mark) (next_in profile clients_max mark)
never_refused profile clients_max mark ours h events begins runs id r is_ours call waits has =
    let on = on_run profile clients_max mark ours (begun h) events (on_begun profile clients_max mark ours h begins) runs in
    let w = run (IsLegalWith profile clients_max mark) (next_in profile clients_max mark) ours (begun h) events in
    let its = on.beside id is_ours in
    settled profile clients_max mark id w.history (w.clients id) its.kept on.legal its.held (calls_once profile clients_max mark ours h events begins runs id is_ours).1.once r waits call has
