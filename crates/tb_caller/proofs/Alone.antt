-- What a client sends and takes, whatever it hears.
use Rattle.std.proofs.Common.{◌≡◌, ◌≤◌, ◌+◌, ℕ, Bool, true, false, cond, inl, inr, List, [], ◌∷◌, Option, Some, None, IfSome, refl, sym, ap, ◌∙◌, subst, arith}
use Rattle.tb_records.specs.declared.bodies.Body.{Body}
use Rattle.tb_records.specs.Frames.{IsRequest}
use Rattle.tb_records.specs.Messages.{Message, Answer, asked, is_register}
use Rattle.tb_records.specs.Ordered.{Each}
use Rattle.tb_records.proofs.ByKey.{each-map}
use Rattle.tb_caller.specs.declared.callers.Heard.{Heard}
use Rattle.tb_caller.specs.declared.callers.Heard.TheVariants as hearing
use Rattle.tb_caller.specs.Clients.{Client, open_request, made, call_fault, heard}
use Rattle.tb_caller.specs.Endpoints.{Endpoint, Act, MayAct, acted, started, IsAmong, returned_by, restarted}
use Rattle.tb_caller.specs.Endpoints.Act.{Call, Send, Hear, Store, Restart}
use Rattle.tb_caller.specs.Calls.{IsCall, IsRegistered, IsTaken}
use Rattle.tb_caller.specs.CallLaws.{Acts, after_acts, Sends, OneClient}
use Rattle.tb_caller.proofs.Own.{IsOf, IsWithin, IsOwn, own_fresh, own_called, own_sent, own_received, open_of, returns_of}
use Rattle.tb_caller.proofs.Lists.{each_among}
use Rattle.tb_caller.proofs.Filled.{HasReturned, IsFilled, more_filled, filled_call, filled_received}
use Rattle.tb_caller.proofs.Rooted.{IsRooted, more_registered, more_rooted, rooted_call, rooted_open, rooted_received}

pub record IsKept (id : ℕ) (d : Endpoint) : Type 0 where
  pub live : IsOwn id d.sent d.live
  pub stored : IfSome d.stored (IsOwn id d.sent)
  pub rooted : IsRooted d.returned d.live.session d.live.phase
  pub root_stored : IfSome d.stored (λ s. IsRooted d.returned s.session s.phase)
  pub filled : IsFilled d.returned d.live.session d.live.last d.live.phase
  pub fill_stored : IfSome d.stored (λ s. IsFilled d.returned s.session s.last s.phase)
  pub sends : Sends id d

pub kept_started : (id : ℕ) → IsKept id (started id)
kept_started id = record {
  live = own_fresh id;
  stored = tt;
  rooted = tt;
  root_stored = tt;
  filled = tt;
  fill_stored = tt;
  sends = record { sent = record { client = tt; lawful = tt; session = λ r s is. absurd is; number = λ r s is. absurd is }; frames = tt; returned = tt; in_turn = tt; sessions = tt };
}

-- sending

stored_sent : (id : ℕ) (sent : List Message) (r : Message) (o : Option Client) → IfSome o (IsOwn id sent) → IfSome o (λ s. open_request s.phase ≡ Some r) → IfSome o (IsOwn id (r ∷ sent))
stored_sent id sent r None own waits = tt
stored_sent id sent r (Some s) own waits = own_sent id sent s r own waits

module _ (id : ℕ) (d : Endpoint) (kept : IsKept id d) where
  -- a call that was sent is within what the client knows
  known : (m : Message) → IsAmong m d.sent → IsWithin d.live.session d.live.last (open_request d.live.phase) m
  known m is = each_among (IsWithin d.live.session d.live.last (open_request d.live.phase)) m d.sent kept.live.within is

  more_taken : (r : Message) → Each (IsTaken d.sent) d.returned → Each (IsTaken (r ∷ d.sent)) d.returned
  more_taken r = each-map (IsTaken d.sent) (IsTaken (r ∷ d.sent)) d.returned (λ p is. record { sent_it = inr is.sent_it; client = is.client; number = is.number; reply = is.reply })

  module _ (r : Message) (waits : open_request d.live.phase ≡ Some r) where
    its : IsOf id d.live.session d.live.last r
    its = open_of id d.sent d.live r kept.live waits

    -- one that was sent with the number of the open request is that request
    same_number : (m : Message) → IsAmong m d.sent → IsCall m → m.request ≡ d.live.last → m ≡ r
    same_number m is call last = subst (λ (o : Option Message). IfSome o (λ s. m.request ≡ d.live.last → m ≡ s)) waits (known m is call).3 last

    sessions : (m n : Message) → IsAmong m (r ∷ d.sent) → IsAmong n (r ∷ d.sent) → IsCall m → IsCall n → m.session ≡ n.session
    sessions m n is also one two = session_of m is one ∙ sym (session_of n also two)
      where
        session_of : (m : Message) → IsAmong m (r ∷ d.sent) → IsCall m → m.session ≡ d.live.session
        session_of m (inl same) call = ap (λ (x : Message). x.session) same ∙ (its.call (subst IsCall same call)).0
        session_of m (inr later) call = (known m later call).0

    numbers : (m n : Message) → IsAmong m (r ∷ d.sent) → IsAmong n (r ∷ d.sent) → IsCall m → IsCall n → m.request ≡ n.request → m ≡ n
    numbers m n (inl same) (inl also) one two number = same ∙ sym also
    numbers m n (inl same) (inr later) one two number =
        same ∙ sym (same_number n later two (sym number ∙ ap (λ (x : Message). x.request) same ∙ (its.call (subst IsCall same one)).1))
    numbers m n (inr later) (inl also) one two number =
        same_number m later one (number ∙ ap (λ (x : Message). x.request) also ∙ (its.call (subst IsCall also two)).1) ∙ sym also
    numbers m n (inr later) (inr also) one two number = kept.sends.sent.number m n later also one two number

    kept_sent : IfSome d.stored (λ s. open_request s.phase ≡ Some r) → IsRequest r → IsKept id (acted d (Send r))
    kept_sent stored is = record {
      live = own_sent id d.sent d.live r kept.live waits;
      stored = stored_sent id d.sent r d.stored kept.stored stored;
      rooted = kept.rooted;
      root_stored = kept.root_stored;
      filled = kept.filled;
      fill_stored = kept.fill_stored;
      sends = record {
        sent = record { client = (its.client, kept.sends.sent.client); lawful = (its.lawful, kept.sends.sent.lawful); session = sessions; number = numbers };
        frames = (is, kept.sends.frames);
        returned = more_taken r kept.sends.returned;
        in_turn = (
          λ call. each-map (IsWithin d.live.session d.live.last (open_request d.live.phase)) (λ (s : Message). IsCall s → s.request ≤ r.request) d.sent
              (λ s within other. omega (arith, (within other).2, (its.call call).1)) kept.live.within,
          kept.sends.in_turn,
        );
        sessions = (λ call. subst (IsRegistered d.returned) (sym (its.call call).0) (rooted_open d.returned d.live.session d.live.phase r kept.rooted waits call), kept.sends.sessions);
      };
    }

  -- a reply

  taken : (a : Answer) → IfSome (open_request d.live.phase) (λ r. IsAmong r d.sent) → (h : Heard) → heard d.live a ≡ h → Each (IsTaken d.sent) (returned_by h (open_request d.live.phase) a d.returned)
  taken a there hearing.Returned is =
      let back = returns_of (open_request d.live.phase) a is in
      subst (λ (o : Option Message). Each (IsTaken d.sent) (returned_by hearing.Returned o a d.returned)) (sym back.waits) (
        record {
          sent_it = subst (λ (o : Option Message). IfSome o (λ r. IsAmong r d.sent)) back.waits there;
          client = back.names_it.client;
          number = back.names_it.number;
          reply = back.reply;
        },
        kept.sends.returned,
      )
  taken a there hearing.Ended is = kept.sends.returned
  taken a there hearing.Refused is = kept.sends.returned
  taken a there hearing.Other is = kept.sends.returned

  made_next : (body : Body) (b : Bool) → is_register body ≡ b → IsCall (cond b (asked d.live.id 0 0 body) (asked d.live.id d.live.session (d.live.last + 1) body))
      → (cond b (asked d.live.id 0 0 body) (asked d.live.id d.live.session (d.live.last + 1) body)).request ≡ d.live.last + 1
  made_next body true is call = absurd (let two : true ≡ false = sym is ∙ call in cc)
  made_next body false is call = refl

  fill_call : (body : Body) → call_fault d.live body ≡ None → IsCall (made d.live body) → (n : ℕ) → (made d.live body).request ≡ n + 2 → HasReturned d.returned d.live.session (n + 1)
  fill_call body free call = filled_call d.returned d.live.session d.live.phase d.live.last (made d.live body) kept.filled free (made_next body (is_register body) refl call) call

  pub kept_acted : (act : Act) → MayAct d act → IsKept id (acted d act)
  kept_acted (Call body) may = record { live = own_called id d.sent d.live body kept.live may; stored = kept.stored; rooted = rooted_call d.returned d.live.session d.live.phase d.live.last (made d.live body) kept.rooted may; root_stored = kept.root_stored; filled = fill_call body may; fill_stored = kept.fill_stored; sends = record { sent = kept.sends.sent; frames = kept.sends.frames; returned = kept.sends.returned; in_turn = kept.sends.in_turn; sessions = kept.sends.sessions } }
  kept_acted (Send r) may = kept_sent r may.0 may.1 may.2
  kept_acted (Hear a) may = record {
    live = own_received id d.sent d.live a kept.live;
    stored = kept.stored;
    rooted = rooted_received d.returned d.live a kept.rooted;
    root_stored = still d.stored kept.root_stored;
    filled = filled_received id d.sent d.returned d.live a kept.live kept.filled;
    fill_stored = yet d.stored kept.fill_stored;
    sends = record {
      sent = kept.sends.sent;
      frames = kept.sends.frames;
      returned = taken a may (heard d.live a) refl;
      in_turn = kept.sends.in_turn;
      sessions = each-map (λ (r : Message). IsCall r → IsRegistered d.returned r.session) (λ (r : Message). IsCall r → IsRegistered (returned_by (heard d.live a) (open_request d.live.phase) a d.returned) r.session) d.sent
          (λ r is call. more_registered (heard d.live a) (open_request d.live.phase) a d.returned r.session (is call)) kept.sends.sessions;
    };
  }
    where
      still : (o : Option Client) → IfSome o (λ s. IsRooted d.returned s.session s.phase) → IfSome o (λ s. IsRooted (returned_by (heard d.live a) (open_request d.live.phase) a d.returned) s.session s.phase)
      still None rooted = tt
      still (Some s) rooted = more_rooted (heard d.live a) (open_request d.live.phase) a d.returned s.session s.phase rooted

      yet : (o : Option Client) → IfSome o (λ s. IsFilled d.returned s.session s.last s.phase) → IfSome o (λ s. IsFilled (returned_by (heard d.live a) (open_request d.live.phase) a d.returned) s.session s.last s.phase)
      yet None filled = tt
      yet (Some s) filled = more_filled (heard d.live a) (open_request d.live.phase) a d.returned s.session s.last s.phase filled
  kept_acted Store may = record { live = kept.live; stored = kept.live; rooted = kept.rooted; root_stored = kept.rooted; filled = kept.filled; fill_stored = kept.filled; sends = record { sent = kept.sends.sent; frames = kept.sends.frames; returned = kept.sends.returned; in_turn = kept.sends.in_turn; sessions = kept.sends.sessions } }
  kept_acted Restart may = record { live = by d.stored kept.stored; stored = kept.stored; rooted = root d.stored kept.root_stored; root_stored = kept.root_stored; filled = fill d.stored kept.fill_stored; fill_stored = kept.fill_stored; sends = record { sent = kept.sends.sent; frames = kept.sends.frames; returned = kept.sends.returned; in_turn = kept.sends.in_turn; sessions = kept.sends.sessions } }
    where
      by : (o : Option Client) → IfSome o (IsOwn id d.sent) → IsOwn id d.sent (restarted o d.live)
      by None own = kept.live
      by (Some s) own = own

      root : (o : Option Client) → IfSome o (λ s. IsRooted d.returned s.session s.phase) → IsRooted d.returned (restarted o d.live).session (restarted o d.live).phase
      root None rooted = kept.rooted
      root (Some s) rooted = rooted

      fill : (o : Option Client) → IfSome o (λ s. IsFilled d.returned s.session s.last s.phase) → IsFilled d.returned (restarted o d.live).session (restarted o d.live).last (restarted o d.live).phase
      fill None filled = kept.filled
      fill (Some s) filled = filled

kept_acts : (id : ℕ) (d : Endpoint) (acts : List Act) → IsKept id d → Acts d acts → IsKept id (after_acts d acts)
kept_acts id d [] kept may = kept
kept_acts id d (act ∷ acts) kept may = kept_acts id (acted d act) acts (kept_acted id d kept act may.0) may.1

pub one_client : OneClient
one_client id acts may = (kept_acts id (started id) acts (kept_started id) may).sends
