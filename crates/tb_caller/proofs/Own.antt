-- A client's state and what it has sent: each call that was sent has its session, its number or a smaller one, and its bytes.
use Rattle.std.proofs.Common.{◌≡◌, ℕ, ◌+◌, ◌≤◌, Bool, true, false, ◌&&◌, ◌||◌, ◌==◌, cond, List, [], ◌∷◌, Option, Some, None, IfSome, is_none, refl, sym, ap, ◌∙◌, subst, IsTrue, arith, eqb, eqb-true}
use Rattle.std.specs.Option.{option_map}
use Rattle.tb_records.specs.declared.bodies.Body.{Body}
use Rattle.tb_records.specs.declared.operations.Operation.TheVariants as op
use Rattle.tb_records.specs.declared.replies.Status.{Status}
use Rattle.tb_records.specs.declared.replies.Status.TheVariants as status
use Rattle.tb_records.specs.declared.faults.FrameFault.{FrameFault}
use Rattle.tb_records.specs.Operations.{operation_code}
use Rattle.tb_records.specs.Messages.{Message, Answer, asked, operation, is_register, number_fault}
use Rattle.tb_records.specs.Ordered.{Each}
use Rattle.tb_records.proofs.ByKey.{each-map}
use Rattle.tb_machine.specs.Histories.{is_lawful}
use Rattle.tb_machine.proofs.Judging.{both_of}
use Rattle.tb_machine.proofs.Lawful.{LawfulNumbers, lawful_numbers}
use Rattle.tb_machine.proofs.SoundSteps.{lawful_of}
use Rattle.tb_caller.specs.declared.callers.Phase.{Phase}
use Rattle.tb_caller.specs.declared.callers.Phase.TheVariants.{Unregistered, Open, Idle, Ended}
use Rattle.tb_caller.specs.declared.faults.CallFault.TheVariants as fault
use Rattle.tb_caller.specs.declared.callers.Heard.{Heard}
use Rattle.tb_caller.specs.declared.callers.Heard.TheVariants as hearing
use Rattle.tb_caller.specs.Clients.{Client, fresh, open_request, made, refused_in, call_fault, called, names, heard_by, heard_of, heard, ended_in, moved, received}
use Rattle.tb_caller.specs.Calls.{IsCall}

-- the request of a state whose last number is `last`
pub record IsOf (id session last : ℕ) (r : Message) : Type 0 where
  pub client : r.client ≡ id
  pub lawful : IsTrue (is_lawful r)
  pub call : IsCall r → (r.session ≡ session) × (r.request ≡ last)
  pub first : is_register r.body ≡ true → last ≡ 0

abbrev pub StartIs : ℕ → Phase → Type 0
StartIs last Unregistered = last ≡ 0
StartIs last (Open r) = Unit {0}
StartIs last Idle = Unit {0}
StartIs last (Ended r) = Unit {0}

-- a call that was sent
abbrev pub IsWithin : ℕ → ℕ → Option Message → Message → Type 0
IsWithin session last o m = IsCall m → (m.session ≡ session) × (1 ≤ m.request) × (m.request ≤ last) × IfSome o (λ r. m.request ≡ last → m ≡ r)

pub record IsOwn (id : ℕ) (sent : List Message) (c : Client) : Type 0 where
  pub id_is : c.id ≡ id
  pub start : StartIs c.last c.phase
  pub open_is : IfSome (open_request c.phase) (IsOf id c.session c.last)
  pub within : Each (IsWithin c.session c.last (open_request c.phase)) sent

pub own_fresh : (id : ℕ) → IsOwn id [] (fresh id)
own_fresh id = record { id_is = refl; start = refl; open_is = tt; within = tt }

-- a call

none_map : (o : Option FrameFault) → option_map fault.Frame o ≡ None → o ≡ None
none_map None e = refl
none_map (Some f) e = absurd cc

-- a register is the first call, and what is called is lawful
may_call : (phase : Phase) (last : ℕ) (r : Message) → StartIs last phase → refused_in phase last r ≡ None → (number_fault r ≡ None) × (is_register r.body ≡ true → last ≡ 0)
may_call Unregistered last r start e = (by (is_register r.body) e, λ _. start)
  where
    by : (b : Bool) → cond b (option_map fault.Frame (number_fault r)) (Some fault.NotRegistered) ≡ None → number_fault r ≡ None
    by true e = none_map (number_fault r) e
    by false e = absurd cc
may_call (Open s) last r start e = absurd cc
may_call Idle last r start e = by (is_register r.body) (last == 4294967295) e
  where
    by : (b d : Bool) → cond b (Some fault.Registered) (cond d (Some fault.NoNumber) (option_map fault.Frame (number_fault r))) ≡ None → (number_fault r ≡ None) × (b ≡ true → last ≡ 0)
    by true d e = absurd cc
    by false true e = absurd cc
    by false false e = (none_map (number_fault r) e, λ is. absurd cc)
may_call (Ended s) last r start e = absurd cc

own_made : (id : ℕ) (sent : List Message) (c : Client) (body : Body) (b : Bool) → is_register body ≡ b → IsOwn id sent c
    → refused_in c.phase c.last (cond b (asked c.id 0 0 body) (asked c.id c.session (c.last + 1) body)) ≡ None
    → IsOwn id sent (called c (cond b (asked c.id 0 0 body) (asked c.id c.session (c.last + 1) body)))
own_made id sent c body true is own free =
    let may = may_call c.phase c.last (asked c.id 0 0 body) own.start free in
    let zero_last : c.last ≡ 0 = may.1 is in
    record {
      id_is = own.id_is;
      start = tt;
      open_is = record { client = own.id_is; lawful = ap is_none may.0; call = λ call. (absurd (let both : true ≡ false = sym is ∙ call in cc), refl); first = λ _. refl };
      within = each-map (IsWithin c.session c.last (open_request c.phase)) (IsWithin c.session 0 (Some (asked c.id 0 0 body))) sent
          (λ m within call. let w = within call in absurd (omega (arith, w.1, w.2, zero_last))) own.within;
    }
own_made id sent c body false is own free =
    let may = may_call c.phase c.last (asked c.id c.session (c.last + 1) body) own.start free in
    record {
      id_is = own.id_is;
      start = tt;
      open_is = record { client = own.id_is; lawful = ap is_none may.0; call = λ call. (refl, refl); first = λ register. absurd (let both : true ≡ false = sym register ∙ is in cc) };
      within = each-map (IsWithin c.session c.last (open_request c.phase)) (IsWithin c.session (c.last + 1) (Some (asked c.id c.session (c.last + 1) body))) sent
          (λ m within call. let w = within call in (w.0, w.1, omega (arith, w.2), λ last. absurd (omega (arith, w.2, last)))) own.within;
    }

pub own_called : (id : ℕ) (sent : List Message) (c : Client) (body : Body) → IsOwn id sent c → call_fault c body ≡ None → IsOwn id sent (called c (made c body))
own_called id sent c body own free = own_made id sent c body (is_register body) refl own free

-- sending

of_open : (P : Message → Type 0) (o : Option Message) (r : Message) → o ≡ Some r → IfSome o P → P r
of_open P o r is p = subst (λ (x : Option Message). IfSome x P) is p

pub open_of : (id : ℕ) (sent : List Message) (c : Client) (r : Message) → IsOwn id sent c → open_request c.phase ≡ Some r → IsOf id c.session c.last r
open_of id sent c r own is = of_open (IsOf id c.session c.last) (open_request c.phase) r is own.open_is

pub own_sent : (id : ℕ) (sent : List Message) (c : Client) (r : Message) → IsOwn id sent c → open_request c.phase ≡ Some r → IsOwn id (r ∷ sent) c
own_sent id sent c r own is = record {
  id_is = own.id_is;
  start = own.start;
  open_is = own.open_is;
  within = (first, own.within);
}
  where
    first : IsWithin c.session c.last (open_request c.phase) r
    first call =
        let its = open_of id sent c r own is in
        let numbers = its.call call in
        let above : 1 ≤ r.request = numbered (lawful_numbers r (lawful_of r its.lawful)) call in
        (numbers.0, above, omega (arith, numbers.1), subst (λ (o : Option Message). IfSome o (λ s. r.request ≡ c.last → r ≡ s)) (sym is) (λ _. refl))
      where
        numbered : LawfulNumbers r → IsCall r → 1 ≤ r.request
        numbered numbers call = omega (arith, numbers.numbered call)

-- a reply

-- it names the request
pub record Names (r : Message) (a : Answer) : Type 0 where
  pub client : a.client ≡ r.client
  pub number : a.request ≡ r.request
  pub operation_is : a.operation ≡ operation r.body

pub names_of : (r : Message) (a : Answer) → names r a ≡ true → Names r a
names_of r a e =
    let f = both_of (a.client == r.client && a.request == r.request && a.operation == operation r.body) (is_register r.body || a.session == r.session) e in
    let g = both_of (a.client == r.client && a.request == r.request) (eqb a.operation (operation r.body)) f.0 in
    let k = both_of (eqb a.client r.client) (eqb a.request r.request) g.0 in
    record { client = eqb-true a.client r.client k.0; number = eqb-true a.request r.request k.1; operation_is = eqb-true a.operation (operation r.body) g.1 }

reply_only : (s : Status) → heard_by s ≡ hearing.Returned → s ≡ status.Reply
reply_only status.Reply e = refl
reply_only s e = absurd cc

-- a reply that returns is for the request that waits
pub record Returns (o : Option Message) (a : Answer) : Type 0 where
  pub request : Message
  pub waits : o ≡ Some request
  pub names_it : Names request a
  pub reply : a.status ≡ status.Reply

pub returns_of : (o : Option Message) (a : Answer) → heard_of o a ≡ hearing.Returned → Returns o a
returns_of None a e = absurd cc
returns_of (Some r) a e = by (names r a) refl e
  where
    by : (b : Bool) → names r a ≡ b → cond b (heard_by a.status) hearing.Other ≡ hearing.Returned → Returns (Some r) a
    by true is e = record { request = r; waits = refl; names_it = names_of r a is; reply = reply_only a.status e }
    by false is e = absurd cc

open_ended : (phase : Phase) → open_request (ended_in phase) ≡ None
open_ended Unregistered = refl
open_ended (Open r) = refl
open_ended Idle = refl
open_ended (Ended r) = refl

start_ended : (last : ℕ) (phase : Phase) → StartIs last phase → StartIs last (ended_in phase)
start_ended last Unregistered s = s
start_ended last (Open r) s = tt
start_ended last Idle s = tt
start_ended last (Ended r) s = tt

-- if no request waits
idle_within : (session last : ℕ) (o : Option Message) (sent : List Message) → Each (IsWithin session last o) sent → Each (IsWithin session last None) sent
idle_within session last o sent within = each-map (IsWithin session last o) (IsWithin session last None) sent (λ m w call. let its = w call in (its.0, its.1, its.2, tt)) within

own_moved : (id : ℕ) (sent : List Message) (c : Client) (a : Answer) (h : Heard) → heard c a ≡ h → IsOwn id sent c → IsOwn id sent (moved h c a)
own_moved id sent c a hearing.Returned is own = record {
  id_is = own.id_is;
  start = tt;
  open_is = tt;
  within = by (a.operation == operation_code op.Register) refl;
}
  where
    back : Returns (open_request c.phase) a
    back = returns_of (open_request c.phase) a is

    its : IsOf id c.session c.last back.request
    its = open_of id sent c back.request own back.waits

    register_is : (a.operation == operation_code op.Register) ≡ true → is_register back.request.body ≡ true
    register_is e = subst (λ (n : ℕ). (n == operation_code op.Register) ≡ true) back.names_it.operation_is e

    by : (b : Bool) → (a.operation == operation_code op.Register) ≡ b → Each (IsWithin (cond b a.session c.session) c.last None) sent
    by true e = each-map (IsWithin c.session c.last (open_request c.phase)) (IsWithin a.session c.last None) sent
        (λ m w call. let w = w call in let none : c.last ≡ 0 = its.first (register_is e) in absurd (omega (arith, w.1, w.2, none))) own.within
    by false e = idle_within c.session c.last (open_request c.phase) sent own.within
own_moved id sent c a hearing.Ended is own = record {
  id_is = own.id_is;
  start = start_ended c.last c.phase own.start;
  open_is = subst (λ (o : Option Message). IfSome o (IsOf id c.session c.last)) (sym (open_ended c.phase)) tt;
  within = subst (λ (o : Option Message). Each (IsWithin c.session c.last o) sent) (sym (open_ended c.phase)) (idle_within c.session c.last (open_request c.phase) sent own.within);
}
own_moved id sent c a hearing.Refused is own = own
own_moved id sent c a hearing.Other is own = own

pub own_received : (id : ℕ) (sent : List Message) (c : Client) (a : Answer) → IsOwn id sent c → IsOwn id sent (received c a)
own_received id sent c a own = own_moved id sent c a (heard c a) refl own
