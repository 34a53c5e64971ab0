-- Before a call is made, the one before it has returned.
use Rattle.std.proofs.Common.{◌≡◌, ◌==◌, ℕ, ◌+◌, inl, inr, Bool, true, false, cond, List, Option, Some, None, refl, sym, ap, ◌∙◌, subst, arith}
use Rattle.std.specs.Option.{option_map}
use Rattle.tb_records.specs.declared.operations.Operation.TheVariants as op
use Rattle.tb_records.specs.Operations.{operation_code}
use Rattle.tb_records.specs.Messages.{Message, Answer, is_register, number_fault}
use Rattle.tb_caller.specs.declared.callers.Phase.{Phase}
use Rattle.tb_caller.specs.declared.callers.Phase.TheVariants.{Unregistered, Open, Idle, Ended}
use Rattle.tb_caller.specs.declared.faults.CallFault.TheVariants as fault
use Rattle.tb_caller.specs.declared.callers.Heard.{Heard}
use Rattle.tb_caller.specs.declared.callers.Heard.TheVariants as hearing
use Rattle.tb_caller.specs.Clients.{Client, open_request, refused_in, heard, ended_in, moved, received}
use Rattle.tb_caller.specs.Endpoints.{IsAmong, returned_by}
use Rattle.tb_caller.specs.Calls.{IsCall}
use Rattle.tb_caller.proofs.Own.{IsOf, IsOwn, open_of, Returns, returns_of}

-- a call of the session has returned
pub record HasReturned (pairs : List (Message × Answer)) (session number : ℕ) : Type 0 where
  pub request : Message
  pub answer : Answer
  pub taken : IsAmong (request, answer) pairs
  pub call : IsCall request
  pub session_is : request.session ≡ session
  pub number_is : request.request ≡ number

abbrev pub IsFilled : List (Message × Answer) → ℕ → ℕ → Phase → Type 0
IsFilled pairs session last Unregistered = Unit {0}
IsFilled pairs session last (Open r) = IsCall r → (n : ℕ) → last ≡ n + 2 → HasReturned pairs session (n + 1)
IsFilled pairs session last Idle = (n : ℕ) → last ≡ n + 1 → HasReturned pairs session (n + 1)
IsFilled pairs session last (Ended r) = Unit {0}

more_returned : (h : Heard) (o : Option Message) (a : Answer) (pairs : List (Message × Answer)) (session number : ℕ) → HasReturned pairs session number → HasReturned (returned_by h o a pairs) session number
more_returned hearing.Returned (Some r) a pairs session number is = record { request = is.request; answer = is.answer; taken = inr is.taken; call = is.call; session_is = is.session_is; number_is = is.number_is }
more_returned hearing.Returned None a pairs session number is = is
more_returned hearing.Ended o a pairs session number is = is
more_returned hearing.Refused o a pairs session number is = is
more_returned hearing.Other o a pairs session number is = is

pub more_filled : (h : Heard) (o : Option Message) (a : Answer) (pairs : List (Message × Answer)) (session last : ℕ) (phase : Phase) → IsFilled pairs session last phase → IsFilled (returned_by h o a pairs) session last phase
more_filled h o a pairs session last Unregistered is = tt
more_filled h o a pairs session last (Open r) is = λ call n e. more_returned h o a pairs session (n + 1) (is call n e)
more_filled h o a pairs session last Idle is = λ n e. more_returned h o a pairs session (n + 1) (is n e)
more_filled h o a pairs session last (Ended r) is = tt

pub filled_call : (pairs : List (Message × Answer)) (session : ℕ) (phase : Phase) (last : ℕ) (r : Message) → IsFilled pairs session last phase → refused_in phase last r ≡ None
    → r.request ≡ last + 1 → IsCall r → (n : ℕ) → r.request ≡ n + 2 → HasReturned pairs session (n + 1)
filled_call pairs session Unregistered last r is free next call = absurd (by (is_register r.body) free call)
  where
    by : (b : Bool) → cond b (option_map fault.Frame (number_fault r)) (Some fault.NotRegistered) ≡ None → b ≡ false → ⊥
    by true e call = cc
    by false e call = cc
filled_call pairs session (Open s) last r is free next call = absurd cc
filled_call pairs session Idle last r is free next call = λ n e. is n (omega (arith, next, e))
filled_call pairs session (Ended s) last r is free next call = absurd cc

filled_ended : (pairs : List (Message × Answer)) (session last : ℕ) (phase : Phase) → IsFilled pairs session last phase → IsFilled pairs session last (ended_in phase)
filled_ended pairs session last Unregistered is = is
filled_ended pairs session last (Open r) is = tt
filled_ended pairs session last Idle is = is
filled_ended pairs session last (Ended r) is = is

-- the same for the open request
pub filled_open : (pairs : List (Message × Answer)) (session last : ℕ) (phase : Phase) (r : Message) → IsFilled pairs session last phase → open_request phase ≡ Some r → IsCall r → (n : ℕ) → last ≡ n + 2 → HasReturned pairs session (n + 1)
filled_open pairs session last Unregistered r is waits call = absurd cc
filled_open pairs session last (Open s) r is waits call = is (let same : s ≡ r = cc in ap (λ (m : Message). is_register m.body) same ∙ call)
filled_open pairs session last Idle r is waits call = absurd cc
filled_open pairs session last (Ended s) r is waits call = absurd cc

filled_moved : (id : ℕ) (sent : List Message) (pairs : List (Message × Answer)) (c : Client) (a : Answer) (h : Heard) → heard c a ≡ h → IsOwn id sent c → IsFilled pairs c.session c.last c.phase
    → IsFilled (returned_by h (open_request c.phase) a pairs) (moved h c a).session (moved h c a).last (moved h c a).phase
filled_moved id sent pairs c a hearing.Returned is own filled = by (is_register back.request.body) refl
  where
    back : Returns (open_request c.phase) a
    back = returns_of (open_request c.phase) a is

    its : IsOf id c.session c.last back.request
    its = open_of id sent c back.request own back.waits

    kind : (a.operation == operation_code op.Register) ≡ is_register back.request.body
    kind = ap (λ (n : ℕ). n == operation_code op.Register) back.names_it.operation_is

    by : (b : Bool) → is_register back.request.body ≡ b → IsFilled (returned_by hearing.Returned (open_request c.phase) a pairs) (cond (a.operation == operation_code op.Register) a.session c.session) c.last Idle
    by true e n last = absurd (let none : c.last ≡ 0 = its.first e in omega (arith, last, none))
    by false e n last =
        subst (λ (b : Bool). HasReturned (returned_by hearing.Returned (open_request c.phase) a pairs) (cond b a.session c.session) (n + 1)) (sym (kind ∙ e))
        (subst (λ (o : Option Message). HasReturned (returned_by hearing.Returned o a pairs) c.session (n + 1)) (sym back.waits)
        (record { request = back.request; answer = a; taken = inl refl; call = e; session_is = (its.call e).0; number_is = (its.call e).1 ∙ last }))
filled_moved id sent pairs c a hearing.Ended is own filled = filled_ended pairs c.session c.last c.phase filled
filled_moved id sent pairs c a hearing.Refused is own filled = filled
filled_moved id sent pairs c a hearing.Other is own filled = filled

pub filled_received : (id : ℕ) (sent : List Message) (pairs : List (Message × Answer)) (c : Client) (a : Answer) → IsOwn id sent c → IsFilled pairs c.session c.last c.phase
    → IsFilled (returned_by (heard c a) (open_request c.phase) a pairs) (received c a).session (received c a).last (received c a).phase
filled_received id sent pairs c a own filled = filled_moved id sent pairs c a (heard c a) refl own filled
