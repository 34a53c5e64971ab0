-- The session of a state is that of a register's reply.
use Rattle.std.proofs.Common.{◌≡◌, ◌==◌, ℕ, inl, inr, Bool, true, false, cond, List, Option, Some, None, refl, sym, ap, ◌∙◌, subst}
use Rattle.std.specs.Option.{option_map}
use Rattle.tb_records.specs.declared.operations.Operation.TheVariants as op
use Rattle.tb_records.specs.Operations.{operation_code}
use Rattle.tb_records.specs.Messages.{Message, Answer, is_register, number_fault}
use Rattle.tb_caller.specs.declared.callers.Phase.{Phase}
use Rattle.tb_caller.specs.declared.callers.Phase.TheVariants.{Unregistered, Open, Idle, Ended}
use Rattle.tb_caller.specs.declared.faults.CallFault.TheVariants as fault
use Rattle.tb_caller.specs.declared.callers.Heard.{Heard}
use Rattle.tb_caller.specs.declared.callers.Heard.TheVariants as hearing
use Rattle.tb_caller.specs.Clients.{Client, open_request, refused_in, heard, ended_in, moved, received}
use Rattle.tb_caller.specs.Endpoints.{returned_by}
use Rattle.tb_caller.specs.Calls.{IsCall, IsRegistered}
use Rattle.tb_caller.proofs.Own.{Returns, returns_of}

abbrev pub IsRooted : List (Message × Answer) → ℕ → Phase → Type 0
IsRooted returned session Unregistered = Unit {0}
IsRooted returned session (Open r) = IsCall r → IsRegistered returned session
IsRooted returned session Idle = IsRegistered returned session
IsRooted returned session (Ended r) = Unit {0}

pub more_registered : (h : Heard) (o : Option Message) (a : Answer) (pairs : List (Message × Answer)) (session : ℕ) → IsRegistered pairs session → IsRegistered (returned_by h o a pairs) session
more_registered hearing.Returned (Some r) a pairs session is = record { request = is.request; answer = is.answer; taken = inr is.taken; register = is.register; session_is = is.session_is }
more_registered hearing.Returned None a pairs session is = is
more_registered hearing.Ended o a pairs session is = is
more_registered hearing.Refused o a pairs session is = is
more_registered hearing.Other o a pairs session is = is

pub more_rooted : (h : Heard) (o : Option Message) (a : Answer) (pairs : List (Message × Answer)) (session : ℕ) (phase : Phase) → IsRooted pairs session phase → IsRooted (returned_by h o a pairs) session phase
more_rooted h o a pairs session Unregistered is = tt
more_rooted h o a pairs session (Open r) is = λ call. more_registered h o a pairs session (is call)
more_rooted h o a pairs session Idle is = more_registered h o a pairs session is
more_rooted h o a pairs session (Ended r) is = tt

-- a call is made under it
pub rooted_call : (pairs : List (Message × Answer)) (session : ℕ) (phase : Phase) (last : ℕ) (r : Message) → IsRooted pairs session phase → refused_in phase last r ≡ None → IsCall r → IsRegistered pairs session
rooted_call pairs session Unregistered last r is free call = absurd (by (is_register r.body) free call)
  where
    by : (b : Bool) → cond b (option_map fault.Frame (number_fault r)) (Some fault.NotRegistered) ≡ None → b ≡ false → ⊥
    by true e call = cc
    by false e call = cc
rooted_call pairs session (Open s) last r is free call = absurd cc
rooted_call pairs session Idle last r is free call = is
rooted_call pairs session (Ended s) last r is free call = absurd cc

rooted_ended : (pairs : List (Message × Answer)) (session : ℕ) (phase : Phase) → IsRooted pairs session phase → IsRooted pairs session (ended_in phase)
rooted_ended pairs session Unregistered is = is
rooted_ended pairs session (Open r) is = tt
rooted_ended pairs session Idle is = is
rooted_ended pairs session (Ended r) is = is

pub rooted_open : (pairs : List (Message × Answer)) (session : ℕ) (phase : Phase) (r : Message) → IsRooted pairs session phase → open_request phase ≡ Some r → IsCall r → IsRegistered pairs session
rooted_open pairs session Unregistered r is waits call = absurd cc
rooted_open pairs session (Open s) r is waits call = is (let same : s ≡ r = cc in ap (λ (m : Message). is_register m.body) same ∙ call)
rooted_open pairs session Idle r is waits call = absurd cc
rooted_open pairs session (Ended s) r is waits call = absurd cc

rooted_moved : (pairs : List (Message × Answer)) (c : Client) (a : Answer) (h : Heard) → heard c a ≡ h → IsRooted pairs c.session c.phase
    → IsRooted (returned_by h (open_request c.phase) a pairs) (moved h c a).session (moved h c a).phase
rooted_moved pairs c a hearing.Returned is rooted = by (a.operation == operation_code op.Register) refl
  where
    back : Returns (open_request c.phase) a
    back = returns_of (open_request c.phase) a is

    kind : (a.operation == operation_code op.Register) ≡ is_register back.request.body
    kind = ap (λ (n : ℕ). n == operation_code op.Register) back.names_it.operation_is

    by : (b : Bool) → (a.operation == operation_code op.Register) ≡ b → IsRegistered (returned_by hearing.Returned (open_request c.phase) a pairs) (cond b a.session c.session)
    by true e = subst (λ (o : Option Message). IsRegistered (returned_by hearing.Returned o a pairs) a.session) (sym back.waits)
        (record { request = back.request; answer = a; taken = inl refl; register = sym kind ∙ e; session_is = refl })
    by false e = more_registered hearing.Returned (open_request c.phase) a pairs c.session (rooted_open pairs c.session c.phase back.request rooted back.waits (sym kind ∙ e))
rooted_moved pairs c a hearing.Ended is rooted = rooted_ended pairs c.session c.phase rooted
rooted_moved pairs c a hearing.Refused is rooted = rooted
rooted_moved pairs c a hearing.Other is rooted = rooted

pub rooted_received : (pairs : List (Message × Answer)) (c : Client) (a : Answer) → IsRooted pairs c.session c.phase
    → IsRooted (returned_by (heard c a) (open_request c.phase) a pairs) (received c a).session (received c a).phase
rooted_received pairs c a rooted = rooted_moved pairs c a (heard c a) refl rooted
