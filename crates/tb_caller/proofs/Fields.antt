-- The fields of a client are right in each state that calls and replies lead to.
use Rattle.std.proofs.Common.{◌≡◌, ◌==◌, ℕ, ◌+◌, Bool, true, false, cond, List, [], ◌∷◌, Option, Some, None, IfSome, refl, sym, eq-eqb}
use Rattle.std.specs.Option.{option_map}
use Rattle.tb_records.specs.declared.bodies.Body.{Body}
use Rattle.tb_records.specs.Messages.{Message, Answer, asked, is_register, number_fault}
use Rattle.tb_caller.specs.declared.callers.Phase.{Phase}
use Rattle.tb_caller.specs.declared.callers.Phase.TheVariants.{Unregistered, Open, Idle, Ended}
use Rattle.tb_caller.specs.declared.faults.CallFault.TheVariants as fault
use Rattle.tb_caller.specs.declared.callers.Heard.{Heard}
use Rattle.tb_caller.specs.declared.callers.Heard.TheVariants as hearing
use Rattle.tb_caller.specs.Clients.{Client, stored_request_fault, field_fault_in, made, refused_in, call_fault, called, heard, ended_in, moved}
use Rattle.tb_caller.specs.Endpoints.{Endpoint, Act, MayAct, acted, started, restarted}
use Rattle.tb_caller.specs.Endpoints.Act.{Call, Send, Hear, Store, Restart}
use Rattle.tb_caller.specs.CallLaws.{Acts, after_acts, FieldsAreRight}

-- the request is the last one
record IsLast (id session last : ℕ) (r : Message) : Type 0 where
  pub client : r.client ≡ id
  pub session_is : r.session ≡ session
  pub number : r.request ≡ last

abbrev PhaseIs : ℕ → ℕ → ℕ → Phase → Type 0
PhaseIs id session last Unregistered = (session ≡ 0) × (last ≡ 0)
PhaseIs id session last (Open r) = IsLast id session last r
PhaseIs id session last Idle = Unit {0}
PhaseIs id session last (Ended r) = IsLast id session last r

abbrev AreRight : Client → Type 0
AreRight c = PhaseIs c.id c.session c.last c.phase

-- only a client without a session registers
unregistered : (id session last : ℕ) (phase : Phase) (r : Message) → PhaseIs id session last phase → refused_in phase last r ≡ None → is_register r.body ≡ true → session ≡ 0
unregistered id session last Unregistered r is free register = is.0
unregistered id session last (Open s) r is free register = absurd cc
unregistered id session last Idle r is free register = by (is_register r.body) free register
  where
    by : (b : Bool) → cond b (Some fault.Registered) (cond (last == 4294967295) (Some fault.NoNumber) (option_map fault.Frame (number_fault r))) ≡ None → b ≡ true → session ≡ 0
    by true e register = absurd cc
    by false e register = absurd cc
unregistered id session last (Ended s) r is free register = absurd cc

abbrev made_by : Client → Body → Bool → Message
made_by c body b = cond b (asked c.id 0 0 body) (asked c.id c.session (c.last + 1) body)

right_called : (c : Client) (body : Body) → AreRight c → call_fault c body ≡ None → AreRight (called c (made c body))
right_called c body are free = by (is_register body) refl free
  where
    by : (b : Bool) → is_register body ≡ b → refused_in c.phase c.last (made_by c body b) ≡ None → IsLast c.id c.session (made_by c body b).request (made_by c body b)
    by true is free = record { client = refl; session_is = sym (unregistered c.id c.session c.last c.phase (asked c.id 0 0 body) are free is); number = refl }
    by false is free = record { client = refl; session_is = refl; number = refl }

right_ended : (id session last : ℕ) (phase : Phase) → PhaseIs id session last phase → PhaseIs id session last (ended_in phase)
right_ended id session last Unregistered is = is
right_ended id session last (Open r) is = is
right_ended id session last Idle is = is
right_ended id session last (Ended r) is = is

right_moved : (h : Heard) (c : Client) (a : Answer) → AreRight c → AreRight (moved h c a)
right_moved hearing.Returned c a are = tt
right_moved hearing.Ended c a are = right_ended c.id c.session c.last c.phase are
right_moved hearing.Refused c a are = are
right_moved hearing.Other c a are = are

record AreRightIn (d : Endpoint) : Type 0 where
  pub live : AreRight d.live
  pub stored : IfSome d.stored AreRight

right_restarted : (o : Option Client) (c : Client) → IfSome o AreRight → AreRight c → AreRight (restarted o c)
right_restarted None c stored live = live
right_restarted (Some s) c stored live = stored

right_acted : (d : Endpoint) (act : Act) → AreRightIn d → MayAct d act → AreRightIn (acted d act)
right_acted d (Call body) are may = record { live = right_called d.live body are.live may; stored = are.stored }
right_acted d (Send r) are may = record { live = are.live; stored = are.stored }
right_acted d (Hear a) are may = record { live = right_moved (heard d.live a) d.live a are.live; stored = are.stored }
right_acted d Store are may = record { live = are.live; stored = are.live }
right_acted d Restart are may = record { live = right_restarted d.stored d.live are.stored are.live; stored = are.stored }

right_acts : (d : Endpoint) (acts : List Act) → AreRightIn d → Acts d acts → AreRightIn (after_acts d acts)
right_acts d [] are may = are
right_acts d (act ∷ acts) are may = right_acts (acted d act) acts (right_acted d act are may.0) may.1

no_stored_fault : (c : Client) (r : Message) → IsLast c.id c.session c.last r → stored_request_fault c r ≡ None
no_stored_fault c r is = rw (eq-eqb r.client c.id is.client, eq-eqb r.session c.session is.session_is, eq-eqb r.request c.last is.number) refl

no_fault : (phase : Phase) (c : Client) → PhaseIs c.id c.session c.last phase → field_fault_in phase c ≡ None
no_fault Unregistered c is = rw (eq-eqb c.session 0 is.0, eq-eqb c.last 0 is.1) refl
no_fault (Open r) c is = no_stored_fault c r is
no_fault Idle c is = refl
no_fault (Ended r) c is = no_stored_fault c r is

pub fields_are_right : FieldsAreRight
fields_are_right id acts may =
    let c = (after_acts (started id) acts).live in
    no_fault c.phase c (right_acts (started id) acts (record { live = (refl, refl); stored = tt }) may).live
