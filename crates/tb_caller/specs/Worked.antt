-- A schedule in which a register and a lookup return, with a mark between them: the premises of the laws can be met.
use Rattle.std.specs.Prelude.{ℕ, true, ◌≡◌, List, [], ◌∷◌, length, take, Option, Some}
use Rattle.tb_records.specs.declared.bodies.Body.TheVariants.{Register, LookupAccounts}
use Rattle.tb_records.specs.declared.limits.Profile.TheVariants.{One}
use Rattle.tb_records.specs.Messages.{Message, Answer, asked}
use Rattle.tb_machine.specs.declared.entries.Entry.{Entry}
use Rattle.tb_machine.specs.Histories.{answer_to}
use Rattle.tb_machine.specs.HistoryLaws.{HasSession}
use Rattle.tb_machine.specs.Dumps.{IsLegalWith}
use Rattle.tb_machine.specs.MarkedLaws.{next_in}
use Rattle.tb_caller.specs.Clients.{open_request}
use Rattle.tb_caller.specs.Endpoints.Act.{Call, Send, Hear, Store, Restart}
use Rattle.tb_caller.specs.Networks.{World, Event, Runs, run, begun}
use Rattle.tb_caller.specs.Networks.Event.{Client, Enter, Answer_by}

abbrev pub worked_register : Message
worked_register = asked 7 0 0 Register

abbrev pub worked_lookup : Message
worked_lookup = asked 7 1 1 (LookupAccounts (5 ∷ []))

abbrev pub first : Entry
first = record { commit = 1; time = 1; request = worked_register }

abbrev pub second_entry : Entry
second_entry = record { commit = 2; time = 2; request = worked_lookup }

-- profile 2 from the second entry on
abbrev pub mark : Option ℕ
mark = Some 1

abbrev pub answer_in : List Entry → Message → Answer
answer_in h r = answer_to (next_in One 4 mark h) r

-- the lookup's process ends while the lookup waits, and another one goes on; a stale NotYet comes between, and the frame comes twice
abbrev pub worked_events : List Event
worked_events =
    Client 7 (Call Register)
    ∷ Client 7 (Send worked_register)
    ∷ Enter first
    ∷ Answer_by (first ∷ []) worked_register
    ∷ Client 7 (Hear (answer_in (first ∷ []) worked_register))
    ∷ Client 7 (Call (LookupAccounts (5 ∷ [])))
    ∷ Client 7 Store
    ∷ Client 7 (Send worked_lookup)
    ∷ Answer_by (first ∷ []) worked_lookup
    ∷ Enter second_entry
    ∷ Client 7 Restart
    ∷ Client 7 (Send worked_lookup)
    ∷ Answer_by (first ∷ second_entry ∷ []) worked_lookup
    ∷ Client 7 (Hear (answer_in (first ∷ []) worked_lookup))
    ∷ Client 7 (Hear (answer_in (first ∷ second_entry ∷ []) worked_lookup))
    ∷ []

-- the world after the first events, so many of them
abbrev pub worked : ℕ → World
worked n = run (IsLegalWith One 4 mark) (next_in One 4 mark) (λ (id : ℕ). true) (begun []) (take n worked_events)

abbrev pub BothReturn : Type 0
BothReturn = Runs (IsLegalWith One 4 mark) (next_in One 4 mark) (λ (id : ℕ). true) (begun []) worked_events × (length ((worked 15).clients 7).returned ≡ 2)

-- after eight events the lookup waits, and the server has its session: the premises of the law that it is not refused
pub record LookupWaits : Type 0 where
  pub runs : Runs (IsLegalWith One 4 mark) (next_in One 4 mark) (λ (id : ℕ). true) (begun []) (take 8 worked_events)
  pub waits : open_request ((worked 8).clients 7).live.phase ≡ Some worked_lookup
  pub has : HasSession (next_in One 4 mark (worked 8).history) 7 1
