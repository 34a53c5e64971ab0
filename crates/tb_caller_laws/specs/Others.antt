-- What client 7 of the worked schedule sent and returned, and its history, meet the premises of the laws over lists.
use Rattle.std.specs.Prelude.{ℕ, ◌≡◌, List, [], ◌∷◌, None}
use Rattle.logbook.specs.Pages.{Book}
use Rattle.tb_records.specs.declared.limits.Profile.TheVariants.{One}
use Rattle.tb_records.specs.Messages.{Message, Answer}
use Rattle.tb_records.specs.Ordered.{Each}
use Rattle.tb_machine.specs.Dumps.{IsLegalWith}
use Rattle.tb_machine.specs.Histories.{answer_to, after}
use Rattle.tb_machine.specs.Scripts.{Pair, replies_from}
use Rattle.tb_machine.specs.ScriptLaws.{AreLawful}
use Rattle.tb_file.specs.Keeping.{history_state}
use Rattle.tb_file.specs.Rounds.{reply_bytes_from}
use Rattle.tb_published.specs.Openings.{Opening}
use Rattle.tb_service.specs.OfferedLaws.{GrowsByOffers}
use Rattle.tb_caller.specs.declared.callers.Heard.TheVariants as hearing
use Rattle.tb_caller.specs.Clients.{heard_by}
use Rattle.tb_caller.specs.Endpoints.{IsAmong}
use Rattle.tb_caller.specs.Calls.{AreOfOne, IsTaken, NoneInvented, IsAnswered}
use Rattle.tb_caller.specs.CallLaws.{IsFromLog}
use Rattle.tb_caller_laws.specs.KeptCalls.{Run, WasSentIn, AreRuns}
use Rattle.tb_caller_laws.specs.PortCalls.{OffersSent}
use Rattle.tb_caller_laws.specs.SeatCalls.{IsFromSeat}
use Rattle.tb_caller_laws.specs.Worked.{register, lookup, file_of, empty, kept, torn_block, reads, then, reply_in, worked, last}

abbrev pub sent : List Message
sent = (worked.clients 7).sent

abbrev pub returned : List (Message × Answer)
returned = (worked.clients 7).returned

-- all that was read and kept, as one script or log
abbrev pub script : List Pair
script = (10, register 7) ∷ reads 5

-- two runs over one file
abbrev pub two_runs : List Run
two_runs =
    record { all = (10, register 7) ∷ (20, lookup 7 1 1) ∷ []; file = file_of kept torn_block; bytes = reply_in (history_state empty) (10, register 7) }
    ∷ record { all = reads 5; file = file_of last []; bytes = reply_bytes_from (history_state kept) (reads 5) }
    ∷ []

-- the requests that one port offered
abbrev pub offered_by : ℕ → List Message
offered_by port = register 7 ∷ lookup 7 1 1 ∷ register 8 ∷ lookup 8 3 1 ∷ []

abbrev pub opening_of : Book → Opening
opening_of book = record { book = book; profile = One; clients_max = 1 }

pub record MeetsOthers : Type 0 where
  -- of in_history
  pub legal : IsLegalWith One 1 None last.entries
  pub own : AreOfOne 7 sent
  pub none : NoneInvented 7 sent last.entries
  pub taken : Each (IsTaken sent) returned
  pub answered : Each (λ (p : Message × Answer). IsAnswered (after One 1) last.entries p.1) returned
  -- of in_script, and in_log
  pub lawful : AreLawful script
  pub was_sent : Each (λ (p : Pair). p.1.client ≡ 7 → IsAmong p.1 sent) script
  pub replied : Each (λ (p : Message × Answer). IsAmong p.1 (replies_from One 1 [] script)) returned
  pub logged : Each (λ (p : Message × Answer). IsFromLog One 1 [] script p.1) returned
  -- of across_crashes
  pub runs : AreRuns empty two_runs last
  pub runs_sent : Each (λ (r : Run). Each (λ (p : Pair). p.1.client ≡ 7 → IsAmong p.1 sent) r.all) two_runs
  pub read : Each (λ (p : Message × Answer). WasSentIn two_runs p.1) returned
  -- of in_seats, and in_service
  pub seats : (book : Book) → Each (λ (p : Message × Answer). IsFromSeat (opening_of book) last.entries p.1) returned
  pub ports : GrowsByOffers 1 offered_by [] last.entries
  pub offered : OffersSent 7 sent 1 offered_by
  -- of over_for_good: the answer after the eviction ends the session
  pub over : heard_by (answer_to (then 3) (lookup 7 1 2)).status ≡ hearing.Ended
