-- The books after a legal history are sound.
use Rattle.std.proofs.Common.{ℕ, ◌≤◌, List, [], ◌∷◌, fold, take, drop, Option, Some, None, arith}
use Rattle.tb_records.specs.declared.bodies.Body.{Body}
use Rattle.tb_records.specs.declared.bodies.Body.TheVariants.{CreateAccounts, CreateTransfers}
use Rattle.tb_records.specs.declared.limits.Profile.{Profile}
use Rattle.tb_ledger.specs.Books.{Books}
use Rattle.tb_ledger.specs.Sound.{Sound}
use Rattle.tb_ledger.proofs.SoundLaws.{sound_empty, sound_failed, sound_later, sound_accounts, sound_transfers, sound_limits, sound_balances}
use Rattle.tb_machine.specs.declared.entries.Entry.{Entry}
use Rattle.tb_machine.specs.Histories.{State, start, executed, step, LegalFrom, IsLegal, after}
use Rattle.tb_machine.specs.HistoryLaws.{LimitsHold, LedgersBalance}
use Rattle.tb_machine.specs.Dumps.{marked_after, after_with, IsLegalWith}
use Rattle.tb_machine.specs.MarkedLaws.{LimitsHoldWith, LedgersBalanceWith}
use Rattle.tb_machine.proofs.Judging.{may_come}

pub sound_executed : (B : Books) (body : Body) (time : ℕ) → B.time ≤ time → Sound B → Sound (executed B body time)
sound_executed B (CreateAccounts events) time later sound = sound_accounts B events time later sound
sound_executed B (CreateTransfers events) time later sound = sound_transfers B events time later sound
sound_executed B body time later sound = sound_later B time later sound

sound_from : (S : State) (h : List Entry) → LegalFrom S h → Sound S.books → Sound (fold step S h).books
sound_from S [] legal sound = sound
sound_from S (e ∷ es) legal sound = sound_from (step S e) es legal.1 (sound_executed S.books e.request.body e.time (omega (arith, (may_come S e legal.0).late_enough)) sound)

sound_after : (profile : Profile) (clients_max : ℕ) (h : List Entry) → IsLegal profile clients_max h → Sound (after profile clients_max h).books
sound_after profile clients_max h legal = sound_from (start profile clients_max) h legal (sound_empty profile)

-- a mark leaves all but the failed ids
pub sound_with : (profile : Profile) (clients_max : ℕ) (mark : Option ℕ) (h : List Entry) → IsLegalWith profile clients_max mark h → Sound (after_with profile clients_max mark h).books
sound_with profile clients_max None h legal = sound_after profile clients_max h legal
sound_with profile clients_max (Some n) h legal =
    sound_from (marked_after profile clients_max (take n h)) (drop n h) legal.1
    (sound_failed (after profile clients_max (take n h)).books (Some []) (sound_after profile clients_max (take n h) legal.0))

pub limits_hold_with : LimitsHoldWith
limits_hold_with profile clients_max mark h legal id a is = sound_limits (after_with profile clients_max mark h).books id a is (sound_with profile clients_max mark h legal)

pub ledgers_balance_with : LedgersBalanceWith
ledgers_balance_with profile clients_max mark h legal ledger = sound_balances (after_with profile clients_max mark h).books ledger (sound_with profile clients_max mark h legal)

pub limits_hold : LimitsHold
limits_hold profile clients_max h legal id a is = limits_hold_with profile clients_max None h legal id a is

pub ledgers_balance : LedgersBalance
ledgers_balance profile clients_max h legal ledger = ledgers_balance_with profile clients_max None h legal ledger
