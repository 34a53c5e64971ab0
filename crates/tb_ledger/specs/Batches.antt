-- Chains and batches: a chain is applied as a whole or not at all.
use Rattle.std.specs.Prelude.{ℕ, suc, Bool, not, ◌==◌, ◌≡◌, ◌+◌, ◌-◌, refl, List, [], ◌∷◌, ◌++◌, map, filter, length, replicate, Option, Some, None, if◌then◌else◌}
use Rattle.std.specs.List.{list_any, enumerate_from}
use Rattle.std.specs.Option.{option_map}
use Rattle.tb_records.specs.declared.records.Account.{Account}
use Rattle.tb_records.specs.declared.records.Transfer.{Transfer}
use Rattle.tb_records.specs.declared.records.EventResult.{EventResult}
use Rattle.tb_records.specs.declared.transfer_results.CreateTransferResult.{CreateTransferResult}
use Rattle.tb_records.specs.declared.transfer_results.CreateTransferResult.TheVariants.{LinkedEventFailed, LinkedEventChainOpen, DebitAccountNotFound, CreditAccountNotFound, PendingTransferNotFound, ExceedsCredits, ExceedsDebits, DebitAccountAlreadyClosed, CreditAccountAlreadyClosed}
use Rattle.tb_records.specs.declared.account_flags.AccountFlag.TheVariants as account
use Rattle.tb_records.specs.declared.transfer_flags.TransferFlag.TheVariants as transfer
use Rattle.tb_records.specs.declared.account_results.CreateAccountResult.TheVariants as account_results
use Rattle.tb_records.specs.AccountFlags.{account_has}
use Rattle.tb_records.specs.AccountResults.{account_result_code}
use Rattle.tb_records.specs.TransferFlags.{transfer_has}
use Rattle.tb_records.specs.TransferResults.{transfer_result_code}
use Rattle.tb_records.specs.Ordered.{put}
use Rattle.tb_ledger.specs.Books.{Books}
use Rattle.tb_ledger.specs.Verdicts.{account_verdict, recorded_account, transfer_verdict, recorded_transfer}

-- a kind of event: whether it is linked to the next, its verdict, and the books after it is recorded or refused
pub record Kind (E : Type 0) : Type 0 where
  pub linked : E → Bool
  pub verdict : Books → E → ℕ → ℕ
  pub recorded : Books → E → ℕ → Books
  pub refused : Books → E → ℕ → Books

abbrev pub account_events : Kind Account
account_events = record {
  linked = λ a. account_has account.Linked a;
  verdict = λ B a time. account_verdict B a;
  recorded = λ B a time. record B { accounts = put (λ a. a.id) (recorded_account a time) B.accounts };
  refused = λ B a code. B;
}

-- verdicts after which a transfer's id stays refused, by profile 2
abbrev pub final_results : List CreateTransferResult
final_results =
    DebitAccountNotFound
    ∷ CreditAccountNotFound
    ∷ PendingTransferNotFound
    ∷ ExceedsCredits
    ∷ ExceedsDebits
    ∷ DebitAccountAlreadyClosed
    ∷ CreditAccountAlreadyClosed
    ∷ []

abbrev pub is_final : ℕ → Bool
is_final code = list_any (λ result. transfer_result_code result == code) final_results

abbrev pub transfer_events : Kind Transfer
transfer_events = record {
  linked = λ t. transfer_has transfer.Linked t;
  verdict = transfer_verdict;
  recorded = λ B t time. record B { transfers = put (λ t. t.id) (recorded_transfer B t time) B.transfers };
  refused = λ B t code. if is_final code then record B { failed = option_map (put (λ id. id) t.id) B.failed } else B;
}

-- an event's code if another event of its chain failed, and its code if the batch ends within its chain
abbrev pub chain_failed : ℕ
chain_failed = transfer_result_code LinkedEventFailed

abbrev pub chain_open : ℕ
chain_open = transfer_result_code LinkedEventChainOpen

-- an event with its timestamp
abbrev pub Timed : Type 0 → Type 0
Timed E = E × ℕ

-- the first event of a chain that is not accepted
pub record Failure (E : Type 0) : Type 0 where
  pub place : ℕ
  pub event : E
  pub code : ℕ
  pub rest : List (Timed E)

-- the books after events, and a code for each
pub record Outcome : Type 0 where
  pub books : Books
  pub codes : List ℕ

abbrev pub timed_from : {E : Type 0} → ℕ → List E → List (Timed E)
timed_from time [] = []
timed_from time (e ∷ es) = (e, time) ∷ timed_from (time + 1) es

-- event i of n, at the time T of the entry, has the timestamp T - n + i + 1
abbrev pub timed : {E : Type 0} → ℕ → List E → List (Timed E)
timed T events = timed_from (T + 1 - length events) events

module _ {E : Type 0} (kind : Kind E) where
  -- the chains: in each all events except the last are linked, and only the last chain may end linked
  abbrev pub joined : Timed E → List (List (Timed E)) → List (List (Timed E))
  joined x [] = (x ∷ []) ∷ []
  joined x (chain ∷ chains) = (x ∷ chain) ∷ chains

  abbrev pub chains : List (Timed E) → List (List (Timed E))
  chains [] = []
  chains (x ∷ xs) = if kind.linked x.0 then joined x (chains xs) else (x ∷ []) ∷ chains xs

  -- the number of events in the first chain
  abbrev pub chain_length : List E → ℕ
  chain_length [] = 0
  chain_length (e ∷ es) = if kind.linked e then suc (chain_length es) else 1

  -- an event and what comes after it in its chain: if it is linked and nothing follows, the chain is open
  abbrev pub code_in_chain : Books → Timed E → List (Timed E) → ℕ
  code_in_chain B x [] = if kind.linked x.0 then chain_open else kind.verdict B x.0 x.1
  code_in_chain B x _ = kind.verdict B x.0 x.1

  -- the first event that is not accepted after those before it
  abbrev pub failure_from : ℕ → Books → List (Timed E) → Option (Failure E)
  failure_from place B [] = None
  failure_from place B (x ∷ xs) =
      let code = code_in_chain B x xs in
      if code == 0
      then failure_from (place + 1) (kind.recorded B x.0 x.1) xs
      else Some (record { place = place; event = x.0; code = code; rest = xs })

  abbrev pub all_recorded : Books → List (Timed E) → Books
  all_recorded B [] = B
  all_recorded B (x ∷ xs) = all_recorded (kind.recorded B x.0 x.1) xs

  -- the code of an event that another event's failure undoes, and the codes of all events after it
  abbrev pub undone_code : Timed E → List (Timed E) → ℕ
  undone_code x [] = if kind.linked x.0 then chain_open else chain_failed
  undone_code x _ = chain_failed

  abbrev pub undone : List (Timed E) → List ℕ
  undone [] = []
  undone (x ∷ xs) = undone_code x xs ∷ undone xs

  abbrev pub chain_outcome : Books → List (Timed E) → Option (Failure E) → Outcome
  chain_outcome B chain None = record { books = all_recorded B chain; codes = replicate (length chain) 0 }
  chain_outcome B chain (Some f) = record {
    books = kind.refused B f.event f.code;
    codes = replicate f.place chain_failed ++ f.code ∷ undone f.rest;
  }

  -- one chain: all of it, or what the failure leaves
  abbrev pub chain_after : Books → List (Timed E) → Outcome
  chain_after B chain = chain_outcome B chain (failure_from 0 B chain)

  abbrev pub chains_after : Books → List (List (Timed E)) → Outcome
  chains_after B [] = record { books = B; codes = [] }
  chains_after B (chain ∷ rest) =
      let first = chain_after B chain in
      let later = chains_after first.books rest in
      record { books = later.books; codes = first.codes ++ later.codes }

  -- a batch at the time T
  abbrev pub batch_after : Books → List E → ℕ → Outcome
  batch_after B events T = chains_after (record B { time = T }) (chains (timed T events))

-- the reply: index and code of each event whose code is not 0
abbrev pub results : List ℕ → List EventResult
results codes = map (λ x. record { index = x.0; result = x.1 }) (filter (λ x. not (x.1 == 0)) (enumerate_from 0 codes))

-- examples

-- the results of accounts also have these two codes
pub one_code_for_both : (account_result_code account_results.LinkedEventFailed ≡ chain_failed) × (account_result_code account_results.LinkedEventChainOpen ≡ chain_open)
one_code_for_both = (refl, refl)
