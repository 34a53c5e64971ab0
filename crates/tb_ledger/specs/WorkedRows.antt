-- Examples: the results of the definitions for requests whose results are known.
use Rattle.std.specs.Prelude.{◌≡◌, ℕ, ◌+◌, max, List, [], ◌∷◌, map, ◌++◌, length, Option, Some, None}
use Rattle.std.specs.Option.{option_map}
use Rattle.tb_records.specs.declared.records.Account.{Account}
use Rattle.tb_records.specs.declared.records.Transfer.{Transfer}
use Rattle.tb_records.specs.declared.limits.Profile.{Profile}
use Rattle.tb_records.specs.declared.limits.Profile.TheVariants.{One, Two}
use Rattle.tb_records.specs.declared.limits.TheConstants.{AMOUNT_MAX}
use Rattle.tb_ledger.specs.Books.{Books, empty_books, account_now, transfer_at, found_accounts, found_transfers}
use Rattle.tb_ledger.specs.Batches.{account_events, transfer_events, batch_after, results, Outcome}

-- an account, and a transfer from a debit to a credit account, in ledger 700 with code 10
abbrev pub account : ℕ → ℕ → Account
account id flags = record { id = id; debits_pending = 0; debits_posted = 0; credits_pending = 0; credits_posted = 0; user_data_128 = 0; user_data_64 = 0; user_data_32 = 0; reserved = 0; ledger = 700; code = 10; flags = flags; timestamp = 0 }

abbrev pub transfer : ℕ → ℕ → ℕ → ℕ → ℕ → Transfer
transfer id debit credit amount flags = record { id = id; debit_account_id = debit; credit_account_id = credit; amount = amount; pending_id = 0; user_data_128 = 0; user_data_64 = 0; user_data_32 = 0; timeout = 0; ledger = 700; code = 10; flags = flags; timestamp = 0 }

-- a post (flags 4) or void (flags 8) that names no account
abbrev pub resolving : ℕ → ℕ → ℕ → ℕ → Transfer
resolving id pending_id amount flags = record { id = id; debit_account_id = 0; credit_account_id = 0; amount = amount; pending_id = pending_id; user_data_128 = 0; user_data_64 = 0; user_data_32 = 0; timeout = 0; ledger = 700; code = 10; flags = flags; timestamp = 0 }

abbrev pub with_timeout : ℕ → Transfer → Transfer
with_timeout timeout t = record t { timeout = timeout }

-- an event, and the code that it gets
abbrev pub Row : Type 0 → Type 0
Row E = E × ℕ

abbrev pub events : {E : Type 0} → List (Row E) → List E
events rows = map (λ row. row.0) rows

abbrev pub codes : {E : Type 0} → List (Row E) → List ℕ
codes rows = map (λ row. row.1) rows

-- accounts in one request, and transfers in one, at the least time that is allowed
abbrev pub create : Books → List Account → Outcome
create B accounts = batch_after account_events B accounts (B.time + max (length accounts) 1)

abbrev pub request : Books → List Transfer → Outcome
request B transfers = batch_after transfer_events B transfers (B.time + max (length transfers) 1)

-- accounts 1 and 2, created at the times 11 and 12
abbrev pub start_books : Profile → Books
start_books profile = (create (record (empty_books profile) { time = 10 }) (account 1 0 ∷ account 2 0 ∷ [])).books

-- one request after another: the books after them, and each one's pairs (index, code)
abbrev pub books_after : Books → List (List Transfer) → Books
books_after B [] = B
books_after B (transfers ∷ later) = books_after (request B transfers).books later

abbrev pub row_answers : Books → List (List Transfer) → List (List (ℕ × ℕ))
row_answers B [] = []
row_answers B (transfers ∷ later) = map (λ r. (r.index, r.result)) (results (request B transfers).codes) ∷ row_answers (request B transfers).books later

-- each transfer in a request of its own: the books after them, and the code of each
abbrev pub worked_books : Books → List (Row Transfer) → Books
worked_books B rows = books_after B (map (λ row. row.0 ∷ []) rows)

abbrev pub codes_of : Books → List Transfer → List ℕ
codes_of B [] = []
codes_of B (t ∷ later) = (request B (t ∷ [])).codes ++ codes_of (request B (t ∷ [])).books later

-- each gets the code next to it: transfers each in a request of its own, accounts all in one request
abbrev pub RowsAnswered : Books → List (Row Transfer) → Type 0
RowsAnswered B rows = codes_of B (events rows) ≡ codes rows

abbrev pub CreatedAs : Books → List (Row Account) → Type 0
CreatedAs B rows = (create B (events rows)).codes ≡ codes rows

-- an account's sums as they are now, and its flags
abbrev pub sums : Books → ℕ → Option (List ℕ)
sums B id = option_map (λ a. a.debits_pending ∷ a.debits_posted ∷ a.credits_pending ∷ a.credits_posted ∷ a.flags ∷ []) (account_now B id)

abbrev pub amount_of : Books → ℕ → Option ℕ
amount_of B id = option_map (λ t. t.amount) (transfer_at B id)

-- the accounts as they were created
abbrev pub Created : Profile → Type 0
Created profile =
    (option_map (λ a. a.timestamp) (account_now (start_books profile) 1) ≡ Some 11)
    × (option_map (λ a. a.timestamp) (account_now (start_books profile) 2) ≡ Some 12)
    × (account_now (start_books profile) 9 ≡ None)

-- balancing

abbrev pub before_balancing : List (Row Transfer)
before_balancing =
    (transfer 1 2 1 100 0, 0)
    ∷ (transfer 2 1 2 20 0, 0)
    ∷ (transfer 3 1 2 30 2, 0)
    ∷ []

abbrev pub balancing_debits : List (Row Transfer)
balancing_debits = before_balancing ++
    ((transfer 4 1 2 80 16, 0)
    ∷ (transfer 4 1 2 80 16, 46)
    ∷ (transfer 4 1 2 50 16, 46)
    ∷ (transfer 4 1 2 49 16, 39)
    ∷ (transfer 5 1 2 10 16, 0)
    ∷ [])

-- with account 3, and account 6 created closed
abbrev pub start_of_four : Profile → Books
start_of_four profile = (create (start_books profile) (account 3 0 ∷ account 6 32 ∷ [])).books

abbrev pub balancing_both : List (Row Transfer)
balancing_both =
    (transfer 1 2 1 100 0, 0)
    ∷ (transfer 2 3 2 30 0, 0)
    ∷ (transfer 3 1 3 80 48, 0)
    ∷ (transfer 3 1 3 80 48, 46)
    ∷ (transfer 3 1 3 30 48, 46)
    ∷ (transfer 3 1 3 29 48, 39)
    ∷ (transfer 4 1 3 80 16, 0)
    ∷ (transfer 5 1 2 80 16, 0)
    ∷ (transfer 6 1 6 1 0, 66)
    ∷ []

abbrev pub Balancing : Profile → Type 0
Balancing profile =
    (sums (worked_books (start_books profile) before_balancing) 1 ≡ Some (30 ∷ 20 ∷ 0 ∷ 100 ∷ 0 ∷ []))
    × RowsAnswered (start_books profile) balancing_debits
    × (amount_of (worked_books (start_books profile) balancing_debits) 4 ≡ Some 50)
    × (amount_of (worked_books (start_books profile) balancing_debits) 5 ≡ Some 0)
    × RowsAnswered (start_of_four profile) balancing_both
    × (map (amount_of (worked_books (start_of_four profile) balancing_both)) (3 ∷ 4 ∷ 5 ∷ []) ≡ Some 30 ∷ Some 70 ∷ Some 0 ∷ [])

-- posts and voids

abbrev pub posted : List (Row Transfer)
posted =
    (transfer 20 1 2 40 2, 0)
    ∷ (resolving 21 20 AMOUNT_MAX 4, 0)
    ∷ (transfer 22 1 2 40 2, 0)
    ∷ (resolving 23 22 15 4, 0)
    ∷ (transfer 24 1 2 40 2, 0)
    ∷ (resolving 25 24 0 4, 0)
    ∷ []

-- posts and voids that name a transfer that a post resolved, that a void resolved, or that was never pending
abbrev pub voided : List (Row Transfer)
voided =
    (resolving 26 20 0 4, 33)
    ∷ (resolving 26 20 0 8, 33)
    ∷ (transfer 30 1 2 40 2, 0)
    ∷ (resolving 31 30 0 8, 0)
    ∷ (resolving 32 30 0 8, 34)
    ∷ (transfer 33 1 2 40 2, 0)
    ∷ (resolving 34 33 39 8, 32)
    ∷ (resolving 34 33 41 8, 31)
    ∷ (resolving 36 31 0 4, 26)
    ∷ []

abbrev pub after_posts : Profile → Books
after_posts profile = worked_books (start_books profile) posted

abbrev pub PostsAndVoids : Profile → Type 0
PostsAndVoids profile =
    RowsAnswered (start_books profile) posted
    × (sums (after_posts profile) 1 ≡ Some (0 ∷ 55 ∷ 0 ∷ 0 ∷ 0 ∷ []))
    × (sums (after_posts profile) 2 ≡ Some (0 ∷ 0 ∷ 0 ∷ 55 ∷ 0 ∷ []))
    × (map (amount_of (after_posts profile)) (21 ∷ 23 ∷ 25 ∷ []) ≡ Some 40 ∷ Some 15 ∷ Some 0 ∷ [])
    × RowsAnswered (after_posts profile) voided
    × (amount_of (worked_books (after_posts profile) voided) 31 ≡ Some 40)

-- lookups: whole records, in the order of the ids

abbrev pub second : Account
second = record (account 2 0) { credits_posted = 55; timestamp = 12 }

abbrev pub Lookups : Profile → Type 0
Lookups profile =
    (found_accounts (after_posts profile) (2 ∷ 9 ∷ 1 ∷ 2 ∷ []) ≡ second ∷ record (account 1 0) { debits_posted = 55; timestamp = 11 } ∷ second ∷ [])
    × (found_transfers (after_posts profile) (23 ∷ 9 ∷ 21 ∷ []) ≡ record (transfer 23 1 2 15 4) { pending_id = 22; timestamp = 16 } ∷ record (transfer 21 1 2 40 4) { pending_id = 20; timestamp = 14 } ∷ [])

-- closing

abbrev pub closing_requests : List (Row Transfer)
closing_requests =
    (transfer 39 1 2 5 2, 0)
    ∷ (transfer 40 1 2 0 66, 0)
    ∷ (transfer 41 1 2 1 0, 65)
    ∷ (transfer 42 2 1 1 0, 66)
    ∷ (resolving 43 40 0 4, 65)
    ∷ (resolving 44 39 0 8, 0)
    ∷ []

abbrev pub closed_books : Profile → Books
closed_books profile = worked_books (start_books profile) closing_requests

abbrev pub open_again : Profile → Books
open_again profile = (request (closed_books profile) (resolving 45 40 0 8 ∷ [])).books

-- the refused transfer 41 again, once the account is open: by profile 2 its id failed permanently
abbrev pub again : Profile → ℕ
again One = 0
again Two = 68

abbrev pub Closing : Profile → Type 0
Closing profile =
    RowsAnswered (start_books profile) closing_requests
    × (sums (closed_books profile) 1 ≡ Some (0 ∷ 0 ∷ 0 ∷ 0 ∷ 32 ∷ []))
    × CreatedAs (closed_books profile) ((account 1 0, 15) ∷ (account 1 32, 21) ∷ [])
    × (sums (open_again profile) 1 ≡ Some (0 ∷ 0 ∷ 0 ∷ 0 ∷ 0 ∷ []))
    × CreatedAs (open_again profile) ((account 1 0, 21) ∷ (account 1 32, 15) ∷ [])
    × RowsAnswered (open_again profile) ((transfer 41 1 2 1 0, again profile) ∷ [])

-- chains

abbrev pub broken : List Transfer
broken = transfer 50 1 2 1 1 ∷ transfer 51 99 2 1 1 ∷ transfer 52 1 2 1 0 ∷ []

abbrev pub held_and_posted : List (List Transfer)
held_and_posted = (transfer 64 1 2 40 2 ∷ []) ∷ (resolving 65 64 AMOUNT_MAX 5 ∷ transfer 66 99 2 1 0 ∷ []) ∷ []

abbrev pub Chains : Profile → Type 0
Chains profile =
    (row_answers (start_books profile) (broken ∷ []) ≡ ((0, 1) ∷ (1, 21) ∷ (2, 1) ∷ []) ∷ [])
    × (sums (request (start_books profile) broken).books 1 ≡ Some (0 ∷ 0 ∷ 0 ∷ 0 ∷ 0 ∷ []))
    × (transfer_at (request (start_books profile) broken).books 50 ≡ None)
    × (row_answers (start_books profile) ((transfer 53 1 2 1 1 ∷ []) ∷ (transfer 54 1 2 1 1 ∷ transfer 55 1 2 1 1 ∷ []) ∷ (transfer 56 99 2 1 1 ∷ transfer 57 1 2 1 1 ∷ []) ∷ [])
    ≡ ((0, 2) ∷ []) ∷ ((0, 1) ∷ (1, 2) ∷ []) ∷ ((0, 21) ∷ (1, 2) ∷ []) ∷ [])
    × (row_answers (start_books profile) held_and_posted ≡ [] ∷ ((0, 1) ∷ (1, 21) ∷ []) ∷ [])
    × (sums (books_after (start_books profile) held_and_posted) 1 ≡ Some (40 ∷ 0 ∷ 0 ∷ 0 ∷ 0 ∷ []))
    × (transfer_at (books_after (start_books profile) held_and_posted) 65 ≡ None)
    × (sums (request (books_after (start_books profile) held_and_posted) (resolving 65 64 AMOUNT_MAX 4 ∷ [])).books 1 ≡ Some (0 ∷ 40 ∷ 0 ∷ 0 ∷ 0 ∷ []))

-- refused accounts, and the limits of accounts

abbrev pub nine_accounts : List (Row Account)
nine_accounts =
    (account 0 0, 6)
    ∷ (account AMOUNT_MAX 0, 7)
    ∷ (account 3 6, 8)
    ∷ (record (account 3 0) { ledger = 0 }, 13)
    ∷ (record (account 3 0) { code = 0 }, 14)
    ∷ (account 3 16, 5)
    ∷ (account 1 0, 21)
    ∷ (record (account 1 0) { ledger = 701 }, 19)
    ∷ (account 3 0, 0)
    ∷ []

abbrev pub limited_accounts : Profile → Books
limited_accounts profile = (create (start_books profile) (account 3 2 ∷ account 4 4 ∷ [])).books

abbrev pub Accounts : Profile → Type 0
Accounts profile =
    CreatedAs (start_books profile) nine_accounts
    × RowsAnswered (limited_accounts profile) ((transfer 80 3 1 1 0, 54) ∷ (transfer 81 1 4 1 0, 55) ∷ (transfer 82 3 1 0 0, 0) ∷ [])

-- flags above the known ones: imported, and each bit without a name
abbrev pub ReservedFlags : Profile → Type 0
ReservedFlags profile =
    CreatedAs (start_books profile) ((account 3 16, 5) ∷ (account 3 64, 5) ∷ (account 3 128, 5) ∷ (account 3 32768, 5) ∷ (account 3 8, 0) ∷ [])
    × RowsAnswered (start_books profile) ((transfer 1 1 2 1 256, 4) ∷ (transfer 1 1 2 1 512, 4) ∷ (transfer 1 1 2 1 32768, 4) ∷ (transfer 1 1 2 1 258, 4) ∷ (transfer 1 1 2 1 2, 0) ∷ [])

-- sums that do not fit: after a transfer of the largest amount, and after a pending one

abbrev pub start_of_three : Profile → Books
start_of_three profile = (create (start_books profile) (account 3 0 ∷ [])).books

abbrev pub moved_most : List (Row Transfer)
moved_most =
    (transfer 1 1 2 AMOUNT_MAX 0, 0)
    ∷ (transfer 2 1 2 1 0, 49)
    ∷ (transfer 2 3 2 1 0, 50)
    ∷ []

abbrev pub held_most : List (Row Transfer)
held_most =
    (transfer 1 1 2 AMOUNT_MAX 2, 0)
    ∷ (transfer 2 1 2 1 2, 47)
    ∷ (transfer 2 3 2 1 2, 48)
    ∷ (transfer 2 1 3 1 0, 51)
    ∷ (transfer 2 3 2 1 0, 52)
    ∷ []

abbrev pub Overflow : Profile → Type 0
Overflow profile = RowsAnswered (start_of_three profile) moved_most × RowsAnswered (start_of_three profile) held_most

-- failed ids
abbrev pub FailedIds : Type 0
FailedIds =
    (row_answers (start_books Two) ((transfer 70 99 2 1 0 ∷ []) ∷ (transfer 70 1 2 1 0 ∷ []) ∷ (transfer 71 1 2 1 1 ∷ transfer 72 99 2 1 0 ∷ []) ∷ (transfer 71 1 2 1 0 ∷ []) ∷ (transfer 72 1 2 1 0 ∷ []) ∷ [])
    ≡ ((0, 21) ∷ []) ∷ ((0, 68) ∷ []) ∷ ((0, 1) ∷ (1, 21) ∷ []) ∷ [] ∷ ((0, 68) ∷ []) ∷ [])
    × (row_answers (start_books One) ((transfer 70 99 2 1 0 ∷ []) ∷ (transfer 70 1 2 1 0 ∷ []) ∷ (transfer 71 1 2 1 1 ∷ transfer 72 99 2 1 0 ∷ []) ∷ (transfer 71 1 2 1 0 ∷ []) ∷ (transfer 72 1 2 1 0 ∷ []) ∷ [])
    ≡ ((0, 21) ∷ []) ∷ [] ∷ ((0, 1) ∷ (1, 21) ∷ []) ∷ [] ∷ [] ∷ [])
    × (row_answers (start_books Two) ((transfer 74 99 2 1 0 ∷ transfer 74 1 2 1 0 ∷ []) ∷ (transfer 75 1 2 1 1 ∷ transfer 75 99 2 1 0 ∷ []) ∷ (transfer 75 1 2 1 0 ∷ []) ∷ (resolving 76 999 0 4 ∷ []) ∷ (resolving 76 999 0 4 ∷ []) ∷ [])
    ≡ ((0, 21) ∷ (1, 68) ∷ []) ∷ ((0, 1) ∷ (1, 36) ∷ []) ∷ [] ∷ ((0, 25) ∷ []) ∷ ((0, 68) ∷ []) ∷ [])

-- expiry

-- the code of one transfer in a request of its own at the time T
abbrev pub code_at : Books → ℕ → Transfer → List ℕ
code_at B T t = (batch_after transfer_events B (t ∷ []) T).codes

-- a pending transfer with the time 100 and a timeout of one second: due at 1000000100
abbrev pub held_for_a_second : Profile → Books
held_for_a_second profile = (batch_after transfer_events (start_books profile) (with_timeout 1 (transfer 60 1 2 40 2) ∷ []) 100).books

-- one that closes account 1 for a second
abbrev pub closed_for_a_second : Profile → Books
closed_for_a_second profile = (batch_after transfer_events (start_books profile) (with_timeout 1 (transfer 62 1 2 0 66) ∷ []) 100).books

-- after transfer 63 was refused, while the account was still closed
abbrev pub refused_while_closed : Profile → Books
refused_while_closed profile = (batch_after transfer_events (closed_for_a_second profile) (transfer 63 1 2 1 0 ∷ []) 1000000099).books

abbrev pub Expiry : Profile → Type 0
Expiry profile =
    (option_map (λ t. t.timestamp) (transfer_at (held_for_a_second profile) 60) ≡ Some 100)
    × (sums (record (held_for_a_second profile) { time = 1000000099 }) 1 ≡ Some (40 ∷ 0 ∷ 0 ∷ 0 ∷ 0 ∷ []))
    × (sums (record (held_for_a_second profile) { time = 1000000100 }) 1 ≡ Some (0 ∷ 0 ∷ 0 ∷ 0 ∷ 0 ∷ []))
    × (code_at (record (held_for_a_second profile) { time = 1000000100 }) 1000000101 (resolving 61 60 AMOUNT_MAX 4) ≡ 35 ∷ [])
    × (code_at (closed_for_a_second profile) 1000000099 (transfer 63 1 2 1 0) ≡ 65 ∷ [])
    × (code_at (closed_for_a_second profile) 1000000100 (transfer 63 1 2 1 0) ≡ 0 ∷ [])
    × (code_at (refused_while_closed profile) 1000000100 (transfer 63 1 2 1 0) ≡ again profile ∷ [])
    × (code_at (start_books profile) 5000000000000000000 (with_timeout 4294967295 (transfer 67 1 2 1 2)) ≡ 53 ∷ [])
    × (code_at (start_books profile) 5000000000000000000 (with_timeout 4000000000 (transfer 67 1 2 1 2)) ≡ 0 ∷ [])
