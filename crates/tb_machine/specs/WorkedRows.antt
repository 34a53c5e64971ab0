-- Examples over the definitions: scripts, and the replies to them. All amounts are in ledger 700, all codes are 10.
use Rattle.std.specs.Prelude.{ℕ, false, ◌≡◌, List, [], ◌∷◌, ◌++◌, map, length, replicate, Some, None, Result, Ok}
use Rattle.std.specs.Io.KnownBytes.{Appends}
use Rattle.std.specs.List.{range_with_len}
use Rattle.tb_records.specs.declared.records.Account.{Account}
use Rattle.tb_records.specs.declared.records.Transfer.{Transfer}
use Rattle.tb_records.specs.declared.bodies.Body.TheVariants.{Register, CreateAccounts, CreateTransfers, LookupAccounts}
use Rattle.tb_records.specs.declared.bodies.ReplyBody.TheVariants.{Empty, Results, Accounts}
use Rattle.tb_records.specs.declared.replies.Status.TheVariants as status
use Rattle.tb_records.specs.declared.limits.Profile.TheVariants.{One, Two}
use Rattle.tb_records.specs.Messages.{Message, Answer, asked, answered, status_code}
use Rattle.tb_records.specs.Transport.{Input, Output}
use Rattle.tb_records.specs.declared.limits.TheConstants.{AMOUNT_MAX, LAST_MOMENT}
use Rattle.tb_ledger.specs.Books.{profile_of}
use Rattle.tb_machine.specs.declared.entries.Entry.{Entry}
use Rattle.tb_machine.specs.declared.restoring.Unfit.TheVariants.{Commit, Time, NotNew}
use Rattle.tb_machine.specs.declared.serving.RunFault.{RunFault}
use Rattle.tb_machine.specs.Histories.{start, after, answer_to}
use Rattle.tb_machine.specs.Dumps.{after_with}
use Rattle.tb_machine.specs.MarkedLaws.{next_in}
use Rattle.tb_machine.specs.PlainRuns.{NothingFails, RanPlain}
use Rattle.tb_machine.specs.Restoring.{cause_of}
use Rattle.tb_machine.specs.Scripts.{Pair, has_time, accepted, replies_from, replies_to}
use Rattle.tb_machine.specs.ReplicaLaws.{all_ticks}

-- an account and a transfer as the examples write them
abbrev worked_account : ℕ → Account
worked_account id = record { id = id; debits_pending = 0; debits_posted = 0; credits_pending = 0; credits_posted = 0; user_data_128 = 0; user_data_64 = 0; user_data_32 = 0; reserved = 0; ledger = 700; code = 10; flags = 0; timestamp = 0 }

abbrev worked_transfer : ℕ → ℕ → ℕ → ℕ → Transfer
worked_transfer id debit credit amount = record { id = id; debit_account_id = debit; credit_account_id = credit; amount = amount; pending_id = 0; user_data_128 = 0; user_data_64 = 0; user_data_32 = 0; timeout = 0; ledger = 700; code = 10; flags = 0; timestamp = 0 }

abbrev register : ℕ → Message
register client = asked client 0 0 Register

-- a lookup of no account
abbrev empty_lookup : ℕ → ℕ → ℕ → Message
empty_lookup client session number = asked client session number (LookupAccounts [])

-- it comes at moment 10
abbrev at_ten : Message → Pair
at_ten r = (10, r)

abbrev script : List Message → List Pair
script rs = map at_ten rs

-- the first fields of a reply: status, session and commit number
abbrev summary : Answer → ℕ × ℕ × ℕ
summary answer = (status_code answer.status, answer.session, answer.commit)

abbrev summaries : ℕ → List Message → List (ℕ × ℕ × ℕ)
summaries clients_max rs = map summary (replies_to One clients_max (script rs))

abbrev entered_count : ℕ → List Message → ℕ
entered_count clients_max rs = length (accepted One clients_max [] (script rs))

-- client 7's first requests
abbrev accounts : Message
accounts = asked 7 1 1 (CreateAccounts (worked_account 1 ∷ worked_account 2 ∷ []))

abbrev lookup : Message
lookup = asked 7 1 2 (LookupAccounts (2 ∷ 9 ∷ 1 ∷ []))

abbrev transfers : ℕ → Message
transfers amount = asked 7 1 3 (CreateTransfers (worked_transfer 11 1 2 amount ∷ []))

abbrev first_requests : List Message
first_requests = register 7 ∷ accounts ∷ lookup ∷ transfers 100 ∷ []

-- a register at moment 10 has the time 10, and two accounts at moment 10 have the timestamps 11 and 12; the register sent again gets the same reply
abbrev pub FirstRequests : Type 0
FirstRequests = replies_to One 2 (script (register 7 ∷ first_requests))
    ≡ answered 7 1 0 2 status.Reply 1 Empty
    ∷ answered 7 1 0 2 status.Reply 1 Empty
    ∷ answered 7 1 1 129 status.Reply 2 (Results [])
    ∷ answered 7 1 2 131 status.Reply 3 (Accounts (record (worked_account 2) { timestamp = 12 } ∷ record (worked_account 1) { timestamp = 11 } ∷ []))
    ∷ answered 7 1 3 130 status.Reply 4 (Results [])
    ∷ []

-- after them: the last request again, the one before it, the last with another amount, a number too great, a session too great, a session too small,
-- a client without a session; none of them is entered
abbrev refused_requests : List Message
refused_requests =
    transfers 100
    ∷ lookup
    ∷ transfers 101
    ∷ empty_lookup 7 1 5
    ∷ empty_lookup 7 2 4
    ∷ empty_lookup 7 0 4
    ∷ empty_lookup 9 1 1
    ∷ []

abbrev pub Refusals : Type 0
Refusals =
    (summaries 2 (first_requests ++ refused_requests)
    ≡ (0, 1, 1) ∷ (0, 1, 2) ∷ (0, 1, 3) ∷ (0, 1, 4)
    ∷ (0, 1, 4) ∷ (4, 1, 0) ∷ (5, 1, 0) ∷ (6, 1, 0) ∷ (3, 2, 0) ∷ (2, 0, 0) ∷ (1, 1, 0) ∷ [])
    × (entered_count 2 (first_requests ++ refused_requests) ≡ 4)

-- client 7 moves the greatest amount, 2^128 - 1, from account 1 to account 2, and then 1 more, which would overflow account 1's debits. The second
-- transfer is refused (49), and account 2's sum is the greatest that has a frame
abbrev greatest : Message
greatest = asked 7 1 2 (CreateTransfers (worked_transfer 11 1 2 AMOUNT_MAX ∷ worked_transfer 12 1 2 1 ∷ []))

abbrev pub GreatestSum : Type 0
GreatestSum = replies_to One 2 (script (register 7 ∷ accounts ∷ greatest ∷ asked 7 1 3 (LookupAccounts (2 ∷ [])) ∷ []))
    ≡ answered 7 1 0 2 status.Reply 1 Empty
    ∷ answered 7 1 1 129 status.Reply 2 (Results [])
    ∷ answered 7 1 2 130 status.Reply 3 (Results (record { index = 1; result = 49 } ∷ []))
    ∷ answered 7 1 3 131 status.Reply 4 (Accounts (record (worked_account 2) { credits_posted = AMOUNT_MAX; timestamp = 12 } ∷ []))
    ∷ []

-- two places: client 9 evicts 8, whose reply has the least commit number, though 7 has the least session; 8 then evicts 7, and 7's old register
-- evicts 9
abbrev pub Eviction : Type 0
Eviction =
    summaries 2 (register 7 ∷ register 8 ∷ empty_lookup 7 1 1 ∷ register 9 ∷ empty_lookup 8 2 1 ∷ register 8 ∷ empty_lookup 8 2 1 ∷ register 7 ∷ empty_lookup 9 4 1 ∷ [])
    ≡ (0, 1, 1) ∷ (0, 2, 2) ∷ (0, 1, 3) ∷ (0, 4, 4) ∷ (1, 2, 0) ∷ (0, 5, 5) ∷ (2, 2, 0) ∷ (0, 6, 6) ∷ (1, 4, 0) ∷ []

-- the last moment can be the time of an entry: after it there is no time, not even for a later moment
abbrev last_entry : List Pair
last_entry = (LAST_MOMENT, register 7) ∷ []

abbrev pub EndOfTime : Type 0
EndOfTime =
    (map summary (replies_to One 2 last_entry) ≡ (0, 1, 1) ∷ [])
    × (has_time (after One 2 (accepted One 2 [] last_entry)) (0, register 8) ≡ false)
    × (has_time (start One 2) (9223372036854775808, register 7) ≡ false)

-- one place, and clients 1 to 100: each evicts the one before
abbrev storm : List Message
storm =
    map register (range_with_len 1 100)
    ++ map (λ client. empty_lookup client client 1) (range_with_len 1 99)
    ++ (empty_lookup 100 100 1 ∷ register 1 ∷ empty_lookup 1 1 1 ∷ empty_lookup 100 100 2 ∷ [])

abbrev pub EvictionStorm : Type 0
EvictionStorm =
    (summaries 1 storm
    ≡ map (λ k. (0, k, k)) (range_with_len 1 100)
    ++ map (λ k. (1, k, 0)) (range_with_len 1 99)
    ++ ((0, 100, 101) ∷ (0, 102, 102) ∷ (2, 1, 0) ∷ (1, 100, 0) ∷ []))
    × (entered_count 1 storm ≡ 102)

-- an entry by its numbers
abbrev worked_entry : ℕ → ℕ → Message → Entry
worked_entry commit time r = record { commit = commit; time = time; request = r }

-- after client 7's register at time 10: another commit number, a time that is no later, one above the last, a request that is not new; the cause is
-- the first of these; and an entry that may come next
abbrev pub UnfitEntries : Type 0
UnfitEntries =
    let S = after One 2 (worked_entry 1 10 (register 7) ∷ []) in
    (cause_of S (worked_entry 1 11 (register 8)) ≡ Some Commit)
    × (cause_of S (worked_entry 3 0 (register 7)) ≡ Some Commit)
    × (cause_of S (worked_entry 2 10 (register 7)) ≡ Some Time)
    × (cause_of S (worked_entry 2 9223372036854775808 (register 8)) ≡ Some Time)
    × (cause_of S (worked_entry 2 11 (register 7)) ≡ Some NotNew)
    × (cause_of S (worked_entry 2 11 (register 8)) ≡ None)

-- a mark after client 7's register: profile 2 executes the next entry, profile 1 the register; the register sent again still gets its reply
abbrev pub MarkedHistory : Type 0
MarkedHistory =
    (profile_of (next_in One 2 (Some 1) []).books ≡ One)
    × (profile_of (next_in One 2 (Some 1) (worked_entry 1 10 (register 7) ∷ [])).books ≡ Two)
    × (summary (answer_to (after_with One 2 (Some 1) (worked_entry 1 10 (register 7) ∷ worked_entry 2 11 (register 8) ∷ [])) (register 7)) ≡ (0, 1, 1))

-- client 7's last two requests get their replies after the two before them, and are refused without them
abbrev first_part : List Message
first_part = register 7 ∷ accounts ∷ []

abbrev second_part : List Message
second_part = lookup ∷ transfers 100 ∷ []

abbrev pub ScriptInParts : Type 0
ScriptInParts =
    let made = accepted One 2 [] (script first_part) in
    (map summary (replies_from One 2 made (script second_part)) ≡ (0, 1, 3) ∷ (0, 1, 4) ∷ [])
    × (length (accepted One 2 made (script second_part)) ≡ 4)
    × (summaries 2 second_part ≡ (1, 1, 0) ∷ (1, 1, 0) ∷ [])
    × (entered_count 2 second_part ≡ 0)

-- client 7's transfer is sent again after its next request: the copy is refused (4), and the last request is commit 6 with it and without it. In one
-- place client 7's register is sent again after client 8 evicted it: it is new, and evicts 8
abbrev pub CopiesInAScript : Type 0
CopiesInAScript =
    let before = first_requests ++ empty_lookup 7 1 4 ∷ [] in
    (summaries 2 (before ++ transfers 100 ∷ empty_lookup 7 1 5 ∷ []) ≡ summaries 2 before ++ (4, 1, 0) ∷ (0, 1, 6) ∷ [])
    × (summaries 2 (before ++ empty_lookup 7 1 5 ∷ []) ≡ summaries 2 before ++ (0, 1, 6) ∷ [])
    × (summaries 1 (register 7 ∷ register 8 ∷ empty_lookup 8 2 1 ∷ []) ≡ (0, 1, 1) ∷ (0, 2, 2) ∷ (0, 2, 3) ∷ [])
    × (summaries 1 (register 7 ∷ register 8 ∷ register 7 ∷ empty_lookup 8 2 1 ∷ []) ≡ (0, 1, 1) ∷ (0, 2, 2) ∷ (0, 3, 3) ∷ (1, 2, 0) ∷ [])

-- a register and two accounts, three ticks, at a moment three before the last: both have a time; at the last moment but one the accounts have no time
abbrev at_moment : ℕ → List Pair
at_moment moment = (moment, register 7) ∷ (moment, accounts) ∷ []

abbrev pub BoundedMoments : Type 0
BoundedMoments =
    (all_ticks (at_moment 9223372036854775804) ≡ 3)
    × (map summary (replies_to One 2 (at_moment 9223372036854775804)) ≡ (0, 1, 1) ∷ (0, 1, 2) ∷ [])
    × (has_time (after One 2 (accepted One 2 [] ((9223372036854775806, register 7) ∷ []))) (9223372036854775806, accounts) ≡ false)

-- a run over bytes: moment 10 and the frame of client 7's register, and the frame of its reply
abbrev register_bytes : List ℕ
register_bytes = 10 ∷ replicate 7 0 ++ 7 ∷ replicate 27 0 ++ 2 ∷ replicate 19 0

abbrev registered_bytes : List ℕ
registered_bytes = 7 ∷ replicate 15 0 ++ 1 ∷ replicate 11 0 ++ 2 ∷ replicate 7 0 ++ 1 ∷ replicate 11 0

abbrev pub RegisterRun : Type 0
RegisterRun = (result : Result ℕ RunFault) (first last : Input) (start written : Output) → RanPlain One 1 result first last start written
    → first.left ≡ Some register_bytes → NothingFails result last written
    → (result ≡ Ok 1) × (last.left ≡ Some []) × Appends start.written written.written registered_bytes
