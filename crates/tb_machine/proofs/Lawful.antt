-- The numbers of a lawful request, and the reply that they give.
use Rattle.std.proofs.Common.{◌≡◌, ◌≢◌, ℕ, ◌<◌, ◌≤◌, Bool, true, false, not, ◌&&◌, List, [], ◌∷◌, length, Option, Some, None, refl, arith, eqb, ltb, eqb-true, eq-eqb, lt-ltb, ltb-false, ne_eqb, le-ltb}
use Rattle.std.specs.List.{filter_map, cons_option}
use Rattle.tb_records.specs.declared.bodies.Body.{Body}
use Rattle.tb_records.specs.declared.bodies.Body.TheVariants.{Register, CreateAccounts, CreateTransfers, LookupAccounts, LookupTransfers}
use Rattle.tb_records.specs.declared.bodies.ReplyBody.{ReplyBody}
use Rattle.tb_records.specs.declared.replies.Status.TheVariants as status
use Rattle.tb_records.specs.declared.faults.FrameFault.TheVariants as fault
use Rattle.tb_records.specs.Messages.{Message, operation, item_count, is_register, first_fault, answered, kind_of, kind_for, answer_count, IsLawful, IsRight}
use Rattle.tb_records.specs.declared.limits.TheConstants.{ITEMS_MAX}
use Rattle.tb_ledger.specs.Books.{Books, account_now, transfer_at}
use Rattle.tb_ledger.specs.Batches.{account_events, transfer_events}
use Rattle.tb_ledger.proofs.ResultLaws.{length-results}
use Rattle.tb_ledger.proofs.SoundLaws.{time_after_accounts, time_after_transfers}
use Rattle.tb_machine.specs.Histories.{at_time, executed, found}

-- what a lawful request's numbers are
pub record LawfulNumbers (r : Message) : Type 0 where
  pub client : r.client ≢ 0
  pub register : is_register r.body ≡ true → r.request ≡ 0
  pub session : is_register r.body ≡ true → r.session ≡ 0
  pub numbered : is_register r.body ≡ false → r.request ≢ 0
  pub few : item_count r.body ≤ ITEMS_MAX

lines : (client register session number many : Bool)
    → first_fault ((client, fault.ClientZero) ∷ (register && not (session && number), fault.RegisterNumbers) ∷ (not register && number, fault.RequestZero) ∷ (many, fault.TooMany) ∷ []) ≡ None
    → (client ≡ false) × (register ≡ true → (session ≡ true) × (number ≡ true)) × (register ≡ false → number ≡ false) × (many ≡ false)
lines false true true true false e = (refl, λ _. (refl, refl), λ is. absurd cc, refl)
lines false false session false false e = (refl, λ is. absurd cc, λ _. refl, refl)
lines client register session number many e = absurd cc

pub lawful_numbers : (r : Message) → IsLawful r → LawfulNumbers r
lawful_numbers r lawful =
    let line = lines (eqb r.client 0) (is_register r.body) (eqb r.session 0) (eqb r.request 0) (ltb ITEMS_MAX (item_count r.body)) lawful in
    record {
      client = apart line.0;
      register = λ is. eqb-true r.request 0 (line.1 is).1;
      session = λ is. eqb-true r.session 0 (line.1 is).0;
      numbered = λ is. apart (line.2 is);
      few = ltb-false ITEMS_MAX (item_count r.body) line.3;
    }
  where
    apart : {a b : ℕ} → eqb a b ≡ false → a ≢ b
    apart {a} {b} e same = let equal : eqb a b ≡ true = eq-eqb a b same in cc

-- the reply of a register names the session that it made, any other's a session from before its commit
pub right_answer : (client session request commit : ℕ) (body : Body) (answer : ReplyBody) → client ≢ 0 → session ≢ 0
    → (is_register body ≡ true → (request ≡ 0) × (session ≡ commit)) → (is_register body ≡ false → (request ≢ 0) × (session < commit))
    → kind_of answer ≡ kind_for (operation body) → answer_count answer ≤ ITEMS_MAX
    → IsRight (answered client session request (operation body) status.Reply commit answer)
right_answer client session request commit body answer some began register numbered kind few = by body register numbered kind
  where
    some_client : eqb client 0 ≡ false
    some_client = ne_eqb client 0 some

    some_session : eqb session 0 ≡ false
    some_session = ne_eqb session 0 began

    not_many : ltb ITEMS_MAX (answer_count answer) ≡ false
    not_many = le-ltb ITEMS_MAX (answer_count answer) few

    by : (body : Body) → (is_register body ≡ true → (request ≡ 0) × (session ≡ commit)) → (is_register body ≡ false → (request ≢ 0) × (session < commit)) → kind_of answer ≡ kind_for (operation body) → IsRight (answered client session request (operation body) status.Reply commit answer)
    by Register register numbered kind = let is = register refl in rw (some_client, eq-eqb request 0 is.0, some_session, eq-eqb session commit is.1, kind, not_many) refl
    by body register numbered kind = let is = numbered refl in rw (some_client, ne_eqb request 0 is.0, some_session, lt-ltb session commit is.1, kind, not_many) refl

-- what is found has the operation's kind, and at most as many items as were asked for

pub found_kind : (B : Books) (body : Body) (time : ℕ) → kind_of (found B body time) ≡ kind_for (operation body)
found_kind B Register time = refl
found_kind B body time = refl

length-filter_map : {X Y : Type 0} (h : X → Option Y) (xs : List X) → length (filter_map h xs) ≤ length xs
length-filter_map h [] = omega arith
length-filter_map {Y = Y} h (x ∷ xs) = by (h x) (length-filter_map h xs)
  where
    by : (o : Option Y) → length (filter_map h xs) ≤ length xs → length (cons_option o (filter_map h xs)) ≤ length (x ∷ xs)
    by None later = omega arith
    by (Some y) later = omega arith

pub found_few : (B : Books) (body : Body) (time : ℕ) → answer_count (found B body time) ≤ item_count body
found_few B Register time = omega arith
found_few B (CreateAccounts events) time = length-results account_events B events time
found_few B (CreateTransfers events) time = length-results transfer_events B events time
found_few B (LookupAccounts ids) time = length-filter_map (account_now (at_time B time)) ids
found_few B (LookupTransfers ids) time = length-filter_map (transfer_at (at_time B time)) ids

-- an entry's time is the time of the books after it
pub executed_time : (B : Books) (body : Body) (time : ℕ) → (executed B body time).time ≡ time
executed_time B (CreateAccounts events) time = time_after_accounts B events time
executed_time B (CreateTransfers events) time = time_after_transfers B events time
executed_time B body time = refl
