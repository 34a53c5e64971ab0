-- What is read of a file and sent as a dump.
use Rattle.std.proofs.Common.{rules, arith, ℕ, zero, suc, ◌≡◌, ◌+◌, ◌-◌, inr, true, false, List, [], ◌∷◌, ◌++◌, length, drop, Result, Ok, Err, refl, sym, ap, ◌∙◌, subst, append_assoc, append-nil, length-append}
use Rattle.std.proofs.lemmas.Grind.{common_steps}
use Rattle.tb_records.specs.declared.faults.FrameFault.{FrameFault}
use Rattle.tb_records.specs.DumpBytes.{head_bytes}
use Rattle.tb_records.specs.Transport.{Output, Sent, IsSent}
use Rattle.tb_records.proofs.Sendings.{sent_rest}
use Rattle.tb_file_journal.specs.Contents.{Records, content_records}
use Rattle.tb_file_journal.specs.Scans.{ScanState, BeginsWith, HasRead}
use Rattle.tb_machine.proofs.Running.{sends_none}
use Rattle.tb_file.specs.declared.faults.DumpFault.{DumpFault}
use Rattle.tb_file.specs.declared.faults.DumpFault.TheVariants as dump
use Rattle.tb_file.specs.declared.faults.StartFault.{StartFault}
use Rattle.tb_file.specs.declared.faults.StartFault.TheVariants as start
use Rattle.tb_file.specs.declared.recovering.Rules.{Rules}
use Rattle.tb_file.specs.Reading.{RulesIn, RulesAnswer, joined_bytes, behind_head, dump_with, Dumps}
use Rattle.tb_file.specs.private.Entering.{FindsHeadRules}
use Rattle.tb_file.specs.Following.{entries_above, EntriesOnce}
use Rattle.tb_file.specs.private.Sending.{SendsNext, SendsAll}

pub finds_rules : (result : Result Rules StartFault) (file head : List ℕ) (scan : ScanState) → HasRead (head ∷ []) file scan → RulesIn result head → FindsHeadRules result scan file
finds_rules (Ok rules) file head scan at found = subst (λ (h : List ℕ). HasRead (h ∷ []) file scan) found at
finds_rules (Err start.Head) file head scan at none = inr (head, [], at.begins, none)
finds_rules (Err (start.Journal fault)) file head scan at none = absurd none
finds_rules (Err start.OtherRules) file head scan at none = absurd none
finds_rules (Err (start.Record place fault)) file head scan at none = absurd none
finds_rules (Err (start.Entry fault)) file head scan at none = absurd none
finds_rules (Err start.NoMemory) file head scan at none = absurd none
finds_rules (Err (start.TornTooLong place bytes)) file head scan at none = absurd none

pub rules_found : (result : Result Rules StartFault) (file : List ℕ) (scan : ScanState) → FindsHeadRules result scan file → RulesAnswer result file
rules_found result file scan at = grind (arith, common_steps)

-- records that are sent

pub joined_join : (xs ys : List (List ℕ)) → joined_bytes (xs ++ ys) ≡ joined_bytes xs ++ joined_bytes ys
joined_join [] ys = refl
joined_join (x ∷ xs) ys = ap (λ (l : List ℕ). x ++ l) (joined_join xs ys) ∙ sym (append_assoc x (joined_bytes xs) (joined_bytes ys))

pub drop_none : (n : ℕ) → drop {A = List ℕ} n [] ≡ []
drop_none zero = refl
drop_none (suc n) = refl

drop_join : (n : ℕ) (xs ys : List (List ℕ)) → drop n (xs ++ ys) ≡ drop n xs ++ drop (n - length xs) ys
drop_join n [] ys = let e : n ≡ n - 0 = omega arith in ap (λ (k : ℕ). drop k ys) e ∙ ap (λ (l : List (List ℕ)). l ++ drop (n - 0) ys) (sym (drop_none n))
drop_join zero (x ∷ xs) ys = let e : 0 ≡ 0 - suc (length xs) = omega arith in ap (λ (k : ℕ). (x ∷ xs) ++ drop k ys) e
drop_join (suc n) (x ∷ xs) ys = let e : n - length xs ≡ suc n - suc (length xs) = omega arith in drop_join n xs ys ∙ ap (λ (k : ℕ). drop n xs ++ drop k ys) e

-- what is written of some records, and of those after them
pub entries_once : EntriesOnce
entries_once after read more later =
    let n : ℕ = after + 1 - length read in
    let e : after + 1 - length (read ++ more) ≡ n - length more = omega (arith, length-append read more) in
    ap (λ (k : ℕ). joined_bytes (drop n more) ++ joined_bytes (drop k later)) e
    ∙ sym (joined_join (drop n more) (drop (n - length more) later))
    ∙ ap joined_bytes (sym (drop_join n more later))

-- one record: it is passed over, or sent

-- one more record was sent, or a prefix of it
send_one : (after : ℕ) (read front : List (List ℕ)) (bytes : List ℕ) (old mid new : Output) → Sent (entries_above after read front) old mid → (result : Result (Unit {0}) FrameFault)
    → IsSent result (entries_above after (read ++ front) (bytes ∷ [])) mid new → IsSent result (entries_above after read (front ++ bytes ∷ [])) old new
send_one after read front bytes old mid new sent result more =
    sent_rest (entries_above after read front) (entries_above after (read ++ front) (bytes ∷ [])) old mid new (entries_above after read (front ++ bytes ∷ []))
    (entries_once after read front (bytes ∷ [])) sent result more

-- so far these were sent
abbrev pub Sending : ℕ → List (List ℕ) → List ℕ → ScanState → Output → Output → Type 0
Sending after read file scan old new = (records : List (List ℕ)) × HasRead (read ++ records) file scan × Sent (entries_above after read records) old new

pub sending_none : (after : ℕ) (read : List (List ℕ)) (file : List ℕ) (scan : ScanState) (old : Output) → HasRead read file scan → Sending after read file scan old old
sending_none after read file scan old has = (
  [],
  subst (λ (r : List (List ℕ)). HasRead r file scan) (sym (append-nil read)) has,
  subst (λ (l : List ℕ). Sent l old old) (sym (ap joined_bytes (drop_none (after + 1 - length read)))) (sends_none old),
)

module _ (after : ℕ) (read records : List (List ℕ)) (file : List ℕ) (scan : ScanState) (old mid new : Output) (sent : Sent (entries_above after read records) old mid) where
  pub sending_more : SendsNext (Ok true) after (read ++ records) file scan mid new → Sending after read file scan old new
  sending_more (bytes, at, one) = (
    records ++ bytes ∷ [],
    subst (λ (r : List (List ℕ)). HasRead r file scan) (append_assoc read records (bytes ∷ [])) at,
    send_one after read records bytes old mid new sent (Ok tt) one,
  )

  pub sending_done : SendsNext (Ok false) after (read ++ records) file scan mid new → SendsAll (Ok tt) after read file scan old new
  sending_done (reads, at, silent) = (records, reads, at, subst (λ (o : Output). Sent (entries_above after read records) old o) (sym silent) sent)

  pub sending_not : (fault : DumpFault) → SendsNext (Err fault) after (read ++ records) file scan mid new → SendsAll (Err fault) after read file scan old new
  sending_not (dump.Journal f) (stops, begins, silent) = (stops, (records, begins, subst (λ (o : Output). Sent (entries_above after read records) old o) (sym silent) sent))
  sending_not (dump.Writer f) (is, (bytes, begins, cut)) = (
    is,
    (
      records ++ bytes ∷ [],
      subst (λ (r : List (List ℕ)). BeginsWith r file) (append_assoc read records (bytes ∷ [])) begins,
      (send_one after read records bytes old mid new sent (Err f) (is, cut)).1,
    ),
  )

-- how many they are

-- a head and records after it

module _ (rules : Rules) (file : List ℕ) (old mid new : Output) where
  abbrev head : List ℕ
  head = head_bytes rules.profile rules.clients_max

  of_all : (records : List (List ℕ)) → entries_above 0 [] records ≡ joined_bytes (behind_head records)
  of_all [] = refl
  of_all (r ∷ records) = refl

  sends_rest : (result : Result (Unit {0}) FrameFault) (records : List (List ℕ)) → Sent head old mid → IsSent result (entries_above 0 [] records) mid new → IsSent result (dump_with rules records) old new
  sends_rest result records sent more =
      sent_rest head (entries_above 0 [] records) old mid new (dump_with rules records) (ap (λ (l : List ℕ). head ++ l) (of_all records)) sent result more

  pub dumps_behind : (result : Result (Unit {0}) DumpFault) (scan : ScanState) → Sent head old mid → SendsAll result 0 [] file scan mid new → Dumps result rules file old new
  dumps_behind (Ok done) scan sent (records, reads, at, more) =
      let found = ap content_records reads in (
        reads ∙ ap Records (sym found),
        subst (λ (r : List (List ℕ)). Sent (dump_with rules r) old new) (sym found) (sends_rest (Ok tt) records sent more),
      )
  dumps_behind (Err (dump.Journal f)) scan sent (stops, (records, begins, more)) = (stops, inr (records, begins, sends_rest (Ok tt) records sent more))
  dumps_behind (Err (dump.Writer f)) scan sent (is, (records, begins, cut)) = (is, (records, begins, (sends_rest (Err f) records sent (is, cut)).1))
