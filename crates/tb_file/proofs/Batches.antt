-- How long the batch of some pairs is.
use Rattle.std.proofs.Common.{arith, ◌≡◌, ◌⊎◌, ℕ, ◌+◌, ◌<◌, ◌≤◌, ◌^◌, leb, Bool, true, false, cond, List, [], ◌∷◌, ◌++◌, length, map, Result, Ok, Err, OnOk, inl, inr, refl, ap, ◌∙◌, length-append}
use Rattle.std.proofs.lemmas.Bool.Decides.{leb_tells}
use Rattle.tb_file_journal.specs.declared.faults.JournalFault.{JournalFault}
use Rattle.tb_records.specs.declared.bodies.Body.{Body}
use Rattle.tb_records.specs.Messages.{Message, operation, item_count}
use Rattle.tb_records.proofs.Sizes.{length-le_bytes}
use Rattle.tb_records.specs.Frames.{header_bytes, body_bytes}
use Rattle.tb_records.specs.DumpBytes.{numbers_bytes}
use Rattle.tb_records.proofs.StreamAnswers.{length-body}
use Rattle.tb_file_journal.specs.Contents.{at_rest, blocks_length}
use Rattle.tb_file_journal.proofs.Committing.{blocks_length-append}
use Rattle.tb_file_journal.proofs.Waiting.{length-at_rest}
use Rattle.tb_machine.specs.declared.entries.Entry.{Entry}
use Rattle.tb_machine.specs.Dumps.{dumped}
use Rattle.tb_machine.specs.Histories.{State}
use Rattle.tb_machine.specs.Recording.{IsRecord}
use Rattle.tb_machine.specs.Scripts.{Pair, entry_of, is_entered}
use Rattle.tb_machine.proofs.Lawful.{lawful_numbers}
use Rattle.tb_file.specs.RecordSteps.{IsBatchWith}
use Rattle.tb_file.specs.Rounds.{records_from, IsServed, block_bytes_max}

-- a body has 8,190 items at most, of 128 bytes at most
body_short : (body : Body) → item_count body ≤ 8190 → length (body_bytes body) ≤ 1048320
body_short body few = let len = length-body body in grind arith

header_long : (client session request operation len : ℕ) → length (header_bytes client session request operation len) ≡ 48
unfolding header_bytes
header_long client session request operation len = simp (length-append, length-le_bytes)

numbers_long : (first second : ℕ) → length (numbers_bytes first second) ≡ 16
unfolding numbers_bytes
numbers_long first second = simp (length-append, length-le_bytes)

pub entry_short : (e : Entry) → IsRecord (dumped e) e → length (dumped e) ≤ 1048384
entry_short e is =
    let r : Message = e.request in
    let header = header_bytes r.client r.session r.request (operation r.body) (length (body_bytes r.body)) in
    omega (
      arith,
      length-append (numbers_bytes e.commit e.time) (header ++ body_bytes r.body),
      length-append header (body_bytes r.body),
      numbers_long e.commit e.time,
      header_long r.client r.session r.request (operation r.body) (length (body_bytes r.body)),
      body_short r.body (lawful_numbers r is.request.lawful).few,
    )

-- the block of a pair that is served, if it has one
pub block_short : (S : State) (p : Pair) → IsServed S p → blocks_length (records_from S (p ∷ [])) ≤ block_bytes_max
block_short S p served = by (is_entered S p) served.recorded_is
  where
    by : (b : Bool) → (b ≡ true → IsRecord (dumped (entry_of S p)) (entry_of S p)) → blocks_length (map dumped (cond b (entry_of S p ∷ []) [] ++ [])) ≤ block_bytes_max
    by true is = omega (arith, entry_short (entry_of S p) (is refl))
    by false is = omega arith

-- more records after others
pub grows : (xs ys : List (List ℕ)) → length (at_rest (xs ++ ys)) ≡ length (at_rest xs) + blocks_length ys
grows xs ys = omega (arith, length-at_rest (xs ++ ys), length-at_rest xs, blocks_length-append xs ys)

-- a batch has its latch at least
pub some_byte : (xs : List (List ℕ)) → 4 ≤ length (at_rest xs)
some_byte xs = omega (arith, length-at_rest xs)

-- a record after a batch that has space for one more entry; a longer one is alone
batch_after : (mid new : List (List ℕ)) (bytes : List ℕ) → length (at_rest mid) + block_bytes_max ≤ 2 ^ 22 → (block_bytes_max < length bytes + 11 → mid ≡ []) → new ≡ mid ++ bytes ∷ [] → IsBatchWith bytes new
batch_after mid new bytes room alone is = by (leb_tells (length bytes + 11) block_bytes_max)
  where
    by : ((leb (length bytes + 11) block_bytes_max ≡ true) × (length bytes + 11 ≤ block_bytes_max)) ⊎ ((leb (length bytes + 11) block_bytes_max ≡ false) × (block_bytes_max < length bytes + 11)) → IsBatchWith bytes new
    by (inl (t, few)) = inl (omega (arith, ap (λ (l : List (List ℕ)). length (at_rest l)) is, grows mid (bytes ∷ []), room, few))
    by (inr (t, many)) = inr (is ∙ ap (λ (l : List (List ℕ)). l ++ bytes ∷ []) (alone many))

pub batch_with : (result : Result (Unit {0}) JournalFault) (mid new : List (List ℕ)) (bytes : List ℕ) → length (at_rest mid) + block_bytes_max ≤ 2 ^ 22 → (block_bytes_max < length bytes + 11 → mid ≡ []) → OnOk result (new ≡ mid ++ bytes ∷ [])
    → OnOk result (IsBatchWith bytes new)
batch_with (Ok done) mid new bytes room alone is = batch_after mid new bytes room alone is
batch_with (Err fault) mid new bytes room alone is = tt
