-- A batch is written after the closed latch, which is then opened.
use Rattle.std.proofs.lemmas.Grind.{common_steps}
use Rattle.std.proofs.Common.{◌≡◌, inl, ℕ, ◌+◌, ◌≤◌, List, [], ◌∷◌, ◌++◌, length, take, drop, sym, ◌∙◌, ap, subst, arith, Result, Ok, Err, OnOk}
use Rattle.std.specs.List.{AllByRecursion}
use Rattle.tb_file_journal.specs.declared.faults.JournalFault.{JournalFault}
use Rattle.tb_file_journal.specs.Device.{Disk, IsSettled, Torn, FailsNone, HasCause, overwritten}
use Rattle.tb_file_journal.specs.Contents.{Fits, latch_closed, latch_open, at_rest, Records, contents, content_records, recorded, records_end}
use Rattle.tb_file_journal.specs.Steps.{IsWholeFile, IsBeforeOrAfter, Overwrites, Publishes}
use Rattle.tb_file_journal.proofs.Moments.{then, weaker}
use Rattle.tb_file_journal.proofs.Causes.{has_cause_since}
use Rattle.tb_file_journal.proofs.Steps.{length_file, behind_torn, written_behind, reads_new, latch_torn, opened, closed_new}

-- a file that reads as these records, with its closed latch, is whole
pub wholly : (disk : Disk) (records : List (List ℕ)) → contents disk.seen ≡ Records records
    → disk.seen ≡ take (records_end records) disk.seen ++ latch_closed
    → IsWholeFile disk × (recorded disk.seen ≡ records)
wholly disk records reads closed =
    let same : recorded disk.seen ≡ records = ap content_records reads in (
      record {
        reads = reads ∙ ap Records (sym same);
        closed = subst (λ (rs : List (List ℕ)). disk.seen ≡ take (records_end rs) disk.seen ++ latch_closed) (sym same) closed;
      },
      same,
    )

-- there is space for each write

pub room : (before : Disk) → IsWholeFile before → (end : ℕ) → end ≡ records_end (recorded before.seen)
    → end + 4 ≤ length before.seen
room before rest end ends = omega (arith, ends, length_file before.seen (recorded before.seen) rest.reads rest.closed)

-- what holds of every Ok holds of a result that is Ok
pub on_ok : (result : Result (Unit {0}) JournalFault) (F : Type 0) → result ≡ Ok tt → OnOk result F → F
on_ok result F is so = subst (λ (r : Result (Unit {0}) JournalFault). OnOk r F) is so

pub opening : (batch : List ℕ) (records : List (List ℕ)) → batch ≡ at_rest records → 1 ≤ length records
    → latch_open ++ drop 4 batch ≡ at_rest records
opening batch [] is some = absurd (omega arith)
opening batch (r ∷ records) is some = ap (λ (l : List ℕ). latch_open ++ drop 4 l) is

module _ (before : Disk) (rest : IsWholeFile before) (batch tail : List ℕ) (records : List (List ℕ)) (fits : AllByRecursion Fits records) (spells : batch ≡ at_rest records) (some : 1 ≤ length records) (cut : tail ≡ drop 4 batch) (end : ℕ) (ends : end ≡ records_end (recorded before.seen)) where
  abbrev olds : List (List ℕ)
  olds = recorded before.seen

  opens : latch_open ++ tail ≡ at_rest records
  opens = ap (λ (l : List ℕ). latch_open ++ l) cut ∙ opening batch records spells some

  behind : (c : List ℕ) → Torn (end + 4) (length tail) before.seen c → IsBeforeOrAfter olds records c
  behind c torn = inl (behind_torn before.seen olds rest.reads rest.closed (length tail) c (subst (λ (e : ℕ). Torn (e + 4) (length tail) before.seen c) ends torn))

  pub stage_failed : (mid : Disk) (result : Result (Unit {0}) JournalFault) (f : JournalFault) → result ≡ Err f
      → Overwrites (end + 4) tail result before mid → Publishes records (Err f) before mid
  stage_failed mid result f is stage = record {
    ok = tt;
    settled = λ settled. tt;
    any_moment = λ settled. weaker before mid (Torn (end + 4) (length tail) before.seen) (IsBeforeOrAfter olds records) behind (stage.any_moment settled);
    cause = subst (λ (r : Result (Unit {0}) JournalFault). HasCause r before mid) is stage.cause;
  }

  module _ (mid : Disk) (result : Result (Unit {0}) JournalFault) (is : result ≡ Ok tt) (stage : Overwrites (end + 4) tail result before mid) where
    done : mid.seen ≡ overwritten before.seen (end + 4) tail
    done = on_ok result (mid.seen ≡ overwritten before.seen (end + 4) tail) is stage.ok

    mid_settled : IsSettled before → IsSettled mid
    mid_settled settled = on_ok result (IsSettled mid) is (stage.settled settled)

    staged : mid.seen ≡ take (records_end olds) before.seen ++ (latch_closed ++ tail)
    staged = written_behind before.seen olds rest.reads rest.closed tail mid.seen (done ∙ ap (λ (e : ℕ). overwritten before.seen (e + 4) tail) ends)

    latch : (c : List ℕ) → Torn end 4 mid.seen c → IsBeforeOrAfter olds records c
    latch c torn = grind (arith, common_steps, latch_torn, opens, staged)

    pub latch_done : (after : Disk) (second : Result (Unit {0}) JournalFault)
        → Overwrites end latch_open second mid after → Publishes records second before after
    latch_done after second opened_latch = record {
      ok = finished second opened_latch.ok;
      settled = λ settled. opened_latch.settled (mid_settled settled);
      any_moment = λ settled. then before mid after (IsBeforeOrAfter olds records)
          (weaker before mid (Torn (end + 4) (length tail) before.seen) (IsBeforeOrAfter olds records) behind (stage.any_moment settled))
          (weaker mid after (Torn end 4 mid.seen) (IsBeforeOrAfter olds records) latch (opened_latch.any_moment (mid_settled settled)));
      cause = has_cause_since before mid after second (on_ok result (FailsNone before mid) is stage.cause.ok) opened_latch.cause;
    }
      where
        finished : (r : Result (Unit {0}) JournalFault)
            → OnOk r (after.seen ≡ overwritten mid.seen end latch_open)
            → OnOk r (IsWholeFile after × (recorded after.seen ≡ olds ++ records))
        finished (Err fault) shown = tt
        finished (Ok x) shown =
            let is_open : after.seen ≡ take (records_end olds) before.seen ++ (latch_open ++ tail) =
            opened before.seen olds rest.reads rest.closed tail records opens fits after.seen (shown ∙ ap (λ (f : List ℕ). overwritten f end latch_open) staged ∙ ap (λ (e : ℕ). overwritten (take (records_end olds) before.seen ++ (latch_closed ++ tail)) e latch_open) ends) in
            wholly after (olds ++ records) (ap contents is_open ∙ reads_new before.seen olds rest.reads rest.closed tail records opens fits)
            (subst (λ (f : List ℕ). f ≡ take (records_end (olds ++ records)) f ++ latch_closed) (sym is_open) (closed_new before.seen olds rest.reads rest.closed tail records opens fits))
