-- Entries that lead from one state to another: no entry, and one more.
use Rattle.std.proofs.Common.{arith, ℕ, ◌≡◌, ◌⊎◌, List, [], ◌∷◌, ◌++◌, map, fold, Err, refl, sym, ap, ◌∙◌, subst, IsTrue}
use Rattle.std.proofs.lemmas.Grind.{common_steps}
use Rattle.tb_records.specs.declared.limits.Profile.{Profile}
use Rattle.tb_machine.specs.declared.entries.Entry.{Entry}
use Rattle.tb_machine.specs.Histories.{State, step, fits, LegalFrom}
use Rattle.tb_machine.specs.Dumps.{dumped}
use Rattle.tb_machine.specs.Recording.{IsRecord}
use Rattle.tb_file.specs.Keeping.{AreRecorded}
use Rattle.tb_file.specs.declared.faults.StartFault.{StartFault}
use Rattle.tb_file.specs.Recovering.{RecordsLead, HeadRecordAnswers, StopsBehindHead, StopsFile}

pub leads_none : (S : State) → RecordsLead S [] S
leads_none S = record { entries = []; legal = tt; state = refl; recorded_are = tt; spelled = refl }

pub fold_snoc : (S : State) (h : List Entry) (e : Entry) → fold step S (h ++ e ∷ []) ≡ step (fold step S h) e
fold_snoc S [] e = refl
fold_snoc S (x ∷ xs) e = fold_snoc (step S x) xs e

legal_snoc : (S : State) (h : List Entry) (e : Entry) → LegalFrom S h → IsTrue (fits (fold step S h) e) → LegalFrom S (h ++ e ∷ [])
legal_snoc S [] e legal next = (next, tt)
legal_snoc S (x ∷ xs) e legal next = (legal.0, legal_snoc (step S x) xs e legal.1 next)

pub recorded_snoc : (h : List Entry) (e : Entry) → AreRecorded h → IsRecord (dumped e) e → AreRecorded (h ++ e ∷ [])
recorded_snoc [] e are is = (is, tt)
recorded_snoc (x ∷ xs) e are is = (are.0, recorded_snoc xs e are.1 is)

pub dumped_snoc : (h : List Entry) (e : Entry) → map dumped h ++ dumped e ∷ [] ≡ map dumped (h ++ e ∷ [])
dumped_snoc [] e = refl
dumped_snoc (x ∷ xs) e = ap (λ (r : List (List ℕ)). dumped x ∷ r) (dumped_snoc xs e)

pub leads_more : (S T U : State) (front : List (List ℕ)) (bytes : List ℕ) (e : Entry)
    → RecordsLead S front T → IsRecord bytes e → IsTrue (fits T e) → U ≡ step T e → RecordsLead S (front ++ bytes ∷ []) U
leads_more S T U front bytes e leads is next to = record {
  entries = leads.entries ++ e ∷ [];
  legal = legal_snoc S leads.entries e leads.legal (subst (λ (V : State). IsTrue (fits V e)) leads.state next);
  state = to ∙ ap (λ (V : State). step V e) leads.state ∙ sym (fold_snoc S leads.entries e);
  recorded_are = recorded_snoc leads.entries e leads.recorded_are (subst (λ (b : List ℕ). IsRecord b e) is.bytes_are is);
  spelled = ap (λ (f : List (List ℕ)). f ++ bytes ∷ []) leads.spelled ∙ ap (λ (b : List ℕ). map dumped leads.entries ++ b ∷ []) is.bytes_are ∙ dumped_snoc leads.entries e;
}

-- a file of which a record is refused
pub stops_file : (fault : StartFault) (profile : Profile) (clients_max : ℕ) (records : List (List ℕ)) (head : List ℕ) (rest : List (List ℕ))
    → records ≡ head ∷ rest
    → (HeadRecordAnswers (Err fault) head profile clients_max ⊎ StopsBehindHead fault profile clients_max head rest)
    → StopsFile fault profile clients_max records
stops_file fault profile clients_max records head rest is why = grind (arith, common_steps)
