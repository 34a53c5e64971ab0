-- A file represents one history, and its machine is the one that served.
use Rattle.std.proofs.Common.{arith, ℕ, ◌≡◌, Bool, cond, fold, List, [], ◌∷◌, ◌++◌, map, refl, sym, ap, ◌∙◌, subst}
use Rattle.std.proofs.lemmas.Grind.{common_steps}
use Rattle.tb_records.specs.declared.limits.Profile.{Profile}
use Rattle.tb_file_journal.specs.Contents.{content_records as records_in}
use Rattle.tb_machine.specs.declared.entries.Entry.{Entry}
use Rattle.tb_machine.specs.Histories.{State, start, step}
use Rattle.tb_machine.specs.Scripts.{Pair, entry_of, is_entered, after_pair}
use Rattle.tb_machine.specs.Dumps.{dumped}
use Rattle.tb_machine.specs.Recording.{IsRecord}
use Rattle.tb_machine.proofs.JournalRecords.{one_record}
use Rattle.tb_machine.proofs.Legal.{fold_append}
use Rattle.tb_file.specs.Keeping.{history_state, head_record, AreRecorded}
use Rattle.tb_file.specs.Rounds.{state_from, entries_from, reply_bytes_from}
use Rattle.tb_file.specs.Again.{FileHasOneHistory, OneLedger, GoesOnAfter}
use Rattle.tb_file.proofs.Pairs.{replies_join}

pub one_head : (p q : Profile) (m n : ℕ) → head_record p m ≡ head_record q n → (p ≡ q) × (m ≡ n)
one_head p q m n is = grind (arith, common_steps)

one_row : (es fs : List Entry) → AreRecorded es → AreRecorded fs → map dumped es ≡ map dumped fs → es ≡ fs
one_row [] [] mine yours is = refl
one_row [] (f ∷ fs) mine yours is = absurd (cc)
one_row (e ∷ es) [] mine yours is = absurd (cc)
one_row (e ∷ es) (f ∷ fs) mine yours is =
    let heads : dumped e ≡ dumped f = cc (is) in
    let first = one_record (dumped e) e f mine.0 (subst (λ (b : List ℕ). IsRecord b f) (sym heads) yours.0) in
    let rest = one_row es fs mine.1 yours.1 (cc (is)) in
    λ i. first i ∷ rest i

pub one_history : FileHasOneHistory
one_history file h k mine yours =
    let records = ap records_in (sym mine.reads ∙ yours.reads) in
    let head = one_head h.profile k.profile h.clients_max k.clients_max (cc (records)) in
    let entries = one_row h.entries k.entries mine.keepable.recorded_are yours.keepable.recorded_are (cc (records)) in
    λ i. record { profile = head.0 i; clients_max = head.1 i; entries = entries i }

fold_entered : (S : State) (ps : List Pair) → fold step S (entries_from S ps) ≡ state_from S ps
fold_entered S [] = refl
fold_entered S (p ∷ ps) = by (is_entered S p) (fold_entered (after_pair S p) ps)
  where
    by : (b : Bool) → fold step (cond b (step S (entry_of S p)) S) (entries_from (after_pair S p) ps) ≡ state_from (after_pair S p) ps
        → fold step S (cond b (entry_of S p ∷ []) [] ++ entries_from (after_pair S p) ps) ≡ state_from (after_pair S p) ps
    by b is = grind (arith, common_steps)

pub one_ledger : OneLedger
one_ledger h ps = fold_append step (start h.profile h.clients_max) h.entries (entries_from (history_state h) ps) ∙ fold_entered (history_state h) ps

pub goes_on_after : GoesOnAfter
goes_on_after h ps qs = replies_join (history_state h) ps qs ∙ ap (λ (S : State). reply_bytes_from (history_state h) ps ++ reply_bytes_from S qs) (sym (one_ledger h ps))
