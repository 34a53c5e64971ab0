-- The records of a history that may be kept are not refused.
use Rattle.std.proofs.Common.{arith, ℕ, ◌≡◌, ◌⊎◌, ◌+◌, ◌<◌, ◌≤◌, ◌^◌, inl, inr, Bool, true, cond, not, ◌==◌, ◌&&◌, fold, List, [], ◌∷◌, ◌++◌, map, Some, None, Err, refl, sym, ap, ◌∙◌, subst}
use Rattle.std.proofs.lemmas.Grind.{common_steps}
use Rattle.std.specs.Prelude.{nat_le}
use Rattle.tb_records.specs.declared.faults.FrameFault.{FrameFault}
use Rattle.tb_records.specs.declared.limits.TheConstants.{LAST_MOMENT}
use Rattle.tb_file_journal.specs.declared.opening.OpenFault.TheVariants as open_faults
use Rattle.tb_file_journal.specs.declared.reading.Refusal.{Refusal}
use Rattle.tb_file_journal.specs.Device.{Disk}
use Rattle.tb_file_journal.specs.Contents.{Records}
use Rattle.tb_file_journal.specs.Opening.{refused_as}
use Rattle.tb_sessions.specs.Judged.{class_of}
use Rattle.tb_machine.specs.declared.entries.Entry.{Entry}
use Rattle.tb_machine.specs.declared.restoring.Unfit.{Unfit}
use Rattle.tb_machine.specs.declared.restoring.Unfit.TheVariants as unfit
use Rattle.tb_machine.specs.Histories.{State, start as start_state, step, fits, LegalFrom, least_time, is_lawful, is_new}
use Rattle.tb_machine.specs.Dumps.{dumped}
use Rattle.tb_machine.specs.Recording.{IsRecord}
use Rattle.tb_machine.specs.Restoring.{cause_of}
use Rattle.tb_machine.proofs.JournalRecords.{one_record}
use Rattle.tb_file.specs.declared.faults.StartFault.{StartFault}
use Rattle.tb_file.specs.declared.faults.StartFault.TheVariants as start
use Rattle.tb_file.specs.Keeping.{History, head_record, records_of, IsKeepable, AreRecorded, IsLedger}
use Rattle.tb_file.specs.Recovering.{IsNoRecord, FailsTest, StopsAt, AppliesRecords, HeadRecordAnswers, StopsBehindHead, StopsBeginning, StopsOpening, torn_bytes, IsNotOfFile, OnlyMemory, FileOnlyMemory}
use Rattle.tb_file.proofs.OneHistory.{one_head}
use Rattle.tb_file.proofs.WholeFiles.{whole_stops}

-- an entry that may come next fails no test
no_cause : (a b c d e : Bool) → ((((a && b) && c) && d) && e) ≡ true → cond (not a) (Some unfit.Commit) (cond (not (b && c)) (Some unfit.Time) (cond (not e) (Some unfit.NotNew) None)) ≡ None
no_cause a b c d e is = grind (arith, common_steps)

fits_none : (S : State) (e : Entry) → fits S e ≡ true → cause_of S e ≡ None
fits_none S e is = no_cause (e.commit == S.commit + 1) (nat_le (least_time S e.request) e.time) (nat_le e.time LAST_MOMENT) (is_lawful e.request) (is_new (class_of S.rows e.request)) is

fails_not : (cause : Unfit) (S : State) (e : Entry) → cause_of S e ≡ None → FailsTest cause S e → ⊥
fails_not cause S e none is = grind (arith, common_steps)

pub no_record : (fault : FrameFault) (bytes : List ℕ) (e : Entry) → IsRecord bytes e → IsNoRecord fault bytes → ⊥
no_record fault bytes e is none = grind (arith, common_steps)

stops_not : (fault : StartFault) (S : State) (e : Entry) → IsRecord (dumped e) e → fits S e ≡ true → StopsAt fault S (dumped e) → fault ≡ start.NoMemory
stops_not (start.Record place f) S e is next stops = absurd (no_record f (dumped e) e is stops.1)
stops_not (start.Entry f) S e is next stops =
    let other = stops.1.0 in
    let same : e ≡ other = one_record (dumped e) e other is stops.1.1 in
    absurd (fails_not f.cause S other (subst (λ (x : Entry). cause_of S x ≡ None) same (fits_none S e next)) stops.1.2)
stops_not start.NoMemory S e is next stops = refl
stops_not start.Head S e is next stops = absurd stops
stops_not start.OtherRules S e is next stops = absurd stops
stops_not (start.Journal f) S e is next stops = absurd stops
stops_not (start.TornTooLong at bytes) S e is next stops = absurd stops

-- the entries before the record that is refused, one by one
along : (fault : StartFault) (S T : State) (front : List (List ℕ)) (bytes : List ℕ) (rest : List (List ℕ)) (es before : List Entry)
    → LegalFrom S es → AreRecorded es → map dumped es ≡ front ++ bytes ∷ rest → AreRecorded before → front ≡ map dumped before → T ≡ fold step S before → StopsAt fault T bytes
    → fault ≡ start.NoMemory
along fault S T front bytes rest [] [] legal are is also spelled at stops = grind (arith, common_steps)
along fault S T front bytes rest (x ∷ xs) [] legal are is also spelled at stops =
    grind (arith, common_steps, stops_not)
along fault S T front bytes rest [] (b ∷ before) legal are is also spelled at stops = grind (arith, common_steps)
along fault S T front bytes rest (x ∷ xs) (b ∷ before) legal are is also spelled at stops =
    let all : dumped x ∷ map dumped xs ≡ dumped b ∷ (map dumped before ++ bytes ∷ rest) = is ∙ ap (λ (f : List (List ℕ)). f ++ bytes ∷ rest) spelled in
    let head : dumped x ≡ dumped b = cc (all) in
    let tail : map dumped xs ≡ map dumped before ++ bytes ∷ rest = cc (all) in
    let same : x ≡ b = one_record (dumped x) x b are.0 (subst (λ (y : List ℕ). IsRecord y b) (sym head) also.0) in
    along fault (step S x) T (map dumped before) bytes rest xs before legal.1 are.1 tail also.1 refl (at ∙ ap (λ (y : Entry). fold step (step S y) before) (sym same)) stops

restored_not : (fault : StartFault) (S T : State) (es : List Entry) → LegalFrom S es → AreRecorded es → AppliesRecords (Err fault) S (map dumped es) T → fault ≡ start.NoMemory
restored_not fault S T es legal are (front, bytes, rest, is, leads, stops) =
    along fault S T front bytes rest es leads.entries legal are is leads.recorded_are leads.spelled leads.state stops

head_not : (fault : StartFault) (h : History) → IsKeepable h → HeadRecordAnswers (Err fault) (head_record h.profile h.clients_max) h.profile h.clients_max → fault ≡ start.NoMemory
head_not fault h keepable none = grind (arith, common_steps, one_head)

stopped_not : (fault : StartFault) (h : History) (head : List ℕ) (rest : List (List ℕ)) → IsKeepable h → records_of h ≡ head ∷ rest
    → (HeadRecordAnswers (Err fault) head h.profile h.clients_max ⊎ StopsBehindHead fault h.profile h.clients_max head rest) → fault ≡ start.NoMemory
stopped_not fault h head rest keepable is (inl why) =
    let first : head ≡ head_record h.profile h.clients_max = sym (cc (is)) in
    head_not fault h keepable (subst (λ (b : List ℕ). HeadRecordAnswers (Err fault) b h.profile h.clients_max) first why)
stopped_not fault h head rest keepable is (inr (own, (T, why))) =
    let others : rest ≡ map dumped h.entries = sym (cc (is)) in
    restored_not fault (start_state h.profile h.clients_max) T h.entries keepable.legal keepable.recorded_are (subst (λ (r : List (List ℕ)). AppliesRecords (Err fault) (start_state h.profile h.clients_max) r T) others why)

pub only_memory : OnlyMemory
only_memory (start.Journal f) h keepable (head, rest, is, why) = stopped_not (start.Journal f) h head rest keepable is why
only_memory start.Head h keepable (head, rest, is, why) = stopped_not start.Head h head rest keepable is why
only_memory start.OtherRules h keepable (head, rest, is, why) = stopped_not start.OtherRules h head rest keepable is why
only_memory (start.Record place f) h keepable (head, rest, is, why) = stopped_not (start.Record place f) h head rest keepable is why
only_memory (start.Entry f) h keepable (head, rest, is, why) = stopped_not (start.Entry f) h head rest keepable is why
only_memory start.NoMemory h keepable stops = refl
only_memory (start.TornTooLong at bytes) h keepable (head, rest, is, why) = stopped_not (start.TornTooLong at bytes) h head rest keepable is why

pub refused_not : (why : Refusal) (records : List (List ℕ)) → Records records ≡ refused_as why → ⊥
refused_not why records is = grind (arith, common_steps)

pub named_outside : (fault : StartFault) → fault ≡ start.NoMemory → IsNotOfFile fault
named_outside fault is = subst IsNotOfFile (sym is) tt

-- what stops records that a file of such a history begins with stops all of them
stops_beginning : (fault : StartFault) (h : History) (file : List ℕ) → IsLedger h file → StopsBeginning fault h.profile h.clients_max file → IsNotOfFile fault
stops_beginning fault h file is early =
    named_outside fault (only_memory fault h is.keepable (whole_stops fault h.profile h.clients_max file early.records (records_of h) is.reads early.begins early.stops))

named : (fault : StartFault) (h : History) (file : List ℕ) → IsLedger h file → torn_bytes file ≤ 2 ^ 22 → StopsOpening fault h.profile h.clients_max file → IsNotOfFile fault
named (start.Journal (open_faults.Refused why)) h file is few stops = absurd (refused_not why (records_of h) (sym is.reads ∙ stops))
named (start.Journal (open_faults.Device f)) h file is few stops = tt
named start.Head h file is few stops = stops_beginning start.Head h file is stops
named start.OtherRules h file is few stops = stops_beginning start.OtherRules h file is stops
named (start.Record place f) h file is few stops = stops_beginning (start.Record place f) h file is stops
named (start.Entry f) h file is few stops = stops_beginning (start.Entry f) h file is stops
named start.NoMemory h file is few stops = tt
named (start.TornTooLong at bytes) h file is few stops = absurd (too_many (torn_bytes file) bytes stops.torn stops.many few)
  where
    too_many : (torn bytes : ℕ) → bytes ≡ torn → 2 ^ 22 < bytes → torn ≤ 2 ^ 22 → ⊥
    too_many torn bytes is many few = omega (arith)

pub file_only_memory : {D : Type 0} (disk : D → Disk) → FileOnlyMemory disk
file_only_memory disk fault h before after is few stops cause = (named fault h (disk before).seen is few stops, cause)
