-- Records that are copied, one after another.
use Rattle.std.proofs.Common.{arith, ℕ, ◌≡◌, ◌+◌, ◌<◌, ◌≤◌, inl, inr, true, List, [], ◌∷◌, ◌++◌, map, fold, length, take, ◌^◌, ◌↔◌, Result, Ok, Err, OnOk, OnErr, refl, sym, ap, ◌∙◌, subst, append_assoc, append-nil, length-append, length-take}
use Rattle.std.specs.Prelude.{IsErrOf}
use Rattle.std.proofs.lemmas.List.{map-append}
use Rattle.tb_file_journal.specs.declared.faults.JournalFault.{JournalFault}
use Rattle.tb_file_journal.specs.declared.faults.JournalFault.TheVariants.{Memory, Failed, Full, TooLong, NotEmpty, SyncFailed}
use Rattle.tb_file_journal.specs.declared.opening.OpenFault.{OpenFault}
use Rattle.tb_file_journal.specs.declared.opening.OpenFault.TheVariants as open_faults
use Rattle.tb_file_journal.specs.declared.reading.Refusal.TheVariants as refusals
use Rattle.tb_file_journal.specs.Device.{Disk, LeavesOnly, FailsNone, HasFailed, HasCause}
use Rattle.tb_file_journal.specs.Contents.{latch_closed, Records, at_rest, contents, recorded, records_end}
use Rattle.tb_file_journal.specs.Ready.{Kept, IsReady, grown_bytes}
use Rattle.tb_file_journal.specs.Scans.{HasRead, ScanState, BeginsWith, ReadsNextRecord, IsAt}
use Rattle.tb_file_journal.specs.Steps.{IsBeforeOrAfter}
use Rattle.tb_file_journal.proofs.Causes.{none_at_once, none_since, failed_since}
use Rattle.tb_file_journal.proofs.Moments.{started, then, weaker}
use Rattle.tb_machine.specs.declared.entries.Entry.{Entry}
use Rattle.tb_machine.specs.Histories.{State, step, LegalFrom}
use Rattle.tb_machine.specs.Dumps.{dumped}
use Rattle.tb_machine.specs.Recording.{IsRecord}
use Rattle.tb_machine.proofs.Legal.{fold_append, legal_join}
use Rattle.tb_file.specs.Keeping.{Keeping, AreRecorded}
use Rattle.tb_file.specs.declared.faults.SalvageFault.{SalvageFault}
use Rattle.tb_file.specs.declared.faults.SalvageFault.TheVariants.{Old, New}
use Rattle.tb_file.specs.declared.faults.StartFault.{StartFault}
use Rattle.tb_file.specs.declared.faults.StartFault.TheVariants as start
use Rattle.tb_file.specs.Recovering.{RecordsLead, AppliesRecord, StopsAt, IsStartCause, HasStartCause}
use Rattle.tb_file.specs.Rounds.{block_bytes_max}
use Rattle.tb_file.specs.Salvaging.{IsOwnWriteCause, IsWriteCause, old_part}
use Rattle.tb_file.specs.private.Taking.{Taken, StopsAfter, TakesRecord, CommitsTaken, EndsTaking, TakesNext, by_device}
use Rattle.tb_file.specs.RecordSteps.{IsBetween, all_records, Queues, FailsWriting, Puts}
use Rattle.tb_file.proofs.Batches.{entry_short}
use Rattle.tb_file.proofs.Entered.{Latest}
use Rattle.tb_file.proofs.Leading.{leads_none, leads_more}

-- files of the first of some records

between_more : (least all more : List (List ℕ)) (c : List ℕ) → IsBetween least all c → IsBetween least (all ++ more) c
between_more least all more c (some, rest, reads, is) =
    (some, rest ++ more, reads, ap (λ (l : List (List ℕ)). l ++ more) is ∙ append_assoc (least ++ some) rest more)

between_later : (least done all : List (List ℕ)) (c : List ℕ) → IsBetween (least ++ done) all c → IsBetween least all c
between_later least done all c (some, rest, reads, is) =
    let e : (least ++ done) ++ some ≡ least ++ (done ++ some) = append_assoc least done some in
    (done ++ some, rest, reads ∙ ap Records e, is ∙ ap (λ (l : List (List ℕ)). l ++ rest) e)

between_batch : (base waiting : List (List ℕ)) (c : List ℕ) → IsBeforeOrAfter base waiting c → IsBetween base ((base ++ waiting) ++ []) c
between_batch base waiting c (inl old) = (
  [],
  waiting,
  old ∙ ap Records (sym (append-nil base)),
  append-nil (base ++ waiting) ∙ ap (λ (l : List (List ℕ)). l ++ waiting) (sym (append-nil base)),
)
between_batch base waiting c (inr new) = (waiting, [], new, refl)

pub write_cause_since : (before mid after : Disk) (fault : JournalFault) → FailsNone before mid → IsWriteCause mid after fault → IsWriteCause before after fault
write_cause_since before mid after fault none (inl failed) = inl (failed_since before mid after fault none failed)
write_cause_since before mid after fault none (inr (own, same)) = inr (own, none_since before mid after none same)

module _ {N : Type 0} (disk : N → Disk) where
  at_once : (journal : Kept N) (records : List (List ℕ)) → IsReady disk journal → (c : List ℕ) → (disk journal.device).may_leave c
      → IsBetween (recorded (disk journal.device).seen) (all_records disk journal ++ records) c
  at_once journal records ready c may =
      let base = recorded (disk journal.device).seen in (
        [],
        journal.waiting ++ records,
        ap contents (ready.at_rest.kept c may) ∙ ready.at_rest.reads ∙ ap Records (sym (append-nil base)),
        append_assoc base journal.waiting records ∙ ap (λ (l : List (List ℕ)). l ++ (journal.waiting ++ records)) (sym (append-nil base)),
      )

  module _ (journal : Kept N) (now : Latest (disk journal.device)) (ready : IsReady disk journal) where
    still : (records : List (List ℕ)) → LeavesOnly (disk journal.device) (disk journal.device) (IsBetween (recorded (disk journal.device).seen) (all_records disk journal ++ records))
    still records = started (disk journal.device) (IsBetween (recorded (disk journal.device).seen) (all_records disk journal ++ records)) (λ c left. at_once journal records ready c (now c left))

    pub queues_none : Queues disk [] journal journal
    queues_none = record {
      ready = ready;
      records_are = sym (append-nil (all_records disk journal));
      grown = ([], sym (append-nil (recorded (disk journal.device).seen)));
      none = none_at_once (disk journal.device);
      any_moment = still [];
    }

    pub queues_record : (after : Kept N) (bytes : List ℕ) → after ≡ record journal { waiting = journal.waiting ++ bytes ∷ [] } → Queues disk (bytes ∷ []) journal after
    queues_record after bytes is = subst (λ (j : Kept N). Queues disk (bytes ∷ []) journal j) (sym is) (record {
      ready = record { at_rest = ready.at_rest; ends = ready.ends; counts = ready.counts };
      records_are = sym (append_assoc (recorded (disk journal.device).seen) journal.waiting (bytes ∷ []));
      grown = ([], sym (append-nil (recorded (disk journal.device).seen)));
      none = none_at_once (disk journal.device);
      any_moment = still (bytes ∷ []);
    })

    -- nothing was done, because there is no memory, or the file would be too long
    pub breaks_at_once : (after : Kept N) (fault : JournalFault) → after ≡ journal → IsWriteCause (disk journal.device) (disk journal.device) fault → FailsWriting disk fault [] journal after
    breaks_at_once after fault is cause = subst (λ (j : Kept N). FailsWriting disk fault [] journal j) (sym is) (record { cause = cause; any_moment = still [] })

  module _ (before after : Kept N) where
    moments_of_batch : LeavesOnly (disk before.device) (disk after.device) (IsBeforeOrAfter (recorded (disk before.device).seen) before.waiting)
        → LeavesOnly (disk before.device) (disk after.device) (IsBetween (recorded (disk before.device).seen) (all_records disk before ++ []))
    moments_of_batch leaves =
        weaker (disk before.device) (disk after.device) (IsBeforeOrAfter (recorded (disk before.device).seen) before.waiting)
        (IsBetween (recorded (disk before.device).seen) (all_records disk before ++ [])) (between_batch (recorded (disk before.device).seen) before.waiting) leaves

    pub queues_commit : IsReady disk after → recorded (disk after.device).seen ≡ recorded (disk before.device).seen ++ before.waiting → after.waiting ≡ []
        → FailsNone (disk before.device) (disk after.device)
        → LeavesOnly (disk before.device) (disk after.device) (IsBeforeOrAfter (recorded (disk before.device).seen) before.waiting) → Queues disk [] before after
    queues_commit ready acknowledged emptied none leaves = record {
      ready = ready;
      records_are = ap (λ (l : List (List ℕ)). recorded (disk after.device).seen ++ l) emptied ∙ ap (λ (l : List (List ℕ)). l ++ []) acknowledged;
      grown = (before.waiting, acknowledged);
      none = none;
      any_moment = moments_of_batch leaves;
    }

    pub breaks_commit : (fault : JournalFault) → HasFailed (disk before.device) (disk after.device) fault
        → LeavesOnly (disk before.device) (disk after.device) (IsBeforeOrAfter (recorded (disk before.device).seen) before.waiting) → FailsWriting disk fault [] before after
    breaks_commit fault failed leaves = record { cause = inl failed; any_moment = moments_of_batch leaves }

  module _ (first mid last : Kept N) (xs ys : List (List ℕ)) (one : Queues disk xs first mid) where
    abbrev base : List (List ℕ)
    base = recorded (disk first.device).seen

    lines : all_records disk mid ++ ys ≡ all_records disk first ++ (xs ++ ys)
    lines = ap (λ (l : List (List ℕ)). l ++ ys) one.records_are ∙ append_assoc (all_records disk first) xs ys

    moments : LeavesOnly (disk mid.device) (disk last.device) (IsBetween (recorded (disk mid.device).seen) (all_records disk mid ++ ys))
        → LeavesOnly (disk first.device) (disk last.device) (IsBetween base (all_records disk first ++ (xs ++ ys)))
    moments second =
        then (disk first.device) (disk mid.device) (disk last.device) (IsBetween base (all_records disk first ++ (xs ++ ys)))
        (weaker (disk first.device) (disk mid.device) (IsBetween base (all_records disk first ++ xs)) (IsBetween base (all_records disk first ++ (xs ++ ys))) early one.any_moment)
        (weaker (disk mid.device) (disk last.device) (IsBetween (recorded (disk mid.device).seen) (all_records disk mid ++ ys)) (IsBetween base (all_records disk first ++ (xs ++ ys))) late second)
      where
        early : (c : List ℕ) → IsBetween base (all_records disk first ++ xs) c → IsBetween base (all_records disk first ++ (xs ++ ys)) c
        early c is = subst (λ (l : List (List ℕ)). IsBetween base l c) (append_assoc (all_records disk first) xs ys) (between_more base (all_records disk first ++ xs) ys c is)

        late : (c : List ℕ) → IsBetween (recorded (disk mid.device).seen) (all_records disk mid ++ ys) c → IsBetween base (all_records disk first ++ (xs ++ ys)) c
        late c is = between_later base one.grown.0 (all_records disk first ++ (xs ++ ys)) c
            (subst (λ (l : List (List ℕ)). IsBetween (base ++ one.grown.0) l c) lines (subst (λ (r : List (List ℕ)). IsBetween r (all_records disk mid ++ ys) c) one.grown.1 is))

    pub queues_then : Queues disk ys mid last → Queues disk (xs ++ ys) first last
    queues_then two = record {
      ready = two.ready;
      records_are = two.records_are ∙ lines;
      grown = (
        one.grown.0 ++ two.grown.0,
        two.grown.1 ∙ ap (λ (l : List (List ℕ)). l ++ two.grown.0) one.grown.1 ∙ append_assoc base one.grown.0 two.grown.0,
      );
      none = none_since (disk first.device) (disk mid.device) (disk last.device) one.none two.none;
      any_moment = moments two.any_moment;
    }

    pub breaks_then : (fault : JournalFault) → FailsWriting disk fault ys mid last → FailsWriting disk fault (xs ++ ys) first last
    breaks_then fault two = record {
      cause = write_cause_since (disk first.device) (disk mid.device) (disk last.device) fault one.none two.cause;
      any_moment = moments two.any_moment;
    }

-- entries that lead on

pub each_join : (h k : List Entry) → AreRecorded h → AreRecorded k → AreRecorded (h ++ k)
each_join [] k one two = two
each_join (e ∷ h) k one two = (one.0, each_join h k one.1 two)

unfoldable pub leads_join : (S T U : State) (xs ys : List (List ℕ)) → RecordsLead S xs T → RecordsLead T ys U → RecordsLead S (xs ++ ys) U
leads_join S T U xs ys one two = record {
  entries = one.entries ++ two.entries;
  legal = legal_join S one.entries two.entries one.legal (subst (λ (V : State). LegalFrom V two.entries) one.state two.legal);
  state = two.state ∙ ap (λ (V : State). fold step V two.entries) one.state ∙ sym (fold_append step S one.entries two.entries);
  recorded_are = each_join one.entries two.entries one.recorded_are two.recorded_are;
  spelled = ap (λ (l : List (List ℕ)). l ++ ys) one.spelled ∙ ap (λ (l : List (List ℕ)). map dumped one.entries ++ l) two.spelled ∙ sym (map-append dumped one.entries two.entries);
}

pub leads_one : (S T : State) (bytes : List ℕ) → AppliesRecord (Ok tt) S bytes T → RecordsLead S (bytes ∷ []) T
leads_one S T bytes (e, is, next, to) = leads_more S S T [] bytes e (leads_none S) is next to

-- so do the first of them

first_by : (S T : State) (x : List ℕ) (xs rest : List (List ℕ)) → ((R : State) → RecordsLead R (xs ++ rest) T → (U : State) × RecordsLead R xs U)
    → (entries : List Entry) → LegalFrom S entries → T ≡ fold step S entries → AreRecorded entries → x ∷ (xs ++ rest) ≡ map dumped entries → (U : State) × RecordsLead S (x ∷ xs) U
first_by S T x xs rest others [] legal state are spelled = absurd (cc)
first_by S T x xs rest others (e ∷ es) legal state are spelled =
    let tail : xs ++ rest ≡ map dumped es = cc (spelled) in
    let head : x ≡ dumped e = cc (spelled) in
    let (U, more) = others (step S e) (record { entries = es; legal = legal.1; state = state; recorded_are = are.1; spelled = tail }) in
    let first : RecordsLead S (dumped e ∷ []) (step S e) = record { entries = e ∷ []; legal = (legal.0, tt); state = refl; recorded_are = (are.0, tt); spelled = refl } in
    (U, subst (λ (b : List ℕ). RecordsLead S (b ∷ xs) U) (sym head) (leads_join S (step S e) U (dumped e ∷ []) xs first more))

pub leads_first : (S T : State) (some rest : List (List ℕ)) → RecordsLead S (some ++ rest) T → (U : State) × RecordsLead S some U
leads_first S T [] rest leads = (S, leads_none S)
leads_first S T (x ∷ xs) rest leads =
    first_by S T x xs rest (λ (R : State) more. leads_first R T xs rest more) leads.entries leads.legal leads.state leads.recorded_are leads.spelled

-- what was taken

module _ {N : Type 0} (disk : N → Disk) (tells : Type 0) (holds : List ℕ → Type 0) where
  pub taken_none : (place : ScanState) (keeper : Keeping N) → (tells → Latest (disk keeper.journal.device)) → keeper.journal.usable ≡ true → (tells → IsReady disk keeper.journal)
      → Taken disk tells holds [] place place keeper keeper
  taken_none place keeper now usable ready = record {
    leads = leads_none keeper.state;
    usable = usable;
    queues = λ t. queues_none disk keeper.journal (now t) (ready t);
    read = λ file read of has. subst (λ (r : List (List ℕ)). HasRead r file place) (sym (append-nil read)) has;
  }

  pub taken_then : (xs ys : List (List ℕ)) (p q r : ScanState) (a b c : Keeping N) → Taken disk tells holds xs p q a b → Taken disk tells holds ys q r b c → Taken disk tells holds (xs ++ ys) p r a c
  taken_then xs ys p q r a b c one two = record {
    leads = leads_join a.state b.state c.state xs ys one.leads two.leads;
    usable = two.usable;
    queues = λ t. queues_then disk a.journal b.journal c.journal xs ys (one.queues t) (two.queues t);
    read = λ file read of has. subst (λ (l : List (List ℕ)). HasRead l file r) (append_assoc read xs ys) (two.read file (read ++ xs) of (one.read file read of has));
  }

-- one step of a journal

module _ {N : Type 0} (disk : N → Disk) (tells : Type 0) where
  pub puts_none : (journal : Kept N) → (tells → Latest (disk journal.device)) → journal.usable ≡ true → (tells → IsReady disk journal) → Puts disk tells (Ok tt) [] journal journal
  puts_none journal now usable ready = (usable, λ t. queues_none disk journal (now t) (ready t))

  pub puts_then : (result : Result (Unit {0}) JournalFault) (records : List (List ℕ)) (first mid last : Kept N) → Puts disk tells (Ok tt) [] first mid → Puts disk tells result records mid last
      → Puts disk tells result records first last
  puts_then (Ok done) records first mid last one two = (two.0, λ t. queues_then disk first mid last [] records (one.1 t) (two.1 t))
  puts_then (Err fault) records first mid last one two = λ t. breaks_then disk first mid last [] [] (one.1 t) fault (two t)

  pub puts_commit : (result : Result (Unit {0}) JournalFault) (before after : Kept N) → OnOk result (after.usable ≡ true) → (tells → OnOk result (IsReady disk after))
      → (tells → OnOk result (recorded (disk after.device).seen ≡ recorded (disk before.device).seen ++ before.waiting)) → OnOk result (after.waiting ≡ [])
      → (tells → LeavesOnly (disk before.device) (disk after.device) (IsBeforeOrAfter (recorded (disk before.device).seen) before.waiting))
      → (tells → HasCause result (disk before.device) (disk after.device)) → Puts disk tells result [] before after
  puts_commit (Ok done) before after usable ready acknowledged emptied leaves cause =
      (usable, λ t. queues_commit disk before after (ready t) (acknowledged t) emptied ((cause t).ok) (leaves t))
  puts_commit (Err fault) before after usable ready acknowledged emptied leaves cause = λ t. breaks_commit disk before after fault ((cause t).cause) (leaves t)

  -- the records end within a file that is at rest
  within : (file : List ℕ) (end : ℕ) → file ≡ take end file ++ latch_closed → end ≤ length file
  within file end closed = omega (arith, ap length closed, length-append (take end file) latch_closed, length-take end file)

  module _ (before after : Kept N) (bytes : List ℕ) (short : length bytes < 2 ^ 24) (room : length (at_rest before.waiting) + block_bytes_max ≤ 2 ^ 22) (now : tells → Latest (disk before.device)) (ready : tells → IsReady disk before) where
    own : (fault : JournalFault) → (tells → IsOwnWriteCause (disk before.device).seen fault) → after ≡ before → tells → FailsWriting disk fault [] before after
    own fault is same t = breaks_at_once disk before (now t) (ready t) after fault same (inr (is t, none_at_once (disk before.device)))

    full : 2 ^ 62 < grown_bytes before bytes → tells → 2 ^ 62 < length (disk before.device).seen + 2 ^ 25
    full over t =
        let file = (disk before.device).seen in
        omega (arith, over, short, room, (ready t).ends, within file (records_end (recorded file)) (ready t).at_rest.closed)

    pub puts_append : (result : Result (Unit {0}) JournalFault) → before.usable ≡ true → OnOk result (after ≡ record before { waiting = before.waiting ++ bytes ∷ [] }) → OnErr result (after ≡ before)
        → (IsErrOf result TooLong ↔ (2 ^ 24 ≤ length bytes)) → (IsErrOf result Full ↔ (length bytes < 2 ^ 24) × (2 ^ 62 < grown_bytes before bytes)) → (IsErrOf result Failed → ⊥) → (IsErrOf result NotEmpty → ⊥) → (IsErrOf result SyncFailed → ⊥)
        → Puts disk tells result (bytes ∷ []) before after
    puts_append (Ok done) usable is same long over failed empty synced =
        (ap (λ (j : Kept N). j.usable) is ∙ usable, λ t. queues_record disk before (now t) (ready t) after bytes is)
    puts_append (Err Memory) usable is same long over failed empty synced = own Memory (λ t. tt) same
    puts_append (Err Full) usable is same long over failed empty synced = own Full (full (over.0 refl).1) same
    puts_append (Err TooLong) usable is same long over failed empty synced = λ t. absurd (omega (arith, short, long.0 refl))
    puts_append (Err Failed) usable is same long over failed empty synced = λ t. absurd (failed refl)
    puts_append (Err NotEmpty) usable is same long over failed empty synced = λ t. absurd (empty refl)
    puts_append (Err SyncFailed) usable is same long over failed empty synced = λ t. absurd (synced refl)

-- one more record waits
pub waits_more : {N : Type 0} (before after : Kept N) (bytes : List ℕ) (result : Result (Unit {0}) JournalFault) → OnOk result (after ≡ record before { waiting = before.waiting ++ bytes ∷ [] }) → OnOk result (after.waiting ≡ before.waiting ++ bytes ∷ [])
waits_more before after bytes (Ok done) is = ap (λ (j : Kept _). j.waiting) is
waits_more before after bytes (Err fault) is = tt

-- one record

pub record_short : (bytes : List ℕ) (e : Entry) → IsRecord bytes e → length bytes < 2 ^ 24
record_short bytes e is = omega (arith, entry_short e (subst (λ (b : List ℕ). IsRecord b e) is.bytes_are is), ap length is.bytes_are)

stops_after : (fault : StartFault) (read : List (List ℕ)) (S : State) (file bytes : List ℕ) → BeginsWith (read ++ bytes ∷ []) file → StopsAt fault S bytes → StopsAfter fault read S file
stops_after (start.Record place f) read S file bytes begins stops = (bytes, begins, stops)
stops_after (start.Entry f) read S file bytes begins stops = (bytes, begins, stops)
stops_after start.NoMemory read S file bytes begins stops = tt
stops_after start.Head read S file bytes begins stops = absurd stops
stops_after start.OtherRules read S file bytes begins stops = absurd stops
stops_after (start.Journal f) read S file bytes begins stops = absurd stops
stops_after (start.TornTooLong at n) read S file bytes begins stops = absurd stops

damage_after : (fault : OpenFault) (read : List (List ℕ)) (S : State) (file : List ℕ) (old new : ScanState) → HasRead read file old → IsAt old.end fault → ReadsNextRecord (Err fault) read file new
    → StopsAfter (start.Journal fault) read S file
damage_after (open_faults.Device f) read S file old new has place reads = tt
damage_after (open_faults.Refused (refusals.Damaged at)) read S file old new has place reads = (reads, place ∙ has.end)
damage_after (open_faults.Refused refusals.NotAJournal) read S file old new has place reads = absurd place

record_none : (before after : Disk) (fault : StartFault) (S : State) (bytes : List ℕ) → StopsAt fault S bytes → FailsNone before after → IsStartCause before after fault
record_none before after (start.Record place f) S bytes stops none = none
record_none before after (start.Entry f) S bytes stops none = none
record_none before after start.NoMemory S bytes stops none = none
record_none before after start.Head S bytes stops none = none
record_none before after start.OtherRules S bytes stops none = none
record_none before after (start.Journal f) S bytes stops none = absurd stops
record_none before after (start.TornTooLong at n) S bytes stops none = none

module _ {N : Type 0} (disk : N → Disk) (tells : Type 0) where
  pub takes_not : (f : JournalFault) (fault : SalvageFault) (bytes : List ℕ) (before mid after : Keeping N) → fault ≡ by_device f → mid.journal ≡ before.journal
      → Puts disk tells (Err f) (bytes ∷ []) mid.journal after.journal → TakesRecord disk tells (Err fault) bytes before after
  takes_not f fault bytes before mid after is same breaks =
      subst (λ (g : SalvageFault). TakesRecord disk tells (Err g) bytes before after) (sym is)
      (f, refl, subst (λ (j : Kept N). tells → FailsWriting disk f [] j after.journal) same breaks)

  pub commits_not : (f : JournalFault) (fault : SalvageFault) (before mid after : Keeping N) → fault ≡ by_device f → mid.journal ≡ before.journal → Puts disk tells (Err f) [] mid.journal after.journal
      → CommitsTaken disk tells (Err fault) before after
  commits_not f fault before mid after is same breaks = (f, is, subst (λ (j : Kept N). tells → FailsWriting disk f [] j after.journal) same breaks)

  pub record_cause : (fault : SalvageFault) (bytes : List ℕ) (before after : Keeping N) (first last : Disk) → TakesRecord disk tells (Err fault) bytes before after → FailsNone first last
      → HasStartCause (old_part fault) first last
  record_cause (Old fault) bytes before after first last takes none = record { ok = tt; cause = record_none first last fault before.state bytes takes.0.1 none }
  record_cause (New fault) bytes before after first last takes none = record { ok = none; cause = tt }

  module _ (holds : List ℕ → Type 0) (first last : ScanState) (before after : Keeping N) where
    pub takes_one : (bytes : List ℕ) → TakesRecord disk tells (Ok tt) bytes before after
        → ((file : List ℕ) (read : List (List ℕ)) → holds file → HasRead read file first → HasRead (read ++ bytes ∷ []) file last)
        → TakesNext disk tells holds (Ok true) first last before after
    takes_one bytes takes read = (
      bytes,
      record { leads = leads_one before.state after.state bytes takes.0; usable = takes.1; queues = takes.2; read = read },
    )

    pub takes_refused : (fault : SalvageFault) (bytes : List ℕ) → TakesRecord disk tells (Err fault) bytes before after
        → ((file : List ℕ) (read : List (List ℕ)) → holds file → HasRead read file first → BeginsWith (read ++ bytes ∷ []) file)
        → TakesNext disk tells holds (Err fault) first last before after
    takes_refused (Old fault) bytes takes begins =
        (takes.0.0, takes.1, λ file read of has. stops_after fault read before.state file bytes (begins file read of has) takes.0.1)
    takes_refused (New fault) bytes takes begins = takes

    pub takes_damage : (fault : OpenFault) (new : ScanState) → after ≡ before → IsAt first.end fault
        → ((file : List ℕ) (read : List (List ℕ)) → holds file → HasRead read file first → ReadsNextRecord (Err fault) read file new)
        → TakesNext disk tells holds (Err (Old (start.Journal fault))) first last before after
    takes_damage fault new same place reads = (
      ap (λ (k : Keeping N). k.state) same,
      ap (λ (k : Keeping N). k.journal) same,
      λ file read of has. damage_after fault read before.state file first new has place (reads file read of has),
    )

-- one record more, by a device that is still the same

module _ {N : Type 0} (disk : N → Disk) (tells : Type 0) (holds later : List ℕ → Type 0) (same : (file : List ℕ) → holds file → later file) where
  pub taken_on : (records : List (List ℕ)) (first here last : ScanState) (before mid after : Keeping N) → Taken disk tells holds records first here before mid
      → TakesNext disk tells later (Ok true) here last mid after → (all : List (List ℕ)) × Taken disk tells holds all first last before after
  taken_on records first here last before mid after so_far (bytes, next) = (
    records ++ bytes ∷ [],
    taken_then disk tells holds records (bytes ∷ []) first here last before mid after so_far (record {
      leads = next.leads;
      usable = next.usable;
      queues = next.queues;
      read = λ file read of has. next.read file read (same file of) has;
    }),
  )

  pub ends_by : (result : Result (Unit {0}) SalvageFault) (here : ScanState) (mid after : Keeping N) → EndsTaking disk tells later result here mid after → EndsTaking disk tells holds result here mid after
  ends_by (Ok done) here mid after ends = (ends.0, λ file read of has. ends.1 file read (same file of) has)
  ends_by (Err (Old fault)) here mid after ends = (ends.0, ends.1, λ file read of has. ends.2 file read (same file of) has)
  ends_by (Err (New fault)) here mid after ends = ends
