-- The records of a file as they are read and entered.
use Rattle.std.proofs.Common.{arith, ℕ, ◌≡◌, ◌⊎◌, inl, inr, true, false, List, [], ◌∷◌, ◌++◌, refl, sym, ap, ◌∙◌, subst, append_assoc, Ok, Err}
use Rattle.std.proofs.lemmas.Grind.{common_steps}
use Rattle.tb_records.specs.declared.limits.Profile.{Profile}
use Rattle.tb_records.specs.DumpBytes.{IsClients}
use Rattle.tb_file_journal.specs.declared.reading.Extent.{Extent}
use Rattle.tb_file_journal.specs.Device.{Disk, IsLookedAt}
use Rattle.tb_file_journal.specs.Contents.{Records, contents, content_records}
use Rattle.tb_file_journal.specs.Opening.{IsAsBefore}
use Rattle.tb_file_journal.specs.Reading.{extent_of}
use Rattle.tb_file_journal.specs.Scans.{ScanState, BeginsWith, HasRead}
use Rattle.tb_file_journal.proofs.Moments.{started, goes_on}
use Rattle.tb_file_journal.proofs.BlockWalks.{begins_shorter}
use Rattle.tb_machine.specs.Histories.{State, start as start_state}
use Rattle.tb_file.specs.declared.faults.StartFault.{StartFault}
use Rattle.tb_file.specs.declared.faults.StartFault.TheVariants as start
use Rattle.tb_file.specs.Keeping.{head_record}
use Rattle.tb_file.specs.Recovering.{RecordsLead, StopsAt, AppliesRecord, AppliesRecords, HeadRecordAnswers, IsRestored, IsRestoredFrom, StopsBehindHead, StopsBeginning, StopsReading}
use Rattle.tb_file.specs.declared.recovering.Rules.{Rules}
use Rattle.tb_file.specs.private.Entering.{EntersNextRecord, EntersAll, FindsBehind}
use Rattle.tb_file.specs.RecordSteps.{StaysKept}
use Rattle.tb_file.proofs.Opened.{Counts, untouched_then}
use Rattle.tb_file.proofs.Leading.{leads_more, stops_file}

-- a device that is only looked at

abbrev pub Latest : Disk → Type 0
Latest disk = (c : List ℕ) → disk.left_since disk.moment c → disk.may_leave c

pub stays_looked : (before after : Disk) → Latest before → IsLookedAt before after → StaysKept before after
stays_looked before after now looks = record {
  untouched = record {
    seen = looks.seen;
    any_moment = goes_on before before after (IsAsBefore before) (started before (IsAsBefore before) (λ c left. inl (now c left))) looks.time (λ c may. inl (looks.crash c may));
  };
  kept = λ kept c may. kept c (looks.crash c may) ∙ sym looks.seen;
  sound = looks.sound;
}

pub stays_none : (disk : Disk) → Latest disk → StaysKept disk disk
stays_none disk now = record {
  untouched = record { seen = refl; any_moment = started disk (IsAsBefore disk) (λ c left. inl (now c left)) };
  kept = λ kept. kept;
  sound = refl;
}

pub stays_then : (before mid after : Disk) → Counts mid → StaysKept before mid → StaysKept mid after → StaysKept before after
stays_then before mid after counts first second = record {
  untouched = untouched_then before mid after counts first.untouched second.untouched;
  kept = λ kept. second.kept (first.kept kept);
  sound = second.sound ∙ first.sound;
}

-- its head

pub head_read : (file head : List ℕ) (scan : ScanState) (profile : Profile) (clients_max : ℕ) → HasRead (head ∷ []) file scan → head ≡ head_record profile clients_max
    → HasRead (head_record profile clients_max ∷ []) file scan
head_read file head scan profile clients_max at is = subst (λ (h : List ℕ). HasRead (h ∷ []) file scan) is at

stops_with : (fault : StartFault) (profile : Profile) (clients_max : ℕ) (file head : List ℕ) (rest : List (List ℕ)) → BeginsWith (head ∷ rest) file
    → (HeadRecordAnswers (Err fault) head profile clients_max ⊎ StopsBehindHead fault profile clients_max head rest)
    → StopsBeginning fault profile clients_max file
stops_with fault profile clients_max file head rest begins why = record {
  records = head ∷ rest;
  begins = begins;
  stops = stops_file fault profile clients_max (head ∷ rest) head rest refl why;
}

pub head_stops : (fault : StartFault) (profile : Profile) (clients_max : ℕ) (file head : List ℕ) → BeginsWith (head ∷ []) file → HeadRecordAnswers (Err fault) head profile clients_max
    → StopsReading fault profile clients_max file
head_stops (start.Journal f) profile clients_max file head begins why = absurd why
head_stops start.Head profile clients_max file head begins why = stops_with start.Head profile clients_max file head [] begins (inl why)
head_stops start.OtherRules profile clients_max file head begins why = stops_with start.OtherRules profile clients_max file head [] begins (inl why)
head_stops (start.Record place f) profile clients_max file head begins why = absurd why
head_stops (start.Entry f) profile clients_max file head begins why = absurd why
head_stops start.NoMemory profile clients_max file head begins why = absurd why
head_stops (start.TornTooLong at bytes) profile clients_max file head begins why = absurd why

-- the records after it

pub enters_not : (fault : StartFault) (read : List (List ℕ)) (file bytes : List ℕ) (after : ScanState) (S T : State) → BeginsWith (read ++ bytes ∷ []) file → AppliesRecord (Err fault) S bytes T
    → EntersNextRecord (Err fault) read file after S T
enters_not fault read file bytes after S T begins stops = grind (arith, common_steps)

-- so far these were entered
abbrev pub Entered : List (List ℕ) → List ℕ → ScanState → State → State → Type 0
Entered read file scan S T = (records : List (List ℕ)) × HasRead (read ++ records) file scan × RecordsLead S records T

module _ (read records : List (List ℕ)) (file : List ℕ) (scan : ScanState) (S T U : State) (leads : RecordsLead S records T) where
  pub entered_more : EntersNextRecord (Ok true) (read ++ records) file scan T U → Entered read file scan S U
  entered_more (bytes, at, (e, is_record, next, to)) = (
    records ++ bytes ∷ [],
    subst (λ (r : List (List ℕ)). HasRead r file scan) (append_assoc read records (bytes ∷ [])) at,
    leads_more S T U records bytes e leads is_record next to,
  )

  pub entered_all : EntersNextRecord (Ok false) (read ++ records) file scan T U → EntersAll (Ok tt) read file scan S U
  entered_all (reads, has, to) = (records, reads, has, subst (λ (V : State). RecordsLead S records V) (sym to) leads)

  entered_not_more : (fault : StartFault) (bytes : List ℕ) → BeginsWith ((read ++ records) ++ bytes ∷ []) file → StopsAt fault T bytes
      → (others : List (List ℕ)) × (V : State) × BeginsWith (read ++ others) file × AppliesRecords (Err fault) S others V
  entered_not_more fault bytes begins stops = grind (arith, common_steps, append_assoc read records (bytes ∷ []))

  pub entered_not : (fault : StartFault) → EntersNextRecord (Err fault) (read ++ records) file scan T U → EntersAll (Err fault) read file scan S U
  entered_not fault next = grind (arith, common_steps, begins_shorter, entered_not_more)

-- and where its records end

pub extent_found : (file : List ℕ) (records : List (List ℕ)) (scan : ScanState) (extent : Extent) → contents file ≡ Records records → HasRead records file scan
    → extent.end ≡ scan.end → extent.count ≡ scan.count → extent_of (contents file) ≡ Ok extent
extent_found file records scan extent reads has end count = grind (arith, common_steps)

-- a whole file

module _ (profile : Profile) (clients_max : ℕ) (clients : IsClients clients_max) where
  of_history : (records : List (List ℕ)) (T : State) → RecordsLead (start_state profile clients_max) records T → IsRestored profile clients_max (head_record profile clients_max ∷ records) T
  of_history records T leads = record {
    entries = leads.entries;
    keepable = record { clients = clients; legal = leads.legal; recorded_are = leads.recorded_are };
    state = leads.state;
    spelled = inl (ap (λ (r : List (List ℕ)). head_record profile clients_max ∷ r) leads.spelled);
  }

  pub restored_behind : (file : List ℕ) (scan : ScanState) (extent : Extent) (S T : State) → S ≡ start_state profile clients_max → extent.end ≡ scan.end → extent.count ≡ scan.count
      → EntersAll (Ok tt) (head_record profile clients_max ∷ []) file scan S T → IsRestoredFrom profile clients_max file T extent
  restored_behind file scan extent S T empty end count (records, reads, has, leads) = record {
    extent_is = extent_found file (head_record profile clients_max ∷ records) scan extent reads has end count;
    restored = subst (λ (r : List (List ℕ)). IsRestored profile clients_max r T) (sym (ap content_records reads)) (of_history records T (subst (λ (V : State). RecordsLead V records T) empty leads));
  }

pub behind_begins : (head file : List ℕ) (scan : ScanState) (S T : State) → EntersAll (Ok tt) (head ∷ []) file scan S T → BeginsWith (head ∷ []) file
behind_begins head file scan S T (records, reads, has, leads) = begins_shorter (head ∷ []) records file has.begins

module _ (rules : Rules) (file : List ℕ) (scan : ScanState) (S T : State) (empty : S ≡ start_state rules.profile rules.clients_max) where
  abbrev head : List ℕ
  head = head_record rules.profile rules.clients_max

  behind_stops : (fault : StartFault) (records : List (List ℕ)) (U : State) → BeginsWith (head ∷ records) file → AppliesRecords (Err fault) S records U
      → BeginsWith (head ∷ []) file × StopsBeginning fault rules.profile rules.clients_max file
  behind_stops fault records U begins stops = (
    begins_shorter (head ∷ []) records file begins,
    stops_with fault rules.profile rules.clients_max file head records begins (inr (refl, (U, subst (λ (V : State). AppliesRecords (Err fault) V records U) empty stops))),
  )

  pub behind_not : (fault : StartFault) → EntersAll (Err fault) (head ∷ []) file scan S T → FindsBehind (Err fault) rules file
  behind_not (start.Journal f) (stops, begins) = (begins, stops)
  behind_not start.Head (records, U, begins, stops) = behind_stops start.Head records U begins stops
  behind_not start.OtherRules (records, U, begins, stops) = behind_stops start.OtherRules records U begins stops
  behind_not (start.Record place f) (records, U, begins, stops) = behind_stops (start.Record place f) records U begins stops
  behind_not (start.Entry f) (records, U, begins, stops) = behind_stops (start.Entry f) records U begins stops
  behind_not start.NoMemory (records, U, begins, stops) = behind_stops start.NoMemory records U begins stops
  behind_not (start.TornTooLong at bytes) (records, U, begins, stops) = behind_stops (start.TornTooLong at bytes) records U begins stops
