-- Records whose entries are in order, by their numbers and times.
use Rattle.std.proofs.Common.{arith, ℕ, suc, ◌≡◌, ◌+◌, ◌<◌, ◌≤◌, ◌^◌, Bool, true, cond, not, ◌==◌, ◌&&◌, fold, List, [], ◌∷◌, ◌++◌, map, length, Some, None, Ok, Err, refl, sym, ap, ◌∙◌, subst, append_assoc, length-append}
use Rattle.std.proofs.lemmas.Grind.{common_steps}
use Rattle.std.proofs.lemmas.List.{length-map}
use Rattle.std.specs.Prelude.{nat_le}
use Rattle.tb_records.specs.declared.limits.Profile.{Profile}
use Rattle.tb_records.specs.declared.limits.Profile.TheVariants.{One, Two}
use Rattle.tb_records.specs.DumpBytes.{IsClients}
use Rattle.tb_records.specs.declared.limits.TheConstants.{LAST_MOMENT}
use Rattle.tb_sessions.specs.Judged.{class_of}
use Rattle.tb_file_journal.specs.Scans.{ScanState, BeginsWith, HasRead}
use Rattle.tb_file_journal.specs.declared.opening.OpenFault.TheVariants as open_faults
use Rattle.tb_machine.specs.declared.entries.Entry.{Entry}
use Rattle.tb_machine.specs.declared.restoring.Unfit.TheVariants as unfit
use Rattle.tb_machine.specs.Histories.{State, start as start_state, step, fits, LegalFrom, least_time, is_lawful, is_new}
use Rattle.tb_machine.specs.Dumps.{dumped}
use Rattle.tb_machine.specs.Recording.{IsRecord}
use Rattle.tb_machine.proofs.JournalRecords.{one_record}
use Rattle.tb_machine.proofs.Judging.{may_come}
use Rattle.tb_machine.proofs.Lawful.{executed_time}
use Rattle.tb_file.specs.declared.faults.StartFault.{StartFault}
use Rattle.tb_file.specs.declared.faults.StartFault.TheVariants as start
use Rattle.tb_file.specs.declared.recovering.Rules.{Rules}
use Rattle.tb_file.specs.Keeping.{History, head_record, records_of, AreRecorded, IsLedger}
use Rattle.tb_file.specs.Reading.{RulesAnswer}
use Rattle.tb_file.specs.Recovering.{torn_bytes}
use Rattle.tb_file.specs.Quick.{AreInOrder, AreOrdered, HistoriesAreInOrder, IsInOrder, IsNotInOrder, QuickRefusesNone, StopsOrder, StopsPlace, last_time, misplaced}
use Rattle.tb_file.specs.private.Passing.{PassesAll, PassesNext, ReadsPlaced}
use Rattle.tb_file.proofs.Leading.{dumped_snoc, recorded_snoc}
use Rattle.tb_file.proofs.Unrefused.{named_outside, no_record, refused_not}
use Rattle.tb_file.proofs.WholeFiles.{begins_rest, whole_no_head}

-- one entry more

last_snoc : (time : ℕ) (es : List Entry) (e : Entry) → last_time time (es ++ e ∷ []) ≡ e.time
last_snoc time [] e = refl
last_snoc time (x ∷ xs) e = last_snoc x.time xs e

order_snoc : (place time : ℕ) (es : List Entry) (e : Entry) → AreInOrder place time es → misplaced (place + length es) (last_time time es) e ≡ None → AreInOrder place time (es ++ e ∷ [])
order_snoc place time [] e are next = let here : place + 0 ≡ place = omega arith in (subst (λ (n : ℕ). misplaced n time e ≡ None) here next, tt)
order_snoc place time (x ∷ xs) e are next =
    let here : place + suc (length xs) ≡ place + 1 + length xs = omega arith in
    (are.0, order_snoc (place + 1) x.time xs e are.1 (subst (λ (n : ℕ). misplaced n (last_time x.time xs) e ≡ None) here next))

pub ordered_more : (place time last next : ℕ) (records : List (List ℕ)) (bytes : List ℕ) → AreOrdered place time records last
    → ReadsPlaced (Ok next) (place + length records) last bytes → AreOrdered place time (records ++ bytes ∷ []) next
ordered_more place time last next records bytes are (e, is, fits, time_is) =
    let many : length records ≡ length are.entries = ap length are.spelled ∙ length-map are.entries dumped in
    let late : misplaced (place + length records) (last_time time are.entries) e ≡ None = subst (λ (t : ℕ). misplaced (place + length records) t e ≡ None) are.last_is fits in
    record {
      entries = are.entries ++ e ∷ [];
      in_order = order_snoc place time are.entries e are.in_order (subst (λ (n : ℕ). misplaced (place + n) (last_time time are.entries) e ≡ None) many late);
      recorded_are = recorded_snoc are.entries e are.recorded_are (subst (λ (b : List ℕ). IsRecord b e) is.bytes_are is);
      spelled = ap (λ (f : List (List ℕ)). f ++ bytes ∷ []) are.spelled ∙ ap (λ (b : List ℕ). map dumped are.entries ++ b ∷ []) is.bytes_are ∙ dumped_snoc are.entries e;
      last_is = time_is ∙ sym (last_snoc time are.entries e);
    }

-- records that were read: so far these are in order
abbrev pub Passing : List (List ℕ) → List ℕ → ScanState → ℕ → Type 0
Passing read file scan time = (records : List (List ℕ)) × HasRead (read ++ records) file scan × AreOrdered (length read) 0 records time

module _ (read records : List (List ℕ)) (file : List ℕ) (scan : ScanState) (time : ℕ) (are : AreOrdered (length read) 0 records time) where
  pub passing_more : (next : ℕ) → PassesNext (Ok (Some next)) time (read ++ records) file scan → Passing read file scan next
  passing_more next (bytes, at, placed) = (
    records ++ bytes ∷ [],
    subst (λ (r : List (List ℕ)). HasRead r file scan) (append_assoc read records (bytes ∷ [])) at,
    ordered_more (length read) 0 time next records bytes are (subst (λ (n : ℕ). ReadsPlaced (Ok next) n time bytes) (length-append read records) placed),
  )

  pub passing_done : PassesNext (Ok None) time (read ++ records) file scan → PassesAll (Ok time) read file scan
  passing_done (reads, has) = (records, reads, has, are)

  pub passing_not : (fault : StartFault) → PassesNext (Err fault) time (read ++ records) file scan → PassesAll (Err fault) read file scan
  passing_not (start.Journal f) refused = refused
  passing_not start.Head (bytes, begins, stops) = absurd stops
  passing_not start.OtherRules (bytes, begins, stops) = absurd stops
  passing_not (start.Record place f) (bytes, begins, stops) = (records, time, bytes, begins, are, stops)
  passing_not (start.Entry f) (bytes, begins, stops) = (records, time, bytes, begins, are, stops)
  passing_not start.NoMemory (bytes, begins, stops) = (records, time, bytes, begins, are, stops)
  passing_not (start.TornTooLong at many) (bytes, begins, stops) = absurd stops

-- a whole file

module _ (rules : Rules) (file : List ℕ) (scan : ScanState) where
  abbrev head : List ℕ
  head = head_record rules.profile rules.clients_max

  pub in_order : (last : ℕ) → IsClients rules.clients_max → PassesAll (Ok last) (head ∷ []) file scan → IsInOrder rules last file
  in_order last clients (records, reads, has, are) = record { clients = clients; records = records; reads = reads; ordered = are }

  stopped : (fault : StartFault) (records : List (List ℕ)) (last : ℕ) (bytes : List ℕ) → BeginsWith ((head ∷ records) ++ bytes ∷ []) file → AreOrdered 1 0 records last
      → StopsPlace fault (length (head ∷ records)) last bytes → StopsOrder fault file
  stopped fault records last bytes begins are stops =
      let here : length (head ∷ records) ≡ length records + 1 = omega arith in
      record {
        rules = rules;
        records = records;
        last = last;
        bytes = bytes;
        begins = begins;
        ordered = are;
        stops = subst (λ (n : ℕ). StopsPlace fault n last bytes) here stops;
      }

  pub not_in_order : (fault : StartFault) → PassesAll (Err fault) (head ∷ []) file scan → IsNotInOrder fault file
  not_in_order (start.Journal f) refused = refused
  not_in_order start.Head (records, last, bytes, begins, are, stops) = absurd stops
  not_in_order start.OtherRules (records, last, bytes, begins, are, stops) = absurd stops
  not_in_order (start.Record place f) (records, last, bytes, begins, are, stops) = stopped (start.Record place f) records last bytes begins are stops
  not_in_order (start.Entry f) (records, last, bytes, begins, are, stops) = stopped (start.Entry f) records last bytes begins are stops
  not_in_order start.NoMemory passes = tt
  not_in_order (start.TornTooLong at many) (records, last, bytes, begins, are, stops) = absurd stops

pub without_rules : (fault : StartFault) (file : List ℕ) → RulesAnswer (Err fault) file → IsNotInOrder fault file
without_rules (start.Journal f) file is = is
without_rules start.Head file is = is
without_rules start.OtherRules file is = absurd is
without_rules (start.Record place f) file is = absurd is
without_rules (start.Entry f) file is = absurd is
without_rules start.NoMemory file is = absurd is
without_rules (start.TornTooLong at bytes) file is = absurd is

-- the entries of a legal history

placed : (a b c d e : Bool) → ((((a && b) && c) && d) && e) ≡ true → cond (not a) (Some unfit.Commit) (cond (not (b && c)) (Some unfit.Time) None) ≡ None
placed a b c d e is = grind (arith, common_steps)

fits_placed : (S : State) (e : Entry) → fits S e ≡ true → misplaced (S.commit + 1) S.books.time e ≡ None
fits_placed S e is = placed (e.commit == S.commit + 1) (nat_le (least_time S e.request) e.time) (nat_le e.time LAST_MOMENT) (is_lawful e.request) (is_new (class_of S.rows e.request)) is

time_after : (S : State) (e : Entry) → (step S e).books.time ≡ e.time
time_after S e = executed_time S.books e.request.body e.time

legal_order : (S : State) (es : List Entry) → LegalFrom S es → AreInOrder (S.commit + 1) S.books.time es × (last_time S.books.time es ≡ (fold step S es).books.time)
legal_order S [] legal = (tt, refl)
legal_order S (e ∷ es) legal =
    let rest = legal_order (step S e) es legal.1 in
    let next : e.commit + 1 ≡ S.commit + 1 + 1 = ap (λ (n : ℕ). n + 1) (may_come S e legal.0).commit in
    let numbered : AreInOrder (S.commit + 1 + 1) (step S e).books.time es = subst (λ (n : ℕ). AreInOrder n (step S e).books.time es) next rest.0 in (
      (fits_placed S e legal.0, subst (λ (t : ℕ). AreInOrder (S.commit + 1 + 1) t es) (time_after S e) numbered),
      ap (λ (t : ℕ). last_time t es) (sym (time_after S e)) ∙ rest.1,
    )

-- before the first entry no time has passed
begins_at_none : (profile : Profile) (clients_max : ℕ) → (start_state profile clients_max).books.time ≡ 0
begins_at_none One clients_max = refl
begins_at_none Two clients_max = refl

pub histories_in_order : HistoriesAreInOrder
histories_in_order h file is =
    let order = legal_order (start_state h.profile h.clients_max) h.entries is.keepable.legal in
    let none = begins_at_none h.profile h.clients_max in
    record {
      clients = is.keepable.clients;
      records = map dumped h.entries;
      reads = is.reads;
      ordered = record { entries = h.entries; in_order = subst (λ (t : ℕ). AreInOrder 1 t h.entries) none order.0; recorded_are = is.keepable.recorded_are; spelled = refl; last_is = sym (sym (ap (λ (t : ℕ). last_time t h.entries) none) ∙ order.1) };
    }

place_not : (fault : StartFault) (S : State) (e : Entry) → IsRecord (dumped e) e → fits S e ≡ true → StopsPlace fault (S.commit + 1) S.books.time (dumped e) → fault ≡ start.NoMemory
place_not (start.Record place f) S e is next stops = absurd (no_record f (dumped e) e is stops.1)
place_not (start.Entry f) S e is next stops =
    let other = stops.1.0 in
    let same : e ≡ other = one_record (dumped e) e other is stops.1.1 in
    let none : misplaced (S.commit + 1) S.books.time other ≡ None = subst (λ (x : Entry). misplaced (S.commit + 1) S.books.time x ≡ None) same (fits_placed S e next) in
    let clash : None ≡ Some f.cause = sym none ∙ stops.1.2 in
    absurd (cc)
place_not start.NoMemory S e is next stops = refl
place_not start.Head S e is next stops = absurd stops
place_not start.OtherRules S e is next stops = absurd stops
place_not (start.Journal f) S e is next stops = absurd stops
place_not (start.TornTooLong at bytes) S e is next stops = absurd stops

-- the entries before the record that is refused, one by one
along : (fault : StartFault) (S : State) (place last : ℕ) (front : List (List ℕ)) (bytes : List ℕ) (rest : List (List ℕ)) (es before : List Entry)
    → LegalFrom S es → AreRecorded es → map dumped es ≡ front ++ bytes ∷ rest → AreRecorded before → front ≡ map dumped before
    → last ≡ last_time S.books.time before → place ≡ S.commit + 1 + length before → StopsPlace fault place last bytes
    → fault ≡ start.NoMemory
along fault S place last front bytes rest [] [] legal are is also spelled late at stops = grind (arith, common_steps)
along fault S place last front bytes rest [] (b ∷ before) legal are is also spelled late at stops = grind (arith, common_steps)
along fault S place last front bytes rest (x ∷ xs) [] legal are is also spelled late at stops =
    let all : dumped x ∷ map dumped xs ≡ bytes ∷ rest = is ∙ ap (λ (f : List (List ℕ)). f ++ bytes ∷ rest) spelled in
    let own : bytes ≡ dumped x = sym (cc (all)) in
    let here : place ≡ S.commit + 1 = omega (arith, at) in
    place_not fault S x are.0 legal.0
    (subst (λ (b : List ℕ). StopsPlace fault (S.commit + 1) S.books.time b) own
    (subst (λ (t : ℕ). StopsPlace fault (S.commit + 1) t bytes) late (subst (λ (n : ℕ). StopsPlace fault n last bytes) here stops)))
along fault S place last front bytes rest (x ∷ xs) (b ∷ before) legal are is also spelled late at stops =
    let all : dumped x ∷ map dumped xs ≡ dumped b ∷ (map dumped before ++ bytes ∷ rest) = is ∙ ap (λ (f : List (List ℕ)). f ++ bytes ∷ rest) spelled in
    let head : dumped x ≡ dumped b = cc (all) in
    let tail : map dumped xs ≡ map dumped before ++ bytes ∷ rest = cc (all) in
    let same : x ≡ b = one_record (dumped x) x b are.0 (subst (λ (y : List ℕ). IsRecord y b) (sym head) also.0) in
    let time : b.time ≡ (step S x).books.time = ap (λ (e : Entry). e.time) (sym same) ∙ sym (time_after S x) in
    let commit : x.commit ≡ S.commit + 1 = (may_come S x legal.0).commit in
    along fault (step S x) place last (map dumped before) bytes rest xs before legal.1 are.1 tail also.1 refl
    (late ∙ ap (λ (t : ℕ). last_time t before) time) (omega (arith, at, commit)) stops

stopped_not : (fault : StartFault) (h : History) (file : List ℕ) → IsLedger h file → StopsOrder fault file → fault ≡ start.NoMemory
stopped_not fault h file is stops =
    let own = head_record stops.rules.profile stops.rules.clients_max in
    let found = begins_rest (own ∷ (stops.records ++ stops.bytes ∷ [])) (records_of h) file stops.begins is.reads in
    let all : map dumped h.entries ≡ (stops.records ++ stops.bytes ∷ []) ++ found.0 = cc (found.1) in
    along fault (start_state h.profile h.clients_max) (length stops.records + 1) stops.last stops.records stops.bytes found.0 h.entries stops.ordered.entries
    is.keepable.legal is.keepable.recorded_are (all ∙ append_assoc stops.records (stops.bytes ∷ []) found.0) stops.ordered.recorded_are stops.ordered.spelled
    (stops.ordered.last_is ∙ ap (λ (t : ℕ). last_time t stops.ordered.entries) (sym (begins_at_none h.profile h.clients_max)))
    (many (length stops.records) (length stops.ordered.entries) (ap length stops.ordered.spelled ∙ length-map stops.ordered.entries dumped)) stops.stops
  where
    many : (m n : ℕ) → m ≡ n → m + 1 ≡ 0 + 1 + n
    many m n is = omega (arith, is)

pub quick_refuses_none : QuickRefusesNone
quick_refuses_none (start.Journal (open_faults.Refused why)) h file is few refused = absurd (refused_not why (records_of h) (sym is.reads ∙ refused))
quick_refuses_none (start.Journal (open_faults.Device f)) h file is few refused = tt
quick_refuses_none start.Head h file is few refused =
    absurd (whole_no_head file (head_record h.profile h.clients_max) (map dumped h.entries) is.reads refused h.profile h.clients_max is.keepable.clients refl)
quick_refuses_none start.NoMemory h file is few refused = tt
quick_refuses_none start.OtherRules h file is few refused = absurd refused.stops
quick_refuses_none (start.Record place f) h file is few refused = named_outside (start.Record place f) (stopped_not (start.Record place f) h file is refused)
quick_refuses_none (start.Entry f) h file is few refused = named_outside (start.Entry f) (stopped_not (start.Entry f) h file is refused)
quick_refuses_none (start.TornTooLong at bytes) h file is few refused = absurd (too_many (torn_bytes file) bytes refused.torn refused.many few)
  where
    too_many : (torn bytes : ℕ) → bytes ≡ torn → 2 ^ 22 < bytes → torn ≤ 2 ^ 22 → ⊥
    too_many torn bytes is many few = omega (arith)
