-- Records that a file begins with, and all of its records.
use Rattle.std.proofs.Common.{rules, ℕ, ◌≡◌, ◌⊎◌, inl, inr, List, [], ◌∷◌, ◌++◌, refl, sym, ap, ◌∙◌, subst, append_assoc, append-nil, arith, Err, Ok}
use Rattle.std.proofs.lemmas.Grind.{common_steps}
use Rattle.tb_records.specs.declared.limits.Profile.{Profile}
use Rattle.tb_records.specs.DumpBytes.{head_bytes}
use Rattle.tb_records.proofs.Sendings.{sent_few}
use Rattle.tb_file_journal.specs.declared.reading.Extent.{Extent}
use Rattle.tb_file_journal.specs.Contents.{Contents, Records, contents, content_records, recorded}
use Rattle.tb_file_journal.specs.Reading.{extent_of}
use Rattle.tb_file_journal.specs.Scans.{BeginsWith}
use Rattle.tb_file_journal.proofs.Growths.{begins_part}
use Rattle.tb_machine.specs.Histories.{State}
use Rattle.tb_file.specs.declared.faults.StartFault.{StartFault}
use Rattle.tb_file.specs.declared.faults.StartFault.TheVariants as start
use Rattle.tb_file.specs.declared.recovering.Rules.{Rules}
use Rattle.tb_file.specs.Keeping.{History, head_record, records_of as records_of_history}
use Rattle.tb_file.specs.Recovering.{HeadRecordAnswers, IsRestoredFrom, StopsBehindHead, StopsFile, StopsReading, WholeStops}
use Rattle.tb_file.specs.Reading.{IsNoHead, HasRules, BeginsWithNoHead, RulesAnswer, IsHistory, IsNoHistory, behind_head, joined_bytes, dump_with, dump_of, WholeRules, WholeNoHead, WholeDumps}
use Rattle.tb_file.proofs.Dumping.{joined_join}
use Rattle.tb_file.proofs.Leading.{stops_file}

-- a file that is read to its end has records

is_records : (c : Contents) (extent : Extent) → extent_of c ≡ Ok extent → c ≡ Records (content_records c)
is_records c extent is = grind (arith, common_steps)

pub extent_reads : (file : List ℕ) (extent : Extent) → extent_of (contents file) ≡ Ok extent → contents file ≡ Records (recorded file)
extent_reads file extent is = is_records (contents file) extent is

-- they begin with those that the file begins with

pub begins_rest : (records all : List (List ℕ)) (file : List ℕ) → BeginsWith records file → contents file ≡ Records all → (rest : List (List ℕ)) × (all ≡ records ++ rest)
begins_rest records all file begins reads = begins_part records all file begins reads

-- so what stops the first of them stops all

longer : (fault : StartFault) (profile : Profile) (clients_max : ℕ) (head : List ℕ) (rest more : List (List ℕ))
    → (HeadRecordAnswers (Err fault) head profile clients_max ⊎ StopsBehindHead fault profile clients_max head rest)
    → (HeadRecordAnswers (Err fault) head profile clients_max ⊎ StopsBehindHead fault profile clients_max head (rest ++ more))
longer fault profile clients_max head rest more (inl why) = inl why
longer fault profile clients_max head rest more (inr (own, (T, (front, bytes, behind, is, leads, stops)))) =
    inr (own, (T, (front, bytes, behind ++ more, ap (λ (l : List (List ℕ)). l ++ more) is ∙ append_assoc front (bytes ∷ behind) more, leads, stops)))

stops_more : (fault : StartFault) (profile : Profile) (clients_max : ℕ) (records more all : List (List ℕ)) → all ≡ records ++ more
    → (head : List ℕ) × (rest : List (List ℕ)) × (records ≡ head ∷ rest) × (HeadRecordAnswers (Err fault) head profile clients_max ⊎ StopsBehindHead fault profile clients_max head rest)
    → StopsFile fault profile clients_max all
stops_more fault profile clients_max records more all whole (head, rest, is, why) =
    stops_file fault profile clients_max all head (rest ++ more) (whole ∙ ap (λ (l : List (List ℕ)). l ++ more) is) (longer fault profile clients_max head rest more why)

stops_longer : (fault : StartFault) (profile : Profile) (clients_max : ℕ) (records more all : List (List ℕ)) → all ≡ records ++ more
    → StopsFile fault profile clients_max records → StopsFile fault profile clients_max all
stops_longer (start.Journal f) profile clients_max records more all whole stops = stops_more (start.Journal f) profile clients_max records more all whole stops
stops_longer start.Head profile clients_max records more all whole stops = stops_more start.Head profile clients_max records more all whole stops
stops_longer start.OtherRules profile clients_max records more all whole stops = stops_more start.OtherRules profile clients_max records more all whole stops
stops_longer (start.Record place f) profile clients_max records more all whole stops = stops_more (start.Record place f) profile clients_max records more all whole stops
stops_longer (start.Entry f) profile clients_max records more all whole stops = stops_more (start.Entry f) profile clients_max records more all whole stops
stops_longer start.NoMemory profile clients_max records more all whole stops = tt
stops_longer (start.TornTooLong at bytes) profile clients_max records more all whole stops = stops_more (start.TornTooLong at bytes) profile clients_max records more all whole stops

pub whole_stops : WholeStops
whole_stops fault profile clients_max file records all reads begins stops =
    let found = begins_rest records all file begins reads in
    stops_longer fault profile clients_max records found.0 all found.1 stops

-- and what the first of them say all say

pub whole_rules : WholeRules
whole_rules rules file all reads has = begins_rest (head_record rules.profile rules.clients_max ∷ []) all file has reads

abbrev first_of : List (List ℕ) → List ℕ
first_of [] = []
first_of (r ∷ records) = r

pub whole_no_head : WholeNoHead
whole_no_head file head rest reads (inl none) = let clash : Records [] ≡ Records (head ∷ rest) = sym none ∙ reads in absurd (cc)
whole_no_head file head rest reads (inr (other, others, begins, is_none)) =
    let found = begins_rest (other ∷ others) (head ∷ rest) file begins reads in
    let same : other ≡ head = sym (ap first_of found.1) in
    subst IsNoHead same is_none

dump_more : (rules : Rules) (records more : List (List ℕ)) → (left : List ℕ) × (dump_with rules records ++ left ≡ dump_with rules (records ++ more))
dump_more rules [] more = (joined_bytes (behind_head more), ap (λ (l : List ℕ). l ++ joined_bytes (behind_head more)) (append-nil (head_bytes rules.profile rules.clients_max)))
dump_more rules (r ∷ records) more = (
  joined_bytes more,
  append_assoc (head_bytes rules.profile rules.clients_max) (joined_bytes records) (joined_bytes more)
      ∙ ap (λ (l : List ℕ). head_bytes rules.profile rules.clients_max ++ l) (sym (joined_join records more)),
)

pub whole_dumps : WholeDumps
whole_dumps rules file records before after reads begins cut =
    let found = begins_rest records (recorded file) file begins reads in
    let more = dump_more rules records found.0 in
    sent_few (dump_with rules records) more.0 (dump_of rules file) before after (more.1 ∙ ap (dump_with rules) (sym found.1)) cut

-- so if its first record is a head, and all are restored, it represents their history

pub is_history : (rules : Rules) (file : List ℕ) (S : State) (extent : Extent) → HasRules rules file → IsRestoredFrom rules.profile rules.clients_max file S extent → IsHistory rules S file
is_history rules file S extent has found = by found.restored.spelled
  where
    reads : contents file ≡ Records (recorded file)
    reads = extent_reads file extent found.extent_is

    history : History
    history = record { profile = rules.profile; clients_max = rules.clients_max; entries = found.restored.entries }

    by : (recorded file ≡ records_of_history history) ⊎ ((recorded file ≡ []) × (found.restored.entries ≡ [])) → IsHistory rules S file
    by (inl spelled) = record {
      history = history;
      stands = record { reads = reads ∙ ap Records spelled; keepable = found.restored.keepable };
      profile = refl;
      clients = refl;
      state = found.restored.state;
    }
    by (inr none) =
        grind (arith, common_steps, begins_rest (head_record rules.profile rules.clients_max ∷ []) (recorded file) file has reads, reads)

pub is_no_history : (fault : StartFault) (rules : Rules) (file : List ℕ) → HasRules rules file → StopsReading fault rules.profile rules.clients_max file → IsNoHistory fault file
is_no_history (start.Journal f) rules file has stops = stops
is_no_history start.Head rules file has stops = by stops.records stops.begins stops.stops
  where
    by : (records : List (List ℕ)) → BeginsWith records file → StopsFile start.Head rules.profile rules.clients_max records → BeginsWithNoHead file
    by records begins (head, rest, is, inl none) = inr (head, rest, subst (λ (r : List (List ℕ)). BeginsWith r file) is begins, none)
    by records begins (head, rest, is, inr (own, (T, (front, bytes, behind, all, leads, never)))) = absurd never
is_no_history start.OtherRules rules file has stops = (rules, has, stops)
is_no_history (start.Record place f) rules file has stops = (rules, has, stops)
is_no_history (start.Entry f) rules file has stops = (rules, has, stops)
is_no_history start.NoMemory rules file has stops = (rules, has, stops)
is_no_history (start.TornTooLong at bytes) rules file has stops = absurd (never stops.records stops.stops)
  where
    never : (records : List (List ℕ)) → StopsFile (start.TornTooLong at bytes) rules.profile rules.clients_max records → ⊥
    never records (head, rest, is, inl none) = none
    never records (head, rest, is, inr (own, (T, (front, last, behind, all, leads, none)))) = none

-- and if it is refused before its records are read no history is reported of it

pub no_rules : (fault : StartFault) (file : List ℕ) → RulesAnswer (Err fault) file → IsNoHistory fault file
no_rules fault file is = grind (arith, common_steps)
