-- What is read of a whole file, and what `check` reports of it.
use Rattle.std.specs.Prelude.{ℕ, Bool, true, false, not, ◌≡◌, ◌-◌, nat_eq, if◌then◌else◌, List, [], ◌∷◌, ◌++◌, length, codes, Result, Ok, Err, refl}
use Rattle.std.specs.Fmt.{decimal, digits}
use Rattle.tb_records.specs.declared.limits.Profile.TheVariants.{One}
use Rattle.tb_records.specs.DumpBytes.{profile_number}
use Rattle.tb_file_journal.specs.Contents.{recorded, records_end}
use Rattle.tb_file.specs.declared.faults.StartFault.{StartFault}
use Rattle.tb_file.specs.Keeping.{History, history_state, IsLedger}
use Rattle.tb_file.specs.Quick.{IsInOrder, IsNotInOrder}
use Rattle.tb_file.specs.Reading.{IsNoHistory, rules_of}
use Rattle.tb_edge_file.specs.Dates.{date_of, moment_text}
use Rattle.tb_edge_file.specs.declared.summaries.Found.{Found}
use Rattle.tb_edge_file.specs.declared.summaries.Summary.{Summary}

-- the file represents a history, and this is what was read of it: the rules that it was made with, its records and entries, the time of
-- the last one, and where they end
pub record IsFound (found : Found) (file : List ℕ) : Type 0 where
  pub history : History
  pub stands : IsLedger history file
  pub profile : found.rules.profile ≡ history.profile
  pub clients : found.rules.clients_max ≡ history.clients_max
  pub records : found.records ≡ length (recorded file)
  pub entries : found.entries ≡ length history.entries
  pub time : found.time ≡ (history_state history).books.time
  pub end : found.end ≡ records_end (recorded file)

-- the file was read to its end as one history, or it holds no history
abbrev pub ReadsWhole : Result Found StartFault → List ℕ → Type 0
ReadsWhole (Ok found) file = IsFound found file
ReadsWhole (Err fault) file = IsNoHistory fault file

-- the file is a head and entries in order, by their numbers and times, and this is what was read of it
pub record IsFoundQuick (found : Found) (file : List ℕ) : Type 0 where
  pub in_order : IsInOrder found.rules found.time file
  pub records : found.records ≡ length (recorded file)
  pub entries : found.entries ≡ length (recorded file) - 1
  pub end : found.end ≡ records_end (recorded file)

-- the file was read to its end in this way, or it is no such file
abbrev pub ReadsQuick : Result Found StartFault → List ℕ → Type 0
ReadsQuick (Ok found) file = IsFoundQuick found file
ReadsQuick (Err fault) file = IsNotInOrder fault file

-- what is in a file of this many bytes. The bytes after the closed latch are not committed yet, or torn: a start cuts them off
abbrev pub summary_of : Found → ℕ → Bool → Summary
summary_of found len quick = record {
  rules = found.rules;
  records = found.records;
  entries = found.entries;
  time = found.time;
  behind = len - found.end - 4;
  replayed = not quick;
}

-- a number after its name, before other lines
abbrev pub line_before : List ℕ → ℕ → List ℕ → List ℕ
line_before name number others = name ++ (decimal number ++ 10 ∷ others)

-- what this many bytes after the records are
abbrev pub behind_text : ℕ → List ℕ
behind_text bytes = if nat_eq bytes 0 then [] else codes ", not committed yet or torn"

-- what a summary ends with: the file is whole, or the ledger was not replayed
abbrev pub replayed_text : Bool → List ℕ
replayed_text true = codes "whole: every entry was replayed\n"
replayed_text false = codes "not replayed: only checksums, commit numbers and times were checked\n"

abbrev pub summary_text : Summary → List ℕ
summary_text s =
    line_before (codes "records ") s.records
    (line_before (codes "entries ") s.entries
    (line_before (codes "profile ") (profile_number s.rules.profile)
    (line_before (codes "clients_max ") s.rules.clients_max
    (line_before (codes "last time ") s.time
    (codes "last date " ++ (moment_text s.time ++ 10 ∷ (codes "bytes after the records " ++ (decimal s.behind ++ (behind_text s.behind ++ 10 ∷ replayed_text s.replayed)))))))))

-- rows

pub two_entries : summary_text (record { rules = rules_of One 2; records = 3; entries = 2; time = 11; behind = 0; replayed = true })
    ≡ codes "records 3\nentries 2\nprofile 1\nclients_max 2\nlast time 11\nlast date 1970-01-01T00:00:00Z\nbytes after the records 0\nwhole: every entry was replayed\n"
unfolding digits date_of
two_entries = refl

pub two_entries_quickly : summary_text (record { rules = rules_of One 2; records = 3; entries = 2; time = 11; behind = 0; replayed = false })
    ≡ codes "records 3\nentries 2\nprofile 1\nclients_max 2\nlast time 11\nlast date 1970-01-01T00:00:00Z\nbytes after the records 0\nnot replayed: only checksums, commit numbers and times were checked\n"
unfolding digits date_of
two_entries_quickly = refl
