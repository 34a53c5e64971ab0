-- Records are read as they were spelled.
use Rattle.std.proofs.Common.{◌≡◌, ◌⊎◌, inl, inr, ⊎_elim, ℕ, zero, suc, ◌+◌, ◌-◌, ◌*◌, ◌/◌, ◌%◌, ◌^◌, ◌≤◌, ◌<◌, ap, Bool, true, List, [], ◌∷◌, ◌++◌, length, take, drop, refl, sym, ◌∙◌, arith, append_assoc, length-append}
use Rattle.std.specs.Prelude.{nat_le, nat_eq, if◌then◌else◌, Option, Some, None}
use Rattle.std.specs.Int.{w32, to_le_bytes, from_le_bytes}
use Rattle.std.specs.List.{AllByRecursion, starts_with}
use Rattle.std.proofs.lemmas.Grind.{common_steps}
use Rattle.std.proofs.lemmas.List.{drop_at}
use Rattle.std.proofs.lemmas.Nat.{from_le_bytes-to_le_bytes_4}
use Rattle.std.proofs.lemmas.Bool.Decides.{nat_tests}
use Rattle.std.proofs.Math.Seq.{take-append_seam}
use Rattle.tb_sectors.specs.Stamped.{Verdict, Ends, Damaged, stream_of, nothing_taken, read_on, Batch, batch_bytes, all_bytes, file_sectors}
use Rattle.tb_sectors.specs.Records.{magic, IsShort, spelled, spelled_all, first_length, first_end, with_first, first_before, records_in, records_of, Contents, Records, NotAJournal, records_or_damage, contents_of, RecordsAreRead, RecordsAreAllOrNone}
use Rattle.tb_sectors.specs.private.Outcomes.{drop_parts}
use Rattle.tb_sectors.proofs.Journals.{file_is_read, file_is_all_or_none}

-- three bytes of a length

three_bytes : (n : ℕ) → n < 2 ^ 24 → n % 256 + n / 256 % 256 * 256 + n / 65536 % 256 * 65536 + 0 ≡ n
three_bytes n h = grind (arith, common_steps, from_le_bytes-to_le_bytes_4 n (omega arith))

length_read : (content : List ℕ) → length content < 2 ^ 24 → from_le_bytes w32 (take 3 (to_le_bytes w32 (length content)) ++ 0 ∷ []) ≡ length content
length_read content h = three_bytes (length content) h

spelled_long : (content others : List ℕ) → length (spelled content ++ others) ≡ 3 + (length content + length others)
spelled_long content others =
    omega (arith, length-append (spelled content) others, length-append (take 3 (to_le_bytes w32 (length content))) content)

at_most : (a b : ℕ) → a ≤ b → nat_le a b ≡ true
at_most a b le = grind (arith, nat_tests)

-- the first record of a stream
pub first_spelled : (content others : List ℕ) → length content < 2 ^ 24 → first_length (spelled content ++ others) ≡ Some (length content)
first_spelled content others short =
    ap (λ (count : ℕ). if nat_le count (length (content ++ others)) then Some count else None) (length_read content short)
    ∙ ap (λ (b : Bool). if b then Some (length content) else None) (at_most (length content) (length (content ++ others)) (omega (arith, length-append content others)))

first_in : (n : ℕ) (content others : List ℕ) → length content < 2 ^ 24 → records_in (suc n) (spelled content ++ others) ≡ with_first content (records_in n others)
first_in n content others short =
    let stream = spelled content ++ others in
    ap (λ (o : Option ℕ). first_before o stream (records_in n (drop (first_end o) stream))) (first_spelled content others short)
    ∙ ap (λ (l : List ℕ). with_first l (records_in n (drop (3 + length content) stream))) (take-append_seam content others)
    ∙ ap (λ (l : List ℕ). with_first content (records_in n l)) (drop_parts 3 (length content) stream ∙ drop_at content others (length content) refl)

records_read : (n : ℕ) (records : List (List ℕ)) → length (spelled_all records) ≤ n → AllByRecursion IsShort records → records_in n (spelled_all records) ≡ Some records
records_read zero [] le short = refl
records_read (suc n) [] le short = refl
records_read zero (content ∷ records) le short = absurd (omega (arith, le, spelled_long content (spelled_all records)))
records_read (suc n) (content ∷ records) le (short, others) =
    first_in n content (spelled_all records) short
    ∙ ap (with_first content) (records_read n records (omega (arith, le, spelled_long content (spelled_all records))) others)

-- a stream of records

magic_first : (s : List ℕ) → starts_with nat_eq (magic ++ s) magic ≡ true
magic_first s = refl

abbrev whole_or_not : ℕ → Option (List ℕ) → Contents
whole_or_not count None = NotAJournal
whole_or_not count (Some whole) = if starts_with nat_eq whole magic then records_or_damage (count - 1) (records_of (drop 8 whole)) else NotAJournal

from_stream : (v : Verdict) (records : List (List ℕ)) → stream_of v ≡ Some (magic ++ spelled_all records) → AllByRecursion IsShort records → contents_of v ≡ Records records
from_stream (Ends taken) records is short =
    ap (whole_or_not taken.count) is
    ∙ ap (λ (b : Bool). if b then records_or_damage (taken.count - 1) (records_of (spelled_all records)) else NotAJournal) (magic_first (spelled_all records))
    ∙ ap (records_or_damage (taken.count - 1)) (records_read (length (spelled_all records)) records (omega arith) short)
from_stream (Damaged k) records is short = absurd (none_is_not_some is)
  where
    none_is_not_some : {s : List ℕ} → None ≡ Some s → ⊥
    none_is_not_some e = cc

spelled_more : (records more : List (List ℕ)) → spelled_all (records ++ more) ≡ spelled_all records ++ spelled_all more
spelled_more [] more = refl
spelled_more (content ∷ records) more =
    ap (λ (l : List ℕ). spelled content ++ l) (spelled_more records more) ∙ sym (append_assoc (spelled content) (spelled_all records) (spelled_all more))

short_more : (records more : List (List ℕ)) → AllByRecursion IsShort records → AllByRecursion IsShort more → AllByRecursion IsShort (records ++ more)
short_more [] more a b = b
short_more (content ∷ records) more (short, others) b = (short, short_more records more others b)

pub records_are_read : RecordsAreRead
records_are_read batches records file (are, short) has =
    from_stream (read_on nothing_taken (file_sectors file)) records (file_is_read magic batches file has ∙ ap Some are) short

pub records_are_all_or_none : RecordsAreAllOrNone
records_are_all_or_none batches batch records more old new left (are, short) others is has will mixed =
    let grown : all_bytes magic batches ++ batch_bytes batch ≡ magic ++ spelled_all (records ++ more)
    = ap (λ (l : List ℕ). l ++ batch_bytes batch) are ∙ ap (λ (l : List ℕ). (magic ++ spelled_all records) ++ l) is
    ∙ append_assoc magic (spelled_all records) (spelled_all more) ∙ ap (λ (l : List ℕ). magic ++ l) (sym (spelled_more records more)) in
    ⊎_elim
    (λ e. inl (from_stream (read_on nothing_taken (file_sectors left)) records (e ∙ ap Some are) short))
    (λ e. inr (from_stream (read_on nothing_taken (file_sectors left)) (records ++ more) (e ∙ ap Some grown) (short_more records more short others)))
    (file_is_all_or_none magic batches batch old new left has will mixed)
