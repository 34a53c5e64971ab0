-- What a file is that holds no ledger, by its first bytes.
use Rattle.std.specs.Prelude.{ℕ, Bool, false, ◌≡◌, not, nat_le, nat_lt, nat_eq, ◌&&◌, ◌||◌, List, [], ◌∷◌, ◌++◌, length, take, drop, Result, Ok, Err, if◌then◌else◌, codes, refl}
use Rattle.std.specs.List.{list_all}
use Rattle.std.specs.Cmp.Lexicographic.{pointwise}
use Rattle.tb_file_journal.specs.declared.faults.JournalFault.{JournalFault}
use Rattle.tb_edge_file.specs.declared.kinds.FileKind.{FileKind}
use Rattle.tb_edge_file.specs.declared.kinds.TheConstants.{DUMP, HEAD, JOURNAL, NO_RECORD, REGISTER}
use Rattle.tb_edge_file.specs.declared.kinds.FileKind.TheVariants.{Unread, Empty, Dump, NoRecord, Closed, Begun, Ledger, Script, Text, Other}

-- bytes that begin with a prefix
abbrev pub begins : List ℕ → List ℕ → Bool
begins prefix bytes = pointwise nat_eq prefix (take (length prefix) bytes)

-- a byte from the space on except 127, or a tab, a line feed, a carriage return
abbrev pub is_text : ℕ → Bool
is_text byte = (nat_le 32 byte && not (nat_eq byte 127)) || nat_eq byte 9 || nat_eq byte 10 || nat_eq byte 13

-- bytes with a prefix at an offset
abbrev pub begins_at : ℕ → List ℕ → List ℕ → Bool
begins_at at prefix bytes = if nat_lt (length bytes) at then false else begins prefix (drop at bytes)

-- a journal whose first latch is closed: it has only these 12 bytes, or also others, which a crash in the first commit leaves, or damage of this
-- latch
abbrev pub unrecorded_kind : List ℕ → FileKind
unrecorded_kind first = if nat_lt (length NO_RECORD.now) (length first) then Closed else NoRecord

-- a journal whose first latch is closed, or that ends before its first record; or whose first record, at byte 19, begins as a ledger's
abbrev pub journal_kind : List ℕ → FileKind
journal_kind first =
    if begins NO_RECORD.now first then unrecorded_kind first
    else if begins first NO_RECORD.now then Begun
    else if begins_at 19 HEAD.now first then Ledger
    else Other

-- by the first 56 bytes of the file, or all if it has fewer. In a script the header of a request to register has a moment of 8 bytes before it
-- and begins with a client of 16; after these it has session 0, request 0, operation 2 and no body
abbrev pub file_kind : List ℕ → FileKind
file_kind first =
    if nat_eq (length first) 0 then Empty
    else if begins DUMP.now first then Dump
    else if begins JOURNAL.now first || begins first JOURNAL.now then journal_kind first
    else if begins_at 24 REGISTER.now first then Script
    else if list_all is_text first then Text
    else Other

-- the kind of a file whose first bytes were read, or not
abbrev pub kind_by : Result ℕ JournalFault → List ℕ → FileKind
kind_by (Ok count) file = file_kind (take 56 file)
kind_by (Err fault) file = Unread

-- rows

pub a_dump : file_kind (codes "TBSDUMP1" ++ 1 ∷ 0 ∷ 0 ∷ 0 ∷ 2 ∷ 0 ∷ 0 ∷ 0 ∷ []) ≡ Dump
a_dump = refl

pub a_journal_without_a_record : file_kind (codes "TBJRNL02" ++ 90 ∷ 195 ∷ 150 ∷ 105 ∷ []) ≡ NoRecord
a_journal_without_a_record = refl

pub a_closed_latch_and_a_byte : file_kind (codes "TBJRNL02" ++ 90 ∷ 195 ∷ 150 ∷ 105 ∷ 1 ∷ []) ≡ Closed
a_closed_latch_and_a_byte = refl

-- also if a ledger's head follows
pub a_closed_latch_and_a_head : file_kind (codes "TBJRNL02" ++ 90 ∷ 195 ∷ 150 ∷ 105 ∷ 6 ∷ 0 ∷ 0 ∷ 1 ∷ 2 ∷ 3 ∷ 4 ∷ codes "TBK1") ≡ Closed
a_closed_latch_and_a_head = refl

pub the_first_bytes_alone : file_kind (codes "TBJRNL02") ≡ Begun
the_first_bytes_alone = refl

pub a_ledger : file_kind (codes "TBJRNL02" ++ 255 ∷ 255 ∷ 255 ∷ 255 ∷ 6 ∷ 0 ∷ 0 ∷ 1 ∷ 2 ∷ 3 ∷ 4 ∷ codes "TBK1") ≡ Ledger
a_ledger = refl

pub a_text : file_kind (codes "register 7\n") ≡ Text
a_text = refl
