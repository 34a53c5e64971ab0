-- The encoding of a reply has no fault, and has one decoding.
use Rattle.std.proofs.Common.{◌≡◌, ℕ, ◌+◌, ◌^◌, ◌<◌, false, ◌==◌, nat_lt, List, ◌++◌, length, drop, None, Result, Ok, Err, refl, sym, ap, ◌∙◌, arith, append_assoc, length-append, if◌then◌else◌}
use Rattle.std.proofs.lemmas.Bool.Decides.{nat_tests}
use Rattle.std.proofs.lemmas.List.{take-append-drop, length-take-le}
use Rattle.tb_records.specs.declared.bodies.ReplyBody.{ReplyBody}
use Rattle.tb_records.specs.declared.bodies.ReplyBody.TheVariants.{Empty, Results, Accounts, Transfers}
use Rattle.tb_records.specs.declared.faults.FrameFault.{FrameFault}
use Rattle.tb_records.specs.declared.faults.FrameFault.TheVariants.{NoMemory}
use Rattle.tb_records.specs.declared.replies.Status.{Status}
use Rattle.tb_records.specs.Messages.{Answer, status_code, answer_count, answer_fault, kind_of, kind_for}
use Rattle.tb_records.specs.RecordBytes.{account_bytes, transfer_bytes, result_bytes, IsAccount, IsTransfer, IsResult}
use Rattle.tb_records.specs.ReplyFrames.{reply_header_bytes, reply_body_bytes, reply_bytes, reply_fault, reply_header_fault, ReplyBodyFits, FitsFrame, HasKind, IsReply, SpellsReply, FoundReply, OnlyThisReply}
use Rattle.tb_records.proofs.Sizes.{length-account, length-transfer, length-result}
use Rattle.tb_records.proofs.NumberBytes.{split_at}
use Rattle.tb_records.proofs.OneSpelling.{one_account, one_transfer, one_result, items_one}
use Rattle.tb_records.proofs.ReplyFaults.{whole_reply}
use Rattle.tb_records.proofs.ReplyHeaderBytes.{answer_tests_of}
use Rattle.tb_records.proofs.ReplyPlaces.{reply_widths, header_row, reply_places, length-reply_header}
use Rattle.tb_records.proofs.Rows.{Fit, Stand, one_row}
use Rattle.tb_records.specs.Numbers.{le_bytes}
use Rattle.tb_records.specs.declared.limits.TheConstants.{ITEMS_MAX}
use Rattle.tb_records.specs.private.Headers.{header_of_reply}
use Rattle.tb_records.proofs.ReplyRows.{IsRow, is_row, row_length, row_count}
use Rattle.tb_records.proofs.FirstFaults.{NoneHolds, none_each}

-- the numbers of statuses are small, and each is that of one status
status_small : (s : Status) → status_code s < 2 ^ 8
status_small s = grind arith

one_status : (s t : Status) → status_code s ≡ status_code t → s ≡ t
one_status s t e = grind arith

-- a body of at most 8190 items has fewer than 2^32 bytes
row_small : (operation status len count : ℕ) → IsRow operation status len count → nat_lt ITEMS_MAX count ≡ false → len < 2 ^ 32
row_small operation status len count row few = grind (arith, nat_tests)

-- what the rules say of a reply, test by test
abbrev Right : Answer → Type 0
Right r = NoneHolds (answer_tests_of r.client r.session r.request r.operation (status_code r.status) r.commit (kind_of r.body) (answer_count r.body))

right_each : (r : Answer) → IsReply r → Right r
right_each r is = none_each (answer_tests_of r.client r.session r.request r.operation (status_code r.status) r.commit (kind_of r.body) (answer_count r.body)) is.right

kind_right : (r : Answer) → IsReply r → kind_of r.body ≡ (if status_code r.status == 0 then kind_for r.operation else 0)
kind_right r is = let right = right_each r is in grind (arith, nat_tests)

row_right : (r : Answer) → IsReply r → IsRow r.operation (status_code r.status) (length (reply_body_bytes r.body)) (answer_count r.body)
row_right r is = is_row r.operation (status_code r.status) r.body (kind_right r is)

-- what fits, of a reply that has a frame
fits_frame : (r : Answer) → IsReply r → FitsFrame r
fits_frame r is =
    let right = right_each r is in
    record {
      client = is.client;
      session = is.session;
      request = is.request;
      operation = grind (arith, nat_tests);
      commit = is.commit;
      body = row_small r.operation (status_code r.status) _ (answer_count r.body) (row_right r is) right.1.1.1.1.1.1.0;
    }

-- the numbers of a reply's header
abbrev header_numbers : Answer → List ℕ
header_numbers r = header_row r.client r.session r.request r.operation (status_code r.status) (length (reply_body_bytes r.body)) r.commit

row_fits : (r : Answer) → FitsFrame r → Fit reply_widths (header_numbers r)
row_fits r fits = let status = status_small r.status in grind arith

-- they are in it
places : (r : Answer) (more : List ℕ) → FitsFrame r → Stand reply_widths (header_numbers r) 0 (header_of_reply r (length (reply_body_bytes r.body)) ++ more)
places r more fits = reply_places r.client r.session r.request r.operation (status_code r.status) (length (reply_body_bytes r.body)) r.commit more (row_fits r fits)

-- the first fault of a header, if the body is of its kind, is that of the values
header_fault_is : (r : Answer) (more : List ℕ) → FitsFrame r → HasKind r → reply_header_fault (header_of_reply r (length (reply_body_bytes r.body)) ++ more) ≡ answer_fault r
unfolding reply_header_fault
header_fault_is r more fits kind =
    let len = length (reply_body_bytes r.body) in
    let at = places r more fits in
    let row = is_row r.operation (status_code r.status) r.body kind in
    let right = row_length r.operation (status_code r.status) len (answer_count r.body) row in
    let count = row_count r.operation (status_code r.status) len (answer_count r.body) row in
    let status = status_small r.status in
    grind (arith, nat_tests)

-- a reply's values have the first fault that their frame has, whatever follows it
pub one_fault : (r : Answer) (more : List ℕ) → FitsFrame r → HasKind r → reply_fault (reply_bytes r ++ more) ≡ answer_fault r
one_fault r more fits kind =
    let len = length (reply_body_bytes r.body) in
    let rest = reply_body_bytes r.body ++ more in
    let b = header_of_reply r len ++ rest in
    let at = places r rest fits in
    let long : length b ≡ 48 + (len + length more) =
    length-append (header_of_reply r len) rest
    ∙ ap (λ (n : ℕ). n + length rest) (length-reply_header r.client r.session r.request r.operation (status_code r.status) len r.commit)
    ∙ ap (λ (n : ℕ). 48 + n) (length-append (reply_body_bytes r.body) more) in
    ap reply_fault (append_assoc (header_of_reply r len) (reply_body_bytes r.body) more)
    ∙ whole_reply b (omega arith) (omega (arith, at.1.1.1.1.1.1.0))
    ∙ header_fault_is r rest fits kind

-- an encoding has no fault, whatever follows it
pub spelled_whole : (r : Answer) (more : List ℕ) → IsReply r → reply_fault (reply_bytes r ++ more) ≡ None
spelled_whole r more is = one_fault r more (fits_frame r is) (kind_right r is) ∙ is.right

-- bodies of one kind have one encoding
body_one : (b d : ReplyBody) → kind_of b ≡ kind_of d → ReplyBodyFits b → ReplyBodyFits d → reply_body_bytes b ≡ reply_body_bytes d → b ≡ d
unfolding reply_body_bytes
body_one Empty Empty k fb fd e = refl
body_one (Results xs) (Results ys) k fb fd e = ap Results (items_one result_bytes IsResult 8 (omega arith) length-result one_result xs ys fb fd e)
body_one (Accounts xs) (Accounts ys) k fb fd e = ap Accounts (items_one account_bytes IsAccount 128 (omega arith) length-account one_account xs ys fb fd e)
body_one (Transfers xs) (Transfers ys) k fb fd e = ap Transfers (items_one transfer_bytes IsTransfer 128 (omega arith) length-transfer one_transfer xs ys fb fd e)
body_one b d k fb fd e = absurd (omega (arith, k))

-- no encoding of a reply is a prefix of another one
pub one_reading : (r s : Answer) (x y : List ℕ) → IsReply r → IsReply s → reply_bytes r ++ x ≡ reply_bytes s ++ y → (r ≡ s) × (x ≡ y)
unfolding reply_header_bytes le_bytes
one_reading r s x y ir is e =
    let br = reply_body_bytes r.body in
    let bs = reply_body_bytes s.body in
    let all = sym (append_assoc (header_of_reply r (length br)) br x) ∙ e ∙ append_assoc (header_of_reply s (length bs)) bs y in
    let heads = one_row reply_widths (header_numbers r) (header_numbers s) (br ++ x) (bs ++ y) refl refl (row_fits r (fits_frame r ir)) (row_fits s (fits_frame s is)) all in
    let status : r.status ≡ s.status = one_status r.status s.status (cc heads.0) in
    let bodies = split_at br bs x y (cc heads.0) heads.1 in
    let kind : kind_of r.body ≡ kind_of s.body = kind_right r ir ∙ (cc heads.0) ∙ sym (kind_right s is) in
    let body : r.body ≡ s.body = body_one r.body s.body kind ir.body is.body bodies.0 in
    (grind arith, bodies.1)

-- if the bytes begin with the encoding of a reply, a reader returns no other reply
pub only_this : (result : Result (Answer × ℕ) FrameFault) (b : List ℕ) → FoundReply result b
    → (r : Answer) (front rest : List ℕ) → SpellsReply front r → b ≡ front ++ rest → OnlyThisReply result r (length front)
only_this (Ok (s, n)) b found r front rest is e =
    let spelled : reply_bytes s ++ drop n b ≡ reply_bytes r ++ rest =
    ap (λ (l : List ℕ). l ++ drop n b) (sym found.1.bytes_are) ∙ take-append-drop n b ∙ e ∙ ap (λ (l : List ℕ). l ++ rest) is.bytes_are in
    let same : s ≡ r = (one_reading s r (drop n b) rest found.1.is is.is spelled).0 in
    let len : n ≡ length front =
    sym (length-take-le n b found.0) ∙ ap length found.1.bytes_are ∙ ap (λ (a : Answer). length (reply_bytes a)) same ∙ ap length (sym is.bytes_are) in
    (same, len)
only_this (Err NoMemory) b found r front rest is e = tt
only_this (Err f) b found r front rest is e =
    let none : reply_fault b ≡ None =
    ap reply_fault (e ∙ ap (λ (l : List ℕ). l ++ rest) is.bytes_are) ∙ spelled_whole r rest is.is in
    cc
