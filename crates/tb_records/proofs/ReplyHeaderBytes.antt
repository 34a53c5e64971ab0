-- The header of a reply that was read: its bytes are the encoding of its fields, and its numbers go together.
use Rattle.std.proofs.Common.{◌≡◌, ℕ, ◌+◌, ◌-◌, ◌<◌, ◌≤◌, Bool, true, false, not, ◌&&◌, ◌==◌, nat_lt, List, [], ◌∷◌, ◌++◌, length, take, drop, slice_index, None, sym, ap, ◌∙◌, arith, if◌then◌else◌}
use Rattle.std.proofs.Math.Seq.{take-add}
use Rattle.std.proofs.lemmas.Bool.{eq-eqb}
use Rattle.std.proofs.lemmas.Bool.Decides.{nat_tests}
use Rattle.std.proofs.lemmas.List.{length-take, length-drop}
use Rattle.tb_records.specs.declared.reply_reading.ReplyHeader.{ReplyHeader}
use Rattle.tb_records.specs.declared.bodies.ReplyBody.{ReplyBody}
use Rattle.tb_records.specs.declared.faults.FrameFault.{FrameFault}
use Rattle.tb_records.specs.declared.faults.FrameFault.TheVariants.{ClientZero, UnknownOperation, BadLength, TooMany, RegisterNumbers, RequestZero, ReplyNumbers}
use Rattle.tb_records.specs.Messages.{status_code, is_operation, has_register_numbers, has_reply_numbers, kind_of, kind_for, IsRight}
use Rattle.tb_records.specs.Numbers.{le_bytes, le_at}
use Rattle.tb_records.specs.ReplyFrames.{reply_header_bytes, reply_header_fault, reply_header_tests, reply_body_bytes, has_reply_length, SpellsReply}
use Rattle.tb_records.specs.private.ReplyHeaders.{IsReplyHeader, IsReplyBody}
use Rattle.tb_records.specs.ReplyTests.{answer_of}
use Rattle.tb_records.specs.declared.limits.TheConstants.{ITEMS_MAX}
use Rattle.tb_records.proofs.NumberBytes.{le_at-fits}
use Rattle.tb_records.proofs.ReplyPlaces.{reply_widths}
use Rattle.tb_records.proofs.Rows.{row_bytes, row_read}
use Rattle.tb_records.proofs.ReplyRows.{is_row, row_count}
use Rattle.tb_records.proofs.FirstFaults.{none_each}

pub is_true : (b : Bool) → not b ≡ false → b ≡ true
is_true b e = grind arith

-- the reserved bytes are 0
reserved_zero : (b : List ℕ) → reply_header_fault b ≡ None → (le_at 2 30 b ≡ 0) × (le_at 4 44 b ≡ 0)
unfolding reply_header_fault
reserved_zero b e = let tests = none_each (reply_header_tests b) e in grind (arith, nat_tests)

-- the bytes of a header are the encoding of its fields
header_spelled : (b : List ℕ) (h : ReplyHeader) → 48 ≤ length b → ((i : ℕ) → slice_index b i < 256) → IsReplyHeader b h
    → take 48 b ≡ reply_header_bytes h.numbers.client h.numbers.session h.numbers.request h.numbers.operation (status_code h.numbers.status) h.len h.numbers.commit
unfolding reply_header_bytes le_bytes
header_spelled b h long fits of =
    let zero = reserved_zero b of.none in
    row_read reply_widths 0 b (omega arith) fits
    ∙ sym (λ i. row_bytes reply_widths (of.fields.client i ∷ of.fields.session i ∷ of.fields.request i ∷ of.fields.operation i ∷ of.fields.status i
    ∷ sym zero.0 i ∷ of.fields.len i ∷ of.fields.commit i ∷ sym zero.1 i ∷ []))

-- the length of the body is one that the operation and the status allow
pub header_length : (b : List ℕ) (h : ReplyHeader) → IsReplyHeader b h → has_reply_length h.numbers.operation (status_code h.numbers.status) h.len ≡ true
unfolding reply_header_fault
header_length b h of =
    let tests = none_each (reply_header_tests b) of.none in
    is_true _ (ap not (λ i. has_reply_length (of.fields.operation i) (of.fields.status i) (of.fields.len i)) ∙ tests.1.1.1.1.1.1.0)

-- the tests of a reply, by its fields
abbrev pub answer_tests_of : ℕ → ℕ → ℕ → ℕ → ℕ → ℕ → ℕ → ℕ → List (Bool × FrameFault)
answer_tests_of client session request operation status commit kind count =
    (client == 0, ClientZero)
    ∷ (not (is_operation operation), UnknownOperation)
    ∷ (operation == 2 && not (has_register_numbers status session request), RegisterNumbers)
    ∷ (not (operation == 2) && request == 0, RequestZero)
    ∷ (not (has_reply_numbers operation status session commit), ReplyNumbers)
    ∷ (not (kind == (if status == 0 then kind_for operation else 0)), BadLength)
    ∷ (nat_lt ITEMS_MAX count, TooMany)
    ∷ []

-- a header without a fault, and a body of its kind and length: the reply's numbers go together
pub header_right : (b : List ℕ) (h : ReplyHeader) (body : ReplyBody) (bytes : List ℕ) → IsReplyHeader b h → IsReplyBody h.numbers.operation (status_code h.numbers.status) body bytes → length bytes ≡ h.len
    → IsRight (answer_of h.numbers body)
unfolding reply_header_fault
header_right b h body bytes of is long =
    let tests = none_each (reply_header_tests b) of.none in
    let kind = eq-eqb (kind_of body) (if status_code h.numbers.status == 0 then kind_for h.numbers.operation else 0) is.kind in
    let len : length (reply_body_bytes body) ≡ h.len = ap length is.spelled ∙ long in
    let count = row_count h.numbers.operation (status_code h.numbers.status) _ _ (is_row h.numbers.operation (status_code h.numbers.status) body is.kind) in
    grind arith

-- the bytes of the body after the header
pub body_behind : (b : List ℕ) (n : ℕ) → 48 + n ≤ length b → length (take (48 + n - 48) (drop 48 b)) ≡ n
body_behind b n long = omega (arith, length-take (48 + n - 48) (drop 48 b), length-drop 48 b)

-- a header, and the body of its kind and length after it: a reply
pub found_reply : (b : List ℕ) (h : ReplyHeader) (body : ReplyBody) → ((i : ℕ) → slice_index b i < 256) → IsReplyHeader b h → 48 + h.len ≤ length b
    → IsReplyBody h.numbers.operation (status_code h.numbers.status) body (take (48 + h.len - 48) (drop 48 b))
    → SpellsReply (take (48 + h.len) b) (answer_of h.numbers body)
found_reply b h body fits of long is =
    let header = header_spelled b h (omega arith) fits of in
    let same : 48 + h.len - 48 ≡ h.len = omega arith in
    let rest : reply_body_bytes body ≡ take h.len (drop 48 b) = is.spelled ∙ ap (λ (n : ℕ). take n (drop 48 b)) same in
    let len : length (reply_body_bytes body) ≡ h.len = ap length is.spelled ∙ body_behind b h.len long in
    record {
      bytes_are = take-add 48 h.len b
          ∙ ap (λ (l : List ℕ). take 48 b ++ l) (sym rest)
          ∙ ap (λ (l : List ℕ). l ++ reply_body_bytes body) header
          ∙ ap (λ (n : ℕ). reply_header_bytes h.numbers.client h.numbers.session h.numbers.request h.numbers.operation (status_code h.numbers.status) n h.numbers.commit ++ reply_body_bytes body) (sym len);
      is = record {
        client = omega (arith, of.fields.client, le_at-fits 16 0 b fits);
        session = omega (arith, of.fields.session, le_at-fits 8 16 b fits);
        request = omega (arith, of.fields.request, le_at-fits 4 24 b fits);
        commit = omega (arith, of.fields.commit, le_at-fits 8 36 b fits);
        body = is.fits;
        right = header_right b h body _ of is (body_behind b h.len long);
      };
    }
