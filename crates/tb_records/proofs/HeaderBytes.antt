-- Headers: what their bytes contain, and what bytes after them do not change.
use Rattle.std.proofs.Common.{◌≡◌, ℕ, ◌<◌, ◌≤◌, List, [], ◌∷◌, length, slice_index, None, ◌∙◌, arith}
use Rattle.tb_records.specs.Numbers.{le_bytes, le_at}
use Rattle.std.proofs.Common.{Result, Ok, Err, MatchResult, OnOk, Some, ◌/◌, ◌*◌}
use Rattle.std.proofs.Math.Nat.{div-add-mod', zero-div}
use Rattle.std.proofs.lemmas.Bool.Decides.{nat_tests}
use Rattle.tb_records.specs.declared.faults.FrameFault.{FrameFault}
use Rattle.tb_records.specs.declared.headers.Header.{Header}
use Rattle.tb_records.specs.Frames.{item_size, header_bytes, header_fault, header_tests, length_tests, client_at, session_at, request_at, operation_at, length_at}
use Rattle.tb_records.specs.private.HeaderFields.{HeaderOf, HeaderSpelled, IsHeader, numbers_fault}
use Rattle.tb_records.specs.Operations.{operation_code}
use Rattle.tb_records.proofs.NumberBytes.{le_at-fits}
use Rattle.tb_records.proofs.Rows.{row_bytes, row_read}
use Rattle.tb_records.proofs.FirstFaults.{NoneHolds, none_each, both_zero}

-- how many bytes the numbers of a header have
abbrev pub header_widths : List ℕ
header_widths = 16 ∷ 8 ∷ 4 ∷ 1 ∷ 3 ∷ 4 ∷ 12 ∷ []

-- the reserved bytes of a header without a fault are 0
reserved_zero : (b : List ℕ) → header_fault b ≡ None → (le_at 3 29 b ≡ 0) × (le_at 12 36 b ≡ 0)
unfolding header_fault
reserved_zero b e =
    let tests = none_each (header_tests b) e in
    both_zero (le_at 3 29 b) (le_at 12 36 b) tests.1.1.0

pub header_spelled : (b : List ℕ) → 48 ≤ length b → ((i : ℕ) → slice_index b i < 256) → header_fault b ≡ None → HeaderSpelled b
unfolding header_bytes le_bytes
header_spelled b h fits sound =
    let zero = reserved_zero b sound in
    record {
      bytes = row_read header_widths 0 b (omega arith) fits
          ∙ (λ i. row_bytes header_widths (client_at b ∷ session_at b ∷ request_at b ∷ operation_at b ∷ zero.0 i ∷ length_at b ∷ zero.1 i ∷ []));
      client = le_at-fits 16 0 b fits;
      session = le_at-fits 8 16 b fits;
      request = le_at-fits 4 24 b fits;
      body = le_at-fits 4 32 b fits;
    }

-- the same for the result of a function that found no fault
pub ok_spelled : (b : List ℕ) (answer : Result Header FrameFault) → 48 ≤ length b → ((i : ℕ) → slice_index b i < 256)
    → MatchResult answer (λ h. HeaderOf b h) (λ f. header_fault b ≡ Some f) → OnOk answer (HeaderSpelled b)
ok_spelled b (Ok h) long fits m = header_spelled b long fits m.sound
ok_spelled b (Err f) long fits m = tt

-- a length without a fault is that of a row of items
pub right_length : (code len : ℕ) → NoneHolds (length_tests code len) → len / item_size code * item_size code ≡ len
right_length code len tests = let whole = div-add-mod' len (item_size code) in grind (arith, nat_tests)

-- the numbers of a header without a fault keep the rules
pub header_lawful : (b : List ℕ) (h : Header) → HeaderOf b h → numbers_fault h.client h.session h.request (operation_code h.operation) h.count ≡ None
unfolding header_fault
header_lawful b h of = let tests = none_each (header_tests b) of.sound in grind (arith, nat_tests)

-- a register has no items
header_empty : (b : List ℕ) (h : Header) → HeaderOf b h → operation_code h.operation ≡ 2 → h.count ≡ 0
unfolding header_fault
header_empty b h of e = let tests = none_each (header_tests b) of.sound in grind (arith, nat_tests, zero-div)

-- a header without a fault: its numbers keep the rules and fit
pub is_header : (b : List ℕ) (h : Header) → HeaderOf b h → HeaderSpelled b → IsHeader h
is_header b h of spelled = record {
  lawful = header_lawful b h of;
  client = omega (arith, of.client, spelled.client);
  session = omega (arith, of.session, spelled.session);
  request = omega (arith, of.request, spelled.request);
  empty = header_empty b h of;
}
