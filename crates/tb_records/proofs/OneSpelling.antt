-- Each record has one encoding, and so has a list of them.
use Rattle.std.proofs.Common.{◌≡◌, ℕ, ◌<◌, List, [], ◌∷◌, ◌++◌, length, flat_map, All, refl, sym, ap, ◌∙◌, arith, length-append}
use Rattle.std.proofs.lemmas.List.Elements.{All-head, All-tail}
use Rattle.tb_records.specs.declared.records.Account.{Account}
use Rattle.tb_records.specs.declared.records.Transfer.{Transfer}
use Rattle.tb_records.specs.declared.records.EventResult.{EventResult}
use Rattle.tb_records.specs.Numbers.{le_bytes}
use Rattle.tb_records.specs.RecordBytes.{account_bytes, transfer_bytes, result_bytes, IsAccount, IsTransfer, IsResult}
use Rattle.tb_records.proofs.NumberBytes.{split_at}
use Rattle.tb_records.proofs.Rows.{row_bytes, Fit, one_row}

-- numbers with the same encoding, with nothing after them
one_spelling : (widths xs ys : List ℕ) → length xs ≡ length widths → length ys ≡ length widths → Fit widths xs → Fit widths ys → row_bytes widths xs ≡ row_bytes widths ys → xs ≡ ys
one_spelling widths xs ys many_x many_y fit_x fit_y e = (one_row widths xs ys [] [] many_x many_y fit_x fit_y (ap (λ l. l ++ []) e)).0

-- how many bytes the numbers of an account or a transfer have
abbrev record_widths : List ℕ
record_widths = 16 ∷ 16 ∷ 16 ∷ 16 ∷ 16 ∷ 16 ∷ 8 ∷ 4 ∷ 4 ∷ 4 ∷ 2 ∷ 2 ∷ 8 ∷ []

abbrev of_account : Account → List ℕ
of_account a =
    a.id ∷ a.debits_pending ∷ a.debits_posted ∷ a.credits_pending ∷ a.credits_posted
    ∷ a.user_data_128 ∷ a.user_data_64 ∷ a.user_data_32 ∷ a.reserved ∷ a.ledger ∷ a.code ∷ a.flags ∷ a.timestamp ∷ []

account_fits : (a : Account) → IsAccount a → Fit record_widths (of_account a)
account_fits a is = grind arith

pub one_account : (a b : Account) → IsAccount a → IsAccount b → account_bytes a ≡ account_bytes b → a ≡ b
unfolding account_bytes le_bytes
one_account a b fa fb e =
    let same = one_spelling record_widths (of_account a) (of_account b) refl refl (account_fits a fa) (account_fits b fb) e in
    grind arith

abbrev of_transfer : Transfer → List ℕ
of_transfer t =
    t.id ∷ t.debit_account_id ∷ t.credit_account_id ∷ t.amount ∷ t.pending_id
    ∷ t.user_data_128 ∷ t.user_data_64 ∷ t.user_data_32 ∷ t.timeout ∷ t.ledger ∷ t.code ∷ t.flags ∷ t.timestamp ∷ []

transfer_fits : (t : Transfer) → IsTransfer t → Fit record_widths (of_transfer t)
transfer_fits t is = grind arith

pub one_transfer : (a b : Transfer) → IsTransfer a → IsTransfer b → transfer_bytes a ≡ transfer_bytes b → a ≡ b
unfolding transfer_bytes le_bytes
one_transfer a b fa fb e =
    let same = one_spelling record_widths (of_transfer a) (of_transfer b) refl refl (transfer_fits a fa) (transfer_fits b fb) e in
    grind arith

pub one_result : (a b : EventResult) → IsResult a → IsResult b → result_bytes a ≡ result_bytes b → a ≡ b
unfolding result_bytes le_bytes
one_result a b fa fb e =
    let same = one_spelling (4 ∷ 4 ∷ []) (a.index ∷ a.result ∷ []) (b.index ∷ b.result ∷ []) refl refl (fa.index, (fa.result, tt)) (fb.index, (fb.result, tt)) e in
    grind arith

-- items of one size, each of which has one encoding
pub items_one : {X : Type 0} (spelling : X → List ℕ) (Fits : X → Type 0) (size : ℕ) → 0 < size → ((x : X) → length (spelling x) ≡ size)
    → ((x y : X) → Fits x → Fits y → spelling x ≡ spelling y → x ≡ y)
    → (xs ys : List X) → All Fits xs → All Fits ys → flat_map spelling xs ≡ flat_map spelling ys → xs ≡ ys
items_one spelling Fits size some each one [] [] fx fy e = refl
items_one spelling Fits size some each one [] (y ∷ ys) fx fy e =
    absurd (omega (arith, ap length e, length-append (spelling y) (flat_map spelling ys), each y))
items_one spelling Fits size some each one (x ∷ xs) [] fx fy e =
    absurd (omega (arith, ap length e, length-append (spelling x) (flat_map spelling xs), each x))
items_one spelling Fits size some each one (x ∷ xs) (y ∷ ys) fx fy e =
    let cut = split_at (spelling x) (spelling y) (flat_map spelling xs) (flat_map spelling ys) (each x ∙ sym (each y)) e in
    let head : x ≡ y = one x y (All-head Fits x xs fx) (All-head Fits y ys fy) cut.0 in
    let tail : xs ≡ ys = items_one spelling Fits size some each one xs ys (All-tail Fits x xs fx) (All-tail Fits y ys fy) cut.1 in
    λ i. head i ∷ tail i
