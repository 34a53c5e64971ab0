-- The lengths of the bodies of replies.
use Rattle.std.proofs.Common.{◌≡◌, ℕ, ◌*◌, ◌/◌, true, false, not, ◌&&◌, ◌==◌, nat_lt, length, ◌⊎◌, refl, arith, if◌then◌else◌}
use Rattle.std.proofs.Math.Nat.{mul-mod_right}
use Rattle.std.proofs.lemmas.Bool.Decides.{nat_tests}
use Rattle.tb_records.specs.declared.bodies.ReplyBody.{ReplyBody}
use Rattle.tb_records.specs.declared.bodies.ReplyBody.TheVariants.{Empty, Results, Accounts, Transfers}
use Rattle.tb_records.specs.Messages.{answer_count, kind_of, kind_for}
use Rattle.tb_records.specs.RecordBytes.{account_bytes, transfer_bytes, result_bytes}
use Rattle.tb_records.specs.ReplyFrames.{reply_body_bytes, reply_item_size, has_reply_length}
use Rattle.tb_records.proofs.Sizes.{length-account, length-transfer, length-result}
use Rattle.tb_records.proofs.ItemBytes.{length_items}

-- the size of an item of a kind
abbrev size_of : ℕ → ℕ
size_of kind = if nat_lt 1 kind then 128 else 8

-- the bytes of a body, by its kind
body_length : (body : ReplyBody) → length (reply_body_bytes body) ≡ size_of (kind_of body) * answer_count body
unfolding reply_body_bytes
body_length Empty = refl
body_length (Results results) = length_items result_bytes 8 length-result results
body_length (Accounts accounts) = length_items account_bytes 128 length-account accounts
body_length (Transfers transfers) = length_items transfer_bytes 128 length-transfer transfers

-- no body, or a row of items of the operation's size
abbrev pub IsRow : ℕ → ℕ → ℕ → ℕ → Type 0
IsRow operation status len count =
    (((status == 0 && not (operation == 2)) ≡ false) × (len ≡ 0) × (count ≡ 0))
    ⊎ (((status == 0 && not (operation == 2)) ≡ true) × (len ≡ reply_item_size operation * count))

-- the body of the kind that the operation and the status require is such a list
row_by : (operation status kind len count : ℕ) → len ≡ size_of kind * count → (kind ≡ 0 → count ≡ 0) → kind ≡ (if status == 0 then kind_for operation else 0) → IsRow operation status len count
row_by operation status kind len count len_is none_of kind_is = grind (arith, nat_tests)

pub is_row : (operation status : ℕ) (body : ReplyBody) → kind_of body ≡ (if status == 0 then kind_for operation else 0) → IsRow operation status (length (reply_body_bytes body)) (answer_count body)
is_row operation status body e = row_by operation status (kind_of body) _ _ (body_length body) (λ none. grind arith) e

-- a row has a length that the body may have
pub row_length : (operation status len count : ℕ) → IsRow operation status len count → has_reply_length operation status len ≡ true
row_length operation status len count row = grind (arith, nat_tests, mul-mod_right)

-- a row's length gives the number of its items
pub row_count : (operation status len count : ℕ) → IsRow operation status len count → len / reply_item_size operation ≡ count
row_count operation status len count row = grind (arith, nat_tests)
