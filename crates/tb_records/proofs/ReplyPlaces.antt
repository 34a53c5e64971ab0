-- The numbers of a reply's header, which are in its bytes.
use Rattle.std.proofs.Common.{◌≡◌, ℕ, List, [], ◌∷◌, ◌++◌, length, refl, length-append}
use Rattle.tb_records.specs.Numbers.{le_bytes}
use Rattle.tb_records.specs.ReplyFrames.{reply_header_bytes}
use Rattle.tb_records.proofs.Sizes.{length-le_bytes}
use Rattle.tb_records.proofs.Rows.{Fit, Stand, row_stands}

-- how many bytes each has, with those that are 0
abbrev pub reply_widths : List ℕ
reply_widths = 16 ∷ 8 ∷ 4 ∷ 1 ∷ 1 ∷ 2 ∷ 4 ∷ 8 ∷ 4 ∷ []

abbrev pub header_row : ℕ → ℕ → ℕ → ℕ → ℕ → ℕ → ℕ → List ℕ
header_row client session request operation status len commit = client ∷ session ∷ request ∷ operation ∷ status ∷ 0 ∷ len ∷ commit ∷ 0 ∷ []

-- 48 bytes
pub length-reply_header : (client session request operation status len commit : ℕ) → length (reply_header_bytes client session request operation status len commit) ≡ 48
unfolding reply_header_bytes
length-reply_header client session request operation status len commit = simp (length-append, length-le_bytes)

pub reply_places : (client session request operation status len commit : ℕ) (more : List ℕ) → Fit reply_widths (header_row client session request operation status len commit)
    → Stand reply_widths (header_row client session request operation status len commit) 0 (reply_header_bytes client session request operation status len commit ++ more)
unfolding reply_header_bytes le_bytes
reply_places client session request operation status len commit more fit =
    row_stands reply_widths (header_row client session request operation status len commit) 0 [] more refl fit
