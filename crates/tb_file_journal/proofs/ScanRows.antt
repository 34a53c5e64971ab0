-- What a scan does not report.
use Rattle.std.specs.Prelude.{◌≡◌, ℕ, List, [], ◌∷◌, ◌++◌, take, refl}
use Rattle.tb_file_journal.specs.Contents.{NotAJournal, Damaged, Records, magic, latch_closed, contents}

-- its first bytes do not show that a file has no records, and no file is refused without a read
pub no_end_by_the_first_bytes : ((file : List ℕ) → take 8 file ≡ magic → contents file ≡ Records []) → ⊥
no_end_by_the_first_bytes says = let no : Damaged 8 ≡ Records [] = says (magic ++ 255 ∷ 255 ∷ 255 ∷ 255 ∷ 1 ∷ []) refl in absurd (cc)

pub no_refusal_without_a_read : ((file : List ℕ) → contents file ≡ NotAJournal) → ⊥
no_refusal_without_a_read says = let no : Records [] ≡ NotAJournal = says (magic ++ latch_closed) in absurd (cc)
