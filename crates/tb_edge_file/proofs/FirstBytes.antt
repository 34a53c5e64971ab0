-- The first bytes of a file.
use Rattle.std.proofs.Common.{◌≡◌, ◌≤◌, ◌-◌, ℕ, ◌∙◌, Bool, false, nat_lt, if◌then◌else◌, List, length, take, drop, min, ap, sym, arith}
use Rattle.std.proofs.lemmas.Bool.Decides.{nat_tests}
use Rattle.std.proofs.lemmas.List.{take_all, take_min, length-drop}
use Rattle.tb_file_journal.specs.Device.{ReadsAt}
use Rattle.tb_edge_file.specs.Kinds.{begins, begins_at}

pub first_bytes : (count n : ℕ) (into file : List ℕ) → ReadsAt count 0 file into → length into ≡ n → take count into ≡ take n file
first_bytes count n into file reads long =
    reads.bytes ∙ ap (λ k. take k file) (reads.counts ∙ ap (λ k. min k (length file)) long) ∙ take_min n file

not_short : (n least : ℕ) → least ≤ n → nat_lt n least ≡ false
not_short n least long = grind (arith, nat_tests)

-- after so many others
pub behind_is : (at : ℕ) (prefix bytes : List ℕ) (result : Bool) → at ≤ length bytes → result ≡ begins prefix (take (length bytes - at) (drop at bytes)) → result ≡ begins_at at prefix bytes
behind_is at prefix bytes result long is =
    is ∙ ap (begins prefix) (take_all (length bytes - at) (drop at bytes) (omega (arith, length-drop at bytes)))
    ∙ ap (λ (b : Bool). if b then false else begins prefix (drop at bytes)) (sym (not_short (length bytes) at long))
