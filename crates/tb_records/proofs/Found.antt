-- What is found by a number of its own.
use Rattle.std.proofs.Common.{◌≡◌, ◌↔◌, ℕ, nat_eq, List, find, Some, subst}
use Rattle.std.proofs.lemmas.Bool.{eqb-true}
use Rattle.tb_records.proofs.ByKey.{find_passes}

-- if each is found by its own number, what is found by a number is the one that has it
pub only_numbered : {A : Type 0} (all : List A) (code_of : A → ℕ) → ((x : A) → find (λ y. nat_eq (code_of y) (code_of x)) all ≡ Some x) → (code : ℕ) (x : A) → (find (λ y. nat_eq (code_of y) code) all ≡ Some x) ↔ (code_of x ≡ code)
only_numbered all code_of own code x = (
  λ found. eqb-true (code_of x) code (find_passes (λ y. nat_eq (code_of y) code) x all found),
  λ same. subst (λ one_key. find (λ y. nat_eq (code_of y) one_key) all ≡ Some x) same (own x),
)
