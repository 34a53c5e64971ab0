-- A test of two bodies that says "the same" says that they are equal, and a body is the same as itself.
use Rattle.std.proofs.Common.{◌≡◌, Bool, true, nat_eq, List, [], ◌∷◌, refl, ap, arith}
use Rattle.std.proofs.lemmas.Bool.{eqb-true, eq-eqb}
use Rattle.std.proofs.lemmas.Bool.Decides.{nat_tests}
use Rattle.std.specs.Cmp.Lexicographic.{pointwise}
use Rattle.tb_records.specs.declared.records.Account.{Account}
use Rattle.tb_records.specs.declared.records.Transfer.{Transfer}
use Rattle.tb_records.specs.declared.bodies.Body.{Body}
use Rattle.tb_records.specs.declared.bodies.Body.TheVariants.{Register, CreateAccounts, CreateTransfers, LookupAccounts, LookupTransfers}
use Rattle.tb_records.specs.Same.{same_account, same_transfer, same_body}

-- if the test of two items says that they are equal, so does the test of two lists
pub one_list : {X : Type 0} (test : X → X → Bool) → ((a b : X) → test a b ≡ true → a ≡ b) → (xs ys : List X) → pointwise test xs ys ≡ true → xs ≡ ys
one_list test one [] [] h = refl
one_list test one (x ∷ xs) (y ∷ ys) h = grind (arith, one x y, one_list test one xs ys)
one_list test one xs ys h = cc

same_list : {X : Type 0} (test : X → X → Bool) → ((a : X) → test a a ≡ true) → (xs : List X) → pointwise test xs xs ≡ true
same_list test same [] = refl
same_list test same (x ∷ xs) = grind (arith, same x, same_list test same xs)

one_account : (a b : Account) → same_account a b ≡ true → a ≡ b
one_account a b h = grind (arith, nat_tests)

one_transfer : (a b : Transfer) → same_transfer a b ≡ true → a ≡ b
one_transfer a b h = grind (arith, nat_tests)

-- a body is the same as itself
pub body_same : (b : Body) → same_body b b ≡ true
body_same Register = refl
body_same (CreateAccounts xs) = same_list same_account (λ a. grind (arith, nat_tests)) xs
body_same (CreateTransfers xs) = same_list same_transfer (λ t. grind (arith, nat_tests)) xs
body_same (LookupAccounts xs) = same_list nat_eq (λ n. eq-eqb n n refl) xs
body_same (LookupTransfers xs) = same_list nat_eq (λ n. eq-eqb n n refl) xs

-- bodies that the test calls the same are equal
pub one_body : (b d : Body) → same_body b d ≡ true → b ≡ d
one_body Register Register h = refl
one_body (CreateAccounts xs) (CreateAccounts ys) h = ap CreateAccounts (one_list same_account one_account xs ys h)
one_body (CreateTransfers xs) (CreateTransfers ys) h = ap CreateTransfers (one_list same_transfer one_transfer xs ys h)
one_body (LookupAccounts xs) (LookupAccounts ys) h = ap LookupAccounts (one_list nat_eq eqb-true xs ys h)
one_body (LookupTransfers xs) (LookupTransfers ys) h = ap LookupTransfers (one_list nat_eq eqb-true xs ys h)
one_body b d h = cc
