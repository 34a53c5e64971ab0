-- A number that is past the range stays past it, whatever digits follow.
use Rattle.std.proofs.Common.{ℕ, ◌≡◌, ◌<◌, ◌+◌, ◌*◌, List, [], ◌∷◌, Option, Some, None, if◌then◌else◌, nat_le, refl, arith}
use Rattle.std.specs.Option.{option_and_then}
use Rattle.std.proofs.lemmas.Bool.Decides.{nat_tests}
use Rattle.tb_edge_commands.specs.Forms.{number_from, digit_of, with_digit, within}

pub beyond : (low high n : ℕ) (bytes : List ℕ) → high < n → within low high (number_from n bytes) ≡ None
beyond low high n [] above = grind (arith, nat_tests)
beyond low high n (byte ∷ bytes) above = by (digit_of byte) (λ digit. beyond low high (n * 10 + digit) bytes (omega arith))
  where
    by : (o : Option ℕ) → ((digit : ℕ) → within low high (number_from (n * 10 + digit) bytes) ≡ None) → within low high (option_and_then (λ digit. number_from (n * 10 + digit) bytes) o) ≡ None
    by None later = refl
    by (Some digit) later = later digit

pub stops : (high n byte : ℕ) (bytes : List ℕ) → with_digit n byte high ≡ None → within 0 high (number_from n (byte ∷ bytes)) ≡ None
stops high n byte bytes none = by (digit_of byte) none
  where
    by : (o : Option ℕ) → option_and_then (λ digit. if nat_le (n * 10 + digit) high then Some (n * 10 + digit) else None) o ≡ None
        → within 0 high (option_and_then (λ digit. number_from (n * 10 + digit) bytes) o) ≡ None
    by None is = refl
    by (Some digit) is = beyond 0 high (n * 10 + digit) bytes (grind (arith, nat_tests, is))
