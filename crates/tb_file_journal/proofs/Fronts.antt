-- What is at the head of bytes is known from a prefix of them.
use Rattle.std.proofs.Common.{rules, ◌≡◌, ⊎_elim, ℕ, suc, ◌+◌, ◌-◌, ◌<◌, ◌≤◌, min, Bool, true, false, List, [], ◌∷◌, ◌++◌, length, take, drop, ◌∙◌, ap, arith, nat_le, length-take, if◌then◌else◌}
use Rattle.std.proofs.lemmas.Grind.{common_steps}
use Rattle.std.proofs.lemmas.List.{take_all, take-take}
use Rattle.std.proofs.lemmas.Bool.{cases_lt}
use Rattle.std.proofs.lemmas.Bool.Decides.{nat_tests}
use Rattle.std.specs.Int.{w32, from_le_bytes}
use Rattle.tb_file_journal.specs.Contents.{is_closed, Ends, behind_latch, front}
use Rattle.tb_file_journal.specs.Scans.{IsAhead}
use Rattle.tb_file_journal.specs.Reading.{HasAhead, FindsHead, asked_bytes}

over : (a b : ℕ) → b < a → nat_le a b ≡ false
over a b h = grind (arith, nat_tests)

within : (a b : ℕ) → a ≤ b → nat_le a b ≡ true
within a b h = grind (arith, nat_tests)

same_test : (n x y k : ℕ) → x ≡ min k y → n ≤ k → nat_le n x ≡ nat_le n y
same_test n x y k is le = grind (arith, common_steps, ⊎_elim, cases_lt y n)

behind_same : (size : List ℕ) (sum k : ℕ) (rest : List ℕ) → from_le_bytes w32 (size ++ 0 ∷ []) ≤ k → behind_latch size sum (take k rest) ≡ behind_latch size sum rest
behind_same size sum k rest le = search (rules, same_test, length-take, take-take)

latch_same : (closed : Bool) (size : List ℕ) (sum k : ℕ) (rest : List ℕ) → (closed ≡ false → from_le_bytes w32 (size ++ 0 ∷ []) ≤ k)
    → (if closed then Ends else behind_latch size sum (take k rest)) ≡ (if closed then Ends else behind_latch size sum rest)
latch_same closed size sum k rest le = grind (arith, common_steps, behind_same)

pub at_least : (closed : Bool) (n : ℕ) → 11 ≤ (if closed then 11 else 11 + n)
at_least closed n = grind (arith, common_steps)

behind_open : (closed : Bool) (n m : ℕ) → (if closed then 11 else 11 + n) ≤ m → closed ≡ false → n ≤ m - 11
behind_open closed n m le is = grind (arith, common_steps)

short : (m : ℕ) (l : List ℕ) → length l ≤ m → front (take m l) ≡ front l
short m l le = ap front (take_all m l le)

-- as many bytes as are needed
pub front_told : (m : ℕ) (l : List ℕ) → asked_bytes l ≤ m → front (take m l) ≡ front l
front_told m [] le = short m [] (omega arith)
front_told m (w ∷ []) le = short m (w ∷ []) (omega (arith, le))
front_told m (w ∷ x ∷ []) le = short m (w ∷ x ∷ []) (omega (arith, le))
front_told m (w ∷ x ∷ y ∷ []) le = short m (w ∷ x ∷ y ∷ []) (omega (arith, le))
front_told m (w ∷ x ∷ y ∷ z ∷ []) le = short m (w ∷ x ∷ y ∷ z ∷ []) (omega (arith, le))
front_told m (w ∷ x ∷ y ∷ z ∷ a ∷ []) le = short m (w ∷ x ∷ y ∷ z ∷ a ∷ []) (omega (arith, le))
front_told m (w ∷ x ∷ y ∷ z ∷ a ∷ b ∷ []) le = short m (w ∷ x ∷ y ∷ z ∷ a ∷ b ∷ []) (omega (arith, le))
front_told m (w ∷ x ∷ y ∷ z ∷ a ∷ b ∷ c ∷ []) le = short m (w ∷ x ∷ y ∷ z ∷ a ∷ b ∷ c ∷ []) (omega (arith, le, at_least (is_closed w x y z) (from_le_bytes w32 (a ∷ b ∷ c ∷ 0 ∷ []))))
front_told m (w ∷ x ∷ y ∷ z ∷ a ∷ b ∷ c ∷ s ∷ []) le = short m (w ∷ x ∷ y ∷ z ∷ a ∷ b ∷ c ∷ s ∷ []) (omega (arith, le, at_least (is_closed w x y z) (from_le_bytes w32 (a ∷ b ∷ c ∷ 0 ∷ []))))
front_told m (w ∷ x ∷ y ∷ z ∷ a ∷ b ∷ c ∷ s ∷ t ∷ []) le = short m (w ∷ x ∷ y ∷ z ∷ a ∷ b ∷ c ∷ s ∷ t ∷ []) (omega (arith, le, at_least (is_closed w x y z) (from_le_bytes w32 (a ∷ b ∷ c ∷ 0 ∷ []))))
front_told m (w ∷ x ∷ y ∷ z ∷ a ∷ b ∷ c ∷ s ∷ t ∷ u ∷ []) le = short m (w ∷ x ∷ y ∷ z ∷ a ∷ b ∷ c ∷ s ∷ t ∷ u ∷ []) (omega (arith, le, at_least (is_closed w x y z) (from_le_bytes w32 (a ∷ b ∷ c ∷ 0 ∷ []))))
front_told m (w ∷ x ∷ y ∷ z ∷ a ∷ b ∷ c ∷ s ∷ t ∷ u ∷ v ∷ rest) le =
    let n = from_le_bytes w32 (a ∷ b ∷ c ∷ 0 ∷ []) in
    let k = m - 11 in
    let far : m ≡ suc (suc (suc (suc (suc (suc (suc (suc (suc (suc (suc k)))))))))) = omega (arith, le, at_least (is_closed w x y z) n) in
    ap (λ (j : ℕ). front (take j (w ∷ x ∷ y ∷ z ∷ a ∷ b ∷ c ∷ s ∷ t ∷ u ∷ v ∷ rest))) far
    ∙ latch_same (is_closed w x y z) (a ∷ b ∷ c ∷ []) (from_le_bytes w32 (s ∷ t ∷ u ∷ v ∷ [])) k rest (behind_open (is_closed w x y z) n m le)

-- and seven bytes give how many
pub asked_told : (m : ℕ) (l : List ℕ) → 7 ≤ m → asked_bytes (take m l) ≡ asked_bytes l
asked_told m [] le = ap asked_bytes (take_all m [] (omega arith))
asked_told m (w ∷ []) le = ap asked_bytes (take_all m (w ∷ []) (omega (arith, le)))
asked_told m (w ∷ x ∷ []) le = ap asked_bytes (take_all m (w ∷ x ∷ []) (omega (arith, le)))
asked_told m (w ∷ x ∷ y ∷ []) le = ap asked_bytes (take_all m (w ∷ x ∷ y ∷ []) (omega (arith, le)))
asked_told m (w ∷ x ∷ y ∷ z ∷ []) le = ap asked_bytes (take_all m (w ∷ x ∷ y ∷ z ∷ []) (omega (arith, le)))
asked_told m (w ∷ x ∷ y ∷ z ∷ a ∷ []) le = ap asked_bytes (take_all m (w ∷ x ∷ y ∷ z ∷ a ∷ []) (omega (arith, le)))
asked_told m (w ∷ x ∷ y ∷ z ∷ a ∷ b ∷ []) le = ap asked_bytes (take_all m (w ∷ x ∷ y ∷ z ∷ a ∷ b ∷ []) (omega (arith, le)))
asked_told m (w ∷ x ∷ y ∷ z ∷ a ∷ b ∷ c ∷ rest) le =
    let far : m ≡ suc (suc (suc (suc (suc (suc (suc (m - 7))))))) = omega (arith, le) in
    ap (λ (j : ℕ). asked_bytes (take j (w ∷ x ∷ y ∷ z ∷ a ∷ b ∷ c ∷ rest))) far

asked_ahead : (at : ℕ) (file ahead : List ℕ) → HasAhead 11 at file ahead → asked_bytes ahead ≡ asked_bytes (drop at file)
asked_ahead at file ahead has = grind (arith, common_steps, ⊎_elim, asked_told)

pub finds_head : (at needed : ℕ) (file before ahead : List ℕ) → needed ≡ asked_bytes before → HasAhead 11 at file before → (IsAhead at file before → HasAhead needed at file ahead) → FindsHead at file ahead
finds_head at needed file before ahead is first second = search (rules, ⊎_elim, front_told, asked_ahead)
