-- The entries of a history above a commit number.
use Rattle.std.proofs.Common.{arith, ℕ, suc, ◌≡◌, ◌<◌, ◌≤◌, ◌+◌, ◌-◌, Bool, true, false, nat_lt, List, [], ◌∷◌, ◌++◌, drop, map, flat_map, refl, sym, ap, ◌∙◌, if◌then◌else◌}
use Rattle.std.proofs.lemmas.Grind.{common_steps}
use Rattle.std.specs.List.{filter}
use Rattle.tb_machine.specs.declared.entries.Entry.{Entry}
use Rattle.tb_machine.specs.Dumps.{dumped}
use Rattle.tb_machine.specs.Histories.{State, start as start_state, step, LegalFrom}
use Rattle.tb_machine.proofs.Judging.{may_come}
use Rattle.tb_file.specs.Keeping.{records_of}
use Rattle.tb_file.specs.Reading.{joined_bytes}
use Rattle.tb_file.specs.Following.{EntriesAreAbove}
use Rattle.tb_file.proofs.Dumping.{drop_none}

module _ (after : ℕ) where
  abbrev is_above : Entry → Bool
  is_above e = nat_lt after e.commit

  late : (e : Entry) → nat_lt after e.commit ≡ true → after < e.commit
  late e is = grind (arith, common_steps)

  early : (e : Entry) → nat_lt after e.commit ≡ false → e.commit ≤ after
  early e is = grind (arith, common_steps)

  above_by : (S : State) (e : Entry) (es : List Entry) → e.commit ≡ S.commit + 1 → joined_bytes (drop (after - e.commit) (map dumped es)) ≡ flat_map dumped (filter is_above es)
      → (b : Bool) → nat_lt after e.commit ≡ b → joined_bytes (drop (after - S.commit) (dumped e ∷ map dumped es)) ≡ flat_map dumped (filter is_above (e ∷ es))
  above_by S e es next more true is =
      let all : after - S.commit ≡ 0 = omega (arith, late e is, next) in
      let rest : after - e.commit ≡ 0 = omega (arith, late e is) in
      ap (λ (n : ℕ). joined_bytes (drop n (dumped e ∷ map dumped es))) all
      ∙ ap (λ (l : List ℕ). dumped e ++ l) (ap (λ (n : ℕ). joined_bytes (drop n (map dumped es))) (sym rest) ∙ more)
      ∙ ap (λ (b : Bool). flat_map dumped (if b then e ∷ filter is_above es else filter is_above es)) (sym is)
  above_by S e es next more false is =
      let one : after - S.commit ≡ suc (after - e.commit) = omega (arith, early e is, next) in
      ap (λ (n : ℕ). joined_bytes (drop n (dumped e ∷ map dumped es))) one
      ∙ more
      ∙ ap (λ (b : Bool). flat_map dumped (if b then e ∷ filter is_above es else filter is_above es)) (sym is)

  above_from : (S : State) (es : List Entry) → LegalFrom S es → joined_bytes (drop (after - S.commit) (map dumped es)) ≡ flat_map dumped (filter is_above es)
  above_from S [] legal = ap joined_bytes (drop_none (after - S.commit))
  above_from S (e ∷ es) legal = above_by S e es (may_come S e legal.0).commit (above_from (step S e) es legal.1) (nat_lt after e.commit) refl

pub entries_are_above : EntriesAreAbove
entries_are_above after h keepable =
    let n : after + 1 - 0 ≡ suc (after - 0) = omega arith in
    ap (λ (k : ℕ). joined_bytes (drop k (records_of h))) n ∙ above_from after (start_state h.profile h.clients_max) h.entries keepable.legal
