-- Words that are so many.
use Rattle.std.proofs.Common.{◌≡◌, ℕ, ◌<◌, ◌≤◌, ◌-◌, List, [], ◌∷◌, ◌++◌, length, take, drop, get_or, map, refl, arith}
use Rattle.std.proofs.lemmas.List.{take_all}
use Rattle.tb_edge_words.specs.declared.faults.Wrong.{Wrong}
use Rattle.tb_edge_file.specs.declared.help.TheConstants.{USAGE}
use Rattle.tb_edge_file.specs.ExitStatuses.{shown_words, usage_lines, wrong_line}
use Rattle.tb_edge_file.specs.Printable.{printable}

module _ {X : Type 0} (bytes : X → List ℕ) where
  -- an argument and those after it
  pub shown_front : (words : List X) (word d : X) → 1 ≤ length words → word ≡ get_or words 0 d
      → (32 ∷ printable (bytes word)) ++ shown_words (map bytes (take (length words - 1) (drop 1 words))) ≡ shown_words (map bytes words)
  shown_front [] word d some same = absurd (omega (arith, some))
  shown_front (x ∷ xs) word d some same =
      let all : take (length (x ∷ xs) - 1) xs ≡ xs = take_all _ xs (omega arith) in
      rw (same, all) refl

  -- without words it is the page of usage
  pub usage_page : (wrong : Wrong) (words : List X) → length words < 1 → usage_lines wrong (map bytes words) ≡ USAGE.now
  usage_page wrong [] none = refl
  usage_page wrong (x ∷ xs) none = absurd (omega (arith, none))

  -- words that are some are reported with what is wrong with them
  pub usage_is : (wrong : Wrong) (words : List X) → 1 ≤ length words → usage_lines wrong (map bytes words) ≡ wrong_line wrong (map bytes words)
  usage_is wrong [] some = absurd (omega (arith, some))
  usage_is wrong (x ∷ xs) some = refl
