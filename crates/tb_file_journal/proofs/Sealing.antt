-- A record that was written before the numbers that come before it.
use Rattle.std.proofs.Common.{◌≡◌, ℕ, ◌+◌, List, ◌++◌, length, take, drop, refl, ◌∙◌, ap, subst}
use Rattle.std.proofs.lemmas.List.{take_at, drop_at}
use Rattle.tb_file_journal.specs.Contents.{Fits, block}
use Rattle.tb_file_journal.specs.private.Batches.{blank_numbers}
use Rattle.tb_file_journal.proofs.BlockWalks.{drop_parts}

module _ (old content was : List ℕ) (n : ℕ) (long : length old ≡ n) (is : was ≡ old ++ (blank_numbers ++ content)) where
  begins : take n was ≡ old
  begins = ap (take n) is ∙ take_at old (blank_numbers ++ content) n long

  past : drop 7 (blank_numbers ++ content) ≡ content
  past = refl

  behind : drop (n + 7) was ≡ content
  behind = ap (drop (n + 7)) is ∙ drop_parts n 7 (old ++ (blank_numbers ++ content)) ∙ ap (drop 7) (drop_at old (blank_numbers ++ content) n long) ∙ past

  pub content_fits : Fits (drop (n + 7) was) → Fits content
  content_fits fits = subst Fits behind fits

  pub sealed_block : (sealed : List ℕ) → sealed ≡ take n was ++ drop 4 (block (drop (n + 7) was)) → sealed ≡ old ++ drop 4 (block content)
  sealed_block sealed s = s ∙ ap (λ (l : List ℕ). l ++ drop 4 (block (drop (n + 7) was))) begins ∙ ap (λ (l : List ℕ). old ++ drop 4 (block l)) behind
