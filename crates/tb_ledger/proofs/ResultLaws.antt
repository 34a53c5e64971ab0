-- A batch, chain by chain, and how many codes and results it has.
use Rattle.tb_ledger.proofs.Common.{◌≡◌, ℕ, ◌+◌, ◌<◌, ◌≤◌, List, [], ◌∷◌, ◌++◌, length, take, drop, sym, ap, ◌∙◌, append_assoc, arith, EventResult, Books, Kind, batch_after, chains, chain_length, timed_from, results, results_from}
use Rattle.tb_ledger.proofs.CodeLaws.{results-append, length-results_from}
use Rattle.tb_ledger.proofs.ChainLaws.{length-batch, chains-cut}

-- at most one result for each event
pub length-results : {E : Type 0} (kind : Kind E) (B : Books) (events : List E) (T : ℕ) → length (results (batch_after kind B events T).codes) ≤ length events
length-results kind B events T = omega (arith, length-results_from 0 (batch_after kind B events T).codes, length-batch kind B events T)

-- the first chain and the rest
pub chains-round : {E : Type 0} (kind : Kind E) (stamp n : ℕ) (rest chain later : List E) → 0 < length rest
    → n ≡ chain_length kind rest → chain ≡ take n rest → later ≡ drop n rest → length chain ≡ n
    → chains kind (timed_from stamp rest) ≡ timed_from stamp chain ∷ chains kind (timed_from (stamp + length chain) later)
chains-round kind stamp n [] chain later some n_is chain_is later_is len = absurd (omega arith)
chains-round kind stamp n (e ∷ es) chain later some n_is chain_is later_is len =
    chains-cut kind stamp e es
    ∙ ap (λ k. timed_from stamp (take k (e ∷ es)) ∷ chains kind (timed_from (stamp + k) (drop k (e ∷ es)))) (sym n_is)
    ∙ (λ i. timed_from stamp (sym chain_is i) ∷ chains kind (timed_from (stamp + sym len i) (sym later_is i)))

-- the results of the first chain are pushed, and those of the rest come
pub results-round : (before after all : List EventResult) (index m : ℕ) (codes later : List ℕ) → length codes ≡ m → after ≡ before ++ results_from index codes
    → before ++ results_from index (codes ++ later) ≡ all → after ++ results_from (index + m) later ≡ all
results-round before after all index m codes later len after_is ahead =
    let first = results_from index codes in
    ap (λ items. items ++ results_from (index + m) later) after_is
    ∙ append_assoc before first (results_from (index + m) later)
    ∙ ap (λ k. before ++ (first ++ results_from (index + k) later)) (sym len)
    ∙ ap (λ rs. before ++ rs) (sym (results-append index codes later))
    ∙ ahead
