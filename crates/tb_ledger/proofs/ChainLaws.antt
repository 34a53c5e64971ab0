-- Chains: what a loop through a chain knows of the later events, and what is left of them.
use Rattle.tb_ledger.proofs.Common.{◌≡◌, ℕ, suc, ◌+◌, ◌-◌, ◌<◌, ◌≤◌, ◌==◌, ◌&&◌, Bool, true, false, List, [], ◌∷◌, ◌++◌, length, replicate, take, drop, get_or, Option, Some, None, if◌then◌else◌, refl, sym, ap, subst, ◌∙◌, length-append, arith, nat_tests, at_drop_more, at_drop_all, length-replicate, length-drop, Books, Kind, Timed, Failure, timed_from, timed, joined, chains, chain_length, code_in_chain, failure_from, all_recorded, undone_code, undone, chain_outcome, chain_after, chains_after, batch_after, results_from}
use Rattle.tb_ledger.proofs.CodeLaws.{results-one}

pub length-timed_from : {E : Type 0} (t : ℕ) (es : List E) → length (timed_from t es) ≡ length es
length-timed_from t [] = refl
length-timed_from t (e ∷ es) = ap suc (length-timed_from (t + 1) es)

module _ {E : Type 0} (kind : Kind E) where
  -- the code of an event, by whether it is the last of the chain
  pub in-chain : (B : Books) (e : E) (time : ℕ) (es : List E) (last : Bool) → last ≡ (length es == 0)
      → code_in_chain kind B (e, time) (timed_from (time + 1) es) ≡ (if last && kind.linked e then 2 else kind.verdict B e time)
  in-chain B e time [] last is = rw is refl
  in-chain B e time (x ∷ xs) last is =
      let more : (length (x ∷ xs) == 0) ≡ false = grind (arith, nat_tests) in
      rw (is, more) refl

  pub undone-one : (e : E) (time : ℕ) (es : List E) (last : Bool) → last ≡ (length es == 0)
      → undone_code kind (e, time) (timed_from (time + 1) es) ≡ (if last && kind.linked e then 2 else 1)
  undone-one e time [] last is = rw is refl
  undone-one e time (x ∷ xs) last is =
      let more : (length (x ∷ xs) == 0) ≡ false = grind (arith, nat_tests) in
      rw (is, more) refl

  -- what is undone has no times
  pub undone-timed : (t s : ℕ) (es : List E) → undone kind (timed_from t es) ≡ undone kind (timed_from s es)
  undone-timed t s [] = refl
  undone-timed t s (e ∷ []) = refl
  undone-timed t s (e ∷ (x ∷ xs)) = ap (λ codes. 1 ∷ codes) (undone-timed (t + 1) (s + 1) (x ∷ xs))

  pub length-undone : (es : List (Timed E)) → length (undone kind es) ≡ length es
  length-undone [] = refl
  length-undone (x ∷ xs) = ap suc (length-undone xs)

  same_end : (p n : ℕ) → p < n → (p + 1 == n) ≡ (n - (p + 1) == 0)
  same_end p n within = grind (arith, nat_tests)

  last-is : (chain : List E) (place : ℕ) → place < length chain → (place + 1 == length chain) ≡ (length (drop (place + 1) chain) == 0)
  last-is chain place within = rw (length-drop (place + 1) chain) (same_end place (length chain) within)

  -- one step past an event
  timed-more : (chain : List E) (place stamp : ℕ) (e : E) → place < length chain → e ≡ get_or chain place e
      → timed_from stamp (drop place chain) ≡ (e, stamp) ∷ timed_from (stamp + 1) (drop (place + 1) chain)
  timed-more chain place stamp e within here = at_drop_more (timed_from stamp) chain place e within ∙ ap (λ x. timed_from stamp (x ∷ drop (place + 1) chain)) (sym here)

  code-here : (B : Books) (chain : List E) (place stamp code : ℕ) (e : E) → place < length chain
      → code ≡ (if (place + 1 == length chain) && kind.linked e then 2 else kind.verdict B e stamp)
      → code_in_chain kind B (e, stamp) (timed_from (stamp + 1) (drop (place + 1) chain)) ≡ code
  code-here B chain place stamp code e within is = in-chain B e stamp (drop (place + 1) chain) (place + 1 == length chain) (last-is chain place within) ∙ sym is

  -- an event that isn't accepted is the failure
  pub failure-here : (B : Books) (chain : List E) (place stamp code : ℕ) (e : E) → place < length chain → e ≡ get_or chain place e
      → code ≡ (if (place + 1 == length chain) && kind.linked e then 2 else kind.verdict B e stamp) → (code == 0) ≡ false
      → failure_from kind place B (timed_from stamp (drop place chain)) ≡ Some (record { place = place; event = e; code = code; rest = timed_from (stamp + 1) (drop (place + 1) chain) })
  failure-here B chain place stamp code e within here is refused = rw (timed-more chain place stamp e within here, code-here B chain place stamp code e within is, refused) refl

  -- an accepted event is passed
  pub failure-later : (B : Books) (chain : List E) (place stamp code : ℕ) (e : E) → place < length chain → e ≡ get_or chain place e
      → code ≡ (if (place + 1 == length chain) && kind.linked e then 2 else kind.verdict B e stamp) → code ≡ 0
      → failure_from kind place B (timed_from stamp (drop place chain)) ≡ failure_from kind (place + 1) (kind.recorded B e stamp) (timed_from (stamp + 1) (drop (place + 1) chain))
  failure-later B chain place stamp code e within here is accepted = rw (timed-more chain place stamp e within here, code-here B chain place stamp code e within is, accepted) refl

  pub all-later : (B : Books) (chain : List E) (place stamp : ℕ) (e : E) → place < length chain → e ≡ get_or chain place e
      → all_recorded kind B (timed_from stamp (drop place chain)) ≡ all_recorded kind (kind.recorded B e stamp) (timed_from (stamp + 1) (drop (place + 1) chain))
  all-later B chain place stamp e within here = rw (timed-more chain place stamp e within here) refl

  undone-is : (b : Bool) → ((if b then 2 else 1) == 0) ≡ false
  undone-is true = refl
  undone-is false = refl

  pub undone-step : (rest : List E) (p i code : ℕ) (e : E) → i < length rest → e ≡ get_or rest i e → code ≡ (if (i + 1 == length rest) && kind.linked e then 2 else 1)
      → results_from (p + i) (undone kind (timed_from 0 (drop i rest))) ≡ record { index = p + i; result = code } ∷ results_from (p + (i + 1)) (undone kind (timed_from 0 (drop (i + 1) rest)))
  undone-step rest p i code e within here is =
      let last = (i + 1 == length rest) && kind.linked e in
      let next : p + i + 1 ≡ p + (i + 1) = omega arith in
      let later = undone kind (timed_from 0 (drop (i + 1) rest)) in
      let codes : undone kind (timed_from 0 (drop i rest)) ≡ code ∷ later =
      ap (undone kind) (timed-more rest i 0 e within here)
      ∙ ap (λ x. x ∷ undone kind (timed_from 1 (drop (i + 1) rest))) (undone-one e 0 (drop (i + 1) rest) (i + 1 == length rest) (last-is rest i within) ∙ sym is)
      ∙ ap (λ codes. code ∷ codes) (undone-timed 1 0 (drop (i + 1) rest)) in
      let some : (code == 0) ≡ false = subst (λ n. (n == 0) ≡ false) (sym is) (undone-is last) in
      ap (results_from (p + i)) codes ∙ results-one (p + i) code later some ∙ ap (λ k. record { index = p + i; result = code } ∷ results_from k later) next

  -- what a chain leaves, by the place where a loop through it is
  pub broken-here : (B : Books) (chain : List E) (time : ℕ) (B' : Books) (place stamp code : ℕ) (e : E)
      → failure_from kind place B' (timed_from stamp (drop place chain)) ≡ failure_from kind 0 B (timed_from time chain)
      → place < length chain → e ≡ get_or chain place e
      → code ≡ (if (place + 1 == length chain) && kind.linked e then 2 else kind.verdict B' e stamp) → (code ≡ 0 → ⊥)
      → chain_after kind B (timed_from time chain) ≡ record { books = kind.refused B e code; codes = replicate place 1 ++ code ∷ undone kind (timed_from 0 (drop (place + 1) chain)) }
  broken-here B chain time B' place stamp code e ahead within here is refused =
      let refused' : (code == 0) ≡ false = grind (arith, nat_tests) in
      let rest = timed_from (stamp + 1) (drop (place + 1) chain) in
      let f : Failure E = record { place = place; event = e; code = code; rest = rest } in
      let fails : failure_from kind 0 B (timed_from time chain) ≡ Some f = sym ahead ∙ failure-here B' chain place stamp code e within here is refused' in
      ap (chain_outcome kind B (timed_from time chain)) fails
      ∙ ap (λ codes. record { books = kind.refused B e code; codes = replicate place 1 ++ code ∷ codes }) (undone-timed (stamp + 1) 0 (drop (place + 1) chain))

  pub no_failure : (place : ℕ) (B : Books) (chain : List E) (stamp : ℕ) → length chain ≤ place → failure_from kind place B (timed_from stamp (drop place chain)) ≡ None
  no_failure place B chain stamp end = at_drop_all (λ es. failure_from kind place B (timed_from stamp es)) chain place end

  pub all_passed : (place : ℕ) (B : Books) (chain : List E) (stamp : ℕ) → length chain ≤ place → all_recorded kind B (timed_from stamp (drop place chain)) ≡ B
  all_passed place B chain stamp end = at_drop_all (λ es. all_recorded kind B (timed_from stamp es)) chain place end

  pub passed-here : (B : Books) (chain : List E) (time : ℕ) (B' : Books) (place stamp : ℕ)
      → failure_from kind place B' (timed_from stamp (drop place chain)) ≡ failure_from kind 0 B (timed_from time chain)
      → all_recorded kind B' (timed_from stamp (drop place chain)) ≡ all_recorded kind B (timed_from time chain)
      → length chain ≤ place
      → chain_after kind B (timed_from time chain) ≡ record { books = B'; codes = replicate (length chain) 0 }
  passed-here B chain time B' place stamp ahead all end =
      let passes : failure_from kind 0 B (timed_from time chain) ≡ None = sym ahead ∙ no_failure place B' chain stamp end in
      let books : all_recorded kind B (timed_from time chain) ≡ B' = sym all ∙ all_passed place B' chain stamp end in
      ap (chain_outcome kind B (timed_from time chain)) passes
      ∙ (λ i. record { books = books i; codes = replicate (length-timed_from time chain i) 0 })

  -- cutting a batch
  pub chains-cut : (t : ℕ) (e : E) (es : List E)
      → chains kind (timed_from t (e ∷ es)) ≡ timed_from t (take (chain_length kind (e ∷ es)) (e ∷ es)) ∷ chains kind (timed_from (t + chain_length kind (e ∷ es)) (drop (chain_length kind (e ∷ es)) (e ∷ es)))
  chains-cut t e [] = elim (kind.linked e) as (λ b. (if b then joined kind (e, t) [] else ((e, t) ∷ []) ∷ []) ≡ timed_from t (take (if b then 1 else 1) (e ∷ [])) ∷ chains kind (timed_from (t + (if b then 1 else 1)) (drop (if b then 1 else 1) (e ∷ [])))) [ true ↦ refl | false ↦ refl ]
  chains-cut t e (x ∷ xs) =
      let n = chain_length kind (x ∷ xs) in
      let moved : t + 1 + n ≡ t + suc n = omega arith in
      let later : chains kind (timed_from (t + 1) (x ∷ xs)) ≡ timed_from (t + 1) (take n (x ∷ xs)) ∷ chains kind (timed_from (t + suc n) (drop n (x ∷ xs))) = chains-cut (t + 1) x xs ∙ ap (λ s. timed_from (t + 1) (take n (x ∷ xs)) ∷ chains kind (timed_from s (drop n (x ∷ xs)))) moved in
      elim (kind.linked e) as (λ b. (if b then joined kind (e, t) (chains kind (timed_from (t + 1) (x ∷ xs))) else ((e, t) ∷ []) ∷ chains kind (timed_from (t + 1) (x ∷ xs)))
      ≡ timed_from t (take (if b then suc n else 1) (e ∷ (x ∷ xs))) ∷ chains kind (timed_from (t + (if b then suc n else 1)) (drop (if b then suc n else 1) (e ∷ (x ∷ xs))))) [
        | true ↦ ap (joined kind (e, t)) later
        | false ↦ refl
      ]

  -- a code for each event
  pub length-failure : (place : ℕ) (B : Books) (chain : List (Timed E)) (f : Failure E) → failure_from kind place B chain ≡ Some f → f.place + suc (length f.rest) ≡ place + length chain
  length-failure place B [] f is = absurd (cc)
  length-failure place B (x ∷ xs) f is =
      let code = code_in_chain kind B x xs in
      elim (code == 0) as (λ b. (if b then failure_from kind (place + 1) (kind.recorded B x.0 x.1) xs else Some (record { place = place; event = x.0; code = code; rest = xs })) ≡ Some f → f.place + suc (length f.rest) ≡ place + suc (length xs)) [
        | true ↦ λ later. omega (arith, length-failure (place + 1) (kind.recorded B x.0 x.1) xs f later)
        | false ↦ λ here. let e : record { place = place; event = x.0; code = code; rest = xs } ≡ f = cc in sym (ap (λ g. g.place + suc (length g.rest)) e)
      ] is

  length-outcome : (B : Books) (chain : List (Timed E)) (o : Option (Failure E)) → ((f : Failure E) → o ≡ Some f → f.place + suc (length f.rest) ≡ length chain) → length (chain_outcome kind B chain o).codes ≡ length chain
  length-outcome B chain None place = length-replicate {A = ℕ} (length chain) 0
  length-outcome B chain (Some f) place = omega (arith, place f refl, length-append (replicate f.place 1) (f.code ∷ undone kind f.rest), length-replicate {A = ℕ} f.place 1, length-undone f.rest)

  pub length-codes : (B : Books) (chain : List (Timed E)) → length (chain_after kind B chain).codes ≡ length chain
  length-codes B chain = length-outcome B chain (failure_from kind 0 B chain) (λ f is. omega (arith, length-failure 0 B chain f is))

  -- the events of all chains
  abbrev total : List (List (Timed E)) → ℕ
  total [] = 0
  total (chain ∷ rest) = length chain + total rest

  total-joined : (x : Timed E) (all : List (List (Timed E))) → total (joined kind x all) ≡ suc (total all)
  total-joined x [] = refl
  total-joined x (chain ∷ rest) = omega arith

  total-chains : (xs : List (Timed E)) → total (chains kind xs) ≡ length xs
  total-chains [] = refl
  total-chains (x ∷ xs) = elim (kind.linked x.0) as (λ b. total (if b then joined kind x (chains kind xs) else (x ∷ []) ∷ chains kind xs) ≡ suc (length xs)) [
    | true ↦ omega (arith, total-joined x (chains kind xs), total-chains xs)
    | false ↦ omega (arith, total-chains xs)
  ]

  length-chains : (B : Books) (all : List (List (Timed E))) → length (chains_after kind B all).codes ≡ total all
  length-chains B [] = refl
  length-chains B (chain ∷ rest) =
      let first = chain_after kind B chain in
      omega (arith, length-append first.codes (chains_after kind first.books rest).codes, length-codes B chain, length-chains first.books rest)

  pub length-batch : (B : Books) (events : List E) (T : ℕ) → length (batch_after kind B events T).codes ≡ length events
  length-batch B events T = omega (arith, length-chains (record B { time = T }) (chains kind (timed T events)), total-chains (timed T events), length-timed_from (T + 1 - length events) events)
