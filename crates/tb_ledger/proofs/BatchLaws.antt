-- What recording an accepted event and refusing one both keep, a batch keeps.
use Rattle.tb_ledger.proofs.Common.{◌≡◌, ℕ, ◌+◌, Bool, true, false, if◌then◌else◌, eqb, List, [], ◌∷◌, Option, Some, None, refl, arith, nat_tests, Books, Kind, Timed, Failure, timed, chains, code_in_chain, failure_from, all_recorded, chain_outcome, chain_after, chains_after, batch_after}

module _ {E : Type 0} (kind : Kind E) where
  -- an event whose code in its chain is 0 has the verdict 0
  verdict_of : (B : Books) (x : Timed E) (xs : List (Timed E)) → code_in_chain kind B x xs ≡ 0 → kind.verdict B x.0 x.1 ≡ 0
  verdict_of B x [] is = elim (kind.linked x.0) as (λ b. (if b then 2 else kind.verdict B x.0 x.1) ≡ 0 → kind.verdict B x.0 x.1 ≡ 0) [ true ↦ λ two. absurd (omega arith) | false ↦ λ zero_is. zero_is ] is
  verdict_of B x (y ∷ ys) is = is

  module _ (P : Books → Type 0)
      (recorded : (B : Books) (e : E) (time : ℕ) → P B → kind.verdict B e time ≡ 0 → P (kind.recorded B e time))
      (refused : (B : Books) (e : E) (code : ℕ) → P B → P (kind.refused B e code)) where
    all_kept : (place : ℕ) (B : Books) (chain : List (Timed E)) → P B → failure_from kind place B chain ≡ None → P (all_recorded kind B chain)
    all_kept place B [] kept none = kept
    all_kept place B (x ∷ xs) kept none = by (eqb (code_in_chain kind B x xs) 0) refl (λ B kept none. all_kept (place + 1) B xs kept none) none
      where
        by : (b : Bool) → eqb (code_in_chain kind B x xs) 0 ≡ b → ((B : Books) → P B → failure_from kind (place + 1) B xs ≡ None → P (all_recorded kind B xs)) → (if b then failure_from kind (place + 1) (kind.recorded B x.0 x.1) xs else Some (record { place = place; event = x.0; code = code_in_chain kind B x xs; rest = xs })) ≡ None → P (all_recorded kind (kind.recorded B x.0 x.1) xs)
        by true e later is = let zero_is : code_in_chain kind B x xs ≡ 0 = grind (arith, nat_tests) in later (kind.recorded B x.0 x.1) (recorded B x.0 x.1 kept (verdict_of B x xs zero_is)) is
        by false e later is = absurd (cc)

    pub chain_kept : (B : Books) (chain : List (Timed E)) → P B → P (chain_after kind B chain).books
    chain_kept B chain kept = by (failure_from kind 0 B chain) refl
      where
        by : (o : Option (Failure E)) → failure_from kind 0 B chain ≡ o → P (chain_outcome kind B chain o).books
        by None is = all_kept 0 B chain kept is
        by (Some f) is = refused B f.event f.code kept

    pub chains_kept : (B : Books) (chains : List (List (Timed E))) → P B → P (chains_after kind B chains).books
    chains_kept B [] kept = kept
    chains_kept B (chain ∷ chains) kept = chains_kept (chain_after kind B chain).books chains (chain_kept B chain kept)

    pub batch_kept : (B : Books) (events : List E) (T : ℕ) → P (record B { time = T }) → P (batch_after kind B events T).books
    batch_kept B events T kept = chains_kept (record B { time = T }) (chains kind (timed T events)) kept
