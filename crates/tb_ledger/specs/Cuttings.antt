-- How a batch is cut into its chains.
use Rattle.std.specs.Prelude.{◌≡◌, ◌↔◌, Bool, true, false, List, [], ◌∷◌, ◌++◌}
use Rattle.tb_records.specs.Ordered.{Each}
use Rattle.tb_ledger.specs.Batches.{Kind, Timed, chains}

-- chains one after another
abbrev pub in_turn : {X : Type 0} → List (List X) → List X
in_turn [] = []
in_turn (chain ∷ rest) = chain ++ in_turn rest

module _ {E : Type 0} (kind : Kind E) where
  -- a chain is not empty, and all its events except the last are linked
  abbrev pub IsChain : List (Timed E) → Type 0
  IsChain [] = ⊥
  IsChain (x ∷ []) = Unit {0}
  IsChain (x ∷ y ∷ ys) = (kind.linked x.0 ≡ true) × IsChain (y ∷ ys)

  -- its last event is linked
  abbrev pub ends_linked : List (Timed E) → Bool
  ends_linked [] = false
  ends_linked (x ∷ []) = kind.linked x.0
  ends_linked (x ∷ y ∷ ys) = ends_linked (y ∷ ys)

  -- the last event of each chain except the final one is not linked
  abbrev pub AreEnded : List (List (Timed E)) → Type 0
  AreEnded [] = Unit {0}
  AreEnded (chain ∷ []) = Unit {0}
  AreEnded (chain ∷ next ∷ rest) = (ends_linked chain ≡ false) × AreEnded (next ∷ rest)

  -- a cutting of the events into chains
  pub record IsCutting (events : List (Timed E)) (cutting : List (List (Timed E))) : Type 0 where
    pub whole : in_turn cutting ≡ events
    pub are_chains : Each IsChain cutting
    pub are_ended : AreEnded cutting

  -- it is the only one
  abbrev pub CutsOneWay : Type 0
  CutsOneWay = (events : List (Timed E)) (cutting : List (List (Timed E))) → IsCutting events cutting ↔ (cutting ≡ chains kind events)
