-- What a clerk has.
use Rattle.std.specs.Prelude.{ℕ, ◌≡◌, ◌+◌, ◌≤◌, List, length, vec_len, vec_capacity}
use Rattle.tb_records.specs.Messages.{Message}
use Rattle.tb_published.specs.Openings.{Opening}
use Rattle.tb_service.specs.declared.clerk.Clerk.{Clerk}
use Rattle.tb_service.specs.History.{ServerState, ServesOn, state_with}

module _ {J W M G : Type 0} where
  abbrev pub server_state : Clerk J W M G → ServerState M G
  server_state c = state_with c.held.publisher.history c.moments c.gate

  -- only the capacity of its lists changed
  abbrev pub ChangesCapacityAlone : Clerk J W M G → Clerk J W M G → Type 0
  ChangesCapacityAlone old new = (server_state new ≡ server_state old) × (new.ports.items ≡ old.ports.items) × (new.refused.items ≡ old.refused.items)

  -- its lists have the capacity that they had
  abbrev pub KeepsCapacity : Clerk J W M G → Clerk J W M G → Type 0
  KeepsCapacity old new = (vec_capacity new.ports ≡ vec_capacity old.ports) × (vec_capacity new.refused ≡ vec_capacity old.refused)

  -- requests had their turns, at the places after those that it had
  abbrev pub ServesMore : Opening → (M → ℕ → M → Type 0) → (G → ℕ → G → Type 0) → Clerk J W M G → List Message → Clerk J W M G → Type 0
  ServesMore o tells passes old requests new =
      ServesOn o tells passes (server_state old) (length old.ports.items + 1) requests old.refused.items new.refused.items (server_state new)

  -- its lists have capacity for n more
  abbrev pub HasCapacity : ℕ → Clerk J W M G → Type 0
  HasCapacity n c = (vec_len c.ports + n ≤ vec_capacity c.ports) × (vec_len c.refused + n ≤ vec_capacity c.refused)

  -- n places of the capacity were used
  pub record UsesPlaces (n : ℕ) (old new : Clerk J W M G) : Type 0 where
    pub ports : vec_len new.ports ≡ vec_len old.ports + n
    pub refused : vec_len new.refused ≤ vec_len old.refused + n
    pub places : vec_capacity new.ports ≡ vec_capacity old.ports
    pub refusals : vec_capacity new.refused ≡ vec_capacity old.refused
