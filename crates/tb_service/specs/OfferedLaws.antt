-- Nothing in a history is invented: each request of a run was offered by one of the ports of its service.
use Rattle.std.specs.Prelude.{ℕ, ◌≡◌, ◌<◌, List, ◌++◌}
use Rattle.std.specs.List.{All, Contains}
use Rattle.tb_records.specs.Messages.{Message}
use Rattle.tb_machine.specs.declared.entries.Entry.{Entry}
use Rattle.tb_published.specs.declared.faults.TakeFault.{TakeFault}
use Rattle.tb_published.specs.Openings.{Opening}
use Rattle.tb_service.specs.declared.ends.Ended.{Ended}
use Rattle.tb_service.specs.History.{ServerState}
use Rattle.tb_service.specs.Places.{places_from, HaveOwners}
use Rattle.tb_service.specs.Finished.{IsOffered}
use Rattle.tb_service.specs.Servers.{Finishes}

-- the port that offered a request, its number below the number of ports
pub record HasOwner (count : ℕ) (offered : ℕ → List Message) (request : Message) : Type 0 where
  pub port : ℕ
  pub made : port < count
  pub offers : Contains (offered port) request

-- the history begins with `before`, and each entry after that has a request that a port offered
pub record GrowsByOffers (count : ℕ) (offered : ℕ → List Message) (before history : List Entry) : Type 0 where
  pub more : List Entry
  pub grown : history ≡ before ++ more
  pub owned : All (λ (e : Entry). HasOwner count offered e.request) more

-- What a run promises, and the places of each port's requests, imply it.
abbrev pub NoOfferInvented : {M G : Type 0} → Opening → (M → ℕ → M → Type 0) → (G → ℕ → G → Type 0) → Type 0
NoOfferInvented {M} {G} o tells passes =
    (before : ServerState M G) (taken : List Message) (owners : List ℕ) (refused : List (ℕ × TakeFault)) (history : List Entry) (count : ℕ) (offered : ℕ → List Message) (ended : Ended)
    → Finishes o tells passes before taken refused history
    → HaveOwners count taken owners
    → ((p : ℕ) → p < count → IsOffered (offered p) taken (places_from p 1 owners) ended)
    → GrowsByOffers count offered before.history history
