-- If each state has one next moment, a run's moments are pinned, and so is the history that results.
use Rattle.std.specs.Prelude.{ℕ, ◌≡◌, List, length}
use Rattle.tb_records.specs.Messages.{Message}
use Rattle.tb_machine.specs.declared.entries.Entry.{Entry}
use Rattle.tb_published.specs.declared.faults.TakeFault.{TakeFault}
use Rattle.tb_published.specs.Openings.{Opening}
use Rattle.tb_service.specs.History.{ServerState, StepsLead}
use Rattle.tb_service.specs.Servers.{Finishes}

-- each state can give only one number, and leaves only one state
abbrev pub IsOneWay : {S : Type 0} → (S → ℕ → S → Type 0) → Type 0
IsOneWay {S} step = (x y z : S) (k l : ℕ) → step x k y → step x l z → (k ≡ l) × (y ≡ z)

-- two lists of one length that were given from one state are the same, and end in the same state
abbrev pub OneList : {S : Type 0} → (S → ℕ → S → Type 0) → Type 0
OneList {S} step = (x y z : S) (ks ls : List ℕ) → StepsLead step x ks y → StepsLead step x ls z → length ks ≡ length ls → (ks ≡ ls) × (y ≡ z)

-- two runs from one state that took the same requests and left the same ones out end with the same history
abbrev pub OneOutcome : {M G : Type 0} → Opening → (M → ℕ → M → Type 0) → (G → ℕ → G → Type 0) → Type 0
OneOutcome {M} {G} o tells passes =
    (before : ServerState M G) (taken : List Message) (refused : List (ℕ × TakeFault)) (history other : List Entry)
    → Finishes o tells passes before taken refused history
    → Finishes o tells passes before taken refused other
    → history ≡ other
