-- What a server makes of requests, one after another.
use Rattle.std.specs.Prelude.{ℕ, Bool, true, false, ◌≡◌, ◌+◌, List, [], ◌∷◌, ◌++◌, Option, Some, None}
use Rattle.tb_records.specs.Messages.{Message}
use Rattle.tb_sessions.specs.declared.classes.Class.{Class}
use Rattle.tb_sessions.specs.declared.classes.Class.TheVariants.{New}
use Rattle.tb_sessions.specs.Judged.{class_of}
use Rattle.tb_machine.specs.declared.entries.Entry.{Entry}
use Rattle.tb_machine.specs.Scripts.{Pair, has_time, accepted}
use Rattle.tb_published.specs.declared.faults.TakeFault.{TakeFault}
use Rattle.tb_published.specs.declared.faults.TakeFault.TheVariants as fault
use Rattle.tb_published.specs.Openings.{Opening, after_in}

-- the history that moments and requests make
abbrev pub accepted_in : Opening → List Entry → List Pair → List Entry
accepted_in o h pairs = accepted o.profile o.clients_max h pairs

-- one request in its turn: the moment that it was given, and the fault that left it out, if one did
pub record Turn : Type 0 where
  pub moment : ℕ
  pub request : Message
  pub fault : Option TakeFault

abbrev pub requests_at : List Turn → List Message
requests_at [] = []
requests_at (t ∷ ts) = t.request ∷ requests_at ts

abbrev pub moments_at : List Turn → List ℕ
moments_at [] = []
moments_at (t ∷ ts) = t.moment ∷ moments_at ts

-- the places of the turns, the first being n
abbrev pub places_at : ℕ → List Turn → List ℕ
places_at n [] = []
places_at n (t ∷ ts) = n ∷ places_at (n + 1) ts

-- the turns that weren't left out

abbrev pub unless : Option TakeFault → Pair → List Pair
unless None pair = pair ∷ []
unless (Some f) pair = []

abbrev pub pairs_kept : List Turn → List Pair
pairs_kept [] = []
pairs_kept (t ∷ ts) = unless t.fault (t.moment, t.request) ++ pairs_kept ts

-- those that were left out, with their places

abbrev pub at_place : ℕ → Option TakeFault → List (ℕ × TakeFault)
at_place n None = []
at_place n (Some f) = (n, f) ∷ []

abbrev pub refused_from : ℕ → List Turn → List (ℕ × TakeFault)
refused_from n [] = []
refused_from n (t ∷ ts) = at_place n t.fault ++ refused_from (n + 1) ts

-- a request that is kept has a time if it is new; only a new one is left out: either memory ran out though it has a time, or it has no time
abbrev pub Fares : Class → Bool → Option TakeFault → Type 0
Fares class timely None = class ≡ New → timely ≡ true
Fares class timely (Some fault.NoMemory) = (class ≡ New) × (timely ≡ true)
Fares class timely (Some fault.TimeExhausted) = (class ≡ New) × (timely ≡ false)
Fares class timely (Some (fault.Unpublished c)) = ⊥

-- a turn after the history h
abbrev pub FaultIsRight : Opening → List Entry → Turn → Type 0
FaultIsRight o h t = let S = after_in o h in Fares (class_of S.rows t.request) (has_time S (t.moment, t.request)) t.fault

abbrev pub turn_of : ℕ → Message → Option TakeFault → Turn
turn_of moment r fault = record { moment = moment; request = r; fault = fault }

-- a turn makes the history m of h
pub record HasTurn (o : Opening) (h : List Entry) (t : Turn) (m : List Entry) : Type 0 where
  pub lawful : FaultIsRight o h t
  pub history : accepted_in o h (unless t.fault (t.moment, t.request)) ≡ m

-- each turn after what the earlier ones made of h
abbrev pub FaultsAreRight : Opening → List Entry → List Turn → Type 0
FaultsAreRight o h [] = Unit {0}
FaultsAreRight o h (t ∷ ts) = FaultIsRight o h t × FaultsAreRight o (accepted_in o h (pairs_kept (t ∷ []))) ts

-- steps with these numbers lead from x to y
abbrev pub StepsLead : {S : Type 0} → (S → ℕ → S → Type 0) → S → List ℕ → S → Type 0
StepsLead step x [] y = x ≡ y
StepsLead {S} step x (k ∷ ks) y = (z : S) × step x k z × StepsLead step z ks y

-- what a server has: its history, where its moments come from, and its gate
pub record ServerState (M G : Type 0) : Type 0 where
  pub history : List Entry
  pub moments : M
  pub gate : G

abbrev pub state_with : {M G : Type 0} → List Entry → M → G → ServerState M G
state_with history moments gate = record { history = history; moments = moments; gate = gate }

module _ {M G : Type 0} (o : Opening) (tells : M → ℕ → M → Type 0) (passes : G → ℕ → G → Type 0) where
  -- The requests had their turns, from the place n on, and those in `refused` were left out. The new history is what the others made of the old one,
  -- each with the moment that was given for it. The gate was passed with each place.
  pub record Serves (before : ServerState M G) (n : ℕ) (requests : List Message) (refused : List (ℕ × TakeFault)) (after : ServerState M G) : Type 0 where
    pub turns : List Turn
    pub served : requests_at turns ≡ requests
    pub lawful : FaultsAreRight o before.history turns
    pub refusals : refused_from n turns ≡ refused
    pub history : accepted_in o before.history (pairs_kept turns) ≡ after.history
    pub moments : StepsLead tells before.moments (moments_at turns) after.moments
    pub gate : StepsLead passes before.gate (places_at n turns) after.gate

  -- the same, with what was left out added to a list
  pub record ServesOn (before : ServerState M G) (n : ℕ) (requests : List Message) (earlier refused : List (ℕ × TakeFault)) (after : ServerState M G) : Type 0 where
    pub more : List (ℕ × TakeFault)
    pub added : refused ≡ earlier ++ more
    pub serves : Serves before n requests more after
